-- The outputs that a model stores after a step, and a fresh model stores: each is the row of its part's kind, for the
-- outputs that are stored, the part being as the step moved it, or as it is first. Settling changes no stored output,
-- so this holds before it and after. And neither model depends on the outputs that the parts held before theirs were
-- written into them. Assumes nothing.
use Rattle.std.specs.Prelude.{ℕ, ◌<◌, ◌≡◌, refl, true, length}
use Rattle.std.proofs.Common.{sym, ◌∙◌}
use Rattle.std.proofs.Math.Path.{ap}
use mathlib.Core.List.{List, [], map, map-map, map-id}
use Rattle.std.proofs.Math.ListN.{length-map}
use Rattle.machine.specs.declared.time.Point.{Point}
use Rattle.machine.specs.declared.signal.Signal.{Signal}
use Rattle.machine.specs.declared.part.Kind.{Kind}
use Rattle.machine.specs.declared.part.Kind.TheVariants.{Constant, Gain, Adder, Square, Pulse, Delay, Integrator}
use Rattle.machine.specs.declared.part.Kind.TheVariants.{ResetIntegrator, Detector, Hold, Sampler, Drive, Clapper}
use Rattle.machine.specs.declared.part.State.{State}
use Rattle.machine.specs.declared.part.Part.{Part}
use Rattle.machine.specs.declared.model.Model.{Model}
use Rattle.machine.specs.Time.{tick, led_to, start}
use Rattle.machine.specs.Model.{blank_part, part_at, with_parts, reading0}
use Rattle.machine.specs.Table.{Table, part_order, ordered}
use Rattle.machine.specs.Step.{moved, filled, settled_as, settled, all_moved, all_settled, step_made}
use Rattle.machine.specs.Fresh.{first_part, first_parts, fresh}
use Rattle.laws.specs.Alls.{map_kept, same_at}
use Rattle.order_laws.specs.Order.{CompleteOrder, order_complete}
use Rattle.order_laws.specs.Row.{unshown, row, stored, row_direct, components}
use Rattle.order_laws.specs.Filling.{Filling, filled_filling, filled_anyway}

-- settling changes no stored output, whatever the kind
pub settled_as_output : (k : Kind) (x : Signal) (s : State) → (settled_as k x s).output ≡ s.output
unfolding settled_as
settled_as_output Constant x s = refl
settled_as_output Gain x s = refl
settled_as_output Adder x s = refl
settled_as_output Square x s = refl
settled_as_output Pulse x s = refl
settled_as_output Delay x s = refl
settled_as_output Integrator x s = refl
settled_as_output ResetIntegrator x s = refl
settled_as_output Detector x s = refl
settled_as_output Hold x s = refl
settled_as_output Sampler x s = refl
settled_as_output Drive x s = refl
settled_as_output Clapper x s = refl

-- so settling changes no part's stored output
stored_settled : (qs : List Part) (i : ℕ) → stored (all_settled qs) i ≡ stored qs i
unfolding all_settled settled
stored_settled qs i =
    same_at (λ (p : Part). p.state.output) (all_settled qs) qs i blank_part
    (map_kept (λ (p : Part). p.state.output) (λ (p : Part). settled (reading0 qs p) p) qs
    (λ p. settled_as_output p.component.kind (reading0 qs p) p.state))

-- so where parts are filled, their stored outputs after settling are still the rows, for the outputs stored after
-- settling
settled_rows : (old : List Part) (now : Point) (ps qs : List Part) → Filling old now ps qs → (i : ℕ) → i < length ps →
    stored (all_settled qs) i ≡ row old now (all_settled qs) (part_at ps i)
settled_rows old now ps qs f i h =
    stored_settled qs i ∙ (f.rows i h ∙
    sym (row_direct old now (all_settled qs) qs (part_at ps i) (λ j feeds. stored_settled qs j)))

-- a step moves parts and keeps their components
pub moved_components : (t h : ℕ) (ps : List Part) → components (all_moved t h ps) ≡ components ps
unfolding all_moved moved
moved_components t h ps = map-map (λ (p : Part). p.component) (λ (p : Part). moved t h (reading0 ps p) p) ps

module _
    (m : Model)
    (h : ℕ)
    (full : ordered (components m.parts) ≡ true)
    (order : m.order ≡ part_order (components m.parts)) where
  -- the order is complete for the moved parts
  moved_complete : CompleteOrder (components (all_moved (tick m.point) h m.parts)) m.order
  moved_complete = rw (moved_components (tick m.point) h m.parts, order)
      (order_complete (components m.parts) full)

  -- before settling: a step fills the moved parts
  step_filling :
      Filling m.parts (led_to m.point h) (all_moved (tick m.point) h m.parts)
      (filled m.parts (led_to m.point h) m.order (all_moved (tick m.point) h m.parts))
  step_filling = filled_filling m.parts (led_to m.point h) (all_moved (tick m.point) h m.parts)
      m.order moved_complete

  -- request 6, "Each call keeps its answers, whatever outputs those records held before": the step made is that of any
  -- parts that agree with the moved ones but for their stored outputs
  pub step_anyway : (ps : List Part) → map unshown ps ≡ map unshown (all_moved (tick m.point) h m.parts) →
      with_parts m (led_to m.point h) (all_settled (filled m.parts (led_to m.point h) m.order ps)) ≡
      step_made m h
  unfolding step_made
  step_anyway ps e =
      ap (λ (qs : List Part). with_parts m (led_to m.point h) (all_settled qs))
      (filled_anyway m.parts (led_to m.point h) (all_moved (tick m.point) h m.parts) ps
      m.order moved_complete e)

  -- after settling: each stored output is the row of the moved part, its sources' outputs being those stored now, and
  -- `before` the model's
  pub step_rows : (i : ℕ) → i < length m.parts →
      stored (step_made m h).parts i ≡
      row m.parts (led_to m.point h) (step_made m h).parts (part_at (all_moved (tick m.point) h m.parts) i)
  unfolding step_made all_moved
  step_rows i l =
      settled_rows m.parts (led_to m.point h) (all_moved (tick m.point) h m.parts)
      (filled m.parts (led_to m.point h) m.order (all_moved (tick m.point) h m.parts)) step_filling i
      (simp length-map l)

-- the first parts have the table's components
pub first_components : (t : Table) → components (first_parts t) ≡ t.parts
unfolding first_parts first_part
first_components t = map-map (λ (p : Part). p.component) (first_part t) t.parts ∙ map-id t.parts

module _ (t : Table) (full : ordered t.parts ≡ true) where
  -- the order is complete for the first parts
  first_complete : CompleteOrder (components (first_parts t)) (part_order t.parts)
  first_complete = rw (first_components t) (order_complete t.parts full)

  -- before settling: the start point is filled from the first parts
  fresh_filling : Filling [] start (first_parts t) (filled [] start (part_order t.parts) (first_parts t))
  fresh_filling = filled_filling [] start (first_parts t) (part_order t.parts) first_complete

  -- the fresh model too is that of any parts that agree with the first ones but for their stored outputs
  pub fresh_anyway : (ps : List Part) → map unshown ps ≡ map unshown (first_parts t) →
      with_parts (fresh t) start (all_settled (filled [] start (part_order t.parts) ps)) ≡ fresh t
  unfolding fresh
  fresh_anyway ps e =
      ap (λ (qs : List Part). with_parts (fresh t) start (all_settled qs))
      (filled_anyway [] start (first_parts t) ps (part_order t.parts) first_complete e)

  -- after settling: each stored output is the row of the first part, its sources' outputs being those stored now; there
  -- is no point before
  pub fresh_rows : (i : ℕ) → i < length t.parts →
      stored (fresh t).parts i ≡ row [] start (fresh t).parts (part_at (first_parts t) i)
  unfolding fresh first_parts
  fresh_rows i l =
      settled_rows [] start (first_parts t) (filled [] start (part_order t.parts) (first_parts t)) fresh_filling i
      (simp length-map l)
