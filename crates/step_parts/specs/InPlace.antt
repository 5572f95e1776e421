-- Parts changed one after the other in place, by a change that reads port 0, keeps every component and stored output,
-- and reads nothing that trimming cuts away: the readings in a half changed model are those in the model before. Moving
-- and settling are such changes. Assumes nothing.
use Rattle.std.specs.Prelude.{ℕ, ◌+◌, ◌≤◌, ◌<◌, ◌≡◌, set}
use Rattle.std.proofs.Common.{arith, ◌∙◌, drop_of_length-le, take_all}
use Rattle.std.proofs.Math.Path.{ap, ap₂, subst}
use mathlib.Core.List.{List, map, append-nil}
use Rattle.std.proofs.Math.ListN.{length}
use Rattle.machine.specs.declared.signal.Signal.{Signal}
use Rattle.machine.specs.declared.part.Part.{Part}
use Rattle.machine.specs.declared.model.Model.{Model}
use Rattle.machine.specs.Model.{blank_part, part_at, with_parts, reading, reading0, trimmed, trimmed_part}
use Rattle.machine.specs.Model.{trimmed_component}
use Rattle.laws.specs.Alls.{same_at}
use Rattle.laws.specs.Partway.{partway, partway_next, partway_same, partway_later, partway_kept}
use Rattle.order_laws.specs.Row.{reading_same}
use Rattle.step_parts.specs.Trimmed.{Changed, changed_count, changed_more}
use Rattle.step_parts.specs.Fillable.{Wired, changed_wired, part_in_use}

-- what such a change g, given what port 0 reads, keeps of a part
pub record InPlace (g : Signal → Part → Part) : Type 0 where
  pub component : (x : Signal) (p : Part) → (g x p).component ≡ p.component
  pub output : (x : Signal) (p : Part) → (g x p).state.output ≡ p.state.output
  pub unread : (x : Signal) (p : Part) → trimmed_part (g x p) ≡ g x (trimmed_part p)

-- a part changed by g and its reading among the parts ps
abbrev pub by_reading : (Signal → Part → Part) → List Part → Part → Part
by_reading g ps p = g (reading0 ps p) p

-- the parts of m, trimmed, of which the first i are changed
abbrev pub changed_to : (Signal → Part → Part) → Model → ℕ → List Part
changed_to g m i = partway (by_reading g (trimmed m).parts) i (trimmed m).parts

-- a turn of a loop that changes the parts of m by g, at the place i of the model `next` that it holds: what it reads,
-- and what it comes to
pub record LoopTurn (g : Signal → Part → Part) (m next : Model) (i : ℕ) : Type 0 where
  -- the model is wired as m is, and the part there reads what it reads in m
  pub wired : Wired (trimmed next)
  pub reads : reading0 (trimmed next).parts (part_at next.parts i) ≡
      reading0 (trimmed m).parts (part_at (trimmed m).parts i)
  -- so it is changed next
  pub changes :
      (x : Signal) (v : Part) → x ≡ reading0 (trimmed m).parts (part_at (trimmed m).parts i) →
      v ≡ g x (part_at next.parts i) →
      Changed m (changed_to g m (i + 1)) (with_parts next next.point (set next.parts i v))
  -- or passed over, where g keeps it
  pub passes :
      by_reading g (trimmed m).parts (part_at (trimmed m).parts i) ≡ part_at (trimmed m).parts i →
      Changed m (changed_to g m (i + 1)) next

module _
    (g : Signal → Part → Part)
    (in_place : InPlace g)
    (m : Model)
    (wired : Wired (trimmed m))
    (next : Model)
    (i : ℕ)
    (half : Changed m (changed_to g m i) next)
    (within : i < next.count) where
  -- the half changed model is wired as m is
  half_wired : Wired (trimmed next)
  half_wired =
      let ps = (trimmed m).parts in
      changed_wired m (changed_to g m i) next half
      (partway_kept (by_reading g ps) (λ (p : Part). p.component) i ps (λ p. in_place.component (reading0 ps p) p))
      wired

  -- so its next part is that of m
  next_part : trimmed_part (part_at next.parts i) ≡ part_at (trimmed m).parts i
  next_part =
      let ps = (trimmed m).parts in
      part_in_use next half_wired i within ∙ ap (λ (x : Model). part_at x.parts i) half.is ∙
      partway_later (by_reading g ps) i ps i blank_part (omega arith)

  -- and reads the same
  next_reading : reading0 (trimmed next).parts (part_at next.parts i) ≡
      reading0 (trimmed m).parts (part_at (trimmed m).parts i)
  unfolding reading0 trimmed_part trimmed_component
  next_reading =
      let ps = (trimmed m).parts in
      let s = (part_at next.parts i).component.port0 in
      ap (λ (x : Model). reading x.parts s) half.is ∙
      reading_same (changed_to g m i) ps s
      (λ k from. same_at (λ (p : Part). p.state.output) (changed_to g m i) ps k blank_part
      (partway_kept (by_reading g ps) (λ (p : Part). p.state.output) i ps
      (λ p. in_place.output (reading0 ps p) p))) ∙
      ap (λ (p : Part). reading ps p.component.port0) next_part

  pub turn : LoopTurn g m next i
  unfolding trimmed
  turn =
      let ps = (trimmed m).parts in
      let p = part_at next.parts i in
      let f = by_reading g ps in
      let counted : i < m.count = rw (changed_count m (changed_to g m i) next half) at within in
      let inside : i < length ps = rw (← wired.counted) counted in
      record {
        wired = half_wired;
        reads = next_reading;
        changes = λ x v reads changes.
            let is : trimmed_part v ≡ f (part_at ps i) =
            ap trimmed_part changes ∙ in_place.unread x p ∙ ap₂ g reads next_part in
            subst (λ (qs : List Part). Changed m qs (with_parts next next.point (set next.parts i v)))
            (ap (set (changed_to g m i) i) is ∙ partway_next f i ps blank_part inside)
            (changed_more m (changed_to g m i) next i v half within);
        passes = λ same. subst (λ (qs : List Part). Changed m qs next)
            (partway_same f i ps blank_part same inside) half;
      }

-- all elements of a list changed
partway_all : (f : Part → Part) (i : ℕ) (ps : List Part) → length ps ≤ i → partway f i ps ≡ map f ps
partway_all f i ps past = rw (drop_of_length-le ps {i = i} past, append-nil) (ap (map f) (take_all i ps past))

-- once all parts in use are changed, so are all of the trimmed model
pub all_changed :
    (g : Signal → Part → Part) (m : Model) → Wired (trimmed m) → (r : Model) (i : ℕ) → Changed m (changed_to g m i) r →
    r.count ≤ i →
    Changed m (map (by_reading g (trimmed m).parts) (trimmed m).parts) r
unfolding trimmed
all_changed g m wired r i half past =
    let ps = (trimmed m).parts in
    let counts = changed_count m (changed_to g m i) r half in
    let done : length ps ≤ i = omega (arith, wired.counted, counts) in
    subst (λ (qs : List Part). Changed m qs r) (partway_all (by_reading g ps) i ps done) half
