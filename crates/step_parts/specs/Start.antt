-- The start point: a model of a table before its outputs are filled, and that no delay reads the point before there.
-- Assumes nothing.
use Rattle.std.specs.Prelude.{ℕ, ◌*◌, ◌≤◌, ◌≡◌, refl, true, List, [], ◌∷◌, length, set, leb}
use Rattle.std.proofs.Common.{sym, ap, ◌∙◌, leb-true}
use Rattle.std.proofs.lemmas.List.{length-map}
use Rattle.machine.specs.declared.signal.Signal.{Signal}
use Rattle.machine.specs.declared.part.Kind.{Kind}
use Rattle.machine.specs.declared.part.Kind.TheVariants.{Constant, Gain, Adder, Square, Pulse, Delay, Integrator}
use Rattle.machine.specs.declared.part.Kind.TheVariants.{ResetIntegrator, Detector, Hold, Sampler, Drive, Clapper}
use Rattle.machine.specs.declared.part.Component.{Component}
use Rattle.machine.specs.declared.part.Part.{Part}
use Rattle.machine.specs.declared.model.Model.{Model}
use Rattle.machine.specs.Time.{last_tick, start}
use Rattle.machine.specs.Kind.{period, output_as, output}
use Rattle.machine.specs.Model.{part_at, with_parts, reading0, reading1, trimmed}
use Rattle.machine.specs.Table.{Table, component_ratio, periods_fit, part_order}
use Rattle.machine.specs.Step.{with_output, shown, filled, all_settled}
use Rattle.machine.specs.Fresh.{first_part, first_parts, fresh}
use Rattle.machine.specs.Sound.{table_fits}
use Rattle.laws.specs.Alls.{all_map, every_all, all_give}
use Rattle.sound_laws.specs.Facts.{ComponentFits, table_facts}
use Rattle.sound_laws.specs.RangesKept.{InRange}
use Rattle.sound_laws.specs.FreshSound.{first_in_range}
use Rattle.order_laws.specs.Order.{order_complete, order_length}
use Rattle.order_laws.specs.Models.{first_components}
use Rattle.step_parts.specs.Reading.{WiredBelow}
use Rattle.step_parts.specs.Trimmed.{Changed}
use Rattle.step_parts.specs.Fillable.{Fillable, InRangeUnshown, in_range_unshown}
use Rattle.step_parts.specs.WiredParts.{component_wired}

-- the model of a table before its start point is filled
unfoldable pub unfilled : Table → Model
unfilled t =
    record {
      magnitude = t.magnitude;
      count = length t.parts;
      order = part_order t.parts;
      point = start;
      parts = first_parts t;
    }

-- a model is that of a table that fits
pub record Unfilled (m : Model) : Type 0 where
  pub table : Table
  pub fits : table_fits table ≡ true
  pub is : trimmed m ≡ unfilled table

-- such a model can be filled, with itself as the model at the point before
pub unfilled_fillable : (t : Table) → table_fits t ≡ true → Fillable (unfilled t) (unfilled t)
unfolding unfilled first_parts first_part periods_fit
unfilled_fillable t fits =
    let n = length t.parts in
    let table = table_facts t fits in
    let ranges = all_map (first_part t) (ComponentFits n) InRange t.parts (first_in_range t n) table.components in
    record {
      wired =
          record {
            few = table.few;
            counted = sym (length-map t.parts (first_part t));
            sources =
                all_map (first_part t) (ComponentFits n) (λ (p : Part). WiredBelow n p.component) t.parts
                (component_wired n) table.components;
          };
      counted = sym (length-map t.parts (first_part t));
      same = refl;
      places = sym (order_length t.parts table.order);
      complete = rw (first_components t) (order_complete t.parts table.order);
      periods =
          all_map (first_part t) (λ (c : Component). c.p * component_ratio t c ≤ last_tick)
          (λ (p : Part). period p ≤ last_tick) t.parts
          (λ c small. small)
          (every_all (λ (c : Component). c.p * component_ratio t c ≤ last_tick)
          (λ (c : Component). leb (c.p * component_ratio t c) last_tick) t.parts
          (λ c small. leb-true (c.p * component_ratio t c) last_tick small) table.periods);
      before = ranges;
      ranges = all_give InRange InRangeUnshown (first_parts t) in_range_unshown ranges;
    }

-- at the start point no output reads the point before
output_at_start :
    (k : Kind) (p : Part) (x y before before' : Signal) →
    output_as k p start x y before ≡ output_as k p start x y before'
unfolding output_as
output_at_start Constant p x y before before' = refl
output_at_start Gain p x y before before' = refl
output_at_start Adder p x y before before' = refl
output_at_start Square p x y before before' = refl
output_at_start Pulse p x y before before' = refl
output_at_start Delay p x y before before' = refl
output_at_start Integrator p x y before before' = refl
output_at_start ResetIntegrator p x y before before' = refl
output_at_start Detector p x y before before' = refl
output_at_start Hold p x y before before' = refl
output_at_start Sampler p x y before before' = refl
output_at_start Drive p x y before before' = refl
output_at_start Clapper p x y before before' = refl

-- so filling it does not depend on the parts of the point before
filled_at_start : (old old' : List Part) (ks : List ℕ) (ps : List Part) →
    filled old start ks ps ≡ filled old' start ks ps
unfolding filled shown output
filled_at_start old old' [] ps = refl
filled_at_start old old' (k ∷ ks) ps =
    let p = part_at ps k in
    ap (λ (out : Signal). filled old start ks (set ps k (with_output p out)))
    (output_at_start p.component.kind p (reading0 ps p) (reading1 ps p) (reading0 old p) (reading0 old' p)) ∙
    filled_at_start old old' ks (set ps k (shown old' start ps p))

-- filled and settled, it is the fresh model of the table
pub started_is :
    (m r : Model) → Changed m (all_settled (filled (trimmed m).parts m.point (trimmed m).order (trimmed m).parts))
    r →
    (t : Table) → trimmed m ≡ unfilled t → trimmed r ≡ fresh t
unfolding trimmed fresh unfilled
started_is m r settles t e =
    settles.is ∙
    ap (λ (x : Model). with_parts x x.point (all_settled (filled x.parts x.point x.order x.parts))) e ∙
    ap (λ (ps : List Part). with_parts (unfilled t) start (all_settled ps))
    (filled_at_start (first_parts t) [] (part_order t.parts) (first_parts t))
