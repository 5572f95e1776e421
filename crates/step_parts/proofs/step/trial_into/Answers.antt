-- `trial_into` is `step_shown` over the models that the words mean: the parts moved, the point written and the outputs
-- filled, each by the contract of its function, joined by the laws of `specs/LentStep.antt`. The step is one within the
-- time, so that it never leads past it.
use Rattle.std.specs.Prelude.{◌≡◌, refl, Option, None, Some, IsSome}
use Rattle.std.proofs.Common.{sym, ◌∙◌}
use Rattle.machine.specs.declared.time.Point.{Point}
use Rattle.machine.specs.Time.{stepped}
use Rattle.words_store.specs.ModelIn.{part_count}
use Rattle.words_store.specs.StoreFrame.{behind_pointed}
use Rattle.words_store.specs.Clean.{signals_through, after_kept}
use Rattle.words_store.specs.CleanKept.{kept_pointed}
use Rattle.step_parts.specs.LentStep.{lent_behind, lent_fillable, lent_leads_to, lent_shown, lent_never_past}
use Rattle.step_parts.proofs.step.trial_into.Goals as goal

-- what is not None is Some
some_of : (o : Option Point) → (o ≡ None → ⊥) → IsSome o
some_of None none = absurd (none refl)
some_of (Some to) none = refl

-- the step leads to a point
pub unwrap-to-requires : goal.unwrap-to-requires
unwrap-to-requires c =
    let args = c.args in
    rw c.step.ensures
    (some_of
    (stepped c.point_of-from.result args.h.0)
    (lent_never_past args.table.now args.old.now c.point_of-from.result args.h.0 c.point_of-from.ensures
    c.requires.steppable.in_time
    c.requires.microstep_left))

pub filled_into-requires-clause-fillable : goal.filled_into-requires-clause-fillable
filled_into-requires-clause-fillable c =
    let args = c.args in
    lent_fillable args.table.now args.old.now c.moved_into.new.new c.put_point.new.state c.unwrap-to.result args.h.0
    c.moved_into.ensures.moved
    c.put_point.ensures
    c.requires.steppable.sounds

pub returns : goal.returns
returns c =
    let ts = c.args.table.now in
    let old = c.args.old.now in
    let new = c.args.new.now in
    let moved = c.moved_into.new.new in
    let pointed = c.put_point.new.state in
    let filled = c.filled_into.new.new in
    let n = part_count ts in
    let h = c.args.h.0 in
    let to = c.unwrap-to.result in
    let put = c.put_point.ensures in
    let by_move = c.moved_into.ensures in
    let by_fill = c.filled_into.ensures in
    let led =
    lent_leads_to ts old c.point_of-from.result h c.point_of-from.ensures c.requires.steppable.in_time
    c.requires.microstep_left
    to
    (sym c.step.ensures ∙ c.unwrap-to.ensures) in
    record {
      shown = lent_shown ts old moved pointed to h by_move.moved put filled by_fill.filled led;
      form = λ j low. by_fill.behind.form j ((behind_pointed n to moved pointed put).form j (by_move.form j low));
      behind = lent_behind n new moved pointed filled to by_move.behind put by_fill.behind;
      clean =
          after_kept n old pointed filled
          (λ j low. signals_through old moved pointed j (by_move.signals j low) (kept_pointed moved pointed to put j))
          by_fill.clean;
    }
