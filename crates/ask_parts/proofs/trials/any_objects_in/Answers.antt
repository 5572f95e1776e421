-- `any_objects_in` is `any_objects_settled` of the trial that the words mean. The invariant: that a part objects, from
-- here on, is that some part does.
use Rattle.std.specs.Prelude.{◌≡◌, refl, false}
use Rattle.std.proofs.Common.{arith, sym, true≢false, ◌∙◌}
use Rattle.machine.specs.declared.part.Kind.TheVariants.{Detector}
use Rattle.machine.specs.Model.{part_at, trimmed}
use Rattle.words_store.specs.ModelIn.{model_in}
use Rattle.step_parts.specs.LentReading.{lent_kind}
use Rattle.ask_parts.specs.LentAsked.{PartAsked, wired_asked, any_hit, any_miss, any_end}
use Rattle.ask_parts.specs.Trials.{objects_settled, any_objects_settled, passes_trial}
use Rattle.ask_parts.specs.LentTrial.{trial_period, trial_objects}
use Rattle.ask_parts.proofs.trials.any_objects_in.Goals as goal
use Rattle.ask_parts.proofs.trials.any_objects_in.Goals.{After-part_at-p, then-eq+else-objects_of, else-eq}

-- the part asked is one of the table's
asked_of : (c : After-part_at-p) → PartAsked c.args.table.now c.args.trial.now c.loop-i.i c.part_at-p.result
asked_of c =
    let low = rw c.parts_of-i-end.ensures at c.loop-i-test.true in
    wired_asked c.args.table.now c.args.trial.now c.requires.words_there c.requires.settleable.wired c.loop-i.i low
    c.part_at-p.result
    c.part_at-p.ensures

pub loop-i-init : goal.loop-i-init
unfolding any_objects_settled
loop-i-init c = record { within = omega arith; rest = refl }

pub heard_at-x-requires : goal.heard_at-x-requires
heard_at-x-requires c = (asked_of (goal.at.heard_at-x-requires c).After-part_at-p).source

pub objects_of-requires : goal.objects_of-requires
objects_of-requires c =
    trial_period (asked_of (goal.at.objects_of-requires c).After-part_at-p) c.heard_at-x.result
    c.settled_part.result
    c.settled_part.ensures
    c.requires.settleable

pub returns-then-objects_of : goal.returns-then-objects_of
returns-then-objects_of c =
    let ts = c.args.table.now in
    let ss = c.args.trial.now in
    let ps = (trimmed (model_in ts ss)).parts in
    let h = c.args.h.0 in
    let low = rw c.parts_of-i-end.ensures at c.loop-i-test.true in
    let settles = c.settled_part in
    let asked = asked_of (goal.at.returns-then-objects_of c).After-part_at-p in
    let hit =
    trial_objects asked c.heard_at-x.result settles.result settles.ensures h c.heard_at-x.ensures ∙
    sym c.objects_of.ensures ∙ c.if-objects_of.true in
    sym (any_hit ts ss c.loop-i.i low (objects_settled h ps) hit) ∙ c.loop-i.invariant.rest

pub loop-i-preserved : goal.loop-i-preserved
loop-i-preserved c =
    let ts = c.args.table.now in
    let ss = c.args.trial.now in
    let ps = (trimmed (model_in ts ss)).parts in
    let h = c.args.h.0 in
    let i = c.loop-i.i in
    let kind = c.kind_at.result in
    let low = rw c.parts_of-i-end.ensures at c.loop-i-test.true in
    let miss : objects_settled h ps (part_at ps i) ≡ false =
    elim c.if-eq.branch [
      | then-eq+else-objects_of w ↦ trial_objects
          (wired_asked ts ss c.requires.words_there c.requires.settleable.wired i low w.part_at-p.result
          w.part_at-p.ensures)
          w.heard_at-x.result
          w.settled_part.result
          w.settled_part.ensures
          h
          w.heard_at-x.ensures ∙
          sym w.objects_of.ensures ∙ w.if-objects_of.false
      | else-eq w ↦ passes_trial h ps (part_at ps i)
          (λ detector.
          let is : kind ≡ Detector = c.kind_at.ensures ∙ sym (lent_kind ts ss i low) ∙ detector in
          true≢false (rw is at (sym c.eq.ensures ∙ w.if-eq.false)))
    ] in
    record {
      within = omega arith;
      rest = sym (any_miss ts ss i low (objects_settled h ps) miss) ∙ c.loop-i.invariant.rest;
    }

pub returns : goal.returns
returns c =
    let ts = c.args.table.now in
    let ss = c.args.trial.now in
    let loop = c.loop-i in
    let past = rw c.parts_of-i-end.ensures at c.loop-i-test.false in
    sym (any_end ts ss (objects_settled c.args.h.0 (trimmed (model_in ts ss)).parts) loop.i past) ∙ loop.invariant.rest
