-- `any_due_in` is `any_due` of the model that the words mean. The invariant: that a part is due, from here on, is that
-- some part is.
use Rattle.std.specs.Prelude.{refl}
use Rattle.std.proofs.Common.{arith, sym, ◌∙◌}
use Rattle.machine.specs.Model.{trimmed}
use Rattle.machine.specs.Advance.{any_due}
use Rattle.words_store.specs.ModelIn.{model_in}
use Rattle.step_parts.specs.WiredParts.{sound_periods}
use Rattle.ask_parts.specs.LentAsked.{PartAsked, sound_asked, any_hit, any_miss, any_end, period_here, due_here}
use Rattle.ask_parts.proofs.dues.any_due_in.Invariants.{is_due}
use Rattle.ask_parts.proofs.dues.any_due_in.Goals as goal
use Rattle.ask_parts.proofs.dues.any_due_in.Goals.{After-part_at-p}

-- the part asked is one of the table's
asked_of : (c : After-part_at-p) → PartAsked c.args.table.now c.args.state.now c.loop-i.i c.part_at-p.result
asked_of c =
    let asks = c.requires in
    let low = rw c.parts_of-i-end.ensures at c.loop-i-test.true in
    sound_asked c.args.table.now c.args.state.now asks.words_there asks.state_sound c.loop-i.i low c.part_at-p.result
    c.part_at-p.ensures

pub loop-i-init : goal.loop-i-init
unfolding any_due
loop-i-init c = record { within = omega arith; rest = refl }

pub heard_at-x-requires : goal.heard_at-x-requires
heard_at-x-requires c = (asked_of (goal.at.heard_at-x-requires c).After-part_at-p).source

pub due_of-requires : goal.due_of-requires
due_of-requires c =
    let m = trimmed (model_in c.args.table.now c.args.state.now) in
    period_here (asked_of (goal.at.due_of-requires c).After-part_at-p) (sound_periods m c.requires.state_sound)

pub returns-then-due_of : goal.returns-then-due_of
returns-then-due_of c =
    let ts = c.args.table.now in
    let ss = c.args.state.now in
    let loop = c.loop-i in
    let low = rw c.parts_of-i-end.ensures at c.loop-i-test.true in
    let asked = asked_of (goal.at.returns-then-due_of c).After-part_at-p in
    let hit =
    due_here asked c.point_of-now.result c.heard_at-x.result c.point_of-now.ensures c.heard_at-x.ensures ∙
    sym c.due_of.ensures ∙ c.if-due_of.true in
    sym (any_hit ts ss loop.i low (is_due (trimmed (model_in ts ss))) hit) ∙ loop.invariant.rest

pub loop-i-preserved : goal.loop-i-preserved
loop-i-preserved c =
    let ts = c.args.table.now in
    let ss = c.args.state.now in
    let loop = c.loop-i in
    let low = rw c.parts_of-i-end.ensures at c.loop-i-test.true in
    let asked = asked_of (goal.at.loop-i-preserved c).After-part_at-p in
    let miss =
    due_here asked c.point_of-now.result c.heard_at-x.result c.point_of-now.ensures c.heard_at-x.ensures ∙
    sym c.due_of.ensures ∙ c.if-due_of.false in
    record {
      within = omega arith;
      rest = sym (any_miss ts ss loop.i low (is_due (trimmed (model_in ts ss))) miss) ∙ loop.invariant.rest;
    }

pub returns : goal.returns
returns c =
    let ts = c.args.table.now in
    let ss = c.args.state.now in
    let loop = c.loop-i in
    let past = rw c.parts_of-i-end.ensures at c.loop-i-test.false in
    sym (any_end ts ss (is_due (trimmed (model_in ts ss))) loop.i past) ∙ loop.invariant.rest
