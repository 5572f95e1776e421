-- `moved_into` is `all_moved`, of the old words. The invariant: in the new words are the point and the states of the
-- old words, those of the first i parts moved, each by its reading in the old words, and no word after the model is
-- changed.
use Rattle.std.specs.Prelude.{◌≡◌, ◌≤◌, ◌<◌}
use Rattle.std.proofs.Common.{arith}
use Rattle.std.proofs.lemmas.Int.{to_z-of_z}
use Rattle.std.specs.Int.{w64}
use Rattle.machine.specs.Model.{reading0, trimmed}
use Rattle.words_store.specs.ModelIn.{part_count, state_words, model_in}
use Rattle.words_store.specs.Updated.{Copied}
use Rattle.words_store.specs.StoreFrame.{behind_copied, behind_through}
use Rattle.step_parts.specs.WiredParts.{sound_wired}
use Rattle.step_parts.specs.Moving.{movable_reading}
use Rattle.step_parts.specs.LentReading.{source_room, lent_reading}
use Rattle.step_parts.specs.LentMoving.{none_moved, lent_tick, lent_movable, moved_more, moved_done}
use Rattle.step_parts.proofs.moving.moved_into.Goals as goal
use Rattle.step_parts.proofs.moving.moved_into.Goals.{After-point_of, After-heard_at-x}

-- all of the state's words were copied
copied : (c : After-point_of) →
    Copied (state_words (part_count c.args.table.now)) c.args.old.now c.args.new.now c.copy_state.new.new
copied c = rw c.parts_of-count.ensures at c.copy_state.ensures

-- the part's number is below the count of the table
within : (c : After-heard_at-x) → c.loop-i.i < part_count c.args.table.now
within c = rw c.parts_of-count.ensures at c.loop-i-test.true

-- what the part is heard to read is its reading in the old words
reads : (c : After-heard_at-x) →
    let old = trimmed (model_in c.args.table.now c.args.old.now) in
    c.heard_at-x.result ≡ reading0 old.parts c.part_at-p.result
reads c =
    let ts = c.args.table.now in
    let ss = c.args.old.now in
    lent_reading ts ss (sound_wired (trimmed (model_in ts ss)) c.requires.sounds) c.loop-i.i (within c)
    c.part_at-p.result
    c.heard_at-x.result
    c.part_at-p.ensures
    c.heard_at-x.ensures

pub loop-i-init : goal.loop-i-init
loop-i-init c =
    let args = c.args in
    none_moved args.table.now args.old.now _ _ args.new.now c.copy_state.new.new
    (copied (goal.at.loop-i-init c).After-point_of)
    c.requires.spelled

pub heard_at-x-requires : goal.heard_at-x-requires
heard_at-x-requires c =
    let ts = c.args.table.now in
    let ss = c.args.old.now in
    let low = rw c.parts_of-count.ensures at c.loop-i-test.true in
    source_room ts ss (sound_wired (trimmed (model_in ts ss)) c.requires.sounds) c.loop-i.i low ss c.part_at-p.result
    c.part_at-p.ensures
    c.requires.old_there

pub moved_part-requires : goal.moved_part-requires
moved_part-requires c =
    let ts = c.args.table.now in
    let ss = c.args.old.now in
    let hears = (goal.at.moved_part-requires c).After-heard_at-x in
    let t = c.point_of.result.t.0 in
    let asks = c.requires in
    let can =
    lent_movable ts ss c.loop-i.i (within hears) c.part_at-p.result c.part_at-p.ensures asks.sounds t c.args.h.0
    (lent_tick ts ss c.point_of.result c.point_of.ensures)
    asks.short
    asks.in_time in
    let signal = movable_reading (trimmed (model_in ts ss)) asks.sounds c.part_at-p.result in
    record {
      part_fits = can.ranges;
      step_fits = can.fits;
      gain_bound = can.gain;
      x_value = rw (reads hears) signal;
    }

pub loop-i-preserved : goal.loop-i-preserved
loop-i-preserved c =
    let ts = c.args.table.now in
    let ss = c.args.old.now in
    let hears = (goal.at.loop-i-preserved c).After-heard_at-x in
    let moved = c.moved_part.result in
    let state = moved.state in
    moved_more ts ss c.loop-i.i (within hears) c.part_at-p.result c.part_at-p.ensures c.point_of.result.t.0
    c.args.h.0
    c.copy_state.new.new
    c.loop-i.new
    c.put_numbers.new.state
    c.heard_at-x.result
    moved
    c.loop-i.invariant
    (reads hears)
    c.moved_part.ensures
    (rw (
      to_z-of_z w64 state.held (record { sfits = omega arith }),
      to_z-of_z w64 state.speed (record { sfits = omega arith }),
    ) at c.put_numbers.ensures)

pub returns : goal.returns
returns c =
    let ts = c.args.table.now in
    let old = c.args.old.now in
    let new = c.args.new.now in
    let copy = c.copy_state.new.new in
    let n = part_count ts in
    let loop = c.loop-i in
    let past : n ≤ loop.i = rw c.parts_of-count.ensures at c.loop-i-test.false in
    let point = (goal.at.returns c).After-point_of in
    let ticks = lent_tick ts old c.point_of.result c.point_of.ensures in
    record {
      moved =
          moved_done ts old c.point_of.result.t.0 c.args.h.0 copy loop.i loop.new loop.invariant past ticks;
      form = loop.invariant.form;
      behind = behind_through n new copy loop.new (behind_copied n old new copy (copied point) c.requires.spelled)
          loop.invariant.behind;
      signals = loop.invariant.signals;
    }
