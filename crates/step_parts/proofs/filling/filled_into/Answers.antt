-- `filled_into` is `filled`, over the models that the words mean. The invariant: the outputs of the first i numbers of
-- the part order are filled, nothing else of the model is changed, the words after it are kept, and what was written
-- is clean. A turn reads a part and what its ports read, and writes the
-- part's output; one law of `specs/LentFilling.antt` says what it asks and what it comes to.
use Rattle.std.specs.Prelude.{◌≤◌, ◌<◌}
use Rattle.std.proofs.Common.{arith}
use Rattle.machine.specs.Step.{filled}
use Rattle.words_store.specs.ModelIn.{WordsThere, model_in, part_count}
use Rattle.words_store.specs.StoreFrame.{behind_none, behind_through}
use Rattle.words_store.specs.Shown.{behind_shown}
use Rattle.step_parts.specs.Trimmed.{none_changed}
use Rattle.step_parts.specs.LentFilling.{LentTurn, none_clean, clean_more, clean_done, lent_number}
use Rattle.step_parts.specs.LentFilling.{lent_turn, lent_filled, room_kept, table_room, state_room}
use Rattle.step_parts.proofs.filling.filled_into.Goals as goal
use Rattle.step_parts.proofs.filling.filled_into.Goals.{After-ordered_part-k, After-part_at-p}

-- the place of the turn is below the count
within : (c : After-ordered_part-k) → c.loop-i.i < part_count c.args.table.now
within c = rw c.parts_of-i-end.ensures at c.loop-i-test.true

-- the words of the new state are all there
room_of : (c : After-ordered_part-k) → WordsThere c.args.table.now c.loop-i.new
room_of c =
    let ts = c.args.table.now in
    room_kept ts c.args.new.now c.loop-i.new (part_count ts) c.loop-i.invariant.behind c.requires.new_there

-- the number read is a part's
number_of : (c : After-ordered_part-k) → c.ordered_part-k.result < part_count c.args.table.now
number_of c =
    let loop = c.loop-i in
    lent_number c.args.table.now c.args.old.now c.args.new.now loop.new c.requires.fillable loop.i
    loop.invariant.changed
    (within c)
    c.ordered_part-k.result
    c.ordered_part-k.ensures

-- what a turn asks, and what it comes to
turn_of : (c : After-part_at-p) →
    LentTurn c.args.table.now c.args.old.now c.args.new.now c.loop-i.new c.loop-i.i c.ordered_part-k.result
    c.part_at-p.result
turn_of c =
    let loop = c.loop-i in
    lent_turn c.args.table.now c.args.old.now c.args.new.now loop.new c.requires.fillable loop.i
    loop.invariant.changed
    (rw c.parts_of-i-end.ensures at c.loop-i-test.true)
    c.ordered_part-k.result
    c.part_at-p.result
    c.ordered_part-k.ensures
    c.part_at-p.ensures

pub loop-i-init : goal.loop-i-init
unfolding filled
loop-i-init c =
    let ts = c.args.table.now in
    let new = c.args.new.now in
    record {
      within = omega arith;
      changed = none_changed (model_in ts new);
      behind = behind_none (part_count ts) new;
      clean = none_clean _ _;
    }

pub part_at-p-requires : goal.part_at-p-requires
part_at-p-requires c =
    let ts = c.args.table.now in
    let number = (goal.at.part_at-p-requires c).After-ordered_part-k in
    let k = c.ordered_part-k.result in
    record {
      table_there = table_room ts c.loop-i.new (room_of number) k (number_of number);
      state_there = state_room ts c.loop-i.new (room_of number) k (number_of number);
    }

pub heard_at-x-requires : goal.heard_at-x-requires
heard_at-x-requires c =
    let at = goal.at.heard_at-x-requires c in
    state_room c.args.table.now c.loop-i.new (room_of at.After-ordered_part-k) _ (turn_of at.After-part_at-p).source0

pub heard_at-y-requires : goal.heard_at-y-requires
heard_at-y-requires c =
    let at = goal.at.heard_at-y-requires c in
    state_room c.args.table.now c.loop-i.new (room_of at.After-ordered_part-k) _ (turn_of at.After-part_at-p).source1

pub heard_at-before-requires : goal.heard_at-before-requires
heard_at-before-requires c =
    let at = goal.at.heard_at-before-requires c in
    state_room c.args.table.now c.args.old.now c.requires.old_there _ (turn_of at.After-part_at-p).source0

pub output_of-requires : goal.output_of-requires
output_of-requires c =
    let turn = turn_of (goal.at.output_of-requires c).After-part_at-p in
    record {
      part_fits = turn.ranges;
      x_value = λ direct. turn.signal0 direct c.heard_at-x.result c.heard_at-x.ensures;
      y_value = λ direct. turn.signal1 direct c.heard_at-y.result c.heard_at-y.ensures;
    }

pub put_output-requires : goal.put_output-requires
put_output-requires c =
    let at = goal.at.put_output-requires c in
    state_room c.args.table.now c.loop-i.new (room_of at.After-ordered_part-k) _ (turn_of at.After-part_at-p).number

pub loop-i-preserved : goal.loop-i-preserved
loop-i-preserved c =
    let ts = c.args.table.now in
    let new = c.args.new.now in
    let loop = c.loop-i in
    let out = c.output_of.result in
    let k = c.ordered_part-k.result in
    let at = goal.at.loop-i-preserved c in
    let turn = turn_of at.After-part_at-p in
    let below = within at.After-ordered_part-k in
    let n = part_count ts in
    let then = c.put_output.new.state in
    record {
      within = omega (arith, below);
      changed =
          turn.fills c.point_of-now.result c.heard_at-x.result c.heard_at-y.result c.heard_at-before.result out then
          c.point_of-now.ensures
          c.heard_at-x.ensures
          c.heard_at-y.ensures
          c.heard_at-before.ensures
          c.output_of.ensures
          c.put_output.ensures;
      behind = behind_through n new loop.new then loop.invariant.behind
          (behind_shown n k out loop.new then c.put_output.ensures turn.number);
      clean =
          clean_more ts new loop.new then loop.i k out loop.invariant.clean c.ordered_part-k.ensures
          c.put_output.ensures;
    }

pub returns : goal.returns
returns c =
    let loop = c.loop-i in
    let ts = c.args.table.now in
    let old = c.args.old.now in
    let new = c.args.new.now in
    let fit = c.requires.fillable in
    let past : part_count ts ≤ loop.i = rw c.parts_of-i-end.ensures at c.loop-i-test.false in
    record {
      filled = lent_filled ts old new loop.new fit loop.i loop.invariant.changed past;
      behind = loop.invariant.behind;
      clean = clean_done ts old new loop.new fit loop.i loop.invariant.clean past;
    }
