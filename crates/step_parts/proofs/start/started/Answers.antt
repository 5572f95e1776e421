-- `started` is `fresh`: the model put into words, its state copied, the outputs filled and the parts settled by the
-- contracts of their functions, and the state taken back. The words that are filled are those of the point before too,
-- which no output reads at the start point.
use Rattle.std.specs.Prelude.{◌≡◌, length}
use Rattle.std.proofs.Common.{arith, rules}
use Rattle.words_store.specs.ModelIn.{part_count}
use Rattle.words_store.specs.StoreFrame.{copied_whole}
use Rattle.words_store.specs.Spelling.{spelled_room}
use Rattle.step_parts.specs.LentFilling.{room_kept}
use Rattle.step_parts.specs.LentStart.{start_fillable, start_is, start_room, start_settleable, unfilled_few}
use Rattle.step_parts.proofs.start.started.Goals as goal
use Rattle.step_parts.proofs.start.started.Goals.{After-copy_state}

-- the copy is the whole of the words of the old state
copied : (c : After-copy_state) → c.copy_state.new.new ≡ c.put_fitting.new.state
copied c =
    let old = c.put_fitting.new.state in
    let copy = c.copy_state.new.new in
    copied_whole 290 old _ copy c.copy_state.ensures (search rules) (search rules)

pub put_fitting-requires : goal.put_fitting-requires
put_fitting-requires c =
    let few = unfilled_few c.args.m c.requires in
    record { few_parts = few; table_there = omega (arith, few); state_there = omega (arith, few) }

pub filled_into-requires : goal.filled_into-requires
filled_into-requires c =
    let ts = c.put_fitting.new.table in
    let old = c.put_fitting.new.state in
    let copy = c.copy_state.new.new in
    let put = c.put_fitting.ensures.model_put in
    let same = copied (goal.at.filled_into-requires c).After-copy_state in
    record {
      old_there = spelled_room ts old put.form;
      new_there = start_room c.args.m c.requires ts old copy put same;
      fillable = start_fillable c.args.m c.requires ts old copy put same;
    }

pub settled_into-requires : goal.settled_into-requires
settled_into-requires c =
    let ts = c.put_fitting.new.table in
    let old = c.put_fitting.new.state in
    let copy = c.copy_state.new.new in
    let filled = c.filled_into.new.new in
    let put = c.put_fitting.ensures.model_put in
    let by_fill = c.filled_into.ensures in
    let same = copied (goal.at.settled_into-requires c).After-copy_state in
    let there = start_room c.args.m c.requires ts old copy put same in
    record {
      words_there = room_kept ts copy filled (part_count ts) by_fill.behind there;
      wired = start_settleable c.args.m c.requires ts old copy put same filled by_fill.filled;
    }

pub recalled-requires : goal.recalled-requires
recalled-requires c =
    let few = unfilled_few c.args.m c.requires in
    let size : length c.settled_into.new.new ≡ 290 = search rules in
    record { few_parts = few; state_there = omega (arith, few, size) }

pub returns : goal.returns
returns c =
    let same = copied (goal.at.returns c).After-copy_state in
    start_is c.args.m c.requires c.put_fitting.new.table c.put_fitting.new.state c.copy_state.new.new
    c.put_fitting.ensures.model_put
    same
    c.filled_into.new.new
    c.filled_into.ensures.filled
    c.settled_into.new.new
    c.recalled.result
    c.settled_into.ensures.settled
    c.recalled.ensures
