-- `settled_into` is `all_settled`, in the words of the new state. The invariant: of the parts the first i are settled,
-- each by its reading in the words at the start, and nothing else of the model, nor a word after it, is changed.
use Rattle.std.specs.Prelude.{◌≤◌}
use Rattle.std.proofs.Common.{sym, ◌∙◌}
use Rattle.words_store.specs.ModelIn.{part_count}
use Rattle.step_parts.specs.LentReading.{source_room}
use Rattle.step_parts.specs.LentFilling.{room_kept}
use Rattle.step_parts.specs.LentMoving.{none_settled, settled_passes, settled_more, settled_done}
use Rattle.step_parts.proofs.settling.settled_into.Goals as goal
use Rattle.step_parts.proofs.settling.settled_into.Goals.{then-settles, else-settles}

pub loop-i-init : goal.loop-i-init
loop-i-init c = none_settled _ _

pub heard_at-x-requires : goal.heard_at-x-requires
heard_at-x-requires c =
    let ts = c.args.table.now in
    let new = c.args.new.now in
    let loop = c.loop-i in
    let low = rw c.parts_of-i-end.ensures at c.loop-i-test.true in
    source_room ts new c.requires.wired loop.i low loop.new c.part_at-p.result c.part_at-p.ensures
    (room_kept ts new loop.new (part_count ts) loop.invariant.behind c.requires.words_there)

pub loop-i-preserved : goal.loop-i-preserved
loop-i-preserved c =
    let ts = c.args.table.now in
    let new = c.args.new.now in
    let loop = c.loop-i in
    let low = rw c.parts_of-i-end.ensures at c.loop-i-test.true in
    elim c.if-settles.branch [
      | then-settles w ↦ rw w.new-is
          (settled_more ts new c.requires.wired loop.i loop.new loop.invariant low w.part_at-p.result
          w.part_at-p.ensures
          w.heard_at-x.result
          w.settled_part.result
          w.put_state.new.state
          w.heard_at-x.ensures
          w.settled_part.ensures
          w.put_state.ensures)
      | else-settles w ↦ rw w.new-is
          (settled_passes ts new c.requires.wired loop.i loop.new loop.invariant low c.kind_at.result c.kind_at.ensures
          (sym c.settles.ensures ∙ w.if-settles.false))
    ]

pub returns : goal.returns
returns c =
    let ts = c.args.table.now in
    let loop = c.loop-i in
    let past : part_count ts ≤ loop.i = rw c.parts_of-i-end.ensures at c.loop-i-test.false in
    record {
      settled = settled_done ts c.args.new.now c.requires.wired loop.i loop.new loop.invariant past;
      behind = loop.invariant.behind;
      signals = loop.invariant.signals;
    }
