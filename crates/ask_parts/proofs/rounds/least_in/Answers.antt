-- `least_in` is `round` of the model that the words mean. The invariant: what is best so far is at most h, and the
-- least from here, of it, is the round. In the first round every part is asked; in a later one a part that is no drive
-- accepts h, and is passed over.
use Rattle.std.specs.Prelude.{ℕ, ◌+◌, ◌≡◌, min, refl, drop}
use Rattle.std.proofs.Common.{arith, sym, ap, ◌∙◌}
use Rattle.std.proofs.lemmas.Bool.Decides.{nat_tests}
use Rattle.machine.specs.Model.{trimmed}
use Rattle.machine.specs.Advance.{least, round}
use Rattle.words_store.specs.ModelIn.{model_in}
use Rattle.ask_parts.specs.LentAsked.{sound_asked, least_end, askable, least_from}
use Rattle.ask_parts.specs.LaterRounds.{later_passes, later_drive}
use Rattle.ask_parts.proofs.rounds.least_in.Goals as goal
use Rattle.ask_parts.proofs.rounds.least_in.Goals.{in-Drive, in_default}

pub loop-i-init : goal.loop-i-init
unfolding round
loop-i-init c = record { within = omega arith; most = omega arith; rest = refl }

pub longest_of_drive-accepted-requires : goal.longest_of_drive-accepted-requires
longest_of_drive-accepted-requires c =
    let asks = c.requires.askable in
    let low = rw c.parts_of-i-end.ensures at c.loop-i-test.true in
    askable
    (sound_asked c.args.table.now c.args.state.now asks.there asks.sounds c.loop-i.i low c.part_at.result
    c.part_at.ensures)
    c.point_of-now.result
    c.args.h.0
    asks
    c.point_of-now.ensures

pub heard_at-requires : goal.heard_at-requires
heard_at-requires c =
    let asks = c.requires.askable in
    let low = rw c.parts_of-i-end.ensures at c.loop-i-test.true in
    (sound_asked c.args.table.now c.args.state.now asks.there asks.sounds c.loop-i.i low c.part_at-p.result
    c.part_at-p.ensures).source

pub longest_of-accepted-requires : goal.longest_of-accepted-requires
longest_of-accepted-requires c =
    let asks = c.requires.askable in
    let low = rw c.parts_of-i-end.ensures at c.loop-i-test.true in
    askable
    (sound_asked c.args.table.now c.args.state.now asks.there asks.sounds c.loop-i.i low c.part_at-p.result
    c.part_at-p.ensures)
    c.point_of-now.result
    c.args.h.0
    asks
    c.point_of-now.ensures

pub loop-i-preserved : goal.loop-i-preserved
loop-i-preserved c =
    let loop = c.loop-i in
    let ts = c.args.table.now in
    let ss = c.args.state.now in
    let m = trimmed (model_in ts ss) in
    let h = c.args.h.0 in
    let best = loop.best.0 in
    let asks = c.requires.askable in
    let low = rw c.parts_of-i-end.ensures at c.loop-i-test.true in
    let now = c.point_of-now.result in
    let at = c.point_of-now.ensures in
    let kind = c.kind_at.result in
    let of = c.kind_at.ensures in
    let least_at : c.min-best.result.0 ≡ min best c.match-kind_at.accepted.0 = grind (arith, nat_tests) in
    let goes_on :
    least m h best (drop loop.i m.parts) ≡
    least m h (min best c.match-kind_at.accepted.0) (drop (loop.i + 1) m.parts) =
    elim c.match-kind_at.branch [
      | in-Drive w ↦ rw w.accepted-is
          (later_drive ts ss loop.i low kind of w.part_at.result
          (sound_asked ts ss asks.there asks.sounds loop.i low w.part_at.result w.part_at.ensures) now h best
          w.longest_of_drive-accepted.result.0 at w.in-Drive.is w.longest_of_drive-accepted.ensures)
      | in_default w ↦ rw w.accepted-is
          (least_from
          (sound_asked ts ss asks.there asks.sounds loop.i low w.part_at-p.result w.part_at-p.ensures) now
          w.heard_at.result at w.heard_at.ensures h best w.longest_of-accepted.result.0 w.longest_of-accepted.ensures)
    ] in
    record {
      within = omega arith;
      most = omega (arith, least_at, loop.invariant.most);
      rest =
          ap (λ (z : ℕ). least m h z (drop (loop.i + 1) m.parts)) least_at ∙ sym goes_on ∙ loop.invariant.rest;
    }

pub loop-i-preserved-in_default-2 : goal.loop-i-preserved-in_default-2
loop-i-preserved-in_default-2 c =
    let loop = c.loop-i in
    let low = rw c.parts_of-i-end.ensures at c.loop-i-test.true in
    record {
      within = omega arith;
      most = loop.invariant.most;
      rest =
          sym (later_passes c.args.table.now c.args.state.now loop.i low c.kind_at.result c.kind_at.ensures c.args.h.0
          loop.best.0
          loop.invariant.most
          c.in_default-2.not-Drive
          (c.requires.agreed (omega arith))) ∙
          loop.invariant.rest;
    }

pub returns : goal.returns
returns c =
    let loop = c.loop-i in
    let past = rw c.parts_of-i-end.ensures at c.loop-i-test.false in
    sym (least_end c.args.table.now c.args.state.now c.args.h.0 loop.best.0 loop.i past) ∙ loop.invariant.rest
