-- `print_batches` is safe and ends. The invariant: the buffer and the states keep their lengths, some text with what
-- is to come is what is printed, and the state that the rehearsal is in can be played; that text grows by each
-- batch's own (`one_batch_more`). It does not say that this text was written: no contract speaks of what `write_all`
-- is given, so that is read off the code. The measure is what is left of the stream, since a batch that is not the
-- last moves on.
use native.Mathlib.Omega.{arith}
use mathlib.Core.Path.{refl, ◌∙◌}
use Rattle.play_score.proofs.Commands.{one_batch_more}
use Rattle.play_score.proofs.print.print_batches.Goals as goal

pub loop-format-init : goal.loop-format-init
loop-format-init c =
    (refl, refl, refl, c.requires.printed_so_far, c.requires.playable)

pub play_batch-played-requires : goal.play_batch-played-requires
play_batch-played-requires c =
    let had = c.loop-format.invariant in
    record {
      playable = had.4;
      first_room = omega (arith, c.requires.first_room, had.0);
      second_room = omega (arith, c.requires.second_room, had.1);
    }

pub loop-format-smaller : goal.loop-format-smaller
loop-format-smaller c =
    let later =
    c.play_batch-played.ensures.batched.later c.in-Some.next c.in-Some.is
    (omega (arith, c.requires.line_room, c.loop-format.invariant.2, c.play_batch-played.ensures.same_size)) in
    omega (arith, later.0, later.1)

pub loop-format-preserved : goal.loop-format-preserved
loop-format-preserved c =
    let batch = c.play_batch-played.ensures in (
      omega arith,
      omega arith,
      batch.same_size ∙ c.loop-format.invariant.2,
      one_batch_more c.in-Some.is c.loop-format.invariant.3 batch.batched,
      batch.still_playable,
    )
