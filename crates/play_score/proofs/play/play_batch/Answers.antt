-- `play_batch` plays command after command. The invariant: the lines in the buffer and those from the position on are
-- all lines, told of the state that the rehearsal is in, whose words can be played; the position moved on where the
-- buffer holds a line; and the slices keep their lengths. The measure is what is left of the stream.
use native.Mathlib.Omega.{arith}
use mathlib.Core.Path.{refl, sym, ap, ◌∙◌}
use lib.ListN.{length}
use Rattle.std.specs.Prelude.{◌≡◌, Some, None}
use Rattle.play_score.specs.Held.{Held}
use Rattle.play_score.specs.Playing.{lines_left}
use Rattle.play_score.proofs.Commands.{some_same, played_on}
use Rattle.play_score.proofs.play.play_batch.Goals as goal

pub loop-format-init : goal.loop-format-init
loop-format-init c =
    let none = ap (λ (h : Held). h.used) c.clear.ensures.empty in (
      omega (arith, none),
      refl,
      refl,
      refl,
      rw none refl,
      c.requires.playable,
      omega arith,
      (λ some. absurd (omega (arith, none))),
      refl,
    )

pub play_exchanged-played-requires : goal.play_exchanged-played-requires
play_exchanged-played-requires c =
    let had = c.loop-format.invariant in
    record {
      playable = had.5;
      first_room = omega (arith, c.requires.first_room, had.2);
      second_room = omega (arith, c.requires.second_room, had.3);
      line_room = c.has_room.ensures.0 c.loop-format-test.true;
    }

pub returns-in_default : goal.returns-in_default
returns-in_default c =
    let played = c.play_exchanged-played.ensures.played in
    let had = c.loop-format.invariant in
    record {
      batched = record {
        lines = had.4 ∙ played.lines;
        room = played.room;
        later = λ next goes room. let none : None ≡ Some next = sym c.in_default.is ∙ goes in grind arith;
      };
      still_playable = played.playable;
      same_size = played.size ∙ had.1 ∙ ap (λ (h : Held). length h.bytes) c.clear.ensures.empty;
      same_buffer = c.play_exchanged-played.ensures.same_buffer ∙ had.8 ∙ c.clear.ensures.same_buffer;
    }

pub loop-format-smaller : goal.loop-format-smaller
loop-format-smaller c =
    let later = c.play_exchanged-played.ensures.played.later c.in-Some.next c.in-Some.is in
    omega (arith, later.0, later.1)

pub loop-format-preserved : goal.loop-format-preserved
loop-format-preserved c =
    let played = c.play_exchanged-played.ensures.played in
    let on = played_on c.in-Some.is c.loop-format.invariant.4 played in
    let later = played.later c.in-Some.next c.in-Some.is in
    let least = c.loop-format.invariant.6 in (
      played.room,
      played.size ∙ c.loop-format.invariant.1,
      omega arith,
      omega arith,
      on,
      played.playable,
      omega (arith, later.0, least),
      (λ some. (omega (arith, later.0, least), omega (arith, later.1, least))),
      c.play_exchanged-played.ensures.same_buffer ∙ c.loop-format.invariant.8,
    )

pub returns : goal.returns
unfolding lines_left
returns c =
    let had = c.loop-format.invariant in
    record {
      batched = record {
        lines = had.4;
        room = had.0;
        later = λ next goes room. rw (some_same goes) at (had.7 (grind (arith, c.has_room.ensures.1)));
      };
      still_playable = had.5;
      same_size = had.1 ∙ ap (λ (h : Held). length h.bytes) c.clear.ensures.empty;
      same_buffer = had.8 ∙ c.clear.ensures.same_buffer;
    }
