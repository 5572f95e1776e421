-- `score_at` gives the definition's answer: past the stream's end no byte is read; else the byte picks the definition's
-- case, and the operand after it is read or cut. A law for each of the definition's four answers inside the stream, by
-- the byte b that was read, then the goals.
use Rattle.std.proofs.Common.{ℕ, ◌+◌, ◌≤◌, ◌<◌, ◌≡◌, false, List, length, arith}
use borrow.Author.Tests.{lt-ltb, le-ltb, le-leb, lt-leb, ne_eqb}
use Rattle.machine.specs.Answers.{Wanted, Refused}
use Rattle.machine.specs.Load.{known_command, command_width, byte_at, word_at}
use Rattle.machine.specs.Score.{score_command, score_at}
use Rattle.load_operands.specs.declared.cursor.Cursor.{Cursor}
use Rattle.load_operands.specs.Operands.{Behind, ReadAt, read_cases, cut_number, cut_scores, read_behind}
use Rattle.load_operands.proofs.score.score_at.Goals as goal
use Rattle.load_operands.proofs.score.score_at.Goals.{In-Some, in_default-b-via-then-b-lt1}
use Rattle.load_operands.proofs.score.score_at.Goals.{in_default-b-via-else-b-lt1+else-b-lt6}

-- where the byte b is read at a position, the stream goes on there
module _ (bs : List ℕ) (at b : ℕ) (behind : Cursor) (read : Behind bs at 1 behind × (b ≡ byte_at bs at)) where
  inside : at < length bs
  inside = omega (arith, read.0.whole)

  -- a byte that is no command
  unknown : known_command b ≡ false → Refused 2 at ≡ score_at bs at
  unfolding score_at score_command
  unknown h = rw (lt-ltb at (length bs) inside, ← read.1, h)

  -- a command that is not a wanted step
  out_of_place : 1 ≤ b → b < 6 → Refused 3 at ≡ score_at bs at
  unfolding score_at score_command known_command
  out_of_place low high =
      let below : b ≤ 6 = omega arith in
      let other : b ≡ 6 → ⊥ = λ e. omega arith in
      rw (lt-ltb at (length bs) inside, ← read.1, le-leb 1 b low, le-leb b 6 below, ne_eqb b 6 other)

  -- a wanted step that the stream's end cuts, which has the number of what is cut, and one that is whole
  cut : b ≡ 6 → length bs < at + 5 → Refused cut_number at ≡ score_at bs at
  unfolding score_at command_width
  cut six short = rw (lt-ltb at (length bs) inside, ← read.1, six, cut_scores bs at short)

  whole : (v : ℕ) (next : Cursor) → b ≡ 6 → ReadAt word_at bs at 1 4 v next → Wanted v next.at ≡ score_at bs at
  unfolding score_at score_command known_command command_width
  whole v next six word =
      rw (
        lt-ltb at (length bs) inside,
        ← read.1,
        six,
        le-leb (at + 5) (length bs) word.0.whole,
        word.1,
        word.0.next,
      )

-- what `byte` promises, seen from where the byte is found
byte_read : (c : In-Some) →
    Behind c.args.s.now c.args.at 1 c.in-Some.c × (c.in-Some.b ≡ byte_at c.args.s.now c.args.at)
byte_read c = read_cases c.in-Some.ensures

pub returns-in_default : goal.returns-in_default
unfolding score_at
returns-in_default c =
    let none = read_cases c.in_default.ensures in
    let past : length c.args.s.now ≤ c.args.at = omega arith in
    rw (le-ltb _ _ past)

pub returns-in_default-u32_at : goal.returns-in_default-u32_at
returns-in_default-u32_at c =
    let read = byte_read (goal.at.returns-in_default-u32_at c).In-Some in
    let behind = read.0 in
    let short = read_cases c.in_default-u32_at.ensures in
    rw c.at.ensures (cut _ _ _ _ read c.in-6.is (omega arith))

pub returns-in-Some-u32_at : goal.returns-in-Some-u32_at
returns-in-Some-u32_at c =
    let read = byte_read (goal.at.returns-in-Some-u32_at c).In-Some in
    rw c.from.ensures
    (whole _ _ _ _ read _ _ c.in-6.is
    (read_behind word_at _ _ 1 4 _ _ _ read.0 (read_cases c.in-Some-u32_at.ensures)))

pub returns-in-1-to-5 : goal.returns-in-1-to-5
returns-in-1-to-5 c =
    rw c.at-in-1-to-5.ensures
    (out_of_place _ _ _ _ (byte_read (goal.at.returns-in-1-to-5 c).In-Some) (omega arith) (omega arith))

pub returns-in_default-b : goal.returns-in_default-b
unfolding known_command
returns-in_default-b c =
    let none : known_command c.in-Some.b ≡ false =
    elim c.in_default-b.branch [
      | in_default-b-via-then-b-lt1 w ↦
          let below : c.in-Some.b < 1 = omega arith in
          simp (lt-leb 1 _ below)
      | in_default-b-via-else-b-lt1+else-b-lt6 w ↦
          let low : 1 ≤ c.in-Some.b = omega arith in
          let above : 6 < c.in-Some.b = omega arith in
          simp (le-leb 1 _ low, lt-leb _ _ above)
    ] in
    rw c.at-in_default-b.ensures (unknown _ _ _ _ (byte_read (goal.at.returns-in_default-b c).In-Some) none)
