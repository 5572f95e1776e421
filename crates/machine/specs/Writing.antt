-- Document 02, request 4, of every call that writes into a buffer that the caller lends: its number, its length, and
-- what it leaves there. `refusal` is the number with which the call's own tests end, which come first, 0 where they
-- refuse nothing; `bytes` is what the call has to write. Assumes nothing.
use Rattle.std.specs.Prelude.{ℕ, ◌≡◌, cond, ◌&&◌, List, ◌++◌, eqb, leb, length, drop}
use Rattle.machine.specs.Answers.{Written}

-- the number of a call whose buffer is too short
abbrev pub too_short : ℕ
too_short = 25

-- "25, if the lent buffer is shorter than the bytes need", tested last
abbrev pub written_number : (refusal : ℕ) (bytes : List ℕ) (room : ℕ) → ℕ
written_number refusal bytes room = cond (eqb refusal 0) (cond (leb (length bytes) room) 0 too_short) refusal

-- "The length is returned"; with 25 "the needed length"; "any refusal but 25 .. returns length 0"
abbrev pub written_length : (refusal : ℕ) (bytes : List ℕ) → ℕ
written_length refusal bytes = cond (eqb refusal 0) (length bytes) 0

-- the bytes are written where nothing refuses the call; "what lies behind .. is kept", and where the call is refused
-- all of the buffer is: "nothing is written"
abbrev pub written_over : (refusal : ℕ) (bytes before : List ℕ) → List ℕ
written_over refusal bytes before =
    cond (eqb refusal 0 && leb (length bytes) (length before)) (bytes ++ drop (length bytes) before) before

-- what a writing call promises of its answer and of the buffer, before and after it
pub record WrittenAs (refusal : ℕ) (bytes before after : List ℕ) (w : Written) : Type 0 where
  pub answer : w ≡ record {
    number = written_number refusal bytes (length before);
    length = written_length refusal bytes;
  }
  pub buffer : after ≡ written_over refusal bytes before
