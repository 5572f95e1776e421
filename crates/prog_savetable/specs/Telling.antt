-- What `savetable` tells of a stream: the bytes of the table that it loads, or the line of its refusal. Assumes
-- nothing.
use Rattle.std.specs.Prelude.{ℕ, ◌≤◌, ◌≡◌, cond, not, List, eqb, length, take, Result, Ok, Err, is_err}
use Rattle.machine.specs.Load.{load}
use Rattle.machine.specs.Rehearse.{refused_at_line}
use Rattle.machine.specs.Save.{saved_bytes}

-- the text
unfoldable pub told_text : List ℕ → List ℕ
told_text bs = cond (eqb (load bs).number 0) (saved_bytes (load bs).model)
    (refused_at_line (load bs).number (load bs).position)

-- how many bytes an answer says there are
abbrev pub told_length : Result ℕ ℕ → ℕ
told_length (Ok n) = n
told_length (Err n) = n

-- the text is in front of a buffer, and whether the load was refused is told
pub record ToldOf (bs buffer : List ℕ) (r : Result ℕ ℕ) : Type 0 where
  pub refused : is_err r ≡ not (eqb (load bs).number 0)
  pub text : take (told_length r) buffer ≡ told_text bs
  pub within : told_length r ≤ length buffer
