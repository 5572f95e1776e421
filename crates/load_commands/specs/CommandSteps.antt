-- What the answer of a command means: document 01's turn of reading. Assumes nothing.
use Rattle.std.specs.Prelude.{ℕ, ◌+◌, ◌≤◌, ◌<◌, ◌≡◌, cond, List, length, leb, Option, Some, None, Result, Ok, Err}
use Rattle.std.specs.Result.{IsErrAnd}
use Rattle.std.proofs.Common.{ne_eqb, le-leb}
use Rattle.std.proofs.lemmas.Bool.{lt-leb}
use Rattle.machine.specs.Load.{Read, Reading, onward, ended, refused, unless_refused}
use Rattle.refusals.specs.declared.Refusal.{Refusal}
use Rattle.refusals.specs.Numbers.{refusal_number}
use Rattle.refusals.specs.Told.{some_number}
use Rattle.load_operands.specs.Operands.{cut_number}
use Rattle.load_commands.specs.declared.table_command.Step.{Step}
use Rattle.load_commands.specs.declared.progress.Progress.{Progress}
use Rattle.load_commands.specs.Progress.{reading_of}
use Rattle.load_commands.specs.Spanned.{last_place, row_with, span_count}

-- the rows after a command: a Span's value is in the last part's row
abbrev pub rows_after : Progress → List (List ℕ) → Option ℕ → List (List ℕ)
rows_after progress rows None = rows
rows_after progress rows (Some v) = row_with rows (last_place progress) (span_count progress) v

-- after a progress and its rows reading goes on with those after the command, or the command at this position is
-- refused
abbrev pub step_of : Progress → List (List ℕ) → ℕ → Result Step Refusal → Read
step_of progress rows at (Ok step) = onward step.next (reading_of step.progress (rows_after progress rows step.span))
step_of progress rows at (Err r) = ended (refused (refusal_number r) at)

-- a command of so many bytes, where the stream has them; else it is cut
unfoldable pub uncut : List ℕ → (at width : ℕ) → Read → Read
uncut bs at width r = cond (leb (at + width) (length bs)) r (ended (refused cut_number at))

module _ (bs : List ℕ) (at width : ℕ) where
  -- a command that the stream's end cuts is refused with its number
  pub cut_as : (y : Read) → length bs < at + width → ended (refused cut_number at) ≡ uncut bs at width y
  unfolding uncut
  cut_as y short = rw (lt-leb (at + width) (length bs) short)

  -- one that is whole is refused with document 01's number, as the refusal is passed on, and else reading goes on
  pub refused_as :
      (progress : Progress) (rows : List (List ℕ)) (r : Result Step Refusal) (e : Refusal) (m next : ℕ)
      (rd : Reading) → at + width ≤ length bs → IsErrAnd r (λ x. x ≡ e) → refusal_number e ≡ m →
      step_of progress rows at r ≡ uncut bs at width (unless_refused m at next rd)
  unfolding uncut
  refused_as progress rows (Ok step) e m next rd whole is same = absurd is
  refused_as progress rows (Err x) e m next rd whole is same =
      rw (is, ← same, le-leb (at + width) (length bs) whole, ne_eqb (refusal_number e) 0 (some_number e))

  pub onward_as :
      (m next : ℕ) (rd : Reading) → at + width ≤ length bs → 0 ≡ m →
      onward next rd ≡ uncut bs at width (unless_refused m at next rd)
  unfolding uncut
  onward_as m next rd whole none = rw (← none, le-leb (at + width) (length bs) whole)
