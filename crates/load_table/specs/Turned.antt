-- What the answer of a turn means: document 01's turn of reading. Assumes nothing.
use Rattle.std.specs.Prelude.{ℕ, ◌<◌, ◌≡◌, true, List, length, IsSome, Option, Some, None, Result, Ok, Err}
use Rattle.machine.specs.Load.{Read, onward, ended, refused, end_byte, span_byte, byte_at, read_turn}
use Rattle.refusals.specs.declared.Refusal.{Refusal}
use Rattle.refusals.specs.declared.RefusedAt.{RefusedAt}
use Rattle.refusals.specs.Numbers.{refusal_number}
use Rattle.load_commands.specs.declared.progress.Progress.{Progress}
use Rattle.load_commands.specs.declared.table_command.Step.{Step}
use Rattle.load_commands.specs.Progress.{reading_of}
use Rattle.load_commands.specs.CommandSteps.{rows_after}
use Rattle.load_table.specs.Concluded.{EndHere, end_loaded}
use Rattle.load_table.specs.Turning.{Room}

-- reading goes on after a step; where there is none the turn is End's; or it is refused at its own position
abbrev pub turn_of : ℕ → Progress → List (List ℕ) → Result (Option Step) Refusal → Read
turn_of at progress rows (Ok (Some step)) =
    onward step.next (reading_of step.progress (rows_after progress rows step.span))
turn_of at progress rows (Ok None) = ended (end_loaded at (reading_of progress rows).table)
turn_of at progress rows (Err r) = ended (refused (refusal_number r) at)

-- or at the position that the refusal has
abbrev pub turned_of : ℕ → Progress → List (List ℕ) → Result (Option Step) RefusedAt → Read
turned_of at progress rows (Ok step) = turn_of at progress rows (Ok step)
turned_of at progress rows (Err r) = ended (refused (refusal_number r.refusal) r.position)

-- the step of a command with byte b: only a Span has a span, and then its place is left
pub record StepLeft (progress : Progress) (b : ℕ) (step : Step) : Type 0 where
  pub other : b ≡ end_byte → ⊥
  pub span : (b ≡ span_byte → ⊥) → step.span ≡ None
  pub room : IsSome step.span → Room progress

-- what a turn leaves: such a step; none at End alone, which then is in place, and is not refused
abbrev pub TurnLeft : Progress → ℕ → Result (Option Step) Refusal → Type 0
TurnLeft progress b (Ok (Some step)) = StepLeft progress b step
TurnLeft progress b (Ok None) = (b ≡ end_byte) × (progress.begun ≡ true)
TurnLeft progress b (Err r) = b ≡ end_byte → progress.begun ≡ true → ⊥

-- the same of a turn at a position of the stream
abbrev pub TurnedLeft : List ℕ → ℕ → Progress → List (List ℕ) → Result (Option Step) RefusedAt → Type 0
TurnedLeft bs at progress rows (Ok (Some step)) = (at < length bs) × StepLeft progress (byte_at bs at) step
TurnedLeft bs at progress rows (Ok None) = EndHere bs at (reading_of progress rows)
TurnedLeft bs at progress rows (Err r) = EndHere bs at (reading_of progress rows) → ⊥

-- the answer of a turn
pub record Turned (bs : List ℕ) (at : ℕ) (progress : Progress) (rows : List (List ℕ))
    (r : Result (Option Step) RefusedAt) : Type 0 where
  pub is : read_turn bs at (reading_of progress rows) ≡ turned_of at progress rows r
  pub left : TurnedLeft bs at progress rows r
