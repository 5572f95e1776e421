-- What loading, a call that writes and the score answer, by the numbers of documents 01 and 02. Assumes nothing.
use Rattle.std.specs.Prelude.{ℕ}
use Rattle.machine.specs.declared.model.Model.{Model}

-- what loading answers: its number (0: accepted), the position, and the model
pub record Loaded : Type 0 where
  pub number : ℕ
  pub position : ℕ
  pub model : Model

-- what a call that writes into a lent buffer answers: its number (0: written) and its length, which with 25 is the one
-- that the buffer needs
pub record Written : Type 0 where
  pub number : ℕ
  pub length : ℕ

-- what the score holds at a position: its end, a wanted step with the position after it, or a refusal with its number
-- and position
pub data Score : Type 0 where
  End : Score
  Wanted : ℕ → ℕ → Score
  Refused : ℕ → ℕ → Score
