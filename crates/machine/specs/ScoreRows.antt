-- Document 01, "The table's bytes", of the score: what each byte gives, "each at that command's position in the whole
-- stream". Assumes nothing.
use Rattle.std.specs.Prelude.{ℕ, ◌≡◌, List, [], ◌∷◌, map}
use Rattle.machine.specs.Answers.{Score}
use Rattle.machine.specs.Answers.{End, Wanted, Refused}
use Rattle.machine.specs.Score.{score_at}

-- two bytes that are not the score's, and then a score command with this byte and four others
abbrev pub command_at_2 : ℕ → List ℕ
command_at_2 b = 0x05 ∷ 0x05 ∷ b ∷ 0x01 ∷ 0x02 ∷ 0x03 ∷ 0x04 ∷ []

-- what the score holds there, for each of these bytes
abbrev pub scores_of : List ℕ → List Score
scores_of bs = map (λ (b : ℕ). score_at (command_at_2 b) 2) bs

-- the statement
pub record ScoreRows : Type 0 where
  -- "06h with a 4-byte wanted step", little-endian; the next command is at the position after it
  pub wanted : score_at (command_at_2 0x06) 2 ≡ Wanted 0x04030201 7
  -- "A score byte 01h to 05h gives 3 .."
  pub table_bytes :
      scores_of (0x01 ∷ 0x02 ∷ 0x03 ∷ 0x04 ∷ 0x05 ∷ []) ≡
      Refused 3 2 ∷ Refused 3 2 ∷ Refused 3 2 ∷ Refused 3 2 ∷ Refused 3 2 ∷ []
  -- ".. another 2 .."
  pub other_bytes : scores_of (0x00 ∷ 0x07 ∷ 0xFF ∷ []) ≡ Refused 2 2 ∷ Refused 2 2 ∷ Refused 2 2 ∷ []
  -- ".. a cut command 1": one byte is missing, or all operands are
  pub cut :
      (score_at (0x05 ∷ 0x05 ∷ 0x06 ∷ 0x01 ∷ 0x02 ∷ 0x03 ∷ []) 2 ≡ Refused 1 2) ×
      (score_at (0x05 ∷ 0x05 ∷ 0x06 ∷ []) 2 ≡ Refused 1 2)
  -- a table's byte is not cut: 3 comes before 1; and an unknown byte neither
  pub before_cut : (score_at (0x05 ∷ 0x02 ∷ []) 1 ≡ Refused 3 1) × (score_at (0x05 ∷ 0x00 ∷ []) 1 ≡ Refused 2 1)
  -- the score ends where the stream does
  pub ended : (score_at (0x05 ∷ []) 1 ≡ End) × (score_at [] 0 ≡ End)
