-- What one turn owes for the search to find the longest step, in few rounds: over any `turn`, the steps that are `ok`,
-- and a `potential` of at most `most` that every lower h uses up. Assumes nothing.
use Rattle.std.specs.Prelude.{ℕ, ◌≤◌, ◌<◌, ◌≡◌, ◌⊎◌}
use Rattle.machine.specs.Advance.{Turn, Lower, Halve, Commit, Refuse}
use Rattle.advance_laws.specs.SearchFuel.{Falls}

-- such a turn is fair
pub record Fair (turn : ℕ → Turn) (ok : ℕ → Type 0) (potential : ℕ → ℕ) (most : ℕ) : Type 0 where
  -- a lower h is lower, loses no step that is ok, and uses up some of the potential
  pub lower : (h l : ℕ) → turn h ≡ Lower l → l < h
  pub keeps : (h l : ℕ) → turn h ≡ Lower l → (j : ℕ) → j ≤ h → ok j → j ≤ l
  pub drops : (h l : ℕ) → turn h ≡ Lower l → potential l < potential h
  -- an objection needs an h above a P of at least 1
  pub halve : (h : ℕ) → turn h ≡ Halve → 2 ≤ h
  -- only a step that is ok is committed
  pub commit : (h : ℕ) → turn h ≡ Commit → ok h
  -- a refusal comes at 0 alone, and has the number 21 or 22
  pub refuse : (h k : ℕ) → turn h ≡ Refuse k → (h ≡ 0) × ((k ≡ 21) ⊎ (k ≡ 22))
  -- the potential is bounded, and no smaller at a larger h
  pub bound : (h : ℕ) → potential h ≤ most
  pub mono : (j h : ℕ) → j ≤ h → potential j ≤ potential h

-- such turns fall
pub fair_falls : {turn : ℕ → Turn} {ok : ℕ → Type 0} {potential : ℕ → ℕ} {most : ℕ} → Fair turn ok potential most →
    Falls turn
fair_falls fair = record { lower = fair.lower; halve = fair.halve }
