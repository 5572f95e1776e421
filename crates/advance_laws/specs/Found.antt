-- What the search finds where each turn is fair: the longest step within the last ceiling that is ok, in few rounds and
-- revisions, or a refusal. `proofs/Found.antt` shows that it does. Assumes nothing.
use Prim.Native.Nat.{ℕ, ◌+◌, ◌≤◌}
use Rattle.std.specs.Prelude.{◌≡◌, ◌⊎◌}
use Rattle.machine.specs.Advance.{Turn, Commit, Refuse}
use Rattle.machine.specs.declared.model.Outcome.{Outcome}

-- what holds of the outcome o of a search that was asked for w
pub record Found (turn : ℕ → Turn) (ok : ℕ → Type 0) (most w : ℕ) (o : Outcome) : Type 0 where
  -- it ends with a step committed, or with the number 21 or 22
  pub number : (o.number ≡ 0) ⊎ ((o.number ≡ 21) ⊎ (o.number ≡ 22))
  -- a committed step is ok, and was committed by the turn at it
  pub committed : o.number ≡ 0 → ok o.step
  pub ended : o.number ≡ 0 → turn o.step ≡ Commit
  -- a refusal leaves step 0, and was made by the turn at 0
  pub step_zero : (o.number ≡ 0 → ⊥) → o.step ≡ 0
  pub refused : (o.number ≡ 0 → ⊥) → turn 0 ≡ Refuse o.number
  -- the step is within the last ceiling, which is within w, and no longer step within it is ok
  pub within : o.step ≤ o.ceiling
  pub ceiling : o.ceiling ≤ w
  pub longest : (j : ℕ) → j ≤ o.ceiling → ok j → j ≤ o.step
  -- each lower h uses up some of the potential, and each of at most 30 ceilings has one round that changed nothing
  pub rounds : o.rounds ≤ most + 30
  pub revisions : o.revisions ≤ 29
