-- What the search finds for a call that is not barred, and that the outcome of every call has what demand 3 says. The
-- idea: the search from w is fair, and a barred call has no ceiling above 0.
use Rattle.std.specs.Prelude.{ℕ, ◌*◌, ◌≡◌, length}
use Rattle.std.proofs.Math.Decide.{ℕ_discrete}
use Rattle.machine.specs.declared.model.Model.{Model}
use Rattle.machine.specs.Advance.{turn, searched, barred, outcome}
use Rattle.machine.specs.WholeList.{AllAccept}
use Rattle.advance_laws.specs.Found.{Found}
use Rattle.advance_laws.proofs.Found.{found}
use Rattle.advance_laws.specs.SearchTurns.{RoundOwes, turn_fair}
use Rattle.advance_laws.specs.Outcomes.{OutcomeFacts, found_facts, barred_facts, not_barred, outcome_barred}
use Rattle.advance_laws.specs.Outcomes.{outcome_searched}

-- what the search finds for a call that is not barred
pub outcome_found : {m : Model} {potential : ℕ → ℕ} → RoundOwes m potential → (w : ℕ) → barred m w ≡ 0 →
    Found (turn m) (AllAccept m) (9 * length m.parts) w (outcome m w)
unfolding searched
outcome_found {m} owes w e = rw (outcome_searched m w e) (found (turn_fair owes) w (not_barred m w e).at_most)

-- the outcome of every call has what demand 3 says, if a round owes what it should wherever a call is not barred
pub outcome_facts : (m : Model) (potential : ℕ → ℕ) (w : ℕ) → (barred m w ≡ 0 → RoundOwes m potential) →
    OutcomeFacts m (outcome m w)
outcome_facts m potential w owes = facts (ℕ_discrete (barred m w) 0)
  where
    facts : Dec (barred m w ≡ 0) → OutcomeFacts m (outcome m w)
    facts (yes e) = found_facts m w (outcome m w) (outcome_found (owes e) w e)
    facts (no other) = rw (outcome_barred m w other) (barred_facts m (barred m w) other)
