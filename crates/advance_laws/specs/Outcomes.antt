-- What a call of advance comes to: barred, its number and counts of 0; not barred, what the search finds. Either way
-- the outcome has what demand 3 says of each call (`proofs/Outcomes.antt`). The idea: the search from w is fair, and a
-- barred call has no ceiling above 0. Assumes nothing.
use Rattle.std.specs.Prelude.{ℕ, ◌+◌, ◌*◌, ◌≤◌, ◌≡◌, refl, true, ◌&&◌, length, eqb, leb}
use Rattle.std.proofs.Common.{arith, leb-true, eq-eqb, ne_eqb}
use Rattle.machine.specs.declared.model.Model.{Model}
use Rattle.machine.specs.Time.{last_tick, tick}
use Rattle.machine.specs.Sound.{sound}
use Rattle.machine.specs.Advance.{turn, searched, longest_wanted, barred, barred_outcome, outcome, answer_with, advance}
use Rattle.machine.specs.declared.model.Outcome.{Outcome}
use Rattle.machine.specs.WholeList.{AllAccept, counts_of, most_rounds, most_revisions}
use Rattle.laws.specs.Bools.{and_left, and_right, cond_true, cond_false, cond_cases}
use Rattle.advance_laws.specs.Found.{Found}

-- what holds of a call that nothing bars
pub record NotBarred (m : Model) (w : ℕ) : Type 0 where
  pub is_sound : sound m ≡ true
  pub positive : 1 ≤ w
  pub at_most : w ≤ longest_wanted
  pub in_time : tick m.point + w ≤ last_tick

-- which is so where the number that bars a call is 0
pub not_barred : (m : Model) (w : ℕ) → barred m w ≡ 0 → NotBarred m w
unfolding barred
not_barred m w =
    let Shows : ℕ → Type 0 = λ n. n ≡ 0 → NotBarred m w in
    cond_cases Shows (sound m) _ _
    (λ is_sound. cond_cases Shows (leb 1 w && leb w longest_wanted) _ _
    (λ range. cond_cases Shows (leb (tick m.point + w) last_tick) _ _
    (λ in_time z.
    record {
      is_sound = is_sound;
      positive = leb-true 1 w (and_left (leb 1 w) (leb w longest_wanted) range);
      at_most = leb-true w longest_wanted (and_right (leb 1 w) (leb w longest_wanted) range);
      in_time = leb-true (tick m.point + w) last_tick in_time;
    })
    (λ other z. absurd (omega arith)))
    (λ other z. absurd (omega arith)))
    (λ other z. absurd (omega arith))

-- the outcome of a call that is barred, and of one that is not
pub outcome_barred : (m : Model) (w : ℕ) → (barred m w ≡ 0 → ⊥) → outcome m w ≡ barred_outcome (barred m w)
unfolding outcome
outcome_barred m w p = cond_false (eqb (barred m w) 0) _ _ (ne_eqb (barred m w) 0 p)

pub outcome_searched : (m : Model) (w : ℕ) → barred m w ≡ 0 → outcome m w ≡ searched m w
unfolding outcome
outcome_searched m w p = cond_true (eqb (barred m w) 0) _ _ (eq-eqb (barred m w) 0 p)

-- what demand 3 says of each call, said of the model m that it was given and of its outcome o
pub record OutcomeFacts (m : Model) (o : Outcome) : Type 0 where
  pub rounds : o.rounds ≤ most_rounds (length m.parts)
  pub revisions : o.revisions ≤ most_revisions
  pub within : o.number ≡ 0 → o.step ≤ o.ceiling
  pub accepted : o.number ≡ 0 → AllAccept m o.step
  pub longest : o.number ≡ 0 → (j : ℕ) → j ≤ o.ceiling → AllAccept m j → j ≤ o.step
  pub refused : (o.number ≡ 0 → ⊥) → (j : ℕ) → j ≤ o.ceiling → AllAccept m j → j ≡ 0

-- it holds of what the search finds ..
pub found_facts : (m : Model) (w : ℕ) (o : Outcome) → Found (turn m) (AllAccept m) (9 * length m.parts) w o →
    OutcomeFacts m o
found_facts m w o has =
    record {
      rounds = has.rounds;
      revisions = has.revisions;
      within = λ z. has.within;
      accepted = has.committed;
      longest = λ z. has.longest;
      refused = λ z j p accepted. omega (arith, has.longest j p accepted, has.step_zero z);
    }

-- .. and of a barred call
pub barred_facts : (m : Model) (k : ℕ) → (k ≡ 0 → ⊥) → OutcomeFacts m (barred_outcome k)
barred_facts m k other =
    record {
      rounds = omega arith;
      revisions = omega arith;
      within = λ z. omega arith;
      accepted = λ z. absurd (other z);
      longest = λ z j p accepted. p;
      refused = λ z j p accepted. omega arith;
    }

-- the counts of an answer are its outcome
pub advance_counts : (m : Model) (w : ℕ) → counts_of (advance m w) ≡ outcome m w
unfolding counts_of advance answer_with
advance_counts m w = refl
