-- What advancing answers to a sound model stays in document 01's ranges: the number, step and counts, by what bars the
-- call or by what the search finds; the model's point and outputs, by its being sound again, since a committed step
-- stays within the time. Assumes nothing.
use Rattle.std.specs.Prelude.{ℕ, ◌+◌, ◌≤◌, ◌<◌, ◌≡◌, true, ◌&&◌, length, eqb, leb}
use Rattle.std.proofs.Common.{arith, ap, ⊎_elim, eqb-true}
use Rattle.std.proofs.Math.Decide.{ℕ_discrete}
use Rattle.machine.specs.declared.model.Model.{Model}
use Rattle.machine.specs.declared.model.Answer.{Answer}
use Rattle.machine.specs.Time.{tick, last_tick, last_microstep}
use Rattle.machine.specs.Signal.{is_signal}
use Rattle.machine.specs.Model.{part_at, trimmed, trimmed_answer}
use Rattle.machine.specs.Step.{step_made}
use Rattle.machine.specs.Sound.{sound}
use Rattle.machine.specs.Advance.{Commit, longest_wanted, barred, outcome, answer_with, advance}
use Rattle.machine.specs.declared.model.Outcome.{Outcome}
use Rattle.machine.specs.Calls.{Advanced}
use Rattle.machine.specs.WholeList.{most_rounds, most_revisions}
use Rattle.laws.specs.Bools.{cond_cases}
use Rattle.sound_laws.specs.SoundParts.{sound_time, sound_output}
use Rattle.sound_laws.specs.Stepped.{step_sound}
use Rattle.advance_laws.specs.SearchTurns.{turn_told}
use Rattle.advance_laws.specs.Outcomes.{not_barred, outcome_barred}
use Rattle.advance_laws.proofs.Outcomes.{outcome_found}
use Rattle.advance_lists.specs.RoundsOwed.{round_owes, every_outcome}

-- the bounds of an answer to a model of so many parts: its number and counts, and its model's point and outputs
pub record AnswerBounds (parts : ℕ) (r : Answer) : Type 0 where
  pub number : r.number ≤ 24
  pub step : r.step ≤ longest_wanted
  pub rounds : r.rounds ≤ most_rounds parts
  pub revisions : r.revisions ≤ most_revisions
  pub ceiling : r.ceiling ≤ longest_wanted
  pub ticks : tick r.model.point ≤ last_tick
  pub microstep : r.model.point.n ≤ last_microstep
  pub outputs : (i : ℕ) → i < length r.model.parts → is_signal (part_at r.model.parts i).state.output ≡ true

-- the bounds of an outcome, from the model m; a committed step leads to a point of the time
record OutcomeBounds (m : Model) (o : Outcome) : Type 0 where
  number : o.number ≤ 24
  step : o.step ≤ longest_wanted
  ceiling : o.ceiling ≤ longest_wanted
  ticks : o.number ≡ 0 → tick m.point + o.step ≤ last_tick
  microstep : o.number ≡ 0 → o.step ≡ 0 → m.point.n < last_microstep

-- what bars a call is at most 24
barred_few : (m : Model) (w : ℕ) → barred m w ≤ 24
unfolding barred
barred_few m w =
    let Few : ℕ → Type 0 = λ n. n ≤ 24 in
    cond_cases Few (sound m) _ _
    (λ e. cond_cases Few (leb 1 w && leb w longest_wanted) _ _
    (λ e. cond_cases Few (leb (tick m.point + w) last_tick) 0 23 (λ e. omega arith) (λ e. omega arith))
    (λ e. omega arith))
    (λ e. omega arith)

-- every outcome has these bounds: a call that is barred, and one that is not
outcome_bounds : (m : Model) (w : ℕ) → OutcomeBounds m (outcome m w)
outcome_bounds m w = bounds (ℕ_discrete (barred m w) 0)
  where
    below : m.point.n ≤ last_microstep → (m.point.n ≡ last_microstep → ⊥) → m.point.n < last_microstep
    below le other = omega arith

    bounds : Dec (barred m w ≡ 0) → OutcomeBounds m (outcome m w)
    bounds (yes e) =
        let unbarred = not_barred m w e in
        let found = outcome_found (round_owes m unbarred.is_sound) w e in
        record {
          number = ⊎_elim (λ z. omega arith) (⊎_elim (λ z. omega arith) (λ z. omega arith)) found.number;
          step = omega (arith, found.within, found.ceiling);
          ceiling = omega (arith, found.ceiling);
          ticks = λ z. omega (arith, found.within, found.ceiling);
          microstep =
              λ z zero_step.
              below (sound_time m unbarred.is_sound).1
              ((turn_told m (outcome m w).step Commit (found.ended z)).2 zero_step).1;
        }
    bounds (no other) =
        rw (outcome_barred m w other)
        (record {
          number = barred_few m w;
          step = omega arith;
          ceiling = omega arith;
          ticks = λ z. absurd (other z);
          microstep = λ z. absurd (other z);
        })

-- the answer's model is sound again
pub answer_sound : (m : Model) (w : ℕ) → sound m ≡ true → sound (advance m w).model ≡ true
unfolding advance answer_with
answer_sound m w s =
    let o = outcome m w in
    let bounds = outcome_bounds m w in
    cond_cases (λ (z : Model). sound z ≡ true) (eqb o.number 0) (step_made m o.step) m
    (λ e. let z = eqb-true o.number 0 e in step_sound m o.step s (bounds.ticks z) (bounds.microstep z))
    (λ e. s)

-- so is that of a call that keeps what `advance` promises
pub call_sound : (m : Model) (w : ℕ) (r : Answer) → Advanced m w r → sound (trimmed m) ≡ true →
    sound (trimmed r.model) ≡ true
unfolding trimmed_answer
call_sound m w r a s = rw (ap (λ (z : Answer). z.model) a.machine) (answer_sound (trimmed m) w s)

-- what advancing answers to a sound model has these bounds
pub answer_bounds : (m : Model) (w : ℕ) → sound m ≡ true → AnswerBounds (length m.parts) (advance m w)
unfolding advance answer_with
answer_bounds m w s =
    let bounds = outcome_bounds m w in
    let facts = every_outcome m w in
    let again = answer_sound m w s in
    record {
      number = bounds.number;
      step = bounds.step;
      rounds = facts.rounds;
      revisions = facts.revisions;
      ceiling = bounds.ceiling;
      ticks = (sound_time (advance m w).model again).0;
      microstep = (sound_time (advance m w).model again).1;
      outputs = sound_output (advance m w).model again;
    }
