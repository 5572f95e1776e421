-- What bars a call of advance, by whether the model is sound, the tick where it is, and the wanted step; and what
-- `advance` promises of an answer that is barred. Assumes nothing.
use Rattle.std.specs.Prelude.{ℕ, ◌+◌, ◌≡◌, refl, Bool, true, cond, ◌&&◌, leb}
use Rattle.std.proofs.Common.{arith, sym, ap, ◌∙◌, leb-true, ne_eqb}
use Rattle.std.proofs.Math.Bool.{and-true}
use Rattle.machine.specs.declared.time.Point.{Point}
use Rattle.machine.specs.declared.model.Model.{Model}
use Rattle.machine.specs.Time.{in_time, last_tick, led_to, tick}
use Rattle.machine.specs.Model.{trimmed, trimmed_answer}
use Rattle.machine.specs.Sound.{sound}
use Rattle.machine.specs.Advance.{longest_wanted, barred, barred_outcome, answer_with, advance}
use Rattle.machine.specs.Calls.{Advanced}
use Rattle.advance_laws.specs.Outcomes.{outcome_barred}
use Rattle.advance_call.specs.Searching.{answer_of, answer_refused}

-- the number, by the three things that it depends on
unfoldable pub barred_by : Bool → ℕ → ℕ → ℕ
barred_by is_sound t w = cond is_sound (cond (leb 1 w && leb w longest_wanted) (cond (leb (t + w) last_tick) 0 23) 20)
    24

-- a step other than 0 leads to a point of the time where t + w is at most the last tick
pub led_in_time : (p : Point) (w : ℕ) → leb 1 w ≡ true → in_time (led_to p w) ≡ leb (tick p + w) last_tick
unfolding in_time led_to
led_in_time p w e =
    let one = leb-true 1 w e in simp (ne_eqb w 0 (λ z. omega arith), and-true (leb (tick p + w) last_tick))

-- it is the machine's
pub barred_trimmed : (m : Model) (w k : ℕ) (is_sound : Bool) → is_sound ≡ sound (trimmed m) →
    k ≡ barred_by is_sound (tick m.point) w →
    k ≡ barred (trimmed m) w
unfolding barred barred_by trimmed
barred_trimmed m w k is_sound s e = e ∙ ap (λ (b : Bool). barred_by b (tick m.point) w) s

-- the answer to a call that is barred: the model handed in, the number, and counts of 0
pub barred_answer : (m : Model) (w k : ℕ) → k ≡ barred (trimmed m) w → (k ≡ 0 → ⊥) →
    Advanced m w (answer_of m k 0 0 0 0)
unfolding advance trimmed_answer
barred_answer m w k e other =
    record {
      machine =
          sym (ap (answer_with (trimmed m)) (outcome_barred (trimmed m) w (λ z. other (e ∙ z))) ∙
          ap (λ (n : ℕ). answer_with (trimmed m) (barred_outcome n)) (sym e) ∙
          answer_refused (trimmed m) k 0 0 0 other);
      unchanged = λ z. refl;
      unused = record { orders = refl; parts = refl; spans = λ i l. refl };
    }
