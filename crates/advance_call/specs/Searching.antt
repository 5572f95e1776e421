-- What the search for a step promises, and the laws of its turns by what the code has at hand: the round, the number of
-- a refusal, and whether a part objects to the trial. The idea: `Left` says that the search from here comes to the
-- outcome of the whole search. Assumes nothing.
use Rattle.std.specs.Prelude.{ℕ, suc, ◌+◌, ◌/◌, ◌≤◌, ◌<◌, ◌≡◌, refl, Bool, true, false, cond, not, ◌&&◌, eqb, leb}
use native.Mathlib.Omega.{arith}
use Rattle.std.proofs.Math.Path.{sym, ap}
use Rattle.std.proofs.Common.{◌∙◌}
use borrow.Author.Tests.{eq-eqb, ne_eqb, eqb-true, eqb-false, le-leb, lt-leb}
use Rattle.machine.specs.declared.time.Point.{Point}
use Rattle.machine.specs.declared.model.Model.{Model}
use Rattle.machine.specs.declared.model.Answer.{Answer}
use Rattle.machine.specs.Time.{in_time, last_microstep, last_tick, led_to, tick}
use Rattle.machine.specs.Model.{trimmed, trimmed_answer}
use Rattle.machine.specs.Step.{step_made}
use Rattle.machine.specs.Sound.{sound}
use Rattle.machine.specs.Advance.{Turn, Lower, Halve, Commit, Refuse, followed, search_from, searched, turn, tried}
use Rattle.machine.specs.Advance.{round, any_due, any_objects, answer_with}
use Rattle.laws.specs.Bools.{cond_true, cond_false}
use Rattle.sound_laws.specs.SoundParts.{sound_time}
use Rattle.advance_laws.specs.SearchFuel.{Falls, unrolled}
use Rattle.advance_laws.specs.Fair.{fair_falls}
use Rattle.advance_laws.specs.SearchTurns.{turn_fair}
use Rattle.advance_lists.specs.RoundsOwed.{round_owes}

-- what the search promises of its answer r to a call that nothing bars, for the model m and the wanted step w: the
-- machine's answer, trimmed
pub record Searched (m : Model) (w : ℕ) (r : Answer) : Type 0 where
  pub machine : trimmed_answer r ≡ answer_with (trimmed m) (searched (trimmed m) w)

-- the number of a refusal: of a step of 0, where no part is due, 22; where one is and the microstep is the last, 21
abbrev number_by : Bool → Bool → Bool → ℕ
number_by is_zero is_due is_last = cond is_zero (cond is_due (cond is_last 21 0) 22) 0

unfoldable pub refusal : Model → ℕ → ℕ
refusal m h = number_by (eqb h 0) (any_due m) (eqb m.point.n last_microstep)

-- within the time, the microstep is the last where a step of 0 leads past it
last_by : (b : Bool) (p : Point) → eqb p.n last_microstep ≡ b → p.n ≤ last_microstep →
    not (leb (p.n + 1) last_microstep) ≡ b
last_by true p e most = let end = eqb-true p.n last_microstep e in
    simp (lt-leb (p.n + 1) last_microstep (omega arith))
last_by false p e most = let other = eqb-false p.n last_microstep e in
    simp (le-leb (p.n + 1) last_microstep (omega arith))

pub last_past : (m : Model) → sound m ≡ true → not (in_time (led_to m.point 0)) ≡ eqb m.point.n last_microstep
unfolding in_time led_to
last_past m is_sound =
    let time = sound_time m is_sound in
    rw (le-leb (tick m.point) last_tick time.0)
    (last_by (eqb m.point.n last_microstep) m.point refl time.1)

-- the turn by the same tests, `other` where there is no refusal
abbrev turn_by : Bool → Bool → Bool → Turn → Turn
turn_by is_zero is_due is_last other =
    cond (is_zero && not is_due) (Refuse 22) (cond (is_zero && is_due && is_last) (Refuse 21) other)

-- it is the refusal's where the number is not 0, and the other turn where it is; a step of 0 then is before the last
-- microstep
refused_by : (z d l : Bool) (t : Turn) → (number_by z d l ≡ 0 → ⊥) → turn_by z d l t ≡ Refuse (number_by z d l)
refused_by true true true t other = refl
refused_by true true false t other = absurd (other refl)
refused_by true false l t other = refl
refused_by false d l t other = absurd (other refl)

made_by : (z d l : Bool) (t : Turn) → number_by z d l ≡ 0 → turn_by z d l t ≡ t
made_by true true true t e = absurd (omega arith)
made_by true true false t e = refl
made_by true false l t e = absurd (omega arith)
made_by false d l t e = refl

before_last : (d l : Bool) → number_by true d l ≡ 0 → l ≡ false
before_last true true e = absurd (omega arith)
before_last true false e = refl
before_last false l e = absurd (omega arith)

-- the search from h, under the ceiling c after n rounds and v revisions, comes to the outcome of the whole search
abbrev pub Left : Model → ℕ → (c h n v : ℕ) → Type 0
Left m w c h n v = search_from (turn m) (suc h) c h n v ≡ searched m w

-- so it does at the start
pub left_start : (m : Model) (w : ℕ) → Left m w w w 0 0
unfolding searched
left_start m w = refl

module _ (m : Model) (is_sound : sound m ≡ true) where
  falls : Falls (turn m)
  falls = fair_falls (turn_fair (round_owes m is_sound))

  -- a turn at h, followed
  turned : (w c h n v : ℕ) (t : Turn) → Left m w c h n v → turn m h ≡ t →
      followed t (λ (c k n v : ℕ). search_from (turn m) (suc k) c k n v) c h n v ≡ searched m w
  turned w c h n v t left e =
      ap (λ (s : Turn). followed s (λ (c k n v : ℕ). search_from (turn m) (suc k) c k n v) c h n v) (sym e) ∙
      sym (unrolled falls c h n v) ∙ left

  -- the turn by what the round came to
  turn_lower : (h : ℕ) → (round m h ≡ h → ⊥) → turn m h ≡ Lower (round m h)
  unfolding turn
  turn_lower h other = cond_false (eqb (round m h) h) _ _ (ne_eqb (round m h) h other)

  turn_tried : (h : ℕ) → round m h ≡ h → turn m h ≡ tried m h
  unfolding turn
  turn_tried h same = cond_true (eqb (round m h) h) _ _ (eq-eqb (round m h) h same)

  turn_refused : (h : ℕ) → round m h ≡ h → (refusal m h ≡ 0 → ⊥) → turn m h ≡ Refuse (refusal m h)
  unfolding tried refusal
  turn_refused h same other =
      turn_tried h same ∙
      refused_by (eqb h 0) (any_due m) (eqb m.point.n last_microstep)
      (cond (any_objects h (step_made m h)) Halve Commit) other

  turn_made : (h : ℕ) → round m h ≡ h → refusal m h ≡ 0 → turn m h ≡ cond (any_objects h (step_made m h)) Halve Commit
  unfolding tried refusal
  turn_made h same none =
      turn_tried h same ∙
      made_by (eqb h 0) (any_due m) (eqb m.point.n last_microstep)
      (cond (any_objects h (step_made m h)) Halve Commit) none

  turn_halve : (h : ℕ) → round m h ≡ h → refusal m h ≡ 0 → any_objects h (step_made m h) ≡ true → turn m h ≡ Halve
  turn_halve h same none some = turn_made h same none ∙ cond_true (any_objects h (step_made m h)) Halve Commit some

  -- a round that lowered h: the search goes on there
  pub lowered : (w c h n v : ℕ) → Left m w c h n v → (round m h ≡ h → ⊥) → Left m w c (round m h) (n + 1) v
  lowered w c h n v left other = turned w c h n v (Lower (round m h)) left (turn_lower h other)

  pub lower_below : (h : ℕ) → (round m h ≡ h → ⊥) → round m h < h
  lower_below h other = falls.lower h (round m h) (turn_lower h other)

  -- an objection: it goes on at half of h, a ceiling too
  pub halved : (w c h n v : ℕ) → Left m w c h n v → round m h ≡ h → refusal m h ≡ 0 →
      any_objects h (step_made m h) ≡ true →
      Left m w (h / 2) (h / 2) (n + 1) (v + 1)
  halved w c h n v left same none some = turned w c h n v Halve left (turn_halve h same none some)

  pub halve_above : (h : ℕ) → round m h ≡ h → refusal m h ≡ 0 → any_objects h (step_made m h) ≡ true → 2 ≤ h
  halve_above h same none some = falls.halve h (turn_halve h same none some)

  -- a refusal, and a step committed
  refused : (w c h n v k : ℕ) → Left m w c h n v → round m h ≡ h → k ≡ refusal m h → (k ≡ 0 → ⊥) →
      searched m w ≡ record { number = k; step = 0; rounds = n + 1; revisions = v; ceiling = c }
  refused w c h n v k left same e other =
      sym (turned w c h n v (Refuse k) left (turn_refused h same (λ z. other (e ∙ z)) ∙ ap Refuse (sym e)))

  committed : (w c h n v : ℕ) → Left m w c h n v → round m h ≡ h → refusal m h ≡ 0 →
      any_objects h (step_made m h) ≡ false →
      searched m w ≡ record { number = 0; step = h; rounds = n + 1; revisions = v; ceiling = c }
  committed w c h n v left same none all =
      sym (turned w c h n v Commit left (turn_made h same none ∙
      cond_false (any_objects h (step_made m h)) Halve Commit all))

-- an answer by its fields
abbrev pub answer_of : Model → (k h n v c : ℕ) → Answer
answer_of m k h n v c = record { model = m; number = k; step = h; rounds = n; revisions = v; ceiling = c }

-- the answer to a refusal has the model handed in
pub answer_refused : (m : Model) (k n v c : ℕ) → (k ≡ 0 → ⊥) →
    answer_with m (record { number = k; step = 0; rounds = n; revisions = v; ceiling = c }) ≡ answer_of m k 0 n v c
unfolding answer_with
answer_refused m k n v c other =
    ap (λ (z : Model). answer_of z k 0 n v c) (cond_false (eqb k 0) (step_made m 0) m (ne_eqb k 0 other))

answer_committed : (m : Model) (h n v c : ℕ) →
    answer_with m (record { number = 0; step = h; rounds = n; revisions = v; ceiling = c }) ≡
    answer_of (step_made m h) 0 h n v c
unfolding answer_with
answer_committed m h n v c = refl

module _ (m : Model) (is_sound : sound (trimmed m) ≡ true) where
  -- what a refusal answers, and what a step committed
  pub refused_answer : (w c h n v k : ℕ) → Left (trimmed m) w c h n v → round (trimmed m) h ≡ h →
      k ≡ refusal (trimmed m) h → (k ≡ 0 → ⊥) →
      Searched m w (answer_of m k 0 (n + 1) v c)
  unfolding trimmed_answer
  refused_answer w c h n v k left same e other =
      record {
        machine =
            sym (ap (answer_with (trimmed m)) (refused (trimmed m) is_sound w c h n v k left same e other) ∙
            answer_refused (trimmed m) k (n + 1) v c other);
      }

  pub committed_answer : (trial : Model) (w c h n v : ℕ) → Left (trimmed m) w c h n v → round (trimmed m) h ≡ h →
      refusal (trimmed m) h ≡ 0 →
      any_objects h (trimmed trial) ≡ false → trimmed trial ≡ step_made (trimmed m) h →
      Searched m w (answer_of trial 0 h (n + 1) v c)
  unfolding trimmed_answer
  committed_answer trial w c h n v left same none all is =
      record {
        machine =
            ap (λ (z : Model). answer_of z 0 h (n + 1) v c) is ∙
            sym (ap (answer_with (trimmed m))
            (committed (trimmed m) is_sound w c h n v left same none (ap (any_objects h) (sym is) ∙ all)) ∙
            answer_committed (trimmed m) h (n + 1) v c);
      }

  -- a step of 0 that is not refused is before the last microstep
  pub may_step : (h : ℕ) → refusal (trimmed m) h ≡ 0 → h ≡ 0 → m.point.n < last_microstep
  unfolding refusal trimmed
  may_step h none zero_step =
      let before = before_last (any_due (trimmed m)) (eqb m.point.n last_microstep)
      (rw (eq-eqb h 0 zero_step) at none) in
      let other = eqb-false m.point.n last_microstep before in
      let most : m.point.n ≤ last_microstep = (sound_time (trimmed m) is_sound).1 in
      omega arith
