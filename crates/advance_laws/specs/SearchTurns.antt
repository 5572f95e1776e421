-- The machine's own turns are fair, given what one round owes. The idea: `Told` says what each turn of the machine at h
-- shows of the round, of the parts due and of the objections; what a fair turn owes is read from it. Assumes nothing.
use Rattle.std.specs.Prelude.{ℕ, ◌*◌, ◌≤◌, ◌<◌, ◌≡◌, refl, Bool, true, false, not, ◌&&◌, ◌⊎◌, eqb, ltb}
use native.Mathlib.Omega.{arith}
use Rattle.std.proofs.Common.{sym, subst, inl, inr, eqb-true, ltb-true, eq-eqb}
use Rattle.std.proofs.lemmas.Bool.{false≢true, eqb-false}
use Rattle.std.proofs.Math.ListN.{length}
use Rattle.machine.specs.declared.part.Part.{Part}
use Rattle.machine.specs.declared.model.Model.{Model}
use Rattle.machine.specs.Time.{last_microstep}
use Rattle.machine.specs.Kind.{period, marked}
use Rattle.machine.specs.Model.{part_at, blank_part}
use Rattle.machine.specs.Step.{step_made}
use Rattle.machine.specs.Accept.{Class, waiting, delaying, detecting, driving, free, class_of}
use Rattle.machine.specs.Advance.{Turn, Lower, Halve, Commit, Refuse, round, any_due, objects_as, objects, any_objects}
use Rattle.machine.specs.Advance.{tried, turn}
use Rattle.machine.specs.WholeList.{AllAccept}
use Rattle.laws.specs.Bools.{and_left, and_right, cond_cases}
use Rattle.laws.specs.ListLaws.{any_one}
use Rattle.advance_laws.specs.Fair.{Fair}
use Rattle.advance_laws.specs.Frame.{made_length, made_component, made_ratio}

-- what each turn at h shows: whether the round changed h, whether a part objects to the trial, where h may be 0, and
-- the numbers of refusals
abbrev pub Told : Model → ℕ → Turn → Type 0
Told m h (Lower l) = (round m h ≡ l) × (round m h ≡ h → ⊥)
Told m h Halve = (round m h ≡ h) × (any_objects h (step_made m h) ≡ true)
Told m h Commit =
    (round m h ≡ h) × (any_objects h (step_made m h) ≡ false) ×
    (h ≡ 0 → (any_due m ≡ true) × (m.point.n ≡ last_microstep → ⊥))
Told m h (Refuse k) = (h ≡ 0) × ((k ≡ 21) ⊎ (k ≡ 22))

-- a step of 0 that is not refused has a part due, before the last microstep
zero_told : (is_zero is_due is_last : Bool) → is_zero && not is_due ≡ false → is_zero && is_due && is_last ≡ false →
    is_zero ≡ true →
    (is_due ≡ true) × (is_last ≡ false)
zero_told true true is_last not_idle not_last e = (refl, not_last)
zero_told true false is_last not_idle not_last e = absurd (false≢true (sym not_idle))
zero_told false is_due is_last not_idle not_last e = absurd (false≢true e)

-- what follows a round that changed nothing shows what it should
tried_told : (m : Model) (h : ℕ) → round m h ≡ h → Told m h (tried m h)
unfolding tried
tried_told m h same =
    let is_zero = eqb h 0 in
    let is_last = eqb m.point.n last_microstep in
    cond_cases (Told m h) (is_zero && not (any_due m)) _ _
    (λ idle. (eqb-true h 0 (and_left is_zero (not (any_due m)) idle), inr refl))
    (λ not_idle. cond_cases (Told m h) (is_zero && any_due m && is_last) _ _
    (λ ended. (eqb-true h 0 (and_left is_zero (any_due m) (and_left (is_zero && any_due m) is_last ended)), inl refl))
    (λ not_last. cond_cases (Told m h) (any_objects h (step_made m h)) _ _
    (λ some. (same, some))
    (λ none. (
      same,
      none,
      λ at_zero.
          let (due, before) = zero_told is_zero (any_due m) is_last not_idle not_last (eq-eqb h 0 at_zero) in
          (due, eqb-false m.point.n last_microstep before),
    ))))

-- every turn shows what it should
pub turn_told : (m : Model) (h : ℕ) (t : Turn) → turn m h ≡ t → Told m h t
unfolding turn
turn_told m h t e =
    subst (Told m h) e
    (cond_cases (Told m h) (eqb (round m h) h) _ _
    (λ same. tried_told m h (eqb-true (round m h) h same))
    (λ other. (refl, eqb-false (round m h) h other)))

-- a part that objects to a step of h is a detector whose P lies below h
objecting : (c : Class) (h : ℕ) (p : Part) → objects_as c h p ≡ true → (c ≡ detecting) × (period p < h)
unfolding objects_as
objecting waiting h p e = absurd (false≢true e)
objecting delaying h p e = absurd (false≢true e)
objecting detecting h p e = (refl, ltb-true (period p) h (and_right (marked p.state.mark) (ltb (period p) h) e))
objecting driving h p e = absurd (false≢true e)
objecting free h p e = absurd (false≢true e)

-- what one round owes: it loses no step that all parts accept, changes nothing only where all accept h, and otherwise
-- uses up some of a potential, at most nine for each part and no smaller at a larger h. And the P of every detector is
-- at least 1
pub record RoundOwes (m : Model) (potential : ℕ → ℕ) : Type 0 where
  pub round_within : (h : ℕ) → round m h ≤ h
  pub round_accepted : (h : ℕ) → round m h ≡ h → AllAccept m h
  pub round_most : (h j : ℕ) → j ≤ h → AllAccept m j → j ≤ round m h
  pub round_drops : (h : ℕ) → (round m h ≡ h → ⊥) → potential (round m h) < potential h
  pub potential_bound : (h : ℕ) → potential h ≤ 9 * length m.parts
  pub potential_mono : (j h : ℕ) → j ≤ h → potential j ≤ potential h
  pub positive : (i : ℕ) → i < length m.parts → class_of (part_at m.parts i) ≡ detecting →
      0 < period (part_at m.parts i)

module _ {m : Model} {potential : ℕ → ℕ} (owes : RoundOwes m potential) where
  -- a part objects to a step of at least 2 alone
  objection_at_two : (h : ℕ) → any_objects h (step_made m h) ≡ true → 2 ≤ h
  unfolding any_objects objects
  objection_at_two h e =
      let (i, p, objects_i) = any_one (objects h) (step_made m h).parts blank_part e in
      let here : i < length m.parts = rw made_length at p in
      let (detects, below) = objecting (class_of (part_at (step_made m h).parts i)) h
      (part_at (step_made m h).parts i) objects_i in
      let above_zero = owes.positive i here (rw (made_component m h i) at detects) in
      let below_h : period (part_at m.parts i) < h = rw (made_component m h i, made_ratio m h i) at below in
      omega arith

  -- the machine's turns are fair
  pub turn_fair : Fair (turn m) (AllAccept m) potential (9 * length m.parts)
  turn_fair =
      record {
        lower = λ h l e. let (low, other) = turn_told m h (Lower l) e in omega (arith, owes.round_within h);
        keeps = λ h l e j p accepted. let (low, other) = turn_told m h (Lower l) e in
            rw (← low) (owes.round_most h j p accepted);
        drops = λ h l e. let (low, other) = turn_told m h (Lower l) e in rw (← low) (owes.round_drops h other);
        halve = λ h e. objection_at_two h (turn_told m h Halve e).1;
        commit = λ h e. owes.round_accepted h (turn_told m h Commit e).0;
        refuse = λ h k e. turn_told m h (Refuse k) e;
        bound = owes.potential_bound;
        mono = owes.potential_mono;
      }
