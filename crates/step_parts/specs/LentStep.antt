-- A step made of moving, filling and settling in words: where it leads, what each asks of the words that the one before
-- it gives, and what they come to. The idea: the new state's words, with the parts moved and the point written, mean
-- the moved model at the new point, of which the laws of a step speak. Assumes nothing.
use Rattle.std.specs.Prelude.{ℕ, ◌+◌, ◌≤◌, ◌<◌, ◌≡◌, refl, true, List}
use Rattle.std.proofs.Common.{sym, subst, ◌∙◌}
use Rattle.std.proofs.Math.Path.{ap}
use Rattle.machine.specs.declared.time.Point.{Point}
use Rattle.std.specs.Prelude.{Some, None}
use Rattle.machine.specs.declared.model.Model.{Model}
use Rattle.machine.specs.Time.{last_microstep, last_tick, led_to, stepped, tick}
use Rattle.machine.specs.Model.{trimmed, with_parts}
use Rattle.machine.specs.Sound.{sound}
use Rattle.machine.specs.Step.{all_moved, filled}
use Rattle.words_store.specs.ModelIn.{stored_point, model_in}
use Rattle.words_store.specs.Updated.{PointPut, SameBehind}
use Rattle.words_store.specs.StoreFrame.{held_pointed, behind_pointed, behind_through}
use Rattle.step_parts.specs.Trimmed.{Changed}
use Rattle.step_parts.specs.Fillable.{Fillable}
use Rattle.step_parts.specs.Anyway.{FilledAnyway}
use Rattle.step_parts.specs.StepMade.{at_point, never_past, leads_to, moved_is, made_fillable}
use Rattle.step_parts.specs.StepShown.{step_shown}

-- the point that was read is the model's, so that a step within the time never leads past it, and where it leads is the
-- definition's point
module _
    (ts os : List ℕ)
    (from : Point)
    (h : ℕ)
    (reads : from ≡ stored_point os)
    (within : tick (model_in ts os).point + h ≤ last_tick)
    (before : h ≡ 0 → (model_in ts os).point.n < last_microstep) where
  pub lent_never_past : stepped from h ≡ None → ⊥
  unfolding model_in
  lent_never_past past = never_past (model_in ts os).point h within before
      (ap (λ (p : Point). stepped p h) (sym reads) ∙ past)

  pub lent_leads_to : (to : Point) → stepped from h ≡ Some to → to ≡ led_to (model_in ts os).point h
  unfolding model_in
  lent_leads_to to leads = leads_to (model_in ts os).point to h within before
      (ap (λ (p : Point). stepped p h) (sym reads) ∙ leads)

-- the words a, the parts moved, and b, the point written too
module _
    (ts os a b : List ℕ)
    (to : Point)
    (h : ℕ)
    (moves : Changed (model_in ts os) (all_moved (tick (model_in ts os).point) h (trimmed (model_in ts os)).parts)
    (model_in ts a))
    (put : PointPut to a b) where
  -- what the words then mean
  pointed : model_in ts b ≡ at_point (model_in ts a) to
  pointed = held_pointed ts a b to put

  -- what filling asks
  pub lent_fillable : sound (trimmed (model_in ts os)) ≡ true →
      Fillable (trimmed (model_in ts os)) (trimmed (model_in ts b))
  lent_fillable s =
      subst (λ (x : Model). Fillable (trimmed (model_in ts os)) (trimmed x)) (sym pointed)
      (made_fillable (model_in ts os) (model_in ts a) to h s moves)

  -- the words f, the outputs filled
  module _
      (f : List ℕ)
      (fills : FilledAnyway (model_in ts os) (model_in ts b) (model_in ts f)) where
    -- the outputs shown
    pub lent_shown : to ≡ led_to (model_in ts os).point h →
        trimmed (model_in ts f) ≡ step_shown (trimmed (model_in ts os)) h
    unfolding step_shown trimmed
    lent_shown leads =
        let old = (trimmed (model_in ts os)).parts in
        let moves_all = all_moved (tick (model_in ts os).point) h old in
        (fills (trimmed (model_in ts b)).parts refl).is ∙
        ap (λ (x : Model). with_parts (trimmed x) x.point
        (filled old x.point (trimmed x).order (trimmed x).parts)) pointed ∙
        ap (λ (y : Model). with_parts y to (filled old to y.order y.parts))
        (moved_is (model_in ts os) (model_in ts a) to moves_all moves) ∙
        ap (λ (p : Point). with_parts (trimmed (model_in ts os)) p
        (filled old p (trimmed (model_in ts os)).order moves_all)) leads

-- the words after the model's are kept through it all
pub lent_behind :
    (n : ℕ) (new a b f : List ℕ) (to : Point) → SameBehind n new a → PointPut to a b → SameBehind n b f →
    SameBehind n new f
lent_behind n new a b f to moves put fills =
    behind_through n new a f moves (behind_through n a b f (behind_pointed n to a b put) fills)
