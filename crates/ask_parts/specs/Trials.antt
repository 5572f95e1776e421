-- A trial asked for objections before it is settled: what the parts would object to once they are settled is asked of
-- each part, settled by its reading, one by one; and which kind alone can object. Assumes nothing.
use Rattle.std.specs.Prelude.{ℕ, ◌≡◌, ◌≢◌, refl, Bool, false, ◌||◌, List, [], ◌∷◌, map}
use Rattle.std.proofs.Common.{arith, ap}
use Rattle.machine.specs.declared.part.Kind.{Kind}
use Rattle.machine.specs.declared.part.Kind.TheVariants.{Detector}
use Rattle.machine.specs.declared.part.Part.{Part}
use Rattle.machine.specs.declared.model.Model.{Model}
use Rattle.machine.specs.Lists.{any}
use Rattle.machine.specs.Model.{reading0}
use Rattle.machine.specs.Step.{settled, all_settled, step_made}
use Rattle.machine.specs.Accept.{class}
use Rattle.machine.specs.Advance.{objects, objects_as, any_objects}
use Rattle.step_parts.specs.StepShown.{step_shown}

-- a part objects once it is settled
abbrev pub objects_settled : ℕ → List Part → Part → Bool
objects_settled h ps p = objects h (settled (reading0 ps p) p)

-- some part of the model does
unfoldable pub any_objects_settled : ℕ → Model → Bool
any_objects_settled h x = any (objects_settled h x.parts) x.parts

-- a test of a list's images is a test of the list
any_map : {A B : Type 0} (f : B → Bool) (g : A → B) (l : List A) → any f (map g l) ≡ any (λ (a : A). f (g a)) l
unfolding any
any_map f g [] = refl
any_map f g (a ∷ l) = ap (λ (b : Bool). f (g a) || b) (any_map f g l)

-- so it is asked of the step made
pub objects_made : (m : Model) (h k : ℕ) → any_objects k (step_made m h) ≡ any_objects_settled k (step_shown m h)
unfolding any_objects any_objects_settled step_made step_shown all_settled
objects_made m h k = any_map (objects k) (λ (p : Part). settled (reading0 (step_shown m h).parts p) p)
    (step_shown m h).parts

-- a detector alone objects
never_objects : (k : Kind) (h : ℕ) (p : Part) → k ≢ Detector → objects_as (class k) h p ≡ false
unfolding objects_as
never_objects k h p e = grind arith

pub passes_trial : (h : ℕ) (ps : List Part) (p : Part) → p.component.kind ≢ Detector →
    objects_settled h ps p ≡ false
unfolding objects settled
passes_trial h ps p e = never_objects p.component.kind h (settled (reading0 ps p) p) e
