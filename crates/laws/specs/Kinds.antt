-- A match on a kind with an arm for all the kinds that are left. The arm knows that the kind's number is one of a list,
-- so what a function gives for each kind with a number of the list it gives for the kind. Assumes nothing.
use Rattle.std.specs.Prelude.{ℕ, ◌≡◌, refl, List, [], ◌∷◌, map}
use Rattle.std.proofs.Common.{sym, ap, ◌∙◌, inl, inr}
use denote.Enum.Declared.{tag_of}
use types.Run.{OneOf}
use Rattle.machine.specs.contracts.part.Kind.{the_type}
use Rattle.machine.specs.declared.part.Kind.{Kind}
use Rattle.machine.specs.declared.part.Kind.TheVariants.{Constant, Gain, Adder, Square, Pulse, Delay, Integrator}
use Rattle.machine.specs.declared.part.Kind.TheVariants.{ResetIntegrator, Detector, Hold, Sampler, Drive, Clapper}
use Rattle.machine.specs.Kind.{kind_of}

-- where f gives a for all numbers of a list, it gives a for one of them
of_listed : {A : Type 0} (f : ℕ → A) (a : A) (ns : List ℕ) (n : ℕ) → map f ns ≡ map (λ (j : ℕ). a) ns → OneOf ns n →
    f n ≡ a
of_listed f a [] n all one = absurd one
of_listed f a (j ∷ []) n all one = ap f one ∙ cc
of_listed f a (j ∷ k ∷ ns) n all (inl e) = ap f e ∙ cc
of_listed f a (j ∷ k ∷ ns) n all (inr one) = of_listed f a (k ∷ ns) n (cc) one

-- a kind's number, as a match has it, is the number that the kind is found by
number_back : (k : Kind) → kind_of (tag_of the_type k) ≡ k
unfolding kind_of
number_back Constant = refl
number_back Gain = refl
number_back Adder = refl
number_back Square = refl
number_back Pulse = refl
number_back Delay = refl
number_back Integrator = refl
number_back ResetIntegrator = refl
number_back Detector = refl
number_back Hold = refl
number_back Sampler = refl
number_back Drive = refl
number_back Clapper = refl

-- where f gives a for each kind that is left, it gives a for the kind that a match leaves
pub of_kinds_left : {A : Type 0} (f : Kind → A) (a : A) (left : List ℕ) (k : Kind) →
    map (λ (n : ℕ). f (kind_of n)) left ≡ map (λ (n : ℕ). a) left →
    OneOf left (tag_of the_type k) → a ≡ f k
of_kinds_left f a left k each one =
    sym (of_listed (λ (n : ℕ). f (kind_of n)) a left (tag_of the_type k) each one) ∙ ap f (number_back k)
