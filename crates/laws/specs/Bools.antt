-- Laws of tests: a test is a Bool, and what it shows is an equation with true or false. Assumes nothing.
use Rattle.std.specs.Prelude.{ℕ, suc, ◌≤◌, ◌<◌, ◌≡◌, refl, Bool, true, false, cond, ◌&&◌, ◌||◌, ◌⊎◌}
use Rattle.std.proofs.Common.{eq-or-lt_of_le, ap, sym, ◌∙◌, true≢false, inl, inr, ⊎_elim}
use Rattle.std.proofs.lemmas.Bool.{false≢true}

-- a test is true or false, with the equation
pub either : (b : Bool) → (b ≡ true) ⊎ (b ≡ false)
either true = inl refl
either false = inr refl

-- a test that cannot hold fails
pub refuted : (b : Bool) → (b ≡ true → ⊥) → b ≡ false
refuted true h = absurd (h refl)
refuted false h = refl

-- two tests each of which shows the other are one
pub both_ways : (a b : Bool) → (a ≡ true → b ≡ true) → (b ≡ true → a ≡ true) → a ≡ b
both_ways true b there back = sym (there refl)
both_ways false true there back = back refl
both_ways false false there back = refl

-- both tests hold, one by one, and together
pub and_left : (a b : Bool) → a && b ≡ true → a ≡ true
and_left true b h = refl
and_left false b h = h

pub and_right : (a b : Bool) → a && b ≡ true → b ≡ true
and_right true b h = h
and_right false b h = absurd (false≢true h)

pub and_intro : (a b : Bool) → a ≡ true → b ≡ true → a && b ≡ true
and_intro true b ha hb = hb
and_intro false b ha hb = ha

-- one of two tests fails where not both hold
pub and_false_cases : (a b : Bool) → a && b ≡ false → (a ≡ false) ⊎ (b ≡ false)
and_false_cases true b h = inr h
and_false_cases false b h = inl refl

-- one of two tests holds
pub or_cases : (a b : Bool) → a || b ≡ true → (a ≡ true) ⊎ (b ≡ true)
or_cases true b h = inl refl
or_cases false b h = inr h

pub or_left : (a b : Bool) → a ≡ true → a || b ≡ true
or_left true b h = refl
or_left false b h = absurd (false≢true h)

pub or_right : (a b : Bool) → b ≡ true → a || b ≡ true
or_right true b h = refl
or_right false b h = h

-- neither of two tests holds
pub or_false_left : (a b : Bool) → a || b ≡ false → a ≡ false
or_false_left true b h = h
or_false_left false b h = refl

pub or_false_right : (a b : Bool) → a || b ≡ false → b ≡ false
or_false_right true b h = absurd (true≢false h)
or_false_right false b h = h

-- what is picked, by the test
pub cond_true {ℓ} : {A : Type ℓ} (b : Bool) (x y : A) → b ≡ true → cond b x y ≡ x
cond_true true x y h = refl
cond_true false x y h = absurd (false≢true h)

pub cond_false {ℓ} : {A : Type ℓ} (b : Bool) (x y : A) → b ≡ false → cond b x y ≡ y
cond_false true x y h = absurd (true≢false h)
cond_false false x y h = refl

-- two tests, one after the other, that fail to the same
pub cond_both {ℓ} : {A : Type ℓ} (p q : Bool) (x y : A) → p && q ≡ true → cond p (cond q x y) y ≡ x
cond_both true true x y both = refl
cond_both true false x y both = absurd (false≢true both)
cond_both false q x y both = absurd (false≢true both)

pub cond_either {ℓ} : {A : Type ℓ} (p q : Bool) (x y : A) → p && q ≡ false → cond p (cond q x y) y ≡ y
cond_either true true x y either = absurd (true≢false either)
cond_either true false x y either = refl
cond_either false q x y either = refl

-- what holds of both things that a test picks from, of each where it is picked, holds of the thing picked
pub cond_cases {ℓ κ} : {A : Type ℓ} (P : A → Type κ) (b : Bool) (x y : A) → (b ≡ true → P x) → (b ≡ false → P y) →
    P (cond b x y)
cond_cases P true x y on_true on_false = on_true refl
cond_cases P false x y on_true on_false = on_false refl

-- a test of numbers that fails at k, and from k + 1 on up to n, fails from k on
pub fails_from : (test : ℕ → Bool) (n k : ℕ) → test k ≡ false → ((j : ℕ) → suc k ≤ j → j < n → test j ≡ false) →
    (j : ℕ) → k ≤ j → j < n → test j ≡ false
fails_from test n k e later j h l = ⊎_elim (λ same. ap test (sym same) ∙ e) (λ more. later j more l) (eq-or-lt_of_le h)
