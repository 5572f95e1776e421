-- `ratio_of` makes the definition's test for no preference. Else the table has the power of the difference, which is 0
-- where the preference is above the magnitude.
use Rattle.std.proofs.Common.{ℕ, zero, suc, List, [], ◌∷◌, ◌≡◌, ◌∙◌, ◌-◌, ◌*◌, ◌^◌, ◌<◌, get_or, arith, sym}
use native.Mathlib.Nat.{mul_assoc, mul-one, one-mul, pow-succ'}
use borrow.Author.Tests.{eq-eqb, ne_eqb}
use Rattle.machine.specs.Time.{ratio_of}
use Rattle.part_rules.proofs.ratio.ratio_of.Goals as goal

-- n numbers from v on, each ten times the one before; the code's table is `tens 16 1`
tens : ℕ → ℕ → List ℕ
tens zero v = []
tens (suc n) v = v ∷ tens n (v * 10)

tens_at : (n v i : ℕ) → i < n → get_or (tens n v) i 0 ≡ v * 10 ^ i
unfolding tens
tens_at zero v i h = absurd (omega arith)
tens_at (suc n) v zero h = sym (mul-one v)
tens_at (suc n) v (suc i) h = tens_at n (v * 10) i (omega arith) ∙ rw (pow-succ', mul_assoc)

pub returns-then-preference-eq-NO_PREFERENCE : goal.returns-then-preference-eq-NO_PREFERENCE
unfolding ratio_of
returns-then-preference-eq-NO_PREFERENCE c = simp (eq-eqb _ _ c.if-preference-eq-NO_PREFERENCE.true)

pub returns-else-preference-eq-NO_PREFERENCE : goal.returns-else-preference-eq-NO_PREFERENCE
unfolding ratio_of tens
returns-else-preference-eq-NO_PREFERENCE c =
    let args = c.args in
    let apart = args.magnitude - args.preference in
    let within : apart < 16 = omega arith in
    rw (c.from.ensures, c.saturating_sub.ensures, ne_eqb _ _ c.if-preference-eq-NO_PREFERENCE.false)
    (tens_at 16 1 apart within ∙ one-mul _)
