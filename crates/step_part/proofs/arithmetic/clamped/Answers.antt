-- `clamped` is `clamp`: std's `clamp` of a number to the two ends is the definition, by cases on its sign.
use Rattle.std.specs.Prelude.{ℤ, pos, negsuc, ◌≡◌}
use Rattle.std.proofs.Common.{arith, ap, ◌∙◌}
use Rattle.std.proofs.lemmas.Bool.Decides.{nat_tests}
use Rattle.std.proofs.lemmas.Int.{to_z-of_z}
use Rattle.std.specs.Int.{w64, int_max, int_min}
use Rattle.machine.specs.Signal.{clamp}
use Rattle.step_part.proofs.arithmetic.clamped.Goals as goal

-- the number that std names is the definition's
clamp_is : (v : ℤ) → int_max (negsuc 999_999_999) (int_min v (pos 1_000_000_000)) ≡ clamp v
unfolding clamp
clamp_is (pos n) = grind (arith, nat_tests)
clamp_is (negsuc n) = grind (arith, nat_tests)

pub returns : goal.returns
returns c =
    to_z-of_z w64 c.clamp.result (record { sfits = c.clamp.type_inv }) ∙ c.clamp.ensures.value ∙
    ap (λ (v : ℤ). int_max (negsuc 999_999_999) (int_min v (pos 1_000_000_000))) (to_z-of_z w64 c.args.v c.ranges.v) ∙
    clamp_is c.args.v
