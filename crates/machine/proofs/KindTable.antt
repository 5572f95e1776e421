-- The table of kinds holds of the definitions, line by line. Most rows compute; those that speak of every value, kind
-- or side go by cases on it, and by two small laws: a value is what clamping makes of it, and an absent input
-- integrates to nothing. Assumes nothing.
use Prim.Native.Nat.{ℕ, suc, ◌+◌, ◌-◌, ◌*◌, ◌<◌, min}
use native.Mathlib.Omega.{arith}
use mathlib.Core.Path.{◌≡◌, refl, ap}
use mathlib.Core.Bool.{Bool, true, false, cond}
use mathlib.Core.Logic.{inr}
use lib.Dec.{eqb}
use lib.IntN.{ℤ, pos, negsuc}
use borrow.Author.Tests.{leb-true, lt-ltb, ne_eqb}
use Rattle.machine.specs.declared.signal.Signal.TheVariants.{Absent, Value}
use Rattle.machine.specs.declared.part.Kind.{Kind}
use Rattle.machine.specs.declared.part.Kind.TheVariants.{Constant, Gain, Adder, Square, Pulse, Delay, Integrator}
use Rattle.machine.specs.declared.part.Kind.TheVariants.{ResetIntegrator, Detector, Hold, Sampler, Drive}
use Rattle.machine.specs.declared.part.Kind.TheVariants.{Clapper}
use Rattle.machine.specs.declared.part.Side.{Side}
use Rattle.machine.specs.declared.part.Side.TheVariants.{Unset, Negative, Positive}
use Rattle.machine.specs.declared.part.Mark.TheVariants.{Clear}
use Rattle.machine.specs.Signal.{clamp, integral, is_value}
use Rattle.machine.specs.Kind.{kind_number, integrates, has_mass, mark_between}
use Rattle.machine.specs.Accept.{Accepts, AcceptsAs}
use Rattle.machine.specs.KindTable.{KindTable}
use Rattle.machine.proofs.Computing.{computing}

-- a value is what clamping makes of it
pub clamp_of_value : (v : ℤ) → is_value v ≡ true → clamp v ≡ v
unfolding clamp is_value
clamp_of_value (pos n) e = let most = leb-true n 1_000_000_000 e in let same : min n 1_000_000_000 ≡ n = omega arith in
    ap pos same
clamp_of_value (negsuc n) e =
    let most = leb-true (suc n) 1_000_000_000 e in
    let same : min n 999_999_999 ≡ n = omega arith in ap negsuc same

-- an absent input integrates to nothing
integral_absent : (held : ℤ) (d : ℕ) → is_value held ≡ true → integral held Absent d ≡ held
unfolding integral
integral_absent (pos n) d e = let none : n + 0 * d ≡ n = omega arith in rw none (clamp_of_value (pos n) e)
integral_absent (negsuc n) d e =
    let none : 0 * d ≡ 0 = omega arith in
    let above : 0 < suc n = omega arith in
    let less : suc n - 1 ≡ n = omega arith in rw (none, lt-ltb 0 (suc n) above, less) (clamp_of_value (negsuc n) e)

-- a side that stays sets no mark
pub kept_unmarked : (side : Side) → mark_between side side ≡ Clear
kept_unmarked Unset = refl
kept_unmarked Negative = refl
kept_unmarked Positive = refl

-- what a test picks from two that are alike
alike : (b : Bool) (x y z : ℤ) → x ≡ z → y ≡ z → cond b x y ≡ z
alike true x y z e f = e
alike false x y z e f = f

-- the kind with number 12 has mass, and no other
with_mass : (k : Kind) → has_mass k ≡ eqb (kind_number k) 12
with_mass Constant = refl
with_mass Gain = refl
with_mass Adder = refl
with_mass Square = refl
with_mass Pulse = refl
with_mass Delay = refl
with_mass Integrator = refl
with_mass ResetIntegrator = refl
with_mass Detector = refl
with_mass Hold = refl
with_mass Sampler = refl
with_mass Drive = refl
with_mass Clapper = refl

pub kind_table : KindTable
unfolding computing Accepts AcceptsAs
kind_table =
    record {
      constant = λ a q now x y before. refl;
      gain = λ a q now y before. (refl, refl, refl);
      adder = λ q now before. (refl, refl);
      adder_one = λ v q now before e. (ap Value (clamp_of_value v e), ap Value (clamp_of_value v e), refl);
      square = λ a b q x y before. (refl, refl, refl, refl, refl);
      pulse = λ a q x y before. (refl, refl);
      pulse_else = λ a q x y before. (refl, refl, refl, refl);
      delay = λ t q x y before. (refl, refl, refl);
      integrator = λ a held s q now x y before. (refl, refl);
      starting = λ a c. (refl, refl, refl);
      moving = λ k s q e none. (rw (e, none) refl, rw (e, none) refl);
      resting = λ k held s x d q e. (
        λ none. rw none (alike (integrates k) (integral held Absent d) held held (integral_absent held d e) refl),
        λ none. rw none refl,
      );
      reset = λ a held v s q now x before. (refl, refl);
      reset_held = λ a v q now next x before other last. refl;
      detector = λ side held s q now x y before. (refl, refl, refl);
      crossed = λ n q. (refl, refl, refl, refl);
      uncrossed = λ side v q. (refl, refl, refl, kept_unmarked side, refl);
      at_zero = λ side q. (refl, refl, kept_unmarked side);
      hold = λ v held s c q now y before. (refl, refl, refl);
      hold_kept = λ v q now next y before other last. refl;
      sampler = λ w q now x before. (refl, refl);
      clapper_alone = with_mass;
      clapper_starting = λ a b k p c. (refl, refl, λ none. rw none refl);
      clapper_operands = λ a b p. refl;
      clapper_moving = λ r q. (refl, refl, refl, refl);
      clapper_clamped = λ r q. (refl, refl, refl, refl);
      clapper_ends = λ r q. (refl, refl);
      clapper_free = λ a b r q now x y before h. (refl, refl, refl, inr (refl, tt));
      clapper_sound = λ k n v. (
        λ none. (
          rw (none, ne_eqb (suc n) 0 (λ e. omega arith)) refl,
          rw none refl,
          rw none refl,
        ),
        refl,
      );
    }
