-- The law of a clapper's motion, by induction on the steps: one of one local tick adds x to the speed and then the new
-- speed to the position, and k(k + 1)/2 grows by k + 1. The other rows compute. Assumes nothing.
use Prim.Native.Nat.{ℕ, zero, suc, ◌+◌, ◌*◌, ◌/◌, ◌<◌}
use native.Mathlib.Nat.{add-div_right, add-mul-div_right, mul-suc, suc-mul}
use native.Mathlib.Omega.{arith}
use mathlib.Core.Path.{◌≡◌, refl, sym, ◌∙◌, ap}
use mathlib.Core.Bool.{true}
use lib.IntN.{ℤ, pos, ◌+ℤ◌, ◌*ℤ◌, one, *ℤ-one, +ℤ_assoc, +ℤ_comm, +ℤ_idr, zero-*ℤ, suc_ℤ-*ℤ}
use Rattle.machine.specs.declared.signal.Signal.TheVariants.{Value}
use Rattle.machine.specs.declared.part.Kind.TheVariants.{Clapper}
use Rattle.machine.specs.declared.part.Part.{Part}
use Rattle.machine.specs.Time.{gained, local_count}
use Rattle.machine.specs.Signal.{integral, is_value}
use Rattle.machine.specs.Step.{gain_of, moved, moved_held, moved_speed, rate}
use Rattle.machine.specs.Clappers.{Clappers, Unclamped, swung, speed_after, position_after}
use Rattle.machine.proofs.Computing.{computing}
use Rattle.machine.proofs.KindTable.{clamp_of_value}

-- n + 1 times v, and m + n times v
once_more : (n : ℕ) (v : ℤ) → pos (suc n) *ℤ v ≡ (pos n *ℤ v) +ℤ v
once_more n v = suc_ℤ-*ℤ (pos n) v

times_sum : (m n : ℕ) (v : ℤ) → pos (m + n) *ℤ v ≡ (pos m *ℤ v) +ℤ (pos n *ℤ v)
times_sum m zero v = let none : m + 0 ≡ m = omega arith in rw (none, zero-*ℤ v, +ℤ_idr (pos m *ℤ v)) refl
times_sum m (suc n) v =
    let next : m + suc n ≡ suc (m + n) = omega arith in
    rw (next, once_more (m + n) v, once_more n v, times_sum m n v) (+ℤ_assoc (pos m *ℤ v) (pos n *ℤ v) v)

-- k(k + 1)/2 grows by k + 1
two_rows_more : (k : ℕ) → suc k * (suc k + 1) ≡ k * (k + 1) + suc k * 2
two_rows_more k =
    let next : suc k + 1 ≡ suc (k + 1) = omega arith in
    suc-mul k (suc k + 1) ∙ rw (next, mul-suc k (k + 1)) (omega arith)

triangle : (k : ℕ) → suc k * (suc k + 1) / 2 ≡ k * (k + 1) / 2 + suc k
triangle k =
    let above : 0 < 2 = omega arith in
    ap (λ (n : ℕ). n / 2) (two_rows_more k) ∙ add-mul-div_right (k * (k + 1)) (suc k) above

-- sums in another order
exchanged : (c d e : ℤ) → c +ℤ (d +ℤ e) ≡ d +ℤ (c +ℤ e)
exchanged c d e = sym (+ℤ_assoc c d e) ∙ ap (λ v. v +ℤ e) (+ℤ_comm c d) ∙ +ℤ_assoc d c e

regrouped : (a b c d e : ℤ) → ((a +ℤ b) +ℤ c) +ℤ (d +ℤ e) ≡ (a +ℤ (b +ℤ d)) +ℤ (c +ℤ e)
regrouped a b c d e =
    +ℤ_assoc (a +ℤ b) c (d +ℤ e) ∙ ap (λ v. (a +ℤ b) +ℤ v) (exchanged c d e) ∙ sym (+ℤ_assoc (a +ℤ b) d (c +ℤ e)) ∙
    ap (λ v. v +ℤ (c +ℤ e)) (+ℤ_assoc a b d)

-- the speed after one step more, and the position
next_speed : (b x : ℤ) (k : ℕ) → speed_after b x k +ℤ x ≡ speed_after b x (suc k)
unfolding speed_after
next_speed b x k = rw (once_more k x) (+ℤ_assoc b (pos k *ℤ x) x)

next_position : (a b x : ℤ) (k : ℕ) → position_after a b x k +ℤ speed_after b x (suc k) ≡ position_after a b x (suc k)
unfolding speed_after position_after
next_position a b x k =
    rw (triangle k, times_sum (k * (k + 1) / 2) (suc k) x, once_more k b)
    (regrouped a (pos k *ℤ b) (pos (k * (k + 1) / 2) *ℤ x) b (pos (suc k) *ℤ x))

-- a step of r master ticks, at ratio r, is one local tick
one_tick : (t r : ℕ) (p : Part) → p.ratio ≡ r → 0 < r → p.state.local.0 ≡ (local_count t r).0 → gain_of t r p ≡ 1
unfolding gain_of gained local_count
one_tick t r p e above local = let next = add-div_right t above in rw (e, local, next) (omega arith)

-- what is integrated over one tick is added, where that is a value
integral_once : (v w : ℤ) → is_value (v +ℤ w) ≡ true → integral v (Value w) 1 ≡ v +ℤ w
unfolding integral one
integral_once v w e = rw (*ℤ-one w) (clamp_of_value (v +ℤ w) e)

-- one step of a clapper, of one local tick
record Swung (t r : ℕ) (x : ℤ) (p : Part) : Type 0 where
  speed : (moved t r (Value x) p).state.speed ≡ p.state.speed +ℤ x
  held : (moved t r (Value x) p).state.held ≡ p.state.held +ℤ (p.state.speed +ℤ x)
  local : (moved t r (Value x) p).state.local.0 ≡ (local_count (t + r) r).0

once_swung : (t r : ℕ) (x : ℤ) (p : Part) → p.component.kind ≡ Clapper → p.ratio ≡ r → 0 < r →
    p.state.local.0 ≡ (local_count t r).0 →
    is_value (p.state.speed +ℤ x) ≡ true → is_value (p.state.held +ℤ (p.state.speed +ℤ x)) ≡ true → Swung t r x p
unfolding moved moved_held moved_speed rate local_count
once_swung t r x p kind e above local fast far =
    let tick = one_tick t r p e above local in
    let faster = integral_once p.state.speed x fast in
    record {
      speed = rw (tick, kind) faster;
      held = rw (tick, kind, faster) (integral_once p.state.held (p.state.speed +ℤ x) far);
      local = rw (tick, local, add-div_right t above) refl;
    }

-- no step adds nothing
no_speed : (b x : ℤ) → b ≡ speed_after b x 0
unfolding speed_after
no_speed b x = rw (zero-*ℤ x, +ℤ_idr b) refl

no_way : (a b x : ℤ) → a ≡ position_after a b x 0
unfolding position_after
no_way a b x = rw (zero-*ℤ b, zero-*ℤ x, +ℤ_idr a, +ℤ_idr a) refl

-- what is after k steps
record Stood (k t : ℕ) (x : ℤ) (p : Part) : Type 0 where
  kind : (swung k t (Value x) p).component.kind ≡ p.component.kind
  ratio : (swung k t (Value x) p).ratio ≡ p.ratio
  local : (swung k t (Value x) p).state.local.0 ≡ (local_count (t + k * p.ratio) p.ratio).0
  speed : (swung k t (Value x) p).state.speed ≡ speed_after p.state.speed x k
  held : (swung k t (Value x) p).state.held ≡ position_after p.state.held p.state.speed x k

after_steps : (k t : ℕ) (x : ℤ) (p : Part) → p.component.kind ≡ Clapper → 0 < p.ratio →
    p.state.local.0 ≡ (local_count t p.ratio).0 →
    Unclamped p.state.held p.state.speed x k → Stood k t x p
unfolding swung moved
after_steps zero t x p kind above local free =
    let none : t + 0 * p.ratio ≡ t = omega arith in
    record {
      kind = refl;
      ratio = refl;
      local = rw none local;
      speed = no_speed p.state.speed x;
      held = no_way p.state.held p.state.speed x;
    }
after_steps (suc k) t x p kind above local free =
    let a = p.state.held in
    let b = p.state.speed in
    let here = swung k t (Value x) p in
    let sooner : Unclamped a b x k = record {
      speeds = λ j few. free.speeds j (omega (arith, few));
      positions =
          λ j few. free.positions j (omega (arith, few));
    } in
    let before = after_steps k t x p kind above local sooner in
    let faster = ap (λ v. v +ℤ x) before.speed ∙ next_speed b x k in
    let farther =
    ap (λ v. v +ℤ (here.state.speed +ℤ x)) before.held ∙ ap (λ v. position_after a b x k +ℤ v) faster ∙
    next_position a b x k in
    let fast : is_value (here.state.speed +ℤ x) ≡ true = rw faster (free.speeds (suc k) (omega arith)) in
    let far : is_value (here.state.held +ℤ (here.state.speed +ℤ x)) ≡ true =
    rw farther (free.positions (suc k) (omega arith)) in
    let step = once_swung (t + k * p.ratio) p.ratio x here (before.kind ∙
    kind) before.ratio above before.local fast far in
    let later : t + k * p.ratio + p.ratio ≡ t + suc k * p.ratio = rw (suc-mul k p.ratio) (omega arith) in
    record {
      kind = before.kind;
      ratio = before.ratio;
      local = step.local ∙ ap (λ n. (local_count n p.ratio).0) later;
      speed = step.speed ∙ faster;
      held = step.held ∙ farther;
    }

-- the rows
pub clappers : Clappers
unfolding computing swung
clappers =
    record {
      law = λ k t x p kind above local free. let stood = after_steps k t x p kind above local free in
          (stood.speed, stood.held);
      one_step = λ q. (refl, refl, refl, refl);
      coarse = λ q. (refl, refl);
    }
