-- Request 2, "Clapper with mass": the law of its motion under a constant input, and what a single step makes of it.
-- What the definitions take from the request's sentences one by one is in the table of kinds. A single statement; each
-- row has its words above it. Assumes nothing.
use Rattle.std.specs.Prelude.{ℕ, zero, suc, ◌+◌, ◌*◌, ◌/◌, ◌≤◌, ◌<◌, ◌≡◌, true, ℤ, pos, ◌+ℤ◌, ◌*ℤ◌}
use Rattle.machine.specs.declared.signal.Signal.{Signal}
use Rattle.machine.specs.declared.signal.Signal.TheVariants.{Value}
use Rattle.machine.specs.declared.part.Kind.TheVariants.{Clapper}
use Rattle.machine.specs.declared.part.Part.{Part}
use Rattle.machine.specs.Time.{local_count}
use Rattle.machine.specs.Signal.{is_value}
use Rattle.machine.specs.Step.{moved}
use Rattle.machine.specs.KindTable.{clapper}

-- a part that was at tick t, after k steps of one local tick each, with the reading x at its port 0 all the while
unfoldable pub swung : ℕ → ℕ → Signal → Part → Part
swung zero t x p = p
swung (suc k) t x p = moved (t + k * p.ratio) p.ratio x (swung k t x p)

-- b + k·x
unfoldable pub speed_after : ℤ → ℤ → ℕ → ℤ
speed_after b x k = b +ℤ (pos k *ℤ x)

-- a + k·b + x·k(k + 1)/2
unfoldable pub position_after : ℤ → ℤ → ℤ → ℕ → ℤ
position_after a b x k = (a +ℤ (pos k *ℤ b)) +ℤ (pos (k * (k + 1) / 2) *ℤ x)

-- neither is clamped within k steps
pub record Unclamped (a b x : ℤ) (k : ℕ) : Type 0 where
  pub speeds : (j : ℕ) → j ≤ k → is_value (speed_after b x j) ≡ true
  pub positions : (j : ℕ) → j ≤ k → is_value (position_after a b x j) ≡ true

-- the statement
pub record Clappers : Type 0 where
  -- the law: under a constant pull x, after k steps of one local tick each and while nothing is clamped, the speed is b
  -- + k·x and the position a + k·b + x·k(k + 1)/2, a and b being what they were at tick t
  pub law :
      (k t : ℕ) (x : ℤ) (p : Part) → p.component.kind ≡ Clapper → 0 < p.ratio →
      p.state.local.0 ≡ (local_count t p.ratio).0 →
      Unclamped p.state.held p.state.speed x k →
      ((swung k t (Value x) p).state.speed ≡ speed_after p.state.speed x k) ×
      ((swung k t (Value x) p).state.held ≡ position_after p.state.held p.state.speed x k)
  -- no hidden sub-steps: pulled by 1 from rest at 0, one step of 2 leads to 4, and two of 1 to 3; the speed is 2 in
  -- both
  pub one_step :
      (q : Part) →
      ((moved 0 2 (Value (pos 1)) (clapper (pos 0) (pos 0) 1 q)).state.held ≡ pos 4) ×
      ((swung 2 0 (Value (pos 1)) (clapper (pos 0) (pos 0) 1 q)).state.held ≡ pos 3) ×
      ((moved 0 2 (Value (pos 1)) (clapper (pos 0) (pos 0) 1 q)).state.speed ≡ pos 2) ×
      ((swung 2 0 (Value (pos 1)) (clapper (pos 0) (pos 0) 1 q)).state.speed ≡ pos 2)
  -- d counts local ticks: at ratio 10, a step of 20 is one of 2, and a step of 9 moves nothing
  pub coarse :
      (q : Part) →
      ((moved 0 20 (Value (pos 1)) (clapper (pos 0) (pos 0) 10 q)).state.held ≡ pos 4) ×
      ((moved 0 9 (Value (pos 1)) (clapper (pos 0) (pos 7) 10 q)).state.held ≡ pos 0)
