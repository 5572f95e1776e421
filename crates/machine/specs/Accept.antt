-- Document 01, "Which steps a part accepts": which parts are due, which steps a part accepts, as a statement, and the
-- longest of them up to h, as a function. All take one part, the point, and the reading x of the part's port 0. Assumes
-- nothing.
use Rattle.std.specs.Prelude.{ℕ, ◌+◌, ◌-◌, ◌*◌, ◌/◌, ◌%◌, ◌≤◌, min, max, ◌≡◌, Bool, false, cond, ◌||◌, ◌⊎◌, eqb, ltb}
use mathlib.Core.List.{List, foldl, Memᴰ}
use Rattle.machine.specs.declared.time.Point.{Point}
use Rattle.machine.specs.declared.signal.Signal.{Signal}
use Rattle.machine.specs.declared.part.Kind.{Kind}
use Rattle.machine.specs.declared.part.Kind.TheVariants.{Constant, Gain, Adder, Square, Pulse, Delay, Integrator}
use Rattle.machine.specs.declared.part.Kind.TheVariants.{ResetIntegrator, Detector, Hold, Sampler, Drive}
use Rattle.machine.specs.declared.part.Kind.TheVariants.{Clapper}
use Rattle.machine.specs.declared.part.Part.{Part}
use Rattle.machine.specs.Lists.{member}
use Rattle.machine.specs.Time.{tick}
use Rattle.machine.specs.Signal.{present}
use Rattle.machine.specs.Kind.{period, at_multiple, marked}
use Rattle.machine.specs.Step.{gain_of}

-- how the kinds differ in what they accept: those that wait for a multiple of P, delays, detectors, drives, and those
-- that accept every step
pub data Class : Type 0 where
  waiting delaying detecting driving free : Class

-- the class of each kind
abbrev pub class : Kind → Class
class Constant = free
class Gain = free
class Adder = free
class Square = waiting
class Pulse = waiting
class Delay = delaying
class Integrator = free
class ResetIntegrator = free
class Detector = detecting
class Hold = free
class Sampler = free
class Drive = driving
class Clapper = free

-- the class of a part's kind
abbrev pub class_of : Part → Class
class_of p = class p.component.kind

-- "A part is due if it is a square or pulse at (k × P, 0), k ≥ 1; a delay with its input present; or a detector with a
-- mark"
unfoldable pub due_as : Class → Part → Point → Signal → Bool
due_as waiting p now x = at_multiple (period p) now
due_as delaying p now x = present x
due_as detecting p now x = marked p.state.mark
due_as driving p now x = false
due_as free p now x = false

-- the part is due, by its class
unfoldable pub due : Part → Point → Signal → Bool
due p = due_as (class_of p) p

-- the next multiple of P after t
unfoldable pub next_multiple : ℕ → ℕ → ℕ
next_multiple P t = (t / P + 1) * P

-- what a part that is not due accepts: "a square or pulse accepts up to the next multiple of P after t. A drive accepts
-- h if d is 0 or one of its spans. The others accept all"
unfoldable pub AcceptsAs : Class → Part → ℕ → ℕ → Type 0
AcceptsAs waiting p t h = t + h ≤ next_multiple (period p) t
AcceptsAs delaying p t h = Unit {0}
AcceptsAs detecting p t h = Unit {0}
AcceptsAs driving p t h = (gain_of t h p ≡ 0) ⊎ Memᴰ (gain_of t h p) p.component.spans
AcceptsAs free p t h = Unit {0}

-- "Every part accepts 0. .. A due part accepts 0 only"
unfoldable pub Accepts : Part → Point → Signal → ℕ → Type 0
Accepts p now x h = (h ≡ 0) ⊎ ((due p now x ≡ false) × AcceptsAs (class_of p) p (tick now) h)

-- a drive's d is 0 or one of its spans
unfoldable pub allowed : List ℕ → ℕ → Bool
allowed spans d = eqb d 0 || member d spans

-- the largest of 0 and the spans that lies below d
unfoldable pub largest_below : List ℕ → ℕ → ℕ
largest_below spans d = foldl (λ (v s : ℕ). cond (ltb s d) (max v s) v) 0 spans

-- the last step that adds v local ticks of r master ticks each, t mod r ticks after the local tick began
unfoldable pub last_adding : ℕ → ℕ → ℕ → ℕ
last_adding r t v = (v + 1) * r - 1 - t % r

-- the longest step of at most h that a part accepts which is not due
unfoldable pub longest_as : Class → Part → ℕ → ℕ → ℕ
longest_as waiting p t h = min h (next_multiple (period p) t - t)
longest_as delaying p t h = h
longest_as detecting p t h = h
longest_as driving p t h =
    cond (allowed p.component.spans (gain_of t h p)) h
    (last_adding p.ratio t (largest_below p.component.spans (gain_of t h p)))
longest_as free p t h = h

-- "the longest step of at most h that the part accepts"
unfoldable pub longest : Part → Point → Signal → ℕ → ℕ
longest p now x h = cond (due p now x) 0 (longest_as (class_of p) p (tick now) h)
