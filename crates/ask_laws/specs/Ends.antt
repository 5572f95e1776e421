-- The plateau ends of a part: the steps at which what it accepts can end. Where the longest step of at most h that it
-- accepts is not h itself, it is one of these, whatever h is; and there are at most 9 of them (`proofs/Ends.antt`), 0
-- and 8 spans of a drive. So rounds, which lower h from end to end, are few. Assumes nothing.
use Rattle.std.specs.Prelude.{ℕ, ◌-◌, ◌≤◌, ◌≡◌, refl, Bool, true, false, cond, ◌⊎◌, length}
use Rattle.std.proofs.Common.{arith, inl, inr}
use Rattle.std.proofs.Math.Logic.{⊎_map}
use mathlib.Core.List.Memᴰ
use mathlib.Core.List.{List, [], ◌∷◌, map, Memᴰ}
use Rattle.std.proofs.lemmas.List.{length-map}
use Rattle.machine.specs.declared.time.Point.{Point}
use Rattle.machine.specs.declared.signal.Signal.{Signal}
use Rattle.machine.specs.declared.part.Part.{Part}
use Rattle.machine.specs.Time.{tick}
use Rattle.machine.specs.Kind.{period}
use Rattle.machine.specs.Step.{gain_of}
use Rattle.machine.specs.Accept.{Class, waiting, delaying, detecting, driving, free, class_of, due, next_multiple}
use Rattle.machine.specs.Accept.{allowed, largest_below, last_adding, longest_as, longest}
use Rattle.laws.specs.Bools.{cond_cases}
use Rattle.laws.specs.Numbers.{min_one}
use Rattle.ask_laws.specs.Spans.{largest_below_is}

-- the ends of a part that is not due: the step to the next multiple of P; the last steps that add 0 and each span; none
unfoldable pub ends_as : Class → Part → ℕ → List ℕ
ends_as waiting p t = (next_multiple (period p) t - t) ∷ []
ends_as delaying p t = []
ends_as detecting p t = []
ends_as driving p t = map (last_adding p.ratio t) (0 ∷ p.component.spans)
ends_as free p t = []

-- the ends of a part; 0 for one that is due
unfoldable pub ends : Part → Point → Signal → List ℕ
ends p now x = cond (due p now x) (0 ∷ []) (ends_as (class_of p) p (tick now))

-- they are at most 9, those of a drive: 0 and 8 spans
pub ends_as_few : (c : Class) (p : Part) (t : ℕ) → length p.component.spans ≤ 8 → length (ends_as c p t) ≤ 9
unfolding ends_as
ends_as_few waiting p t few = omega arith
ends_as_few delaying p t few = omega arith
ends_as_few detecting p t few = omega arith
ends_as_few driving p t few = simp length-map (omega arith)
ends_as_few free p t few = omega arith

-- the longest step of at most h is h or an end, for a part that is not due
drops_as : (c : Class) (p : Part) (t h : ℕ) → (longest_as c p t h ≡ h) ⊎ Memᴰ (longest_as c p t h) (ends_as c p t)
unfolding longest_as ends_as
drops_as waiting p t h = ⊎_map (λ e. e) Memᴰ.head (min_one h (next_multiple (period p) t - t))
drops_as delaying p t h = inl refl
drops_as detecting p t h = inl refl
drops_as driving p t h =
    let spans = p.component.spans in
    let last : ℕ → ℕ = last_adding p.ratio t in
    cond_cases (λ (l : ℕ). (l ≡ h) ⊎ Memᴰ l (map last (0 ∷ spans))) (allowed spans (gain_of t h p)) h
    (last (largest_below spans (gain_of t h p)))
    (λ e. inl refl) (λ e. inr (Memᴰ.map last (largest_below_is spans (gain_of t h p)).among))
drops_as free p t h = inl refl

-- the longest step of at most h that a part accepts is h, or one of the part's ends
pub longest_drops :
    (p : Part) (now : Point) (x : Signal) (h : ℕ) → (longest p now x h ≡ h) ⊎
    Memᴰ (longest p now x h) (ends p now x)
unfolding longest ends
longest_drops p now x h = by_test (due p now x)
  where
    by_test :
        (b : Bool) →
        (cond b 0 (longest_as (class_of p) p (tick now) h) ≡ h) ⊎
        Memᴰ (cond b 0 (longest_as (class_of p) p (tick now) h))
        (cond b (0 ∷ []) (ends_as (class_of p) p (tick now)))
    by_test true = inr (Memᴰ.head refl)
    by_test false = drops_as (class_of p) p (tick now) h
