-- "The longest step of at most h that the part accepts" (document 01, "One advance") is what `longest` gives, for a
-- part in good order: it is at most h, the part accepts it, and no longer step of at most h is accepted. The idea, for
-- a drive whose d at h is neither 0 nor a span: a step of at most h adds at most d, so one that is accepted adds at
-- most the largest of 0 and the spans below d, and `last_adding` is the last that adds as much. Assumes nothing.
use Rattle.std.specs.Prelude.{ℕ, ◌+◌, ◌*◌, ◌/◌, ◌≤◌, ◌<◌, ◌≡◌, refl, Bool, true, false, cond, ◌≢◌, ◌⊎◌, eqb}
use Rattle.std.proofs.Common.{arith, eq-or-lt_of_le, ◌∙◌, sym, inl, inr, ⊎_elim, eqb-true, eq-eqb}
use Rattle.std.proofs.Math.Nat.{lt-div-mul-add}
use Rattle.std.proofs.lemmas.Bool.{false≢true}
use Rattle.std.proofs.Math.Logic.{⊎_map}
use mathlib.Core.List.Memᴰ
use mathlib.Core.List.{List, Memᴰ}
use Rattle.machine.specs.declared.time.Point.{Point}
use Rattle.machine.specs.declared.signal.Signal.{Signal}
use Rattle.machine.specs.declared.part.Part.{Part}
use Rattle.machine.specs.Lists.{member}
use Rattle.machine.specs.Time.{tick, gained, local_count}
use Rattle.machine.specs.Kind.{period}
use Rattle.machine.specs.Step.{gain_of}
use Rattle.machine.specs.Accept.{Class, waiting, delaying, detecting, driving, free, class_of, due, next_multiple}
use Rattle.machine.specs.Accept.{AcceptsAs, Accepts, allowed, largest_below, last_adding, longest_as, longest}
use Rattle.laws.specs.Bools.{or_cases, or_left, or_right}
use Rattle.laws.specs.ListLaws.{member_in, in_member}
use Rattle.laws.specs.Numbers.{div_grows}
use Rattle.ask_laws.specs.Spans.{added, last_adding_adds, last_adding_most, last_adding_within, largest_below_is}

-- a part is in good order at tick t: its ratio is positive, its local count is floor(t / r), and where it waits for
-- multiples of P that is positive
pub record Fit (t : ℕ) (p : Part) : Type 0 where
  pub ratio : 0 < p.ratio
  pub local : p.state.local.0 ≡ t / p.ratio
  pub period : class_of p ≡ waiting → 0 < period p

-- of the steps of at most h, l is the longest that is accepted
record IsLongest (accepted : ℕ → Type 0) (h l : ℕ) : Type 0 where
  within : l ≤ h
  itself : accepted l
  most : (j : ℕ) → j ≤ h → accepted j → j ≤ l

-- where h itself is accepted, it is the longest
whole_longest : {accepted : ℕ → Type 0} {h : ℕ} → accepted h → IsLongest accepted h h
whole_longest here = record { within = omega arith; itself = here; most = λ j few a. few }

-- a drive may add d local ticks: d is 0 or a span
abbrev Allowed : List ℕ → ℕ → Type 0
Allowed spans d = (d ≡ 0) ⊎ Memᴰ d spans

-- what the test of it shows
allowed_is : (spans : List ℕ) (d : ℕ) → allowed spans d ≡ true → Allowed spans d
unfolding allowed
allowed_is spans d h = ⊎_map (eqb-true d 0) (member_in d spans) (or_cases (eqb d 0) (member d spans) h)

-- and back: a number that is 0 or a span passes the test
is_allowed : (spans : List ℕ) (d : ℕ) → Allowed spans d → allowed spans d ≡ true
unfolding allowed
is_allowed spans d (inl e) = or_left (eqb d 0) (member d spans) (eq-eqb d 0 e)
is_allowed spans d (inr m) = or_right (eqb d 0) (member d spans) (in_member d spans m)

-- where d fails the test it is neither 0 nor a span
not_allowed : (spans : List ℕ) (d : ℕ) → allowed spans d ≡ false → Allowed spans d → ⊥
not_allowed spans d over one = false≢true (sym over ∙ is_allowed spans d one)

-- where d fails the test, what is at most d and 0 or a span is at most the largest of these below d
allowed_most :
    (spans : List ℕ) (d a : ℕ) → allowed spans d ≡ false → a ≤ d → Allowed spans a → a ≤ largest_below spans d
allowed_most spans d a over few one = reached (eq-or-lt_of_le few) one
  where
    reached : (a ≡ d) ⊎ (a < d) → Allowed spans a → a ≤ largest_below spans d
    reached (inl e) one = absurd (not_allowed spans d over (rw e at one))
    reached (inr p) (inl e) = omega arith
    reached (inr p) (inr m) = (largest_below_is spans d).most a m p

-- a drive's longest step, by its spans, ratio and tick
drive_longest :
    (spans : List ℕ) (r t h : ℕ) → 0 < r →
    IsLongest (λ j. Allowed spans (added r t j)) h
    (cond (allowed spans (added r t h)) h (last_adding r t (largest_below spans (added r t h))))
drive_longest spans r t h positive = by_test (allowed spans (added r t h)) refl
  where
    v : ℕ
    v = largest_below spans (added r t h)

    by_test :
        (b : Bool) → allowed spans (added r t h) ≡ b →
        IsLongest (λ j. Allowed spans (added r t j)) h (cond b h (last_adding r t v))
    by_test true e = whole_longest (allowed_is spans (added r t h) e)
    by_test false e =
        let some : added r t h ≢ 0 = λ z. not_allowed spans (added r t h) e (inl z) in
        let below : v < added r t h = (largest_below_is spans (added r t h)).below (omega arith) in
        record {
          within = last_adding_within r t v positive h below;
          itself = rw (last_adding_adds r t v positive)
              (Memᴰ.cases_cons (largest_below_is spans (added r t h)).among);
          most =
              λ j few one.
              let earlier : (t + j) / r ≤ (t + h) / r = div_grows r (t + j) (t + h) (omega arith) in
              last_adding_most r t v positive j (allowed_most spans (added r t h) (added r t j) e (omega arith) one);
        }

-- the longest step, by the class of a part that is not due
longest_as_is :
    (c : Class) (p : Part) (t h : ℕ) → 0 < p.ratio → p.state.local.0 ≡ t / p.ratio → (c ≡ waiting → 0 < period p) →
    IsLongest (AcceptsAs c p t) h (longest_as c p t h)
unfolding AcceptsAs longest_as gain_of gained local_count next_multiple
longest_as_is waiting p t h ratio local positive =
    let later : t < t / period p * period p + period p = lt-div-mul-add (positive refl) in
    record { within = omega arith; itself = omega arith; most = λ j few one. omega arith }
longest_as_is delaying p t h ratio local positive = whole_longest tt
longest_as_is detecting p t h ratio local positive = whole_longest tt
longest_as_is driving p t h ratio local positive = rw local (drive_longest p.component.spans p.ratio t h ratio)
longest_as_is free p t h ratio local positive = whole_longest tt

-- what `longest` gives is the longest, for a part that is due, which accepts 0 only, and for another
longest_is : (p : Part) (now : Point) (x : Signal) (h : ℕ) → Fit (tick now) p →
    IsLongest (Accepts p now x) h (longest p now x h)
unfolding Accepts longest
longest_is p now x h fit =
    by_test (due p now x) refl (longest_as_is (class_of p) p (tick now) h fit.ratio fit.local fit.period)
  where
    by_test :
        (b : Bool) → due p now x ≡ b →
        IsLongest (AcceptsAs (class_of p) p (tick now)) h (longest_as (class_of p) p (tick now) h) →
        IsLongest (Accepts p now x) h (cond b 0 (longest_as (class_of p) p (tick now) h))
    by_test true e other =
        record {
          within = omega arith;
          itself = inl refl;
          most = λ j few. ⊎_elim (λ z. omega arith) (λ one. absurd (false≢true (sym one.0 ∙ e)));
        }
    by_test false e other =
        record {
          within = other.within;
          itself = inr (e, other.itself);
          most = λ j few. ⊎_elim (λ z. omega arith) (λ one. other.most j few one.1);
        }

-- it is at most h
pub longest_within : (p : Part) (now : Point) (x : Signal) (h : ℕ) → Fit (tick now) p → longest p now x h ≤ h
longest_within p now x h fit = (longest_is p now x h fit).within

-- the part accepts it
pub longest_accepted : (p : Part) (now : Point) (x : Signal) (h : ℕ) → Fit (tick now) p →
    Accepts p now x (longest p now x h)
longest_accepted p now x h fit = (longest_is p now x h fit).itself

-- no step of at most h that the part accepts is longer
pub longest_most :
    (p : Part) (now : Point) (x : Signal) (h : ℕ) → Fit (tick now) p → (j : ℕ) → j ≤ h → Accepts p now x j →
    j ≤ longest p now x h
longest_most p now x h fit = (longest_is p now x h fit).most
