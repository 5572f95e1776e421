-- The points that a list of steps leads to, and a pulse's points among them. Nothing here knows a model: of a pulse
-- with period P it is enough that every step waits for the multiples of P. Then none passes over (k × P, 0), since none
-- leads past the next multiple of P; and there the pulse is due, so that the next step is 0 and leads to (k × P, 1).
-- Assumes nothing.
use Rattle.std.specs.Prelude.{ℕ, zero, suc, ◌+◌, ◌*◌, ◌/◌, ◌%◌, ◌≤◌, ◌<◌, ◌≡◌, Bool, true, false, ◌⊎◌, eqb, ltb}
use Rattle.std.proofs.Common.{arith, mul-zero, div-lt_iff_lt-mul, mul-le-mul_right, ap, sym, ◌∙◌, true≢false, inl}
use Rattle.std.proofs.Common.{inr, ltb-true, ltb-false, lt-ltb, eq-eqb, ne_eqb}
use Rattle.std.proofs.Math.Nat.{mul-mod_left}
use Rattle.std.proofs.lemmas.Bool.{false≢true}
use mathlib.Core.List.{List, [], ◌∷◌, Memᴰ}
use Rattle.machine.specs.declared.time.Point.{Point}
use Rattle.std.specs.declared.cmp.Ordering.{Ordering}
use Rattle.std.specs.declared.cmp.Ordering.TheVariants.{Less, Equal, Greater}
use Rattle.machine.specs.Time.{point, tick, led_to, compared}
use Rattle.machine.specs.Kind.{positive_multiple, at_multiple}
use Rattle.machine.specs.Accept.{next_multiple}
use Rattle.machine.specs.WholeList.{sum}
use Rattle.laws.specs.Bools.{either, and_intro, cond_false}
use Rattle.sound_laws.specs.Stepped.{led_tick}

-- the point that steps lead to, in order, and the points on the way, the last among them
unfoldable pub point_after : Point → List ℕ → Point
point_after p [] = p
point_after p (h ∷ hs) = point_after (led_to p h) hs

unfoldable pub points_after : Point → List ℕ → List Point
points_after p [] = []
points_after p (h ∷ hs) = led_to p h ∷ points_after (led_to p h) hs

-- where a step above 0 leads
led_on : (p : Point) (h : ℕ) → 0 < h → led_to p h ≡ point (tick p + h) 0
unfolding led_to
led_on p h up = cond_false (eqb h 0) (point (tick p) (p.n + 1)) (point (tick p + h) 0) (ne_eqb h 0 (omega arith))

-- steps add their sum to the tick
pub after_tick : (p : Point) (hs : List ℕ) → tick (point_after p hs) ≡ tick p + sum hs
unfolding point_after sum
after_tick p [] = omega arith
after_tick p (h ∷ hs) = let there = after_tick (led_to p h) hs in omega (arith, led_tick p h)

-- a step of h from the point p waits for the multiples of P: it is 0, or p is not at one, and h leads to the next one
-- or less far
abbrev pub WaitsAt : ℕ → Point → ℕ → Type 0
WaitsAt P p h = (h ≡ 0) ⊎ ((at_multiple P p ≡ false) × (tick p + h ≤ next_multiple P (tick p)))

-- so does each of a list of steps, where it is made
abbrev pub Waits : ℕ → Point → List ℕ → Type 0
Waits P p [] = Unit {0}
Waits P p (h ∷ hs) = WaitsAt P p h × Waits P (led_to p h) hs

-- the next multiple of P after t is no later than any other one after t
next_least : (P k t : ℕ) → t < k * P → next_multiple P t ≤ k * P
unfolding next_multiple
next_least zero k t h = absurd (omega (arith, mul-zero k))
next_least (suc P) k t h =
    let pos : 0 < suc P = omega arith in
    let below : t / suc P < k = (div-lt_iff_lt-mul pos).1 h in
    mul-le-mul_right (suc P) (omega arith)

-- a step that waits, from before k × P, leads to before it or to (k × P, 0)
up_to : (P k : ℕ) (p : Point) (h : ℕ) → WaitsAt P p h → tick p < k * P →
    (tick (led_to p h) < k * P) ⊎ (led_to p h ≡ point (k * P) 0)
up_to P k p h (inl e) before = inl (omega (arith, led_tick p h))
up_to P k p h (inr w) before = near (either (ltb (tick p + h) (k * P)))
  where
    near : (ltb (tick p + h) (k * P) ≡ true) ⊎ (ltb (tick p + h) (k * P) ≡ false) →
        (tick (led_to p h) < k * P) ⊎ (led_to p h ≡ point (k * P) 0)
    near (inl below) = inl (omega (arith, led_tick p h, ltb-true (tick p + h) (k * P) below))
    near (inr past) =
        let far : k * P ≤ tick p + h = ltb-false (tick p + h) (k * P) past in
        let there : tick p + h ≡ k * P = omega (arith, next_least P k (tick p) before) in
        inr (led_on p h (omega arith) ∙ ap (λ (t : ℕ). point t 0) there)

-- a pulse is due at (k × P, 0)
due_there : (P k : ℕ) → 0 < k * P → at_multiple P (point (k * P) 0) ≡ true
unfolding at_multiple positive_multiple
due_there P k up = and_intro (ltb 0 (k * P)) (eqb (k * P % P) 0) (lt-ltb 0 (k * P) up)
    (eq-eqb (k * P % P) 0 (mul-mod_left k P))

-- from (k × P, 0) a step that waits leads to (k × P, 1)
then_one : (P k h : ℕ) → 0 < k * P → WaitsAt P (point (k * P) 0) h → led_to (point (k * P) 0) h ≡ point (k * P) 1
unfolding led_to
then_one P k h up (inl e) = rw e
then_one P k h up (inr w) = absurd (true≢false (sym (due_there P k up) ∙ w.0))

-- steps that wait, from before k × P to k × P or further, lead through (k × P, 0)
pub reached_point : (P k : ℕ) (p : Point) (hs : List ℕ) → Waits P p hs → tick p < k * P →
    k * P ≤ tick (point_after p hs) →
    Memᴰ (point (k * P) 0) (points_after p hs)
unfolding point_after points_after
reached_point P k p [] w before past = absurd (omega arith)
reached_point P k p (h ∷ hs) w before past =
    before_or_there (up_to P k p h w.0 before) (λ b. reached_point P k (led_to p h) hs w.1 b past)
  where
    before_or_there : (tick (led_to p h) < k * P) ⊎ (led_to p h ≡ point (k * P) 0) →
        (tick (led_to p h) < k * P → Memᴰ (point (k * P) 0) (points_after (led_to p h) hs)) →
        Memᴰ (point (k * P) 0) (led_to p h ∷ points_after (led_to p h) hs)
    before_or_there (inl b) later = Memᴰ.tail (later b)
    before_or_there (inr e) later = Memᴰ.head (sym e)

-- whether a comparison is `Less`
abbrev is_earlier : Ordering → Bool
is_earlier Less = true
is_earlier Equal = false
is_earlier Greater = false

-- a point that is earlier than another is so by its tick, or at the same tick by its microstep
earlier_by : (q p : Point) → compared q p ≡ Less → (tick q < tick p) ⊎ ((tick q ≡ tick p) × (q.n < p.n))
unfolding compared
earlier_by q p e = by_tick (either (ltb (tick q) (tick p))) (either (ltb (tick p) (tick q)))
    (either (ltb q.n p.n)) (either (ltb p.n q.n))
  where
    by_tick :
        (ltb (tick q) (tick p) ≡ true) ⊎ (ltb (tick q) (tick p) ≡ false) → (ltb (tick p) (tick q) ≡ true) ⊎
        (ltb (tick p) (tick q) ≡ false) →
        (ltb q.n p.n ≡ true) ⊎ (ltb q.n p.n ≡ false) → (ltb p.n q.n ≡ true) ⊎
        (ltb p.n q.n ≡ false) →
        (tick q < tick p) ⊎ ((tick q ≡ tick p) × (q.n < p.n))
    by_tick (inl a) b c d = inl (ltb-true (tick q) (tick p) a)
    by_tick (inr a) (inl b) c d = absurd (false≢true (ap is_earlier (rw (a, b) at e)))
    by_tick (inr a) (inr b) (inl c) d =
        let left = ltb-false (tick q) (tick p) a in
        let right = ltb-false (tick p) (tick q) b in
        inr (omega arith, ltb-true q.n p.n c)
    by_tick (inr a) (inr b) (inr c) (inl d) = absurd (false≢true (ap is_earlier (rw (a, b, c, d) at e)))
    by_tick (inr a) (inr b) (inr c) (inr d) = absurd (false≢true (ap is_earlier (rw (a, b, c, d) at e)))

-- steps that wait, from before k × P, or from (k × P, 0), to a point later than (k × P, 0) lead through (k × P, 1)
pub passed_point : (P k : ℕ) (p : Point) (hs : List ℕ) → Waits P p hs → (tick p < k * P) ⊎ (p ≡ point (k * P) 0) →
    0 < k * P →
    compared (point (k * P) 0) (point_after p hs) ≡ Less → Memᴰ (point (k * P) 1) (points_after p hs)
unfolding point_after points_after
passed_point P k p [] w at up past = absurd (not_later at (earlier_by (point (k * P) 0) p past))
  where
    not_later : (tick p < k * P) ⊎ (p ≡ point (k * P) 0) → (k * P < tick p) ⊎ ((k * P ≡ tick p) × (0 < p.n)) → ⊥
    not_later (inl before) (inl later) = omega arith
    not_later (inl before) (inr same) = omega (arith, same.0)
    not_later (inr there) (inl later) = omega (arith, ap tick there)
    not_later (inr there) (inr same) = omega (arith, same.1, ap (λ (q : Point). q.n) there)
passed_point P k p (h ∷ hs) w (inl before) up past =
    Memᴰ.tail (passed_point P k (led_to p h) hs w.1 (up_to P k p h w.0 before) up past)
passed_point P k p (h ∷ hs) w (inr there) up past =
    Memᴰ.head (sym (ap (λ (q : Point). led_to q h) there ∙ then_one P k h up (rw there at w.0)))
