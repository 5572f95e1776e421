-- `put_decimal`, which calls itself, ends by the number itself, of which a hundredth part is less. It puts the digits
-- of `decimal`: those of the hundredth part, by its own promise, and the last two after them. Each goal is shown at a
-- measure t: the call of itself is below t.
use Prim.Native.Nat.{ℕ, ◌+◌, ◌/◌, ◌%◌, ◌≤◌, ◌<◌}
use native.Mathlib.Omega.{arith}
use mathlib.Core.Path.{◌≡◌, sym, subst}
use mathlib.Core.List.{List, [], ◌∷◌}
use lib.ListN.{length}
use mir.Syntax.{w64}
use mir.Val.{Fits}
use Rattle.machine.specs.Rehearse.{decimal}
use Rattle.write_bytes.specs.Put.{Put}
use Rattle.write_laws.specs.Decimal.{one_digit, more_digits, few_digits, some_digits, tenth_digits, hundredth_digits}
use Rattle.write_bytes.specs.Pieces.{put_then, put_as}
use Rattle.write_lines.proofs.text.+put_decimal.Goals as goal

-- a number's only digit, its last digit after those of its tenth part, and its last two after those of its hundredth
module _ {n b : ℕ} (digit : b ≡ 48 + n % 10) (fits : Fits w64 n) where
  few : length (decimal n) ≤ 20
  few = few_digits 19 n (omega arith)

  only : {at p : ℕ} {l₀ l₁ : List ℕ} → n < 10 → Put 1 (b ∷ []) at l₀ l₁ p → Put 20 (decimal n) at l₀ l₁ p
  only small put = put_as put (rw digit (sym (one_digit n small))) few

  last : {at p q : ℕ} {l₀ l₁ l₂ : List ℕ} → 10 ≤ n → Put 20 (decimal (n / 10)) at l₀ l₁ p → Put 1 (b ∷ []) p l₁ l₂ q →
      Put 20 (decimal n) at l₀ l₂ q
  last large tenth put = put_as (put_then tenth put) (rw digit (sym (more_digits n large))) few

-- the digits of a tenth part, by those of the hundredth
tenth_of : {n b : ℕ} → b ≡ 48 + n / 10 % 10 → Fits w64 n → 100 ≤ n → {at p q : ℕ} {l₀ l₁ l₂ : List ℕ} →
    Put 20 (decimal (n / 100)) at l₀ l₁ p → Put 1 (b ∷ []) p l₁ l₂ q → Put 20 (decimal (n / 10)) at l₀ l₂ q
tenth_of {n = n} digit fits large {at = at} {p = p} {l₀ = l₀} {l₁ = l₁} hundredth put =
    let same : n / 100 ≡ n / 10 / 10 = omega arith in
    last digit (omega arith) (omega arith) (subst (λ (k : ℕ). Put 20 (decimal k) at l₀ l₁ p) same hundredth) put

pub put_byte-requires : goal.put_byte-requires
put_byte-requires t c = omega (arith, some_digits c.args.n)

pub returns-then-n-lt10 : goal.returns-then-n-lt10
returns-then-n-lt10 t c = only c.last_digit.ensures c.ranges.n c.if-n-lt10.true c.put_byte.ensures

pub put_byte-next-requires : goal.put_byte-next-requires
put_byte-next-requires t c = omega (arith, some_digits c.args.n)

pub put_byte-requires-then-n-lt100 : goal.put_byte-requires-then-n-lt100
put_byte-requires-then-n-lt100 t c =
    omega (arith, tenth_digits c.args.n c.if-n-lt10.false, some_digits (c.args.n / 10))

pub returns-then-n-lt100 : goal.returns-then-n-lt100
returns-then-n-lt100 t c =
    last c.last_digit-then-n-lt100-2.ensures c.ranges.n c.if-n-lt10.false
    (only c.last_digit-then-n-lt100.ensures (omega (arith, c.ranges.n)) (omega (arith, c.if-n-lt100.true))
    c.put_byte-next.ensures)
    c.put_byte-then-n-lt100.ensures

pub put_decimal-next-requires : goal.put_decimal-next-requires
put_decimal-next-requires t c = (omega arith, omega (arith, hundredth_digits c.args.n c.if-n-lt100.false))

pub put_byte-next-requires-2 : goal.put_byte-next-requires-2
put_byte-next-requires-2 t c = omega (arith, hundredth_digits c.args.n c.if-n-lt100.false)

pub put_byte-requires-2 : goal.put_byte-requires-2
put_byte-requires-2 t c = omega (arith, hundredth_digits c.args.n c.if-n-lt100.false)

pub returns : goal.returns
returns t c =
    last c.last_digit-3.ensures c.ranges.n (omega (arith, c.if-n-lt100.false))
    (tenth_of c.last_digit-2.ensures c.ranges.n c.if-n-lt100.false c.put_decimal-next.ensures
    c.put_byte-next-2.ensures)
    c.put_byte-2.ensures
