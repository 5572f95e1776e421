-- `source_placed` reads the mark of the source: the digit there, and none from 32 on.
use Prim.Native.Nat.{ℕ, zero, suc, ◌/◌, ◌%◌, ◌^◌}
use mathlib.Core.Path.{◌≡◌, refl}
use mathlib.Core.Bool.{not}
use lib.Dec.{eqb, eqb-suc-zero}
use borrow.Author.Tests.{le-leb}
use Rattle.machine.specs.Table.{source_placed}
use Rattle.laws.specs.WordMarks.{digit_mark, none_behind, mark_at}
use Rattle.order_place.proofs.source_placed.Goals as goal

-- the test that a digit is 0
clear_digit : (d : ℕ) → eqb d 0 ≡ not (digit_mark d)
clear_digit zero = refl
clear_digit (suc d) = eqb-suc-zero d

pub returns-in-Unwired : goal.returns-in-Unwired
unfolding source_placed
returns-in-Unwired c = rw c.in-Unwired.is

pub returns-then-k-ge32 : goal.returns-then-k-ge32
unfolding source_placed
returns-then-k-ge32 c =
    rw (c.in-From.is, none_behind 32 c.args.marks c.in-From.k c.if-k-ge32.true, le-leb _ _ c.if-k-ge32.true)

pub returns-else-k-ge32 : goal.returns-else-k-ge32
unfolding source_placed
returns-else-k-ge32 c =
    let w = c.args.marks in
    let k = c.in-From.k in
    rw (c.in-From.is, mark_at 32 w k c.if-k-ge32.false) (clear_digit (w / 2 ^ k % 2))
