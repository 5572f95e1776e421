-- `recalled` takes one part's state after the other.
use Prim.Native.Nat.{ℕ}
use native.Mathlib.Omega.{arith}
use mathlib.Core.Path.{◌≡◌, subst}
use Rattle.machine.specs.Model.{with_parts}
use Rattle.words_transfer.specs.Recalled.{RecalledFirst, recalled_all}
use Rattle.words_transfer.proofs.recall.recalled.Goals as goal

pub returns : goal.returns
returns c =
    let m = c.args.m in
    let ss = c.args.state.now in
    let now = c.point_of-next.result in
    let next = c.loop-i.next in
    let done : c.loop-i.i ≡ m.count = omega arith in
    recalled_all m now ss next c.point_of-next.ensures
    (subst (λ (n : ℕ). RecalledFirst (with_parts m now m.parts) ss n next) done c.loop-i.invariant)
    (omega arith)
