-- `put_fitting` puts one part after the other.
use Prim.Native.Nat.{ℕ, ◌≤◌}
use native.Mathlib.Omega.{arith}
use mathlib.Core.Path.{◌≡◌, subst}
use lib.ListN.{length}
use Rattle.words_transfer.specs.ModelPut.{PutFirst, put_more, model_put}
use Rattle.words_transfer.proofs.intake.put_fitting.Goals as goal

pub loop-i-preserved : goal.loop-i-preserved
loop-i-preserved c =
    put_more _ c.loop-i.i _ _ _ _ _ _ (omega (arith, c.loop-i-test.true)) c.loop-i.invariant
    c.put_component.ensures c.put_state.ensures

pub returns-clause-model_put : goal.returns-clause-model_put
returns-clause-model_put c =
    let loop = c.loop-i in
    let m = c.args.m in
    let done : loop.i ≡ m.count = omega arith in
    let orders : m.count ≤ length m.order = omega arith in
    let parts : m.count ≤ length m.parts = omega arith in
    model_put m _ _ loop.table loop.state
    (subst (λ (n : ℕ). PutFirst m n c.put_header.new.table c.put_point.new.state loop.table loop.state) done
    loop.invariant)
    c.requires.few_parts orders parts (omega (arith, c.requires.table_there, c.put_header.ensures.size))
    (omega (arith, c.requires.state_there, c.put_point.ensures.size))
