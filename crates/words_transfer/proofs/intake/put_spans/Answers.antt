-- `put_spans` writes one place after the other.
use native.Mathlib.Omega.{arith}
use Prim.Native.Nat.{ℕ, ◌+◌, ◌*◌}
use mathlib.Core.Path.{◌≡◌, subst}
use Rattle.words_transfer.specs.TableRuns.{SpansFirst, spans_put}
use Rattle.words_transfer.proofs.intake.put_spans.Goals as goal

pub returns : goal.returns
returns c =
    let i = c.args.i in
    let part = c.args.c.now in
    let table = c.loop-j.table in
    let done : c.loop-j.j ≡ 8 = omega arith in
    spans_put i part.span_count part.spans c.args.table.now table
    (subst (λ (n : ℕ). SpansFirst (18 * i + 8) n part.span_count part.spans c.args.table.now table) done
    c.loop-j.invariant)
    (omega arith)
