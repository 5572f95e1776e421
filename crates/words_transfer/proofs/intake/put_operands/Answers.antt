-- `put_operands` writes the six words one after another.
use native.Mathlib.Omega.{arith}
use mir.Syntax.{w64}
use mir.ValLaws.{to_z-of_z}
use borrow.Author.Rules.{rules}
use Rattle.words_codec.specs.Fields.{signed_limit, signed_same}
use Rattle.words_store.specs.WordsWritten.{written}
use Rattle.words_transfer.specs.TableRuns.{operands_put}
use Rattle.words_transfer.proofs.intake.put_operands.Goals as goal

pub returns : goal.returns
unfolding written
returns c =
    let p = c.args.c.now in
    let a = rw (to_z-of_z w64 p.a (search rules)) at c.encode-2.ensures in
    let b = rw (to_z-of_z w64 p.b (search rules)) at c.encode-3.ensures in
    operands_put c.args.table.now c.args.i p.kind p.preference p.a p.b p.p p.span_count _ _ _ c.requires
    c.encode.ensures.value (omega arith)
    (rw a.value (signed_same p.a a.fits)) (rw a.value (signed_limit p.a a.fits))
    (rw b.value (signed_same p.b b.fits)) (rw b.value (signed_limit p.b b.fits)) (omega arith)
    (omega arith)
