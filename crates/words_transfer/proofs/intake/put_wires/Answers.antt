-- `put_wires` writes the four words one after another.
use native.Mathlib.Omega.{arith}
use Rattle.words_codec.specs.Fields.{word_limit}
use Rattle.words_store.specs.WordsWritten.{written}
use Rattle.words_transfer.specs.TableRuns.{wires_put}
use Rattle.words_transfer.proofs.intake.put_wires.Goals as goal

pub returns : goal.returns
unfolding written
returns c =
    let p = c.args.p.now in
    let port0 = c.encode.ensures in
    let port1 = c.encode-2.ensures in
    let ratio = c.encode-3.ensures in
    rw ratio.value (
    wires_put c.args.table.now c.args.i p.component.port0 p.component.port1 p.ratio c.args.number _ _ c.requires
    port0.value port0.fits port1.value port1.fits (word_limit p.ratio ratio.fits) (omega arith)
    )
