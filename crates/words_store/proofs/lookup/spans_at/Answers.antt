-- `spans_at` reads one place after the other.
use native.Mathlib.Omega.{arith}
use mathlib.Core.Path.{refl}
use Rattle.words_codec.specs.Words.{tabulate}
use Rattle.words_codec.specs.Tables.{filled_more, filled_all}
use Rattle.words_store.specs.ModelIn.{stored_spans}
use Rattle.words_store.proofs.lookup.spans_at.Goals as goal

pub loop-j-init : goal.loop-j-init
unfolding tabulate
loop-j-init c = (omega arith, refl, refl)

pub loop-j-preserved : goal.loop-j-preserved
loop-j-preserved c = filled_more _ 8 c.loop-j.j _ _ c.loop-j.invariant (omega arith) refl

pub returns : goal.returns
unfolding stored_spans
returns c = filled_all _ 8 c.loop-j.j _ c.loop-j.invariant (omega arith)
