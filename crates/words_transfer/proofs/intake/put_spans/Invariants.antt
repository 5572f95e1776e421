-- The words of the first j places are written, and nothing else is changed.
use Prim.Native.Nat.{◌+◌, ◌*◌}
use Rattle.words_transfer.specs.TableRuns.{SpansFirst}
use Rattle.words_transfer.proofs.intake.put_spans.Given as goal

abbrev pub invariant-loop-j : goal.invariant-loop-j
invariant-loop-j l = SpansFirst (18 * l.i + 8) l.j l.c.span_count l.span-items l.initial.table l.table
