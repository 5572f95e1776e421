-- The sums are those of the first i parts, which are no more than the table's.
use Rattle.std.proofs.Common.{◌≡◌, length}
use Rattle.machine.specs.TableBytes.{parts_bytes, wires_bytes}
use Rattle.words_codec.specs.Words.{tabulate}
use Rattle.save_call.specs.LentTable.{lent_component}
use Rattle.save_call.proofs.sweep.lengths_of.Given as goal

abbrev pub invariant-loop-i : goal.invariant-loop-i
invariant-loop-i l =
    (l.parts ≡ length (parts_bytes (tabulate (lent_component l.table) l.i))) ×
    (l.wires ≡ length (wires_bytes 0 (tabulate (lent_component l.table) l.i)))
