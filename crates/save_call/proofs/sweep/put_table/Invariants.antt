-- The first i parts and their wires were put.
use Rattle.machine.specs.TableBytes.{parts_bytes, wires_bytes}
use Rattle.words_codec.specs.Words.{tabulate}
use Rattle.save_call.specs.LentTable.{lent_component}
use Rattle.save_call.proofs.TableSweep.{Sweep}
use Rattle.save_call.proofs.sweep.put_table.Given as goal

abbrev pub invariant-loop-i : goal.invariant-loop-i
invariant-loop-i l =
    Sweep 2 l.wires (parts_bytes (tabulate (lent_component l.table) l.i))
    (wires_bytes 0 (tabulate (lent_component l.table) l.i)) l.initial.out l.out l.at l.next
