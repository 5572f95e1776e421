use Rattle.std.proofs.Common.{◌≡◌}
use Rattle.load_table.proofs.Rowed.{rowed}
use Rattle.load_table.proofs.table.with_rows.Given as goal

abbrev pub invariant-loop-i : goal.invariant-loop-i
invariant-loop-i l = l.next ≡ rowed l.i l.initial.next l.rows
