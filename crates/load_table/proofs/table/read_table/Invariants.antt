use Rattle.std.proofs.Common.{◌-◌, length}
use Rattle.load_commands.specs.Progress.{reading_of}
use Rattle.load_table.specs.Stands.{Stands}
use Rattle.load_table.proofs.table.read_table.Given as goal

abbrev pub invariant-loop-step : goal.invariant-loop-step
invariant-loop-step l = Stands l.s l.at (reading_of l.progress l.rows)

abbrev pub decreases-loop-step : goal.decreases-loop-step
decreases-loop-step l = length l.s - l.at
