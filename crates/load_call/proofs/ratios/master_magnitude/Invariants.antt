use mathlib.Core.Path.{◌≡◌}
use lib.ListN.{drop}
use Rattle.machine.specs.Time.{master_magnitude}
use Rattle.load_call.specs.FirstPlaces.{preferences_read}
use Rattle.load_call.proofs.ratios.master_magnitude.Given as goal

abbrev pub invariant-loop-i : goal.invariant-loop-i
invariant-loop-i l =
    master_magnitude l.default (preferences_read l.count l.parts) ≡
    master_magnitude l.magnitude (drop l.i (preferences_read l.count l.parts))
