use mathlib.Core.Path.{◌≡◌}
use lib.ListN.{drop}
use Rattle.load_call.specs.FirstPlaces.{components_read, periods_within}
use Rattle.load_call.proofs.ratios.periods_fit.Given as goal

abbrev pub invariant-loop-i : goal.invariant-loop-i
invariant-loop-i l =
    periods_within l.magnitude (components_read l.count l.parts) ≡
    periods_within l.magnitude (drop l.i (components_read l.count l.parts))
