use Prim.Native.Nat.{◌≤◌}
use mathlib.Core.Path.{◌≡◌}
use mathlib.Core.List.{map, ◌++◌}
use lib.ListN.{take, drop}
use Rattle.load_call.specs.FirstPlaces.{first_by}
use Rattle.load_call.proofs.first.first_parts.Given as goal

abbrev pub invariant-loop-i : goal.invariant-loop-i
invariant-loop-i l = (l.i ≤ l.count) ×
    (l.all ≡ map (first_by l.magnitude) (take l.i l.parts) ++ drop l.i l.initial.all)
