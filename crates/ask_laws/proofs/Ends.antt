-- A part has at most 9 ends: 0 and 8 spans of a drive. A part that is due has one.
use Rattle.std.specs.Prelude.{ℕ, ◌≤◌, length}
use Rattle.std.proofs.Common.{arith}
use mathlib.Core.List.{List, [], ◌∷◌}
use Rattle.machine.specs.declared.time.Point.{Point}
use Rattle.machine.specs.declared.signal.Signal.{Signal}
use Rattle.machine.specs.declared.part.Part.{Part}
use Rattle.machine.specs.Time.{tick}
use Rattle.machine.specs.Accept.{class_of, due}
use Rattle.laws.specs.Bools.{cond_cases}
use Rattle.ask_laws.specs.Ends.{ends, ends_as, ends_as_few}

-- a part with at most 8 spans has at most 9 ends
pub ends_few : (p : Part) (now : Point) (x : Signal) → length p.component.spans ≤ 8 → length (ends p now x) ≤ 9
unfolding ends
ends_few p now x few =
    cond_cases (λ (l : List ℕ). length l ≤ 9) (due p now x) (0 ∷ []) (ends_as (class_of p) p (tick now))
    (λ e. omega arith)
    (λ e. ends_as_few (class_of p) p (tick now) few)
