-- At most 9 ends a part lie below any step: the bound of the potential that rounds use up.
use Prim.Native.Nat.{ℕ, ◌*◌, ◌≤◌}
use Rattle.std.proofs.Common.{le_trans}
use Rattle.std.specs.Prelude.{length}
use mathlib.Core.List.{flat_map}
use Rattle.machine.specs.declared.model.Model.{Model}
use Rattle.machine.specs.Model.{blank_part, part_at, reading0}
use Rattle.laws.specs.ListLaws.{flatMap_few}
use Rattle.laws.specs.Below.{below_few}
use Rattle.ask_laws.proofs.Ends.{ends_few}
use Rattle.ask_laws.specs.Rounds.{AllFew, ends_in, potential}

-- there are at most 9 ends a part
pub potential_bound : (m : Model) → AllFew m → (h : ℕ) → potential m h ≤ 9 * length m.parts
unfolding potential
potential_bound m few h =
    le_trans (below_few h (flat_map (ends_in m) m.parts))
    (flatMap_few (ends_in m) m.parts blank_part 9
    (λ i within.
    let p = part_at m.parts i in
    ends_few p m.point (reading0 m.parts p) (few i within)))
