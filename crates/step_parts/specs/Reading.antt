-- What a port reads, of the part that it is wired to alone, so that no function is handed a model for it; and that it
-- is the same once the places in no use are cut away. Assumes nothing.
use Rattle.std.specs.Prelude.{ℕ, ◌≤◌, ◌<◌, ◌≡◌, refl, List, map, length, take}
use Rattle.std.proofs.Common.{ap}
use Rattle.machine.specs.declared.signal.Signal.{Signal}
use Rattle.machine.specs.declared.signal.Signal.TheVariants.{Absent}
use Rattle.machine.specs.declared.part.Source.{Source}
use Rattle.machine.specs.declared.part.Source.TheVariants.{Unwired, From}
use Rattle.machine.specs.declared.part.Component.{Component}
use Rattle.machine.specs.declared.part.Part.{Part}
use Rattle.machine.specs.Model.{blank_part, part_at, reading, trimmed_part}
use Rattle.laws.specs.Partway.{mapped_at}

-- the number of the part that a port is wired to, 0 for an unwired port
unfoldable pub source_index : Source → ℕ
source_index Unwired = 0
source_index (From k) = k

-- what a port reads, `out` being the stored output of the part that it is wired to
unfoldable pub heard : Source → Signal → Signal
heard Unwired out = Absent
heard (From k) out = out

-- together they are a port's reading
pub heard_reading : (ps : List Part) (s : Source) → heard s (part_at ps (source_index s)).state.output ≡ reading ps s
unfolding source_index heard reading
heard_reading ps Unwired = refl
heard_reading ps (From k) = refl

-- a port is wired to one of the first n parts, or unwired
unfoldable pub SourceBelow : ℕ → Source → Type 0
SourceBelow n Unwired = Unit {0}
SourceBelow n (From k) = k < n

-- both ports of a component are
pub record WiredBelow (n : ℕ) (c : Component) : Type 0 where
  pub port0 : SourceBelow n c.port0
  pub port1 : SourceBelow n c.port1

-- the number that a port is wired to is below n, where there is a part
pub index_below : (n : ℕ) (s : Source) → 0 < n → SourceBelow n s → source_index s < n
unfolding source_index SourceBelow
index_below n Unwired some below = some
index_below n (From k) some below = below

-- the part k of the places in use, trimmed
pub part_trimmed : (n : ℕ) (ps : List Part) (k : ℕ) → k < n → n ≤ length ps →
    part_at (map trimmed_part (take n ps)) k ≡ trimmed_part (part_at ps k)
part_trimmed n ps k h l = mapped_at trimmed_part n ps k blank_part blank_part h l

-- a port reads the same of the places in use
pub reading_trimmed : (n : ℕ) (ps : List Part) (s : Source) → SourceBelow n s → n ≤ length ps →
    reading (map trimmed_part (take n ps)) s ≡ reading ps s
unfolding reading SourceBelow trimmed_part
reading_trimmed n ps Unwired below l = refl
reading_trimmed n ps (From k) below l = ap (λ (p : Part). p.state.output) (part_trimmed n ps k below l)
