-- The direct sources of a part, and the lowest part that is ready by them. Assumes nothing.
use Rattle.std.specs.Prelude.{ℕ, suc, Bool, true, false, cond, ◌&&◌, List, [], ◌∷◌, get_or}
use Rattle.std.specs.Prelude.{Option, Some, None}
use Rattle.std.proofs.Math.Option as math
use Rattle.machine.specs.declared.part.Source.{Source}
use Rattle.machine.specs.declared.part.Source.TheVariants.{Unwired}
use Rattle.machine.specs.declared.part.Component.{Component}
use Rattle.machine.specs.Kind.{direct0, direct1}
use Rattle.machine.specs.Table.{source_placed}
use Rattle.order_place.specs.declared.Direct.{Direct}

-- what a port is wired to if it is direct, else nothing
abbrev pub direct_source : Bool → Source → Source
direct_source true s = s
direct_source false s = Unwired

-- no direct sources, as after the last part
abbrev pub no_sources : Direct
no_sources = record { port0 = Unwired; port1 = Unwired }

-- the direct sources of a component
unfoldable pub direct_of : Component → Direct
direct_of c = record {
  port0 = direct_source (direct0 c.kind) c.port0;
  port1 = direct_source (direct1 c.kind) c.port1;
}

-- both sources are placed
unfoldable pub both_placed : List Bool → Direct → Bool
both_placed marks d = source_placed marks d.port0 && source_placed marks d.port1

-- the lowest candidate whose direct sources are placed, from number k on, ds being the direct sources of the parts from
-- k on
unfoldable pub lowest_among : (candidates marks : List Bool) → ℕ → List Direct → math.Option ℕ
lowest_among candidates marks k [] = math.none
lowest_among candidates marks k (d ∷ ds) =
    let rest = lowest_among candidates marks (suc k) ds in
    cond (get_or candidates k false && both_placed marks d) (math.some k) rest

-- what is found, as the code answers it
abbrev pub found_as : math.Option ℕ → Option ℕ
found_as math.none = None
found_as (math.some k) = Some k
