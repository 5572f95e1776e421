-- Any direct sources are those of some components, so that what `follows` promises of all components with its sources
-- is promised of some: adders, both of whose ports are direct. Assumes nothing.
use Rattle.std.specs.Prelude.{◌≡◌, refl, List, [], ◌∷◌, map, pos}
use Rattle.std.proofs.Common.{ap}
use Rattle.machine.specs.declared.part.Component.{Component}
use Rattle.machine.specs.declared.part.Kind.TheVariants.{Adder}
use Rattle.order_place.specs.declared.Direct.{Direct}
use Rattle.order_place.specs.Direct.{direct_of}

-- an adder with these sources
adder_of : Direct → Component
adder_of d =
    record {
      kind = Adder;
      preference = 0;
      a = pos 0;
      b = pos 0;
      p = 0;
      span_count = 0;
      spans = [];
      port0 = d.port0;
      port1 = d.port1;
    }

-- they are its direct sources
of_adders : (ds : List Direct) → map direct_of (map adder_of ds) ≡ ds
unfolding direct_of adder_of
of_adders [] = refl
of_adders (d ∷ ds) = ap (λ (l : List Direct). d ∷ l) (of_adders ds)

-- so there are components with any direct sources
pub sourced : (ds : List Direct) → (cs : List Component) × (map direct_of cs ≡ ds)
sourced ds = (map adder_of ds, of_adders ds)
