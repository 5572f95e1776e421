-- What placing promises, and the part order by the direct sources of the parts alone, with the law that it is the
-- machine's. Assumes nothing.
use Rattle.std.specs.Prelude.{ℕ, zero, suc, ◌-◌, ◌≤◌, ◌≡◌, refl, Bool, true, false, not, ◌&&◌, ◌||◌, List, [], ◌∷◌}
use Rattle.std.specs.Prelude.{map, length, take, drop, set, replicate}
use Rattle.std.proofs.Common.{sym, ap, ap₂, ◌∙◌}
use Rattle.std.proofs.lemmas.Simd.{map-map}
use Rattle.std.proofs.Math.Option.{Option, some, none}
use Rattle.std.proofs.lemmas.List.{length-map}
use Rattle.machine.specs.declared.part.Source.{Source}
use Rattle.machine.specs.declared.part.Component.{Component}
use Rattle.machine.specs.Kind.{direct0, direct1}
use Rattle.machine.specs.Model.{most_parts, trimmed_component}
use Rattle.machine.specs.Table.{source_placed, ready, lowest_ready, next_part, placed, part_order}
use Rattle.order_place.specs.declared.Direct.{Direct}
use Rattle.order_place.specs.declared.Placed.{Placed}
use Rattle.order_place.specs.Direct.{direct_source, direct_of, both_placed, lowest_among}

-- the machine's `placed` by direct sources: the parts in the order in which they are placed, at most n of them
unfoldable pub placed_by : ℕ → List Direct → List Bool → List ℕ
placed_by zero ds marks = []
placed_by (suc n) ds marks = next_part (lowest_among marks marks 0 ds) (λ k. placed_by n ds (set marks k false))

-- the machine's `part_order` by direct sources: at first all parts are marked
unfoldable pub order_by : List Direct → List ℕ
order_by ds = placed_by (length ds) ds (replicate (length ds) true)

-- the parts placed are the part order of the first `count` components, and 0 is in the places after them
pub record InOrder (parts : List Component) (count : ℕ) (r : Placed) : Type 0 where
  pub is : take r.count r.order ≡ part_order (take count parts)
  pub counted : r.count ≡ length (part_order (take count parts))
  pub few : r.count ≤ count
  pub rest : drop r.count r.order ≡ replicate (most_parts - r.count) 0

-- a port keeps no part waiting where its direct source is placed
port_placed : (marks : List Bool) (direct : Bool) (s : Source) →
    (not direct || source_placed marks s) ≡ source_placed marks (direct_source direct s)
unfolding source_placed
port_placed marks true s = refl
port_placed marks false s = refl

-- a component is ready where both its direct sources are placed
pub ready_direct : (marks : List Bool) (c : Component) → ready marks c ≡ both_placed marks (direct_of c)
unfolding ready both_placed direct_of
ready_direct marks c =
    ap₂ ◌&&◌ (port_placed marks (direct0 c.kind) c.port0) (port_placed marks (direct1 c.kind) c.port1)

-- the machine's lowest part that is ready is the lowest among the unplaced parts
lowest_direct : (marks : List Bool) (k : ℕ) (cs : List Component) →
    lowest_ready marks k cs ≡ lowest_among marks marks k (map direct_of cs)
unfolding lowest_ready lowest_among
lowest_direct marks k [] = refl
lowest_direct marks k (c ∷ cs) = rw (ready_direct marks c, lowest_direct marks (suc k) cs)

-- what follows a part that is found depends on what is placed after it alone
next_same : (o : Option ℕ) (on on' : ℕ → List ℕ) → ((k : ℕ) → on k ≡ on' k) → next_part o on ≡ next_part o on'
next_same none on on' same = refl
next_same (some k) on on' same = ap (λ ks. k ∷ ks) (same k)

-- the machine's parts in order are those by direct sources
placed_direct : (n : ℕ) (cs : List Component) (marks : List Bool) →
    placed n cs marks ≡ placed_by n (map direct_of cs) marks
unfolding placed placed_by
placed_direct zero cs marks = refl
placed_direct (suc n) cs marks =
    rw (lowest_direct marks 0 cs)
    (next_same (lowest_among marks marks 0 (map direct_of cs)) _ _ (λ k. placed_direct n cs (set marks k false)))

-- the machine's part order goes by the direct sources alone
pub order_direct : (cs : List Component) → part_order cs ≡ order_by (map direct_of cs)
unfolding part_order order_by
order_direct cs = rw (length-map cs direct_of) (placed_direct (length cs) cs (replicate (length cs) true))

-- so components have the order that they have with their unused places for spans cut away
pub order_trimmed : (cs : List Component) → part_order (map trimmed_component cs) ≡ part_order cs
unfolding direct_of trimmed_component
order_trimmed cs =
    order_direct (map trimmed_component cs) ∙ ap order_by (map-map direct_of trimmed_component cs) ∙
    sym (order_direct cs)
