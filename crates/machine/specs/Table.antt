-- Document 01, "Time" and "Kinds of part", of a whole table: its ratios, what P comes to, the order of its parts, and
-- loops. Assumes nothing.
use Rattle.std.specs.Prelude.{ℕ, zero, suc, ◌*◌, ◌<◌, ◌≡◌, Bool, true, false, cond, not, ◌&&◌, ◌||◌, List, [], ◌∷◌}
use Rattle.std.specs.Prelude.{map, ◌⊎◌, length, get_or, set, replicate, leb}
use Rattle.std.proofs.Math.Option.{Option, some, none}
use Rattle.machine.specs.declared.part.Source.{Source}
use Rattle.machine.specs.declared.part.Source.TheVariants.{Unwired, From}
use Rattle.machine.specs.declared.part.Component.{Component}
use Rattle.machine.specs.declared.part.Part.{Part}
use Rattle.machine.specs.declared.model.Model.{Model}
use Rattle.machine.specs.Lists.{every}
use Rattle.machine.specs.Time.{last_tick, master_magnitude, ratio_of}
use Rattle.machine.specs.Kind.{direct0, direct1}
use Rattle.machine.specs.Model.{blank_component}

-- a table: its default magnitude and, by part number, each part's component, which is its kind, preference, operands,
-- spans and the source of each port
pub record Table : Type 0 where
  pub magnitude : ℕ
  pub parts : List Component

-- the component k of a table
abbrev pub component_at : List Component → ℕ → Component
component_at cs k = get_or cs k blank_component

-- the table that a model keeps
unfoldable pub table_of : Model → Table
table_of m = record { magnitude = m.magnitude; parts = map (λ (p : Part). p.component) m.parts }

-- "The master's magnitude" of a table
unfoldable pub magnitude_of : Table → ℕ
magnitude_of t = master_magnitude t.magnitude (map (λ (c : Component). c.preference) t.parts)

-- "A part's ratio", for a component of the table
unfoldable pub component_ratio : Table → Component → ℕ
component_ratio t c = ratio_of (magnitude_of t) c.preference

-- the ratios of all its parts, by number
unfoldable pub ratios : Table → List ℕ
ratios t = map (component_ratio t) t.parts

-- no P is above 10^18; else refusal 10, "some P above 10^18"
unfoldable pub periods_fit : Table → Bool
periods_fit t = every (λ (c : Component). leb (c.p * component_ratio t c) last_tick) t.parts

-- "those still unplaced are marks": a list of marks, by part number, true where the part is unplaced. A source is
-- placed where its mark is clear
unfoldable pub source_placed : List Bool → Source → Bool
source_placed marks Unwired = true
source_placed marks (From k) = not (get_or marks k false)

-- the direct sources of a component are placed
unfoldable pub ready : List Bool → Component → Bool
ready marks c =
    (not (direct0 c.kind) || source_placed marks c.port0) &&
    (not (direct1 c.kind) || source_placed marks c.port1)

-- "the lowest mark whose direct sources are placed": the lowest such part from number k on, cs being the components
-- from k on
unfoldable pub lowest_ready : List Bool → ℕ → List Component → Option ℕ
lowest_ready marks k [] = none
lowest_ready marks k (c ∷ cs) =
    let rest = lowest_ready marks (suc k) cs in
    cond (get_or marks k false && ready marks c) (some k) rest

-- what is placed once a next part is found, or is not
abbrev pub next_part : Option ℕ → (ℕ → List ℕ) → List ℕ
next_part none on = []
next_part (some k) on = k ∷ on k

-- the parts in the order in which they are placed, at most n of them; it ends early where no part is ready
unfoldable pub placed : ℕ → List Component → List Bool → List ℕ
placed zero cs marks = []
placed (suc n) cs marks = next_part (lowest_ready marks 0 cs) (λ k. placed n cs (set marks k false))

-- "the part order that loading gave": at first all parts are marked
unfoldable pub part_order : List Component → List ℕ
part_order cs = placed (length cs) cs (replicate (length cs) true)

-- whether the order has all parts; where it has not, no unplaced part was ready, and "a loop exists": refusal 11
unfoldable pub ordered : List Component → Bool
ordered cs = leb (length cs) (length (part_order cs))

-- a wire from part i into a direct port of part k
abbrev pub DirectWire : List Component → ℕ → ℕ → Type 0
DirectWire cs i k =
    (k < length cs) ×
    (((direct0 (component_at cs k).kind ≡ true) × ((component_at cs k).port0 ≡ From i)) ⊎
    ((direct1 (component_at cs k).kind ≡ true) × ((component_at cs k).port1 ≡ From i)))

-- a chain of such wires, from part i through the parts of the list, in order, to part k
abbrev pub Chained : List Component → ℕ → List ℕ → ℕ → Type 0
Chained cs i [] k = DirectWire cs i k
Chained cs i (j ∷ js) k = DirectWire cs i j × Chained cs j js k

-- "A loop is a closed chain of wires, each into a direct port": from part i through js back to i
abbrev pub Loop : List Component → Type 0
Loop cs = (i : ℕ) × (js : List ℕ) × Chained cs i js i
