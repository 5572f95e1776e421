-- A table whose components are in the first places of an array: its components and their preferences one by one, as a
-- loop meets them; its periods; and its first parts. Assumes nothing.
use Rattle.std.specs.Prelude.{ℕ, ◌+◌, ◌*◌, ◌≤◌, ◌<◌, ◌≡◌, refl, Bool, true, ◌&&◌, get_or, replicate, drop, leb}
use Rattle.std.proofs.Common.{arith, ◌∙◌}
use Rattle.std.proofs.Math.Path.{sym, ap}
use mathlib.Core.List.{List, ◌++◌, map, map-map}
use Rattle.std.proofs.Math.ListN.{length, length-map, take}
use Rattle.machine.specs.declared.part.Component.{Component}
use Rattle.machine.specs.declared.part.Part.{Part}
use Rattle.machine.specs.Lists.{every}
use Rattle.machine.specs.Time.{last_tick, larger, master_magnitude, ratio_of}
use Rattle.machine.specs.Model.{most_parts, blank_component, trimmed_component, trimmed_part}
use Rattle.machine.specs.Table.{Table, component_at, magnitude_of, component_ratio, periods_fit}
use Rattle.machine.specs.Fresh.{first_state, first_part, first_parts}
use Rattle.laws.specs.ListLaws.{getD_map_in}
use Rattle.laws.specs.Loops.{every_on, every_end}
use Rattle.laws.specs.Partway.{mapped_at, mapped_front, mapped_length}
use Rattle.sound_laws.specs.Magnitude.{magnitude_on}
use Rattle.load_call.specs.Blank.{blank_place}

-- the components in the first `count` places, without their unused places for spans
unfoldable pub components_read : ℕ → List Component → List Component
components_read count parts = map trimmed_component (take count parts)

-- their preferences
unfoldable pub preferences_read : ℕ → List Component → List ℕ
preferences_read count parts = map (λ (c : Component). c.preference) (components_read count parts)

-- the table that they make with a default magnitude
unfoldable pub table_in : (magnitude count : ℕ) → List Component → Table
table_in magnitude count parts = record { magnitude = magnitude; parts = components_read count parts }

-- no P is above 10^18, by the master's magnitude
unfoldable pub periods_within : ℕ → List Component → Bool
periods_within magnitude cs = every (λ (c : Component). leb (c.p * ratio_of magnitude c.preference) last_tick) cs

-- the first part of a component, by the master's magnitude
unfoldable pub first_by : ℕ → Component → Part
first_by magnitude c = record { component = c; ratio = ratio_of magnitude c.preference; state = first_state c }

-- the places for parts with the first parts of the first `count` components in them; those after are blank
unfoldable pub first_places : (magnitude count : ℕ) → List Component → List Part
first_places magnitude count parts =
    map (first_by magnitude) (take count parts) ++ drop count (replicate most_parts blank_place)

-- by a table's own magnitude these are the machine's
pub periods_by : (t : Table) → periods_fit t ≡ periods_within (magnitude_of t) t.parts
unfolding periods_fit periods_within component_ratio
periods_by t = refl

pub first_parts_by : (t : Table) → first_parts t ≡ map (first_by (magnitude_of t)) t.parts
unfolding first_parts first_part first_by component_ratio
first_parts_by t = refl

module _ (count : ℕ) (parts : List Component) (few : count ≤ length parts) where
  -- as many components as places, and as many preferences
  pub components_count : length (components_read count parts) ≡ count
  unfolding components_read
  components_count = mapped_length trimmed_component count parts few

  pub preferences_count : length (preferences_read count parts) ≡ count
  unfolding preferences_read
  preferences_count = length-map (components_read count parts) (λ (c : Component). c.preference) ∙ components_count

  -- each component is that of its place
  component_in : (i : ℕ) → i < count →
      component_at (components_read count parts) i ≡ trimmed_component (component_at parts i)
  unfolding components_read
  component_in i h = mapped_at trimmed_component count parts i blank_component blank_component h few

  -- and each preference
  preference_in : (i : ℕ) → i < count → get_or (preferences_read count parts) i 0 ≡ (component_at parts i).preference
  unfolding preferences_read trimmed_component
  preference_in i h =
      let within : i < length (components_read count parts) = omega (arith, components_count) in
      getD_map_in (λ (c : Component). c.preference) (components_read count parts) i blank_component 0 within ∙
      ap (λ (c : Component). c.preference) (component_in i h)

  -- a loop's turn: the magnitude e with the preferences from i on takes that of place i
  pub preferences_on :
      (e i : ℕ) → i < count →
      master_magnitude e (drop i (preferences_read count parts)) ≡
      master_magnitude (larger e (component_at parts i).preference) (drop (i + 1) (preferences_read count parts))
  preferences_on e i h =
      let within : i < length (preferences_read count parts) = omega (arith, preferences_count) in
      magnitude_on e (preferences_read count parts) i within ∙
      ap (λ (q : ℕ). master_magnitude (larger e q) (drop (i + 1) (preferences_read count parts))) (preference_in i h)

  -- a loop's turn: the test of the periods from i on asks that of place i and those after it
  pub periods_on :
      (magnitude i : ℕ) → i < count →
      periods_within magnitude (drop i (components_read count parts)) ≡
      (leb ((component_at parts i).p * ratio_of magnitude (component_at parts i).preference) last_tick &&
      periods_within magnitude (drop (i + 1) (components_read count parts)))
  unfolding periods_within trimmed_component
  periods_on magnitude i h =
      let within : i < length (components_read count parts) = omega (arith, components_count) in
      every_on _ (components_read count parts) i blank_component within ∙ rw (component_in i h)

  -- and its end: all fit
  pub periods_end : (magnitude i : ℕ) → count ≤ i → periods_within magnitude (drop i (components_read count parts)) ≡
      true
  unfolding periods_within
  periods_end magnitude i h =
      let past : length (components_read count parts) ≤ i = omega (arith, components_count) in
      every_end _ (components_read count parts) i past

  -- the first parts of the places are those of the components
  pub first_stored : (magnitude : ℕ) → map trimmed_part (take count (first_places magnitude count parts)) ≡
      map (first_by magnitude) (components_read count parts)
  unfolding first_places components_read trimmed_part first_by trimmed_component first_state
  first_stored magnitude =
      let front = take count parts in
      ap (map trimmed_part) (mapped_front (first_by magnitude) count parts _ few) ∙
      map-map trimmed_part (first_by magnitude) front ∙
      sym (map-map (first_by magnitude) trimmed_component front)
