-- A model with its unused places cut away, by the places of the model itself: how many parts it has, each part, each
-- preference. Assumes nothing.
use Rattle.std.specs.Prelude.{ℕ, ◌+◌, ◌≤◌, ◌<◌, ◌≡◌, Bool, ◌&&◌, List, map, get_or, take, drop}
use Rattle.std.proofs.Common.{arith, sym, ◌∙◌}
use Rattle.std.proofs.Math.Path.{ap}
use Rattle.std.proofs.lemmas.Simd.{map-map}
use Rattle.std.proofs.Math.ListN.{length, length-map}
use Rattle.machine.specs.declared.part.Component.{Component}
use Rattle.machine.specs.declared.part.Part.{Part}
use Rattle.machine.specs.declared.model.Model.{Model}
use Rattle.machine.specs.Model.{blank_component, blank_part, part_at, trimmed_component, trimmed_part, trimmed}
use Rattle.machine.specs.Lists.{every}
use Rattle.machine.specs.Time.{larger, master_magnitude}
use Rattle.machine.specs.Table.{table_of}
use Rattle.laws.specs.ListLaws.{getD_map_in}
use Rattle.laws.specs.Loops.{every_on}
use Rattle.laws.specs.Partway.{mapped_at, mapped_length}
use Rattle.sound_laws.specs.Magnitude.{magnitude_on}
use Rattle.order_place.specs.declared.Direct.{Direct}
use Rattle.order_place.specs.Direct.{direct_of}

-- the preferences of the parts in use
unfoldable pub preferences : Model → List ℕ
preferences m = map (λ (c : Component). c.preference) (table_of (trimmed m)).parts

module _ (m : Model) (few : m.count ≤ length m.parts) where
  -- as many parts as the model says
  pub parts_count : length (trimmed m).parts ≡ m.count
  unfolding trimmed
  parts_count = mapped_length trimmed_part m.count m.parts few

  pub components_count : length (table_of (trimmed m)).parts ≡ m.count
  unfolding table_of
  components_count = length-map (trimmed m).parts (λ (p : Part). p.component) ∙ parts_count

  pub preferences_count : length (preferences m) ≡ m.count
  unfolding preferences
  preferences_count = length-map (table_of (trimmed m)).parts (λ (c : Component). c.preference) ∙ components_count

  -- each part is the model's own, trimmed
  part_trimmed : (i : ℕ) → i < m.count → part_at (trimmed m).parts i ≡ trimmed_part (part_at m.parts i)
  unfolding trimmed
  part_trimmed i h = mapped_at trimmed_part m.count m.parts i blank_part blank_part h few

  -- and its preference the part's
  preference_at : (i : ℕ) → i < m.count → get_or (preferences m) i 0 ≡ (part_at m.parts i).component.preference
  unfolding preferences table_of trimmed_part trimmed_component
  preference_at i h =
      let inside : i < length (trimmed m).parts = omega (arith, parts_count) in
      let within : i < length (map (λ (p : Part). p.component) (trimmed m).parts) =
      omega (arith, parts_count, length-map (trimmed m).parts (λ (p : Part). p.component)) in
      getD_map_in (λ (c : Component). c.preference)
      (map (λ (p : Part). p.component) (trimmed m).parts) i blank_component 0 within ∙
      ap (λ (c : Component). c.preference)
      (getD_map_in (λ (p : Part). p.component) (trimmed m).parts i blank_part blank_component inside) ∙
      ap (λ (p : Part). p.component.preference) (part_trimmed i h)

  -- a loop's turn: the test of the parts from i on asks part i and those after it
  pub parts_on :
      (f : Part → Bool) (i : ℕ) → i < m.count →
      every f (drop i (trimmed m).parts) ≡
      (f (trimmed_part (part_at m.parts i)) && every f (drop (i + 1) (trimmed m).parts))
  parts_on f i h =
      let inside : i < length (trimmed m).parts = omega (arith, parts_count) in
      every_on f (trimmed m).parts i blank_part inside ∙
      ap (λ (p : Part). f p && every f (drop (i + 1) (trimmed m).parts)) (part_trimmed i h)

  -- a loop's turn: the magnitude e with the preferences from i on takes that of part i
  pub preferences_on :
      (e i : ℕ) → i < m.count →
      master_magnitude e (drop i (preferences m)) ≡
      master_magnitude (larger e (part_at m.parts i).component.preference) (drop (i + 1) (preferences m))
  preferences_on e i h =
      let inside : i < length (preferences m) = omega (arith, preferences_count) in
      magnitude_on e (preferences m) i inside ∙
      ap (λ (q : ℕ). master_magnitude (larger e q) (drop (i + 1) (preferences m))) (preference_at i h)

-- the components of the trimmed parts are those of the parts in use, trimmed
pub components_trimmed :
    (m : Model) → (table_of (trimmed m)).parts ≡
    map trimmed_component (map (λ (p : Part). p.component) (take m.count m.parts))
unfolding table_of trimmed trimmed_part
components_trimmed m =
    let front = take m.count m.parts in
    map-map (λ (p : Part). p.component) trimmed_part front ∙
    sym (map-map trimmed_component (λ (p : Part). p.component) front)

-- the direct sources of a trimmed model's components are those of its parts in use, since trimming a component
-- changes none of them
pub directs_trimmed :
    (m : Model) (ds : List Direct) →
    take m.count ds ≡ map (λ (p : Part). direct_of p.component) (take m.count m.parts) →
    map direct_of (table_of (trimmed m)).parts ≡ take m.count ds
unfolding direct_of trimmed_component
directs_trimmed m ds e =
    let front = take m.count m.parts in
    ap (map direct_of) (components_trimmed m) ∙
    map-map direct_of trimmed_component (map (λ (p : Part). p.component) front) ∙
    map-map direct_of (λ (p : Part). p.component) front ∙ sym e
