-- Soundness by one test of each part: what the code asks of a model, put together, is the machine's definition.
-- Assumes nothing.
use Rattle.std.specs.Prelude.{ℕ, ◌*◌, ◌≤◌, ◌<◌, ◌≡◌, Bool, true, false, ◌&&◌, map, leb}
use Rattle.std.proofs.Common.{arith, ap, ◌∙◌}
use Rattle.std.proofs.Math.Path.{sym}
use Rattle.std.proofs.Math.Bool.{and-eq-true_iff}
use Rattle.std.proofs.Math.ListN.{length}
use Rattle.std.proofs.Math.Dec.{eqb}
use borrow.Author.Tests.{eqb-true, eq-eqb, le-leb}
use Rattle.machine.specs.declared.part.Component.{Component}
use Rattle.machine.specs.declared.part.Part.{Part}
use Rattle.machine.specs.declared.model.Model.{Model}
use Rattle.machine.specs.Lists.{every, same}
use Rattle.machine.specs.Time.{tick, in_time, last_tick, magnitude_known, ratio_of}
use Rattle.machine.specs.Model.{most_parts, blank_part, part_at, trimmed_part, trimmed}
use Rattle.machine.specs.Table.{table_of, magnitude_of, component_ratio, ratios, periods_fit, part_order, ordered}
use Rattle.machine.specs.Sound.{component_fits, table_fits, state_fits, sound}
use Rattle.laws.specs.Bools.{both_ways, refuted}
use Rattle.laws.specs.ListLaws.{every_at, every_intro, every_map, same_map}
use Rattle.laws.specs.Partway.{mapped_places}
use Rattle.sound_laws.specs.Facts.{table_facts, sound_facts}
use Rattle.sound_laws.specs.Magnitude.{known_there, known_back}
use Rattle.sound_test.specs.Parts.{state_holds, part_fits}
use Rattle.sound_test.specs.TrimmedPlaces.{parts_count, components_count}

-- a state by the part's own ratio, and by the table's where the two are the same
state_by : (t r : ℕ) (p : Part) → p.ratio ≡ r → state_fits t p ≡ state_holds t r p.component.kind p.state
unfolding state_fits state_holds
state_by t r p e = ap (λ (x : ℕ). state_holds t x p.component.kind p.state) e

-- what the machine asks of one part, by the master's magnitude g, among n parts at tick t
record PartTests (n g t : ℕ) (p : Part) : Type 0 where
  component : component_fits n p.component ≡ true
  ratio : eqb p.ratio (ratio_of g p.component.preference) ≡ true
  period : leb (p.component.p * ratio_of g p.component.preference) last_tick ≡ true
  state : state_fits t p ≡ true

-- gathered into one test, and taken apart
module _ (n g t : ℕ) (p : Part) where
  gathered : PartTests n g t p → part_fits n g t p ≡ true
  unfolding part_fits
  gathered f =
      let r = ratio_of g p.component.preference in
      let state = sym (state_by t r p (eqb-true p.ratio r f.ratio)) ∙ f.state in
      simp and-eq-true_iff (((f.component, f.ratio), f.period), state)

  apart : part_fits n g t p ≡ true → PartTests n g t p
  unfolding part_fits
  apart h =
      let r = ratio_of g p.component.preference in
      let (((component, ratio), period), state) = simp and-eq-true_iff at h in
      record {
        component = component;
        ratio = ratio;
        period = period;
        state = state_by t r p (eqb-true p.ratio r ratio) ∙ state;
      }

-- what the machine asks of all parts of a model
record AllTests (x : Model) : Type 0 where
  components : every (component_fits (length (table_of x).parts)) (table_of x).parts ≡ true
  ratios : same (map (λ (p : Part). p.ratio) x.parts) (ratios (table_of x)) ≡ true
  periods : periods_fit (table_of x) ≡ true
  states : every (state_fits (tick x.point)) x.parts ≡ true

-- by one test of each part, there and back: with n parts, the master's magnitude g, at tick t
module _ (x : Model) where
  abbrev n : ℕ
  n = length (table_of x).parts

  abbrev g : ℕ
  g = magnitude_of (table_of x)

  abbrev t : ℕ
  t = tick x.point

  -- a part's component, its ratio, and whether its P is within the time
  abbrev component_of : Part → Component
  component_of p = p.component

  abbrev ratio_by : Component → ℕ
  ratio_by c = ratio_of g c.preference

  abbrev within : Component → Bool
  within c = leb (c.p * ratio_by c) last_tick

  parts_there : AllTests x → every (part_fits n g t) x.parts ≡ true
  unfolding periods_fit ratios component_ratio table_of
  parts_there f =
      let ps = x.parts in
      let components = sym (every_map (component_fits n) component_of ps) ∙ f.components in
      let rated = sym (same_map (λ (p : Part). p.ratio) ratio_by component_of ps) ∙ f.ratios in
      let periods = sym (every_map within component_of ps) ∙ f.periods in
      every_intro (part_fits n g t) ps blank_part
      (λ i below.
      gathered n g t (part_at ps i)
      (record {
        component = every_at (λ (p : Part). component_fits n p.component) ps blank_part i components below;
        ratio = every_at (λ (p : Part). eqb p.ratio (ratio_by p.component)) ps blank_part i rated below;
        period = every_at (λ (p : Part). within p.component) ps blank_part i periods below;
        state = every_at (state_fits t) ps blank_part i f.states below;
      }))

  parts_back : every (part_fits n g t) x.parts ≡ true → AllTests x
  unfolding periods_fit ratios component_ratio table_of
  parts_back h =
      let ps = x.parts in
      let one : (i : ℕ) → i < length ps → PartTests n g t (part_at ps i) =
      λ i below. apart n g t (part_at ps i) (every_at (part_fits n g t) ps blank_part i h below) in
      record {
        components =
            every_map (component_fits n) component_of ps ∙
            every_intro (λ (p : Part). component_fits n p.component) ps blank_part
            (λ i below. (one i below).component);
        ratios =
            same_map (λ (p : Part). p.ratio) ratio_by component_of ps ∙
            every_intro (λ (p : Part). eqb p.ratio (ratio_by p.component)) ps blank_part
            (λ i below. (one i below).ratio);
        periods =
            every_map within component_of ps ∙
            every_intro (λ (p : Part). within p.component) ps blank_part (λ i below. (one i below).period);
        states = every_intro (state_fits t) ps blank_part (λ i below. (one i below).state);
      }

-- the tests of the code from the last to the first: the order of the parts, each part, the master's magnitude, the
-- point
unfoldable pub order_holds : Model → Bool
order_holds x = ordered (table_of x).parts && same x.order (part_order (table_of x).parts)

unfoldable pub parts_hold : (n g : ℕ) → Model → Bool
parts_hold n g x = every (part_fits n g (tick x.point)) x.parts && order_holds x

unfoldable pub magnitude_holds : (n g : ℕ) → Model → Bool
magnitude_holds n g x = magnitude_known g && parts_hold n g x

unfoldable pub tests : ℕ → Model → Bool
tests n x = in_time x.point && magnitude_holds n (magnitude_of (table_of x)) x

-- each by the answer of its first test, and those after it
pub tests_by : (n : ℕ) (x : Model) (time : Bool) → time ≡ in_time x.point →
    tests n x ≡ (time && magnitude_holds n (magnitude_of (table_of x)) x)
unfolding tests
tests_by n x time e = rw e

pub magnitude_by :
    (n g : ℕ) (x : Model) (known : Bool) → g ≡ magnitude_of (table_of x) → known ≡ magnitude_known g →
    magnitude_holds n (magnitude_of (table_of x)) x ≡ (known && parts_hold n g x)
unfolding magnitude_holds
magnitude_by n g x known master e = rw (e, ← master)

pub parts_by :
    (n g : ℕ) (x : Model) (fit : Bool) → fit ≡ every (part_fits n g (tick x.point)) x.parts →
    parts_hold n g x ≡ (fit && order_holds x)
unfolding parts_hold
parts_by n g x fit e = rw e

-- of a test and those after it: these are left where it holds, and where it fails all fail
pub passed : (all first others : Bool) → all ≡ (first && others) → first ≡ true → all ≡ others
passed all first others e h = rw h at e

pub failed : (all first others : Bool) → all ≡ (first && others) → first ≡ false → false ≡ all
failed all first others e h = sym (rw h at e)

-- a model with as many parts as it says, and neither none nor too many, is sound where it passes them
module _ (x : Model) (counted : x.count ≡ length x.parts) (some : 1 ≤ length (table_of x).parts)
    (few : length (table_of x).parts ≤ most_parts) where
  there : sound x ≡ true → tests (length (table_of x).parts) x ≡ true
  unfolding sound table_fits tests magnitude_holds parts_hold order_holds
  there h =
      let (((((c, (((((magnitude, s), f), components), periods), order)), r), same_order), time), states) =
      simp and-eq-true_iff at h in
      let known = known_there (length (table_of x).parts) (table_of x) magnitude components in
      let parts = parts_there x (record { components = components; ratios = r; periods = periods; states = states }) in
      simp and-eq-true_iff (time, (known, (parts, (order, same_order))))

  -- its table fits
  table_back : magnitude_known (magnitude_of (table_of x)) ≡ true → AllTests x → ordered (table_of x).parts ≡ true →
      table_fits (table_of x) ≡ true
  unfolding table_fits
  table_back known f order =
      let magnitude = known_back (table_of x) known in
      let least = le-leb 1 (length (table_of x).parts) some in
      let most = le-leb (length (table_of x).parts) most_parts few in
      simp and-eq-true_iff (((((magnitude, least), most), f.components), f.periods), order)

  back : tests (length (table_of x).parts) x ≡ true → sound x ≡ true
  unfolding sound tests magnitude_holds parts_hold order_holds
  back h =
      let (time, (known, (parts, (order, same_order)))) = simp and-eq-true_iff at h in
      let f = parts_back x parts in
      let as_counted = eq-eqb x.count (length x.parts) counted in
      simp and-eq-true_iff (((((as_counted, table_back known f order), f.ratios), same_order), time), f.states)

  sound_tests : sound x ≡ tests (length (table_of x).parts) x
  sound_tests = both_ways (sound x) (tests (length (table_of x).parts) x) there back

-- of a trimmed model, in its own places
pub sound_trimmed :
    (m : Model) → 1 ≤ m.count → m.count ≤ most_parts → m.count ≤ length m.parts →
    sound (trimmed m) ≡ tests m.count (trimmed m)
unfolding trimmed
sound_trimmed m some few room =
    let n = components_count m room in
    sound_tests (trimmed m) (sym (parts_count m room)) (rw n some) (rw n few) ∙ ap (λ (k : ℕ). tests k (trimmed m)) n

-- a model that says it has no part is not sound, nor one that says it has more than there are places
pub unsound_none : (m : Model) → m.count < 1 → sound (trimmed m) ≡ false
unsound_none m none =
    refuted (sound (trimmed m))
    (λ h.
    let room : m.count ≤ length m.parts = omega (arith, none) in
    let some = (table_facts (table_of (trimmed m)) (sound_facts (trimmed m) h).table).some in
    omega (arith, none, some, components_count m room))

pub unsound_many : (m : Model) → most_parts < m.count → length m.parts ≡ most_parts → sound (trimmed m) ≡ false
unfolding trimmed
unsound_many m many full =
    refuted (sound (trimmed m))
    (λ h.
    omega (arith, many, full, mapped_places trimmed_part m.count m.parts (sound_facts (trimmed m) h).counted))
