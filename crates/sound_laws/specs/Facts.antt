-- What the tests of soundness show, as facts with names, and the tests from the facts. `◌&&◌` is taken apart and put
-- together by one law of the library, and a comparison is the order that it tests. Assumes nothing.
use Rattle.std.specs.Prelude.{ℕ, ◌≤◌, ◌≡◌, Bool, true, false, cond, map, length, eqb, leb, ℤ, pos, negsuc}
use Rattle.std.proofs.Common.{arith, eqb-true, leb-true, eq-eqb, le-leb}
use Rattle.std.proofs.lemmas.Bool.{false≢true}
use Rattle.std.proofs.Math.Bool.{and-eq-true_iff}
use Rattle.std.proofs.lemmas.List.{length-map}
use Rattle.machine.specs.declared.part.Kind.{Kind}
use Rattle.machine.specs.declared.part.Component.{Component}
use Rattle.machine.specs.declared.part.Part.{Part}
use Rattle.machine.specs.declared.model.Model.{Model}
use Rattle.machine.specs.Lists.{All}
use Rattle.machine.specs.Time.{magnitude_known, in_time, tick, local_count}
use Rattle.machine.specs.Signal.{is_value, is_signal}
use Rattle.machine.specs.Kind.{ports, names_a, names_b, names_p, is_positive, is_zero, operands_fit, has_mass}
use Rattle.machine.specs.Model.{most_parts, most_spans}
use Rattle.machine.specs.Table.{Table, table_of, ratios, periods_fit, part_order, ordered}
use Rattle.machine.specs.Load.{preference_known, is_drive}
use Rattle.machine.specs.Sound.{source_fits, spans_rise, spans_fit, component_fits, table_fits, speed_fits, state_fits}
use Rattle.machine.specs.Sound.{sound}
use Rattle.laws.specs.Alls.{every_all, all_every}
use Rattle.laws.specs.ListLaws.{same_equal, equal_same}

-- a number that is a value where it is named and 0 where it is not is a value
operand_value : (named : Bool) (v : ℤ) → cond named (is_value v) (is_zero v) ≡ true → is_value v ≡ true
unfolding is_value
operand_value true v h = h
operand_value false (pos n) h = rw (eqb-true n 0 h)
operand_value false (negsuc n) h = absurd (false≢true h)

-- operands that fit are values
pub operand_values : (k : Kind) (a b : ℤ) (p : ℕ) → operands_fit k a b p ≡ true → (is_value a ≡ true) ×
    (is_value b ≡ true)
unfolding operands_fit
operand_values k a b p h =
    let f = simp and-eq-true_iff at h in
    (operand_value (names_a k) a f.0.0, operand_value (names_b k) b f.0.1)

-- and so is a speed that fits
pub speed_value : (k : Kind) (v : ℤ) → speed_fits k v ≡ true → is_value v ≡ true
unfolding speed_fits
speed_value k v h = operand_value (has_mass k) v h

-- p is at most 10^9
pub operand_small : (k : Kind) (a b : ℤ) (p : ℕ) → operands_fit k a b p ≡ true → p ≤ 1_000_000_000
unfolding operands_fit is_positive
operand_small k a b p h =
    let f = simp and-eq-true_iff at h in
    named_or_none (names_p k) f.1
  where
    -- whether p is named or is 0
    named_or_none : (named : Bool) → cond named (is_positive p) (eqb p 0) ≡ true → p ≤ 1_000_000_000
    named_or_none true e = leb-true p 1_000_000_000 ((and-eq-true_iff (leb 1 p) (leb p 1_000_000_000)).0 e).1
    named_or_none false e = let none = eqb-true p 0 e in omega arith

-- what holds of a component that fits, in a table of n parts
pub record ComponentFits (n : ℕ) (c : Component) : Type 0 where
  pub preference : preference_known c.preference ≡ true
  pub operands : operands_fit c.kind c.a c.b c.p ≡ true
  pub counted : c.span_count ≡ length c.spans
  pub places : length c.spans ≤ cond (is_drive c.kind) most_spans 0
  pub rise : spans_rise 0 c.spans ≡ true
  pub port0 : source_fits n (ports c.kind) 0 c.port0 ≡ true
  pub port1 : source_fits n (ports c.kind) 1 c.port1 ≡ true

-- a component that passes the test
pub component_facts : (n : ℕ) (c : Component) → component_fits n c ≡ true → ComponentFits n c
unfolding component_fits spans_fit
component_facts n c h =
    let k = simp and-eq-true_iff at h in
    let ((((preference, operands), ((counted, places), rise)), port0), port1) = k in
    record {
      preference = preference;
      operands = operands;
      counted = eqb-true c.span_count (length c.spans) counted;
      places = leb-true (length c.spans) (cond (is_drive c.kind) most_spans 0) places;
      rise = rise;
      port0 = port0;
      port1 = port1;
    }

-- a component of which that holds passes the test
pub component_test : (n : ℕ) (c : Component) → ComponentFits n c → component_fits n c ≡ true
unfolding component_fits spans_fit
component_test n c f =
    let counted = eq-eqb c.span_count (length c.spans) f.counted in
    let places = le-leb (length c.spans) (cond (is_drive c.kind) most_spans 0) f.places in
    simp and-eq-true_iff ((((f.preference, f.operands), ((counted, places), f.rise)), f.port0), f.port1)

-- what holds of a table that fits
pub record TableFits (t : Table) : Type 0 where
  pub magnitude : magnitude_known t.magnitude ≡ true
  pub some : 1 ≤ length t.parts
  pub few : length t.parts ≤ most_parts
  pub components : All (ComponentFits (length t.parts)) t.parts
  pub periods : periods_fit t ≡ true
  pub order : ordered t.parts ≡ true

-- a table that passes the test
pub table_facts : (t : Table) → table_fits t ≡ true → TableFits t
unfolding table_fits
table_facts t h =
    let k = simp and-eq-true_iff at h in
    let (((((magnitude, some), few), components), periods), order) = k in
    record {
      magnitude = magnitude;
      some = leb-true 1 (length t.parts) some;
      few = leb-true (length t.parts) most_parts few;
      components =
          every_all (ComponentFits (length t.parts)) (component_fits (length t.parts)) t.parts
          (component_facts (length t.parts)) components;
      periods = periods;
      order = order;
    }

-- a table of which that holds passes the test
pub table_test : (t : Table) → TableFits t → table_fits t ≡ true
unfolding table_fits
table_test t f =
    let n = length t.parts in
    let components = all_every (ComponentFits n) (component_fits n) t.parts (component_test n) f.components in
    simp and-eq-true_iff (
      (
        (((f.magnitude, le-leb 1 n f.some), le-leb n most_parts f.few), components),
        f.periods,
      ),
      f.order,
    )

-- what holds of a part's state at tick t
pub record StateFits (t : ℕ) (p : Part) : Type 0 where
  pub local : p.state.local.0 ≡ (local_count t p.ratio).0
  pub held : is_value p.state.held ≡ true
  pub speed : speed_fits p.component.kind p.state.speed ≡ true
  pub signal : is_signal p.state.signal ≡ true
  pub output : is_signal p.state.output ≡ true

-- a state that passes the test
state_facts : (t : ℕ) (p : Part) → state_fits t p ≡ true → StateFits t p
unfolding state_fits
state_facts t p h =
    let k = simp and-eq-true_iff at h in
    let ((((local, held), speed), signal), output) = k in
    record {
      local = eqb-true p.state.local.0 (local_count t p.ratio).0 local;
      held = held;
      speed = speed;
      signal = signal;
      output = output;
    }

-- a state of which that holds passes the test
state_test : (t : ℕ) (p : Part) → StateFits t p → state_fits t p ≡ true
unfolding state_fits
state_test t p f =
    simp and-eq-true_iff (
      (((eq-eqb p.state.local.0 (local_count t p.ratio).0 f.local, f.held), f.speed), f.signal),
      f.output,
    )

-- what holds of a sound model
pub record Soundness (m : Model) : Type 0 where
  pub counted : m.count ≡ length m.parts
  pub table : table_fits (table_of m) ≡ true
  pub ratios : map (λ (p : Part). p.ratio) m.parts ≡ ratios (table_of m)
  pub order : m.order ≡ part_order (table_of m).parts
  pub time : in_time m.point ≡ true
  pub states : All (StateFits (tick m.point)) m.parts

-- a model that passes the test
pub sound_facts : (m : Model) → sound m ≡ true → Soundness m
unfolding sound
sound_facts m h =
    let k = simp and-eq-true_iff at h in
    let (((((counted, table), r), order), time), states) = k in
    record {
      counted = eqb-true m.count (length m.parts) counted;
      table = table;
      ratios = same_equal (map (λ (p : Part). p.ratio) m.parts) (ratios (table_of m)) r;
      order = same_equal m.order (part_order (table_of m).parts) order;
      time = time;
      states = every_all (StateFits (tick m.point)) (state_fits (tick m.point)) m.parts
          (state_facts (tick m.point)) states;
    }

-- a sound model has at most 32 parts
pub sound_few : (m : Model) → sound m ≡ true → m.count ≤ most_parts
unfolding table_of
sound_few m s =
    let facts = sound_facts m s in
    let few : length (table_of m).parts ≤ most_parts = (table_facts (table_of m) facts.table).few in
    omega (arith, facts.counted, simp length-map at few)

-- a model of which that holds passes the test
pub sound_test : (m : Model) → Soundness m → sound m ≡ true
unfolding sound
sound_test m f =
    let t = tick m.point in
    let r = equal_same (map (λ (p : Part). p.ratio) m.parts) (ratios (table_of m)) f.ratios in
    let order = equal_same m.order (part_order (table_of m).parts) f.order in
    let states = all_every (StateFits t) (state_fits t) m.parts (state_test t) f.states in
    simp and-eq-true_iff (
      ((((eq-eqb m.count (length m.parts) f.counted, f.table), r), order), f.time),
      states,
    )
