-- End judged: the refusals that it alone decides, and that what is accepted is a table that fits. Assumes nothing.
use Rattle.std.specs.Prelude.{ℕ, ◌+◌, ◌-◌, ◌≤◌, ◌<◌, ◌≡◌, Bool, true, cond, List, map, replicate, drop, eqb, leb}
use Rattle.std.specs.Prelude.{Result, Ok, Err, IfOk}
use Rattle.std.specs.Result.{IsErrAnd}
use Rattle.std.proofs.Common.{arith, ◌∙◌}
use Rattle.std.proofs.Math.Path.{refl, sym, ap}
use Rattle.std.proofs.Math.ListN.{length, take}
use borrow.Author.Tests.{leb-true, ne_eqb}
use Rattle.machine.specs.declared.part.Part.{Part}
use Rattle.machine.specs.declared.model.Model.{Model}
use Rattle.machine.specs.Time.{last_magnitude, magnitude_known, start}
use Rattle.machine.specs.Model.{most_parts, trimmed_part}
use Rattle.machine.specs.Table.{Table, magnitude_of, periods_fit, part_order, ordered}
use Rattle.machine.specs.Load.{accepted, end_refusal, refused}
use Rattle.machine.specs.Sound.{component_fits, table_fits}
use Rattle.laws.specs.Alls.{all_every}
use Rattle.sound_laws.specs.Facts.{ComponentFits, component_test, table_test}
use Rattle.sound_laws.specs.CommandsPassed.{end_passed}
use Rattle.refusals.specs.declared.Refusal.{Refusal}
use Rattle.refusals.specs.Numbers.{refusal_number, refused_number}
use Rattle.refusals.specs.Told.{some_number}
use Rattle.order_place.specs.declared.Placed.{Placed}
use Rattle.order_place.specs.OrderByMarks.{InOrder, order_trimmed}
use Rattle.sound_laws.specs.Magnitude.{known_there}
use Rattle.step_parts.specs.Start.{unfilled}
use Rattle.load_table.specs.declared.table.TableRead.{TableRead}
use Rattle.load_table.specs.Concluded.{Ended, concluded, end_loaded, table_read}
use Rattle.load_call.specs.declared.ending.Ending.{Ending}
use Rattle.load_call.specs.FirstPlaces.{components_read, components_count, periods_within, periods_by, first_by}
use Rattle.load_call.specs.FirstPlaces.{first_parts_by}

-- the largest number that a usize holds
abbrev pub last_position : ℕ
last_position = 18446744073709551615

-- "no parts", "some P above 10^18", "a loop exists", in this order, by how many parts there are, whether every P fits,
-- and how many could be placed
unfoldable pub end_number : (count : ℕ) → Bool → (placed : ℕ) → ℕ
end_number count fit placed = cond (eqb count 0) 9 (cond fit (cond (leb count placed) 0 11) 10)

-- places for a part order with this one in them, and 0 in those after
pub record OrderPlaces (order places : List ℕ) : Type 0 where
  pub first : take (length order) places ≡ order
  pub rest : drop (length order) places ≡ replicate (most_parts - length order) 0

-- what End finds after the table that was read: its master's magnitude and its part order
pub record Found (read : TableRead) (e : Ending) : Type 0 where
  pub magnitude : e.magnitude ≡ magnitude_of (table_read read)
  pub order : take read.count e.order ≡ part_order (table_read read).parts
  pub placed : OrderPlaces (part_order (table_read read).parts) e.order

-- where it does not refuse the table, with document 01's number
pub record Judged (read : TableRead) (r : Result Ending Refusal) : Type 0 where
  pub number : refused_number r ≡ end_refusal (table_read read)
  pub found : IfOk r (Found read)

-- which is so of a refusal that is passed on
pub refused_judged : (read : TableRead) (r : Result Ending Refusal) (e : Refusal) → IsErrAnd r (λ x. x ≡ e) →
    refusal_number e ≡ end_refusal (table_read read) → Judged read r
refused_judged read (Ok ending) e is number = absurd is
refused_judged read (Err x) e is number = record { number = rw is number; found = tt }

-- a table that was read and is not refused, with the position after its End within the numbers of a word
pub record Acceptable (read : TableRead) (e : Ending) : Type 0 where
  pub few : read.count ≤ most_parts
  pub fits : table_fits (table_read read) ≡ true
  pub magnitude : e.magnitude ≡ magnitude_of (table_read read)
  pub small : e.magnitude ≤ last_magnitude
  pub order : take read.count e.order ≡ part_order (table_read read).parts
  pub within : read.position < last_position

-- what loading comes to where End refuses the table that was read, and where it accepts it
pub refused_at_end : (read : TableRead) (r : Refusal) → refusal_number r ≡ end_refusal (table_read read) →
    concluded (Ok read) ≡ refused (refusal_number r) read.position
unfolding end_loaded
refused_at_end read r e = rw (← e, ne_eqb (refusal_number r) 0 (some_number r))

pub accepted_at_end : (read : TableRead) → 0 ≡ end_refusal (table_read read) →
    concluded (Ok read) ≡ accepted read.position (table_read read)
unfolding end_loaded
accepted_at_end read e = rw (← e)

-- End's refusal by its three causes
end_by : (t : Table) → end_refusal t ≡ end_number (length t.parts) (periods_fit t) (length (part_order t.parts))
unfolding end_refusal end_number ordered
end_by t = refl

module _ (read : TableRead) (few : read.count ≤ length read.parts) where
  -- the table that was read has as many components as places in use
  read_count : length (table_read read).parts ≡ read.count
  unfolding table_read components_read
  read_count = components_count read.count read.parts few

  -- its part order is that of these places
  read_order : part_order (table_read read).parts ≡ part_order (take read.count read.parts)
  unfolding table_read
  read_order = order_trimmed (take read.count read.parts)

  -- its master's magnitude is a magnitude
  pub magnitude_small : Ended read → magnitude_of (table_read read) ≤ last_magnitude
  unfolding magnitude_known table_read
  magnitude_small e =
      let fit = all_every (ComponentFits read.count) (component_fits read.count) (table_read read).parts
      (component_test read.count) e.components in
      leb-true (magnitude_of (table_read read)) last_magnitude
      (known_there read.count (table_read read) e.magnitude fit)

  -- the number found by the tests of its places is its refusal
  pub judged_number :
      (magnitude : ℕ) (fit : Bool) (placed : Placed) (number : ℕ) → magnitude ≡ magnitude_of (table_read read) →
      fit ≡ periods_within magnitude (components_read read.count read.parts) →
      InOrder read.parts read.count placed →
      number ≡ end_number read.count fit placed.count → number ≡ end_refusal (table_read read)
  unfolding table_read components_read
  judged_number magnitude fit placed number m f p n =
      let periods : fit ≡ periods_fit (table_read read) =
      f ∙ ap (λ (e : ℕ). periods_within e (table_read read).parts) m ∙ sym (periods_by (table_read read)) in
      let orders : placed.count ≡ length (part_order (table_read read).parts) = p.counted ∙
      ap length (sym read_order) in
      n ∙ rw (end_by (table_read read), read_count, periods, orders)

  -- the parts that could be placed are in its part order
  pub judged_places : (placed : Placed) → InOrder read.parts read.count placed →
      OrderPlaces (part_order (table_read read).parts) placed.order
  judged_places placed p =
      let counted : length (part_order (table_read read).parts) ≡ placed.count = ap length read_order ∙
      sym p.counted in
      record { first = rw counted (p.is ∙ sym read_order); rest = rw counted p.rest }

  -- where it is not refused, all parts are placed, in its part order
  pub judged_order :
      (placed : Placed) → InOrder read.parts read.count placed → end_refusal (table_read read) ≡ 0 →
      take read.count placed.order ≡ part_order (table_read read).parts
  unfolding ordered
  judged_order placed p none =
      let t = table_read read in
      let (some, periods, order) = end_passed t none in
      let all : length t.parts ≤ length (part_order t.parts) = leb-true _ _ order in
      let counted : placed.count ≡ length (part_order t.parts) = p.counted ∙ ap length (sym read_order) in
      let same : read.count ≡ placed.count = omega (arith, read_count, p.few) in
      ap (λ (n : ℕ). take n placed.order) same ∙ p.is ∙ sym read_order

  -- and it fits
  accepted_fits : Ended read → end_refusal (table_read read) ≡ 0 → table_fits (table_read read) ≡ true
  unfolding table_read
  accepted_fits e none =
      let t = table_read read in
      let (some, periods, order) = end_passed t none in
      let known = e.few in
      table_test t
      (record {
        magnitude = e.magnitude;
        some = some;
        few = omega (arith, read_count);
        components = rw read_count e.components;
        periods = periods;
        order = order;
      })

  -- the model of its first parts, in its part order, is that of the table before its start point is filled
  pub unfilled_is :
      (e : Ending) (first : List Part) → Acceptable read e →
      map trimmed_part (take read.count first) ≡
      map (first_by e.magnitude) (components_read read.count read.parts) →
      ◌≡◌ {A = Model}
      (record {
        magnitude = read.magnitude;
        count = read.count;
        order = take read.count e.order;
        point = start;
        parts = map trimmed_part (take read.count first);
      })
      (unfilled (table_read read))
  unfolding unfilled table_read components_read
  unfilled_is e first a stored = rw (stored, a.order, a.magnitude, first_parts_by (table_read read), read_count)

  -- so a table that was read and is not refused can be accepted
  pub acceptable :
      (e : Ending) → Ended read →
      ((concluded (Ok read)).number ≡ 0 → (concluded (Ok read)).position ≤ last_position) →
      0 ≡ end_refusal (table_read read) → Found read e → Acceptable read e
  unfolding accepted
  acceptable e ended within none found =
      let is = accepted_at_end read none in
      let after : read.position + 1 ≤ last_position = (rw is at within) refl in
      record {
        few = ended.few;
        fits = accepted_fits ended (sym none);
        magnitude = found.magnitude;
        small = rw found.magnitude (magnitude_small ended);
        order = found.order;
        within = omega arith;
      }
