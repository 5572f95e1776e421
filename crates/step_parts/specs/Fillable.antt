-- What a model must be for its outputs to be filled, and for its parts to be settled, and what that says of the places
-- in use. Assumes nothing.
use Rattle.std.specs.Prelude.{ℕ, ◌≤◌, ◌<◌, ◌≡◌, refl, List, map, length}
use Rattle.std.proofs.Common.{arith, subst, ◌∙◌}
use Rattle.std.proofs.Math.Path.{sym}
use Rattle.machine.specs.declared.time.Point.{Point}
use Rattle.machine.specs.declared.part.Source.{Source}
use Rattle.machine.specs.declared.part.Part.{Part}
use Rattle.machine.specs.declared.model.Model.{Model}
use Rattle.machine.specs.Lists.{All}
use Rattle.machine.specs.Time.{last_tick}
use Rattle.machine.specs.Signal.{is_signal}
use Rattle.machine.specs.Kind.{period}
use Rattle.machine.specs.Model.{most_parts, blank_part, part_at, with_parts, reading, trimmed, trimmed_part}
use Rattle.machine.specs.Model.{trimmed_component}
use Rattle.laws.specs.Alls.{all_same_map, length_same_map, members_all}
use Rattle.laws.specs.ListLaws.{all_at}
use Rattle.laws.specs.Partway.{mapped_places}
use Rattle.sound_laws.specs.RangesKept.{InRange}
use Rattle.order_laws.specs.Order.{CompleteOrder}
use Rattle.order_laws.specs.Row.{unshown, components, components_length}
use Rattle.step_parts.specs.Reading.{SourceBelow, WiredBelow, part_trimmed, reading_trimmed}
use Rattle.step_parts.specs.Trimmed.{Changed}

-- every part in use is wired to parts in use alone
pub record Wired (m : Model) : Type 0 where
  pub few : m.count ≤ most_parts
  pub counted : m.count ≡ length m.parts
  pub sources : All (λ (p : Part). WiredBelow m.count p.component) m.parts

-- a part is in range, its stored output aside
abbrev pub InRangeUnshown : Part → Type 0
InRangeUnshown p = InRange (unshown p)

-- as every part is that is in range
pub in_range_unshown : (p : Part) → InRange p → InRangeUnshown p
unfolding is_signal
in_range_unshown p r = record {
  a = r.a;
  b = r.b;
  held = r.held;
  speed = r.speed;
  signal = r.signal;
  output = refl;
}

-- the outputs of the model `new` can be filled, `old` standing at the point before. Nothing is asked of the outputs
-- that `new` has stored
pub record Fillable (old new : Model) : Type 0 where
  pub wired : Wired new
  pub counted : old.count ≡ length old.parts
  pub same : old.count ≡ new.count
  pub places : new.count ≡ length new.order
  pub complete : CompleteOrder (components new.parts) new.order
  pub periods : All (λ (p : Part). period p ≤ last_tick) new.parts
  pub before : All InRange old.parts
  pub ranges : All InRangeUnshown new.parts

-- the numbers of the order are those of parts
pub fillable_numbers : (old new : Model) → Fillable old new → All (λ (k : ℕ). k < new.count) new.order
fillable_numbers old new fit =
    members_all (λ (k : ℕ). k < new.count) new.order
    (λ k among. omega (arith, fit.complete.below k among, components_length new.parts, fit.wired.counted))

-- a model with other parts of the same components is wired as before
pub kept_wired :
    (m : Model) (now : Point) (qs : List Part) →
    map (λ (p : Part). p.component) qs ≡ map (λ (p : Part). p.component) m.parts →
    Wired m → Wired (with_parts m now qs)
kept_wired m now qs kept wired =
    record {
      few = wired.few;
      counted = wired.counted ∙ sym (length_same_map (λ (p : Part). p.component) qs m.parts kept);
      sources = all_same_map (λ (p : Part). p.component) (WiredBelow m.count) qs m.parts kept wired.sources;
    }

-- so is a changed one
pub changed_wired :
    (m : Model) (qs : List Part) (r : Model) → Changed m qs r →
    map (λ (p : Part). p.component) qs ≡ map (λ (p : Part). p.component) (trimmed m).parts → Wired (trimmed m) →
    Wired (trimmed r)
changed_wired m qs r c kept wired = subst Wired (sym c.is) (kept_wired (trimmed m) m.point qs kept wired)

-- what a wired model, once trimmed, says of the places in use of the model itself
module _ (m : Model) (wired : Wired (trimmed m)) where
  -- each is one of the places that a model has at most
  pub place_in_use : (i : ℕ) → i < m.count → i < most_parts
  unfolding trimmed
  place_in_use i h = omega (arith, wired.few)

  -- the model has them all
  wired_places : m.count ≤ length m.parts
  unfolding trimmed
  wired_places = mapped_places trimmed_part m.count m.parts wired.counted

  -- the part there, trimmed, is that of the trimmed model
  pub part_in_use : (i : ℕ) → i < m.count → trimmed_part (part_at m.parts i) ≡ part_at (trimmed m).parts i
  unfolding trimmed
  part_in_use i h = sym (part_trimmed m.count m.parts i h wired_places)

  -- each is wired to places in use
  pub wired_at : (i : ℕ) → i < m.count → WiredBelow m.count (part_at m.parts i).component
  unfolding trimmed trimmed_part trimmed_component
  wired_at i h =
      let q = all_at (λ (p : Part). WiredBelow m.count p.component) (trimmed m).parts blank_part i
      wired.sources (rw (← wired.counted) h) in
      let r = rw (← part_in_use i h) at q in
      record { port0 = r.port0; port1 = r.port1 }

  -- a port that is wired to a place in use reads what it reads in the trimmed model
  pub reading_in_use : (s : Source) → SourceBelow m.count s → reading m.parts s ≡ reading (trimmed m).parts s
  unfolding trimmed
  reading_in_use s below = sym (reading_trimmed m.count m.parts s below wired_places)
