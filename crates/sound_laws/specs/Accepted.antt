-- What loading accepts: a stream that loads leaves the fresh model of a table that fits. Reading keeps that all
-- components read so far fit a table of as many parts as were read; End asks for the rest. Assumes nothing.
use Rattle.std.specs.Prelude.{ℕ, zero, suc, ◌+◌, ◌-◌, ◌≤◌, ◌<◌, ◌≡◌, refl, Bool, true, false, List, length, set}
use Rattle.std.proofs.Common.{arith, ap, ◌∙◌, length-set}
use Rattle.std.proofs.lemmas.Bool.{false≢true}
use Rattle.machine.specs.declared.part.Component.{Component}
use Rattle.machine.specs.Lists.{All}
use Rattle.machine.specs.Time.{magnitude_known}
use Rattle.machine.specs.Model.{most_parts, blank_component}
use Rattle.machine.specs.Table.{Table, component_at}
use Rattle.machine.specs.Fresh.{fresh}
use Rattle.machine.specs.Load.{is_drive, byte_at, word_at, Reading, nothing_read, Read, onward, ended, begin_refusal}
use Rattle.machine.specs.Load.{begun_with, part_read, part_refusal, with_part, last_part, with_span, span_refusal}
use Rattle.machine.specs.Load.{with_component, with_wire, wire_refusal, end_refusal, accepted, read_turn, read_on}
use Rattle.machine.specs.Load.{read_from, load}
use Rattle.machine.specs.Sound.{table_fits}
use Rattle.laws.specs.Last.{length_added, last_of_added, last_of_set}
use Rattle.laws.specs.Alls.{all_set, all_added, all_give}
use Rattle.laws.specs.ListLaws.{all_at}
use Rattle.sound_laws.specs.Facts.{ComponentFits, table_test}
use Rattle.sound_laws.specs.ReadTurns.{open_component, turn_cases}
use Rattle.sound_laws.specs.CommandsPassed.{begin_passed, part_passed, wire_passed, end_passed, component_more}
use Rattle.sound_laws.specs.CommandsPassed.{part_read_fits, span_fits, wire_fits}

-- what reading keeps
pub record Readable (rd : Reading) : Type 0 where
  pub magnitude : magnitude_known rd.table.magnitude ≡ true
  pub few : length rd.table.parts ≤ most_parts
  pub components : All (ComponentFits (length rd.table.parts)) rd.table.parts
  pub drive : rd.spannable ≡ true → (0 < length rd.table.parts) × (is_drive (open_component rd).kind ≡ true)

-- what a turn comes to: reading goes on with what it keeps, or ends with the fresh model of a table that fits, where it
-- is accepted
abbrev pub Keeps : Read → Type 0
Keeps (onward at rd) = Readable rd
Keeps (ended r) = r.number ≡ 0 → (t : Table) × (table_fits t ≡ true) × (r.model ≡ fresh t)

-- before anything is read
pub kept_nothing : Readable nothing_read
unfolding magnitude_known
kept_nothing = record { magnitude = refl; few = omega arith; components = tt; drive = λ s. absurd (false≢true s) }

-- Begin keeps what reading keeps
kept_begin : (e : ℕ) → begin_refusal e ≡ 0 → Readable (begun_with e)
unfolding begun_with
kept_begin e h =
    record {
      magnitude = begin_passed e h;
      few = omega arith;
      components = tt;
      drive = λ s. absurd (false≢true s);
    }

-- Part keeps what reading keeps
kept_part :
    (bs : List ℕ) (at : ℕ) (rd : Reading) → Readable rd →
    part_refusal rd.table.parts (byte_at bs (at + 1)) (part_read bs at) ≡ 0 →
    Readable (with_part rd (part_read bs at))
unfolding with_part last_part
kept_part bs at rd k h =
    let cs = rd.table.parts in
    let c = part_read bs at in
    let (room, preference, operands) = part_passed cs (byte_at bs (at + 1)) c h in
    let count = length_added cs c in
    record {
      magnitude = k.magnitude;
      few = omega arith;
      components =
          rw (length_added cs c)
          (all_added (ComponentFits (suc (length cs))) cs c
          (all_give (ComponentFits (length cs)) (ComponentFits (suc (length cs))) cs (component_more (length cs))
          k.components)
          (part_read_fits (suc (length cs)) bs at preference operands));
      drive = λ s. (omega arith, ap (λ (d : Component). is_drive d.kind) (last_of_added cs c blank_component) ∙ s);
    }

-- a component replaced by one that fits keeps what reading keeps
kept_component :
    (rd : Reading) (spannable : Bool) (k : ℕ) (c : Component) → Readable rd →
    ComponentFits (length rd.table.parts) c →
    (spannable ≡ true → (0 < length rd.table.parts) × (k ≡ last_part rd.table.parts) ×
    (is_drive c.kind ≡ true)) →
    Readable (with_component rd spannable k c)
unfolding with_component last_part
kept_component rd spannable k c r f last =
    let cs = rd.table.parts in
    record {
      magnitude = r.magnitude;
      few = rw (length-set cs k c) r.few;
      components = rw (length-set cs k c) (all_set (ComponentFits (length cs)) cs k c r.components f);
      drive =
          λ s.
          let (some, here, drive) = last s in
          let same : component_at (set cs k c) (last_part (set cs k c)) ≡ c =
          rw here (last_of_set cs c blank_component some) in
          (rw (length-set cs k c) some, ap (λ (d : Component). is_drive d.kind) same ∙ drive);
    }

-- Span keeps what reading keeps
kept_span :
    (rd : Reading) (v : ℕ) → Readable rd → rd.spannable ≡ true → span_refusal (open_component rd) v ≡ 0 →
    Readable (with_component rd true (last_part rd.table.parts) (with_span (open_component rd) v))
unfolding last_part with_span
kept_span rd v r s h =
    let cs = rd.table.parts in
    let (some, drive) = r.drive s in
    let there : length cs - 1 < length cs = omega arith in
    kept_component rd true (last_part cs) (with_span (open_component rd) v) r
    (span_fits (length cs) (open_component rd) v
    (all_at (ComponentFits (length cs)) cs blank_component (last_part cs) r.components there) drive h)
    (λ e. (some, refl, drive))

-- Wire keeps what reading keeps
kept_wire :
    (rd : Reading) (source receiver port : ℕ) → Readable rd → wire_refusal rd.table.parts source receiver port ≡ 0 →
    Readable (with_component rd false receiver (with_wire (component_at rd.table.parts receiver) port source))
kept_wire rd source receiver port r h =
    let cs = rd.table.parts in
    let (there, here, known) = wire_passed cs source receiver port h in
    kept_component rd false receiver (with_wire (component_at cs receiver) port source) r
    (wire_fits (length cs) (component_at cs receiver) source port
    (all_at (ComponentFits (length cs)) cs blank_component receiver r.components here) there known)
    (λ e. absurd (false≢true e))

-- End accepts a table that fits
end_fits : (rd : Reading) → Readable rd → end_refusal rd.table ≡ 0 → table_fits rd.table ≡ true
end_fits rd r h =
    let cs = rd.table.parts in
    let (some, periods, order) = end_passed rd.table h in
    table_test rd.table
    (record {
      magnitude = r.magnitude;
      some = some;
      few = r.few;
      components = r.components;
      periods = periods;
      order = order;
    })

-- each turn keeps what reading keeps
pub kept_turn : (bs : List ℕ) (at : ℕ) (rd : Reading) → Readable rd → Keeps (read_turn bs at rd)
unfolding accepted
kept_turn bs at rd r =
    turn_cases Keeps bs at rd (λ number position some none. absurd (omega arith))
    (kept_begin (byte_at bs (at + 1)))
    (kept_part bs at rd r)
    (kept_span rd (word_at bs (at + 1)) r)
    (kept_wire rd (byte_at bs (at + 1)) (byte_at bs (at + 2)) (byte_at bs (at + 3)) r)
    (λ h none. (rd.table, end_fits rd r h, refl))

-- reading, from what it keeps, ends with the fresh model of a table that fits, where it is accepted
read_fits :
    (n : ℕ) (bs : List ℕ) (at : ℕ) (rd : Reading) → Readable rd → (read_from n bs at rd).number ≡ 0 →
    (t : Table) × (table_fits t ≡ true) × ((read_from n bs at rd).model ≡ fresh t)
unfolding read_from
read_fits zero bs at rd r h = absurd (omega arith)
read_fits (suc n) bs at rd r h = on_fits (read_turn bs at rd) (kept_turn bs at rd r) (read_fits n bs) h
  where
    -- the same of what follows a turn
    on_fits :
        (r : Read) → Keeps r →
        ((at : ℕ) (rd : Reading) → Readable rd → (read_from n bs at rd).number ≡ 0 →
        (t : Table) × (table_fits t ≡ true) × ((read_from n bs at rd).model ≡ fresh t)) →
        (read_on r (read_from n bs)).number ≡ 0 → (t : Table) × (table_fits t ≡ true) ×
        ((read_on r (read_from n bs)).model ≡ fresh t)
    on_fits (onward at rd) k later h = later at rd k h
    on_fits (ended r) k later h = k h

-- a stream that loads leaves the fresh model of a table that fits
pub load_fits : (bs : List ℕ) → (load bs).number ≡ 0 → (t : Table) × (table_fits t ≡ true) × ((load bs).model ≡ fresh t)
unfolding load
load_fits bs h = read_fits (suc (length bs)) bs 0 nothing_read kept_nothing h
