-- What soundness says of the parts of a model: where their ports are wired to, and that no P is above 10^18. Assumes
-- nothing.
use Rattle.std.specs.Prelude.{ℕ, ◌*◌, ◌≤◌, ◌<◌, ◌≡◌, true, ltb}
use Rattle.std.proofs.Math.Path.{sym}
use Rattle.std.proofs.Common.{◌∙◌, leb-true, ltb-true}
use Rattle.std.proofs.Math.ListN.{length, length-map}
use Rattle.std.proofs.Math.Dec.{leb}
use Rattle.machine.specs.declared.part.Source.{Source}
use Rattle.machine.specs.declared.part.Source.TheVariants.{Unwired, From}
use Rattle.machine.specs.declared.part.Component.{Component}
use Rattle.machine.specs.declared.part.Part.{Part}
use Rattle.machine.specs.declared.model.Model.{Model}
use Rattle.machine.specs.Lists.{All}
use Rattle.machine.specs.Time.{last_tick}
use Rattle.machine.specs.Kind.{ports, period}
use Rattle.machine.specs.Model.{blank_component, blank_part, part_at}
use Rattle.machine.specs.Table.{table_of, component_ratio, periods_fit}
use Rattle.machine.specs.Sound.{sound, source_fits}
use Rattle.laws.specs.Bools.{and_right}
use Rattle.laws.specs.ListLaws.{all_intro, every_at}
use Rattle.sound_laws.specs.Facts.{ComponentFits, TableFits, table_facts, Soundness, sound_facts}
use Rattle.sound_laws.specs.SoundParts.{table_component, sound_component, sound_ratio_given}
use Rattle.step_parts.specs.Reading.{SourceBelow, WiredBelow}
use Rattle.step_parts.specs.Fillable.{Wired}

-- a source that loading could have wired is one of the table's parts
source_below : (n m port : ℕ) (s : Source) → source_fits n m port s ≡ true → SourceBelow n s
unfolding source_fits SourceBelow
source_below n m port Unwired h = tt
source_below n m port (From k) h = ltb-true k n (and_right (ltb port m) (ltb k n) h)

-- so the components of a table that fits are wired within it
pub component_wired : (n : ℕ) (c : Component) → ComponentFits n c → WiredBelow n c
component_wired n c f =
    record {
      port0 = source_below n (ports c.kind) 0 c.port0 f.port0;
      port1 = source_below n (ports c.kind) 1 c.port1 f.port1;
    }

module _ (m : Model) (is_sound : sound m ≡ true) where
  facts : Soundness m
  facts = sound_facts m is_sound

  table : TableFits (table_of m)
  table = table_facts (table_of m) facts.table

  -- as many components as parts
  pub sound_many : length (table_of m).parts ≡ m.count
  unfolding table_of
  sound_many = length-map m.parts (λ (p : Part). p.component) ∙ sym facts.counted

  -- a sound model is wired within its parts
  pub sound_wired : Wired m
  sound_wired =
      record {
        few = rw (← sound_many) table.few;
        counted = facts.counted;
        sources =
            all_intro (λ (p : Part). WiredBelow m.count p.component) m.parts blank_part
            (λ i h.
            rw sound_many at
            (component_wired (length (table_of m).parts) (part_at m.parts i).component
            (sound_component m is_sound i h)));
      }

  -- no P is above 10^18
  pub sound_periods : All (λ (p : Part). period p ≤ last_tick) m.parts
  unfolding periods_fit
  sound_periods =
      all_intro (λ (p : Part). period p ≤ last_tick) m.parts blank_part
      (λ i h.
      let within : i < length (table_of m).parts = rw (sound_many, facts.counted) h in
      let fits =
      every_at (λ (c : Component). leb (c.p * component_ratio (table_of m) c) last_tick)
      (table_of m).parts blank_component i table.periods within in
      rw (sound_ratio_given m is_sound i h)
      (leb-true ((part_at m.parts i).component.p * component_ratio (table_of m) (part_at m.parts i).component)
      last_tick
      (rw (table_component m i) at fits)))
