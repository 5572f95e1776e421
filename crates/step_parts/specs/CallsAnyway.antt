-- Request 6, "Each call keeps its answers, whatever outputs those records held before", of a step and of the start
-- point as whole calls: the step of every sound model, and the fresh model of every table that fits, are those of any
-- parts that agree with the moved ones, or with the first ones, but for the outputs held. Assumes nothing.
use Rattle.std.specs.Prelude.{ℕ, ◌≡◌, true, List, [], map}
use Rattle.machine.specs.declared.part.Part.{Part}
use Rattle.machine.specs.declared.model.Model.{Model}
use Rattle.machine.specs.Time.{led_to, start, tick}
use Rattle.machine.specs.Model.{with_parts}
use Rattle.machine.specs.Table.{Table, part_order, table_of}
use Rattle.machine.specs.Step.{all_moved, all_settled, filled, step_made}
use Rattle.machine.specs.Fresh.{first_parts, fresh}
use Rattle.machine.specs.Sound.{sound, table_fits}
use Rattle.sound_laws.specs.Facts.{sound_facts, table_facts}
use Rattle.order_laws.specs.Row.{unshown}
use Rattle.order_laws.specs.Models.{fresh_anyway, step_anyway}

-- a step of a sound model
pub sound_step_anyway :
    (m : Model) (h : ℕ) → sound m ≡ true → (ps : List Part) →
    map unshown ps ≡ map unshown (all_moved (tick m.point) h m.parts) →
    with_parts m (led_to m.point h) (all_settled (filled m.parts (led_to m.point h) m.order ps)) ≡
    step_made m h
unfolding table_of
sound_step_anyway m h is_sound =
    let facts = sound_facts m is_sound in
    step_anyway m h (table_facts (table_of m) facts.table).order facts.order

-- the start point of a table that fits
pub start_anyway :
    (t : Table) → table_fits t ≡ true → (ps : List Part) → map unshown ps ≡ map unshown (first_parts t) →
    with_parts (fresh t) start (all_settled (filled [] start (part_order t.parts) ps)) ≡ fresh t
start_anyway t fits = fresh_anyway t (table_facts t fits).order
