-- Request 6, "Each call keeps its answers, whatever outputs those records held before", of any way to fill a point's
-- outputs: filling has it, and two ways that look at the outputs held before have it not. The idea: a gain with no wire
-- shows nothing, and both show what it held. Assumes nothing.
use Rattle.std.specs.Prelude.{ℕ, ◌≡◌, refl, Bool, true, false, List, [], ◌∷◌, map, set, pos}
use Rattle.std.proofs.Common.{sym, ap, ◌∙◌, true≢false}
use Rattle.machine.specs.declared.time.Point.{Point}
use Rattle.machine.specs.declared.signal.Signal.{Signal}
use Rattle.machine.specs.declared.signal.Signal.TheVariants.{Absent, Value}
use Rattle.machine.specs.declared.part.Kind.TheVariants.{Gain}
use Rattle.machine.specs.declared.part.Source.{Source}
use Rattle.machine.specs.declared.part.Source.TheVariants.{Unwired, From}
use Rattle.machine.specs.declared.part.Part.{Part}
use Rattle.machine.specs.Time.{start}
use Rattle.machine.specs.Signal.{product, first_present}
use Rattle.machine.specs.Kind.{output_as, output}
use Rattle.machine.specs.Model.{blank_state, part_at, reading, reading0, reading1}
use Rattle.machine.specs.Table.{source_placed, ready, lowest_ready, placed, part_order, ordered}
use Rattle.machine.specs.Step.{with_output, shown, filled}
use Rattle.order_laws.specs.Order.{CompleteOrder, order_complete}
use Rattle.order_laws.specs.Row.{unshown, components}
use Rattle.order_laws.specs.Filling.{filled_anyway}

-- a way to show a part's output: the parts before, the point, the parts and the part
abbrev Shows : Type 0
Shows = List Part → Point → List Part → Part → Part

-- the outputs of a point shown so, in an order
unfoldable pub filled_by : Shows → List Part → Point → List ℕ → List Part → List Part
filled_by shows old now [] ps = ps
filled_by shows old now (k ∷ ks) ps = filled_by shows old now ks (set ps k (shows old now ps (part_at ps k)))

-- parts that agree but for the outputs that they held are filled alike
abbrev pub WhateverHeld : Shows → Type 0
WhateverHeld shows =
    (old : List Part) (now : Point) (ps ps' : List Part) (ks : List ℕ) → CompleteOrder (components ps) ks →
    map unshown ps' ≡ map unshown ps →
    filled_by shows old now ks ps' ≡ filled_by shows old now ks ps

-- the machine's way is `filled`
by_shown : (old : List Part) (now : Point) (ks : List ℕ) (ps : List Part) →
    filled_by shown old now ks ps ≡ filled old now ks ps
unfolding filled_by filled
by_shown old now [] ps = refl
by_shown old now (k ∷ ks) ps = by_shown old now ks (set ps k (shown old now ps (part_at ps k)))

-- so it has it
pub shown_whatever_held : WhateverHeld shown
shown_whatever_held old now ps ps' ks complete e =
    rw (by_shown old now ks ps, by_shown old now ks ps') (filled_anyway old now ps ps' ks complete e)

-- the part as it is where its port 0 is unwired
unfoldable pub kept_unwired : Source → Part → Part → Part
kept_unwired Unwired p shows = p
kept_unwired (From k) p shows = shows

-- a way that keeps the output held where port 0 is unwired
unfoldable pub keeping : Shows
keeping old now ps p = kept_unwired p.component.port0 p (shown old now ps p)

-- a way that reads the part's own output held, where the new one would be absent
unfoldable pub stale : Shows
stale old now ps p =
    with_output p (first_present (output p now (reading0 ps p) (reading1 ps p) (reading0 old p)) p.state.output)

-- a gain with no wire, which holds an output
abbrev gain : Signal → Part
gain held =
    with_output
    (record {
      component =
          record {
            kind = Gain;
            preference = 0;
            a = pos 1;
            b = pos 0;
            p = 0;
            span_count = 0;
            spans = [];
            port0 = Unwired;
            port1 = Unwired;
          };
      ratio = 1;
      state = blank_state;
    })
    held

-- whether a signal is a value, and whether the first part shows one
abbrev present : Signal → Bool
present Absent = false
present (Value v) = true

abbrev first_shows : List Part → Bool
first_shows [] = false
first_shows (p ∷ ps) = present p.state.output

-- alone in a table, whether it held a value or not
abbrev alone : Signal → List Part
alone held = gain held ∷ []

-- its order is complete
alone_complete : CompleteOrder (components (alone Absent)) (part_order (components (alone Absent)))
unfolding source_placed ready lowest_ready placed part_order ordered
alone_complete = order_complete (components (alone Absent)) refl

-- its outputs filled in a way, where it held an output
abbrev alone_filled : Shows → Signal → List Part
alone_filled shows held = filled_by shows [] start (part_order (components (alone Absent))) (alone held)

-- a way that shows the value that it held, and nothing where it held none, has it not
held_refuted : (shows : Shows) → first_shows (alone_filled shows (Value (pos 5))) ≡ true →
    first_shows (alone_filled shows Absent) ≡ false →
    WhateverHeld shows → ⊥
held_refuted shows held none same =
    true≢false
    (sym held ∙ (ap first_shows
    (same [] start (alone Absent) (alone (Value (pos 5)))
    (part_order (components (alone Absent))) alone_complete refl) ∙ none))

-- both ways do
pub keeping_refuted : WhateverHeld keeping → ⊥
unfolding filled_by keeping kept_unwired shown output output_as product reading reading0 reading1 source_placed ready
    lowest_ready placed part_order
keeping_refuted = held_refuted keeping refl refl

pub stale_refuted : WhateverHeld stale → ⊥
unfolding filled_by stale output output_as product reading reading0 reading1 source_placed ready lowest_ready placed
    part_order
stale_refuted = held_refuted stale refl refl
