-- Document 01, "The table's bytes", with request 2: when a model is sound, and refused with 24 otherwise. Asked of a
-- trimmed model. Assumes nothing.
use Rattle.std.specs.Prelude.{ℕ, Bool, true, cond, ◌&&◌, List, [], ◌∷◌, map, length, eqb, leb, ltb, ℤ}
use Rattle.machine.specs.declared.part.Kind.{Kind}
use Rattle.machine.specs.declared.part.Source.{Source}
use Rattle.machine.specs.declared.part.Source.TheVariants.{Unwired, From}
use Rattle.machine.specs.declared.part.Component.{Component}
use Rattle.machine.specs.declared.part.Part.{Part}
use Rattle.machine.specs.declared.model.Model.{Model}
use Rattle.machine.specs.Lists.{every, same}
use Rattle.machine.specs.Time.{tick, in_time, magnitude_known, local_count}
use Rattle.machine.specs.Signal.{is_value, is_signal}
use Rattle.machine.specs.Kind.{ports, is_zero, operands_fit, has_mass}
use Rattle.machine.specs.Model.{most_parts, most_spans}
use Rattle.machine.specs.Table.{Table, table_of, ratios, periods_fit, part_order, ordered}
use Rattle.machine.specs.Load.{preference_known, is_drive}

-- a source that loading could have wired to the port with this number, of a part with so many ports, in a table of so
-- many parts
unfoldable pub source_fits : (parts port_count port : ℕ) → Source → Bool
source_fits n m port Unwired = true
source_fits n m port (From k) = ltb port m && ltb k n

-- spans, each above the one before and at most 10^9, the first above v
unfoldable pub spans_rise : ℕ → List ℕ → Bool
spans_rise v [] = true
spans_rise v (s ∷ ss) = ltb v s && leb s 1_000_000_000 && spans_rise s ss

-- as many spans as the component says: of a drive at most eight, of another kind none
unfoldable pub spans_fit : Component → Bool
spans_fit c =
    eqb c.span_count (length c.spans) && leb (length c.spans) (cond (is_drive c.kind) most_spans 0) &&
    spans_rise 0 c.spans

-- a component that loading accepts, in a table of n parts; its kind can be no other
unfoldable pub component_fits : ℕ → Component → Bool
component_fits n c =
    preference_known c.preference && operands_fit c.kind c.a c.b c.p && spans_fit c &&
    source_fits n (ports c.kind) 0 c.port0 &&
    source_fits n (ports c.kind) 1 c.port1

-- "a table that loading accepts"
unfoldable pub table_fits : Table → Bool
table_fits t =
    magnitude_known t.magnitude && leb 1 (length t.parts) && leb (length t.parts) most_parts &&
    every (component_fits (length t.parts)) t.parts &&
    periods_fit t &&
    ordered t.parts

-- request 2: "the speed as second held number: in a sound model a value, and 0 for other kinds"
unfoldable pub speed_fits : Kind → ℤ → Bool
speed_fits k v = cond (has_mass k) (is_value v) (is_zero v)

-- "each local count floor(t / r); every held number a value; every held signal and output a value or absent". Sides and
-- marks can be no others
unfoldable pub state_fits : ℕ → Part → Bool
state_fits t p =
    eqb p.state.local.0 (local_count t p.ratio).0 && is_value p.state.held &&
    speed_fits p.component.kind p.state.speed &&
    is_signal p.state.signal && is_signal p.state.output

-- "Sound means: a table that loading accepts, with the ratios and part order that it gives; t and n in range"; and as
-- many parts as the model says
unfoldable pub sound : Model → Bool
sound m =
    eqb m.count (length m.parts) && table_fits (table_of m) &&
    same (map (λ (p : Part). p.ratio) m.parts) (ratios (table_of m)) &&
    same m.order (part_order (table_of m).parts) &&
    in_time m.point &&
    every (state_fits (tick m.point)) m.parts
