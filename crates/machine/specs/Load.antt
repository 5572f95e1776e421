-- Document 01, "The table's bytes": the commands, what a table's bytes load to, every refusal with its number and
-- position. Commands are read in turn; within one the order is 2, 3, 1, 6, 5, 12, 7, 8, then 9, 10, 11 at End. A stream
-- is a list of bytes. Assumes nothing.
use Rattle.std.specs.Prelude.{ℕ, zero, suc, ◌+◌, ◌-◌, ◌*◌, Bool, true, false, cond, not, ◌&&◌, ◌||◌, List, [], ◌∷◌}
use Rattle.std.specs.Prelude.{◌++◌, length, get_or, set, eqb, leb, ltb, ℤ, pos, negsuc}
use Rattle.machine.specs.declared.part.Kind.{Kind}
use Rattle.machine.specs.declared.part.Source.{Source}
use Rattle.machine.specs.declared.part.Source.TheVariants.{Unwired, From}
use Rattle.machine.specs.declared.part.Component.{Component}
use Rattle.machine.specs.Answers.{Loaded}
use Rattle.machine.specs.Time.{magnitude_known, no_preference}
use Rattle.machine.specs.Kind.{kind_number, kind_known, kind_of, ports, is_positive, operands_fit}
use Rattle.machine.specs.Model.{most_parts, most_spans, no_model}
use Rattle.machine.specs.Table.{Table, component_at, periods_fit, ordered}
use Rattle.machine.specs.Fresh.{fresh}

-- "Commands of one byte": Begin, Part, Span, Wire and End; in the score, a wanted step
abbrev pub begin_byte : ℕ
begin_byte = 0x01

abbrev pub part_byte : ℕ
part_byte = 0x02

abbrev pub span_byte : ℕ
span_byte = 0x03

abbrev pub wire_byte : ℕ
wire_byte = 0x04

abbrev pub end_byte : ℕ
end_byte = 0x05

abbrev pub want_byte : ℕ
want_byte = 0x06

-- "command byte not 01h to 06h" is unknown
unfoldable pub known_command : ℕ → Bool
known_command b = leb begin_byte b && leb b want_byte

-- "then operands of fixed width": the width of each command, its byte included
unfoldable pub command_width : ℕ → ℕ
command_width b =
    cond (eqb b begin_byte) 2
    (cond (eqb b part_byte) 15
    (cond (eqb b span_byte) 5
    (cond (eqb b wire_byte) 4
    (cond (eqb b end_byte) 1 5))))

-- the byte at a position
unfoldable pub byte_at : List ℕ → ℕ → ℕ
byte_at bs at = get_or bs at 0

-- operands "are little-endian": the number that four bytes make, the lowest first
unfoldable pub word_at : List ℕ → ℕ → ℕ
word_at bs at =
    byte_at bs at + 256 * byte_at bs (at + 1) + 65536 * byte_at bs (at + 2) + 16777216 * byte_at bs (at + 3)

-- "Operands a, b are signed 32-bit", in two's complement
unfoldable pub signed : ℕ → ℤ
signed v = cond (ltb v 2147483648) (pos v) (negsuc (4294967296 - suc v))

-- the table as far as it has been read: whether Begin was, and whether a span may follow, that is, the command before
-- is a drive's Part or a Span
pub record Reading : Type 0 where
  pub begun : Bool
  pub spannable : Bool
  pub table : Table

-- where reading begins: nothing was read
abbrev pub nothing_read : Reading
nothing_read = record { begun = false; spannable = false; table = record { magnitude = 0; parts = [] } }

-- "Begin .. stands first and once"; a Span "follows a drive or that drive's earlier span"; 06h is out of place before
-- End
unfoldable pub in_place : Reading → ℕ → Bool
in_place rd b =
    cond (eqb b begin_byte) (not rd.begun)
    (cond (eqb b span_byte) (rd.begun && rd.spannable)
    (cond (eqb b want_byte) false rd.begun))

-- what a command comes to: reading goes on at a position, or ends with what loading answers
pub data Read : Type 0 where
  onward : ℕ → Reading → Read
  ended : Loaded → Read

-- a refusal: its number and position, and no model
abbrev pub refused : ℕ → ℕ → Loaded
refused number at = record { number = number; position = at; model = no_model }

-- a command at position `at` with the refusal number given, 0 meaning none, and what it leaves where there is none
abbrev pub unless_refused : ℕ → ℕ → ℕ → Reading → Read
unless_refused number at next rd = cond (eqb number 0) (onward next rd) (ended (refused number at))

-- 01h Begin: "e, 1 byte", which is a magnitude, else 5
unfoldable pub begin_refusal : ℕ → ℕ
begin_refusal e = cond (magnitude_known e) 0 5

-- what is read then: a default magnitude, and no parts yet
unfoldable pub begun_with : ℕ → Reading
begun_with e = record { begun = true; spannable = false; table = record { magnitude = e; parts = [] } }

-- 02h Part: "kind 1, preference 1, a 4, b 4, p 4", as a component that no span or wire has reached yet
unfoldable pub part_read : List ℕ → ℕ → Component
part_read bs at =
    record {
      kind = kind_of (byte_at bs (at + 1));
      preference = byte_at bs (at + 2);
      a = signed (word_at bs (at + 3));
      b = signed (word_at bs (at + 7));
      p = word_at bs (at + 11);
      span_count = 0;
      spans = [];
      port0 = Unwired;
      port1 = Unwired;
    }

-- "A part may prefer one, 0 to 15; FFh means none"
unfoldable pub preference_known : ℕ → Bool
preference_known q = magnitude_known q || eqb q no_preference

-- "33rd part", then "operand outside its range, or kind or preference unknown"
unfoldable pub part_refusal : List Component → ℕ → Component → ℕ
part_refusal cs kind c =
    cond (leb most_parts (length cs)) 6
    (cond (kind_known kind && preference_known c.preference && operands_fit c.kind c.a c.b c.p) 0 5)

-- kind 11, which spans may follow
unfoldable pub is_drive : Kind → Bool
is_drive k = eqb (kind_number k) 11

-- "Parts number from 0": the part is put after those read before it
unfoldable pub with_part : Reading → Component → Reading
with_part rd c =
    record {
      begun = true;
      spannable = is_drive c.kind;
      table = record { magnitude = rd.table.magnitude; parts = rd.table.parts ++ (c ∷ []) };
    }

-- 03h Span "follows a drive or that drive's earlier span", so that it is the last part's: that part's number
unfoldable pub last_part : List Component → ℕ
last_part cs = length cs - 1

-- "the one before": the part's last span, 0 if there is none
unfoldable pub last_span : Component → ℕ
last_span c = get_or c.spans (length c.spans - 1) 0

-- the part with one span more
unfoldable pub with_span : Component → ℕ → Component
with_span c v =
    record {
      kind = c.kind;
      preference = c.preference;
      a = c.a;
      b = c.b;
      p = c.p;
      span_count = c.span_count + 1;
      spans = c.spans ++ (v ∷ []);
      port0 = c.port0;
      port1 = c.port1;
    }

-- "ninth span", then "operand outside its range", then "span not above the one before"
unfoldable pub span_refusal : Component → ℕ → ℕ
span_refusal c v =
    cond (leb most_spans (length c.spans)) 6 (cond (is_positive v) (cond (ltb (last_span c) v) 0 12) 5)

-- the reading with the component k replaced, and whether a span may follow
unfoldable pub with_component : Reading → Bool → ℕ → Component → Reading
with_component rd spannable k c =
    record {
      begun = true;
      spannable = spannable;
      table = record { magnitude = rd.table.magnitude; parts = set rd.table.parts k c };
    }

-- 04h Wire, "source part, receiving part, receiving port": the source of the receiving part's port
unfoldable pub source_of : Component → ℕ → Source
source_of c port = cond (eqb port 0) c.port0 c.port1

-- the port is "already wired"
abbrev pub wired : Source → Bool
wired Unwired = false
wired (From k) = true

-- the receiving part with that port wired to the source part
unfoldable pub with_wire : Component → ℕ → ℕ → Component
with_wire c port source =
    record {
      kind = c.kind;
      preference = c.preference;
      a = c.a;
      b = c.b;
      p = c.p;
      span_count = c.span_count;
      spans = c.spans;
      port0 = cond (eqb port 0) (From source) c.port0;
      port1 = cond (eqb port 0) c.port1 (From source);
    }

-- "wire names an unknown part or port", then "port already wired"
unfoldable pub wire_refusal : List Component → (source receiver port : ℕ) → ℕ
wire_refusal cs source receiver port =
    cond (ltb source (length cs) && ltb receiver (length cs) && ltb port (ports (component_at cs receiver).kind))
    (cond (wired (source_of (component_at cs receiver) port)) 8 0)
    7

-- 05h End: "no parts", then "some P above 10^18", then "a loop exists": then no order has all parts
unfoldable pub end_refusal : Table → ℕ
end_refusal t = cond (eqb (length t.parts) 0) 9 (cond (periods_fit t) (cond (ordered t.parts) 0 11) 10)

-- "An accepted load also returns the position after it", after End; its model is the fresh one of the table
unfoldable pub accepted : ℕ → Table → Loaded
accepted at t = record { number = 0; position = at + 1; model = fresh t }

-- the commands, each with all its operands there, at position `at`: Begin
unfoldable pub begin_command : List ℕ → ℕ → Read
begin_command bs at = unless_refused (begin_refusal (byte_at bs (at + 1))) at (at + 2)
    (begun_with (byte_at bs (at + 1)))

-- Part
unfoldable pub part_command : List ℕ → ℕ → Reading → Read
part_command bs at rd =
    unless_refused (part_refusal rd.table.parts (byte_at bs (at + 1)) (part_read bs at)) at (at + 15)
    (with_part rd (part_read bs at))

-- Span
unfoldable pub span_command : List ℕ → ℕ → Reading → Read
span_command bs at rd =
    let k = last_part rd.table.parts in
    let c = component_at rd.table.parts k in
    let v = word_at bs (at + 1) in
    unless_refused (span_refusal c v) at (at + 5) (with_component rd true k (with_span c v))

-- Wire
unfoldable pub wire_command : List ℕ → ℕ → Reading → Read
wire_command bs at rd =
    let source = byte_at bs (at + 1) in
    let receiver = byte_at bs (at + 2) in
    let port = byte_at bs (at + 3) in
    unless_refused (wire_refusal rd.table.parts source receiver port) at (at + 4)
    (with_component rd false receiver (with_wire (component_at rd.table.parts receiver) port source))

-- End
unfoldable pub end_command : ℕ → Reading → Read
end_command at rd =
    cond (eqb (end_refusal rd.table) 0)
    (ended (accepted at rd.table))
    (ended (refused (end_refusal rd.table) at))

-- a command that is known, in place and whole
unfoldable pub whole_command : List ℕ → ℕ → Reading → ℕ → Read
whole_command bs at rd b =
    cond (eqb b begin_byte) (begin_command bs at)
    (cond (eqb b part_byte) (part_command bs at rd)
    (cond (eqb b span_byte) (span_command bs at rd)
    (cond (eqb b wire_byte) (wire_command bs at rd) (end_command at rd))))

-- the command with byte b at position `at`: unknown 2, out of place 3, "stream ends .. inside a command" 1, before any
-- operand is judged
unfoldable pub command_read : List ℕ → ℕ → Reading → ℕ → Read
command_read bs at rd b =
    cond (known_command b)
    (cond (in_place rd b)
    (cond (leb (at + command_width b) (length bs)) (whole_command bs at rd b) (ended (refused 1 at)))
    (ended (refused 3 at)))
    (ended (refused 2 at))

-- one turn of reading: "stream ends before End" is 1 at the stream's length
unfoldable pub read_turn : List ℕ → ℕ → Reading → Read
read_turn bs at rd = cond (ltb at (length bs)) (command_read bs at rd (byte_at bs at)) (ended (refused 1 (length bs)))

-- what follows a turn
abbrev pub read_on : Read → (ℕ → Reading → Loaded) → Loaded
read_on (onward at rd) on = on at rd
read_on (ended r) on = r

-- reading for at most n turns; each turn that goes on takes a byte or more, so that as many turns as there are bytes,
-- and one, are never all taken without an end
unfoldable pub read_from : ℕ → List ℕ → ℕ → Reading → Loaded
read_from zero bs at rd = refused 1 (length bs)
read_from (suc n) bs at rd = read_on (read_turn bs at rd) (read_from n bs)

-- loading a stream
unfoldable pub load : List ℕ → Loaded
load bs = read_from (suc (length bs)) bs 0 nothing_read
