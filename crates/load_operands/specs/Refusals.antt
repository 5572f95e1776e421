-- The refusal numbers of commands as the code asks for them: by the counts, operands and sources that document 01's
-- tests depend on. Assumes nothing.
use Rattle.std.specs.Prelude.{ℕ, ◌≡◌, refl, Bool, true, false, cond, not, ◌&&◌, eqb, leb, ltb, Result, Ok, Err}
use Rattle.machine.specs.declared.part.Kind.{Kind}
use Rattle.machine.specs.declared.part.Source.{Source}
use Rattle.machine.specs.Kind.{kind_known, kind_of, ports, is_positive, operands_fit}
use Rattle.machine.specs.Model.{most_parts, most_spans}
use Rattle.machine.specs.Load.{begin_byte, part_byte, span_byte, wire_byte, end_byte, want_byte, known_command}
use Rattle.machine.specs.Load.{preference_known, signed, wired}
use Rattle.part_rules.specs.KindMeant.{found_number}
use Rattle.refusals.specs.declared.Refusal.{Refusal}
use Rattle.refusals.specs.Numbers.{refusal_number}
use Rattle.load_operands.specs.declared.operands.PartOperands.{PartOperands}
use Rattle.load_operands.specs.declared.refusal.Command.{Command}
use Rattle.load_operands.specs.declared.refusal.Command.TheVariants.{Begin, Part, Span, Wire, End}

-- a Part's operands: a kind that is not found has the number of that answer; after it a preference that is unknown, and
-- an operand outside its range
unfoldable pub operands_number : PartOperands → ℕ
operands_number o =
    cond (kind_known o.kind)
    (cond (preference_known o.preference && operands_fit (kind_of o.kind) (signed o.a) (signed o.b) o.p)
    0 5)
    (found_number (Err (record { 0 = o.kind })))

-- which is document 01's one test: "operand outside its range, or kind or preference unknown"
pub operands_judged : (o : PartOperands) →
    operands_number o ≡
    cond (kind_known o.kind && preference_known o.preference &&
    operands_fit (kind_of o.kind) (signed o.a) (signed o.b) o.p) 0 5
unfolding operands_number
operands_judged o = by_kind (kind_known o.kind) (preference_known o.preference)
    (operands_fit (kind_of o.kind) (signed o.a) (signed o.b) o.p)
  where
    by_kind : (kind preference fit : Bool) →
        ◌≡◌ {A = ℕ} (cond kind (cond (preference && fit) 0 5) 5) (cond (kind && preference && fit) 0 5)
    by_kind true preference fit = refl
    by_kind false preference fit = refl

-- a Part after so many parts
unfoldable pub part_number : ℕ → PartOperands → ℕ
part_number count o = cond (leb most_parts count) 6 (operands_number o)

-- a Span with the value v after so many spans, the last of them given
unfoldable pub span_number : (count last v : ℕ) → ℕ
span_number count last v = cond (leb most_spans count) 6 (cond (is_positive v) (cond (ltb last v) 0 12) 5)

-- a Wire to a port of a part of this kind, whose ports are wired so
unfoldable pub port_number : Kind → (port0 port1 : Source) → ℕ → ℕ
port_number kind port0 port1 port = cond (ltb port (ports kind)) (cond (wired (cond (eqb port 0) port0 port1)) 8 0) 7

-- a command byte is where it may: by whether Begin was read, and whether a span may follow
unfoldable pub in_its_place : (begun spannable : Bool) → ℕ → Bool
in_its_place begun spannable b =
    cond (eqb b begin_byte) (not begun)
    (cond (eqb b span_byte) (begun && spannable) (cond (eqb b want_byte) false begun))

-- a command that is unknown, or out of place
unfoldable pub command_number : (begun spannable : Bool) → ℕ → ℕ
command_number begun spannable b = cond (known_command b) (cond (in_its_place begun spannable b) 0 3) 2

-- document 01's byte of each command
abbrev pub command_byte : Command → ℕ
command_byte Begin = begin_byte
command_byte Part = part_byte
command_byte Span = span_byte
command_byte Wire = wire_byte
command_byte End = end_byte

-- what is found at a byte: the command that has it, or that no table has a command there, wherever it is
abbrev pub CommandFound : ℕ → Result Command Refusal → Type 0
CommandFound b (Ok command) = command_byte command ≡ b
CommandFound b (Err r) = (begun spannable : Bool) → refusal_number r ≡ command_number begun spannable b

-- a command of a table is known, so that its place alone is judged
pub command_known : (begun spannable : Bool) (command : Command) →
    command_number begun spannable (command_byte command) ≡
    cond (in_its_place begun spannable (command_byte command)) 0 3
unfolding command_number known_command
command_known begun spannable Begin = refl
command_known begun spannable Part = refl
command_known begun spannable Span = refl
command_known begun spannable Wire = refl
command_known begun spannable End = refl
