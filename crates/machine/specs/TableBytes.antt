-- Document 02, request 4: the bytes of a table, which are the commands that load it, in document 01's widths. "Begin
-- with the default magnitude, each part with its spans, the wires by receiving part and then port, and End". Assumes
-- nothing.
use Rattle.std.specs.Prelude.{ℕ, suc, ◌-◌, ◌/◌, ◌%◌, List, [], ◌∷◌, ◌++◌, ℤ, pos, negsuc}
use Rattle.machine.specs.declared.part.Source.{Source}
use Rattle.machine.specs.declared.part.Source.TheVariants.{Unwired, From}
use Rattle.machine.specs.declared.part.Component.{Component}
use Rattle.machine.specs.Kind.{kind_number}
use Rattle.machine.specs.Table.{Table}
use Rattle.machine.specs.Load.{begin_byte, part_byte, span_byte, wire_byte, end_byte}

-- operands "are little-endian": a number as four bytes
unfoldable pub operand_bytes : ℕ → List ℕ
operand_bytes v = v % 256 ∷ v / 256 % 256 ∷ v / 256 / 256 % 256 ∷ v / 256 / 256 / 256 % 256 ∷ []

-- "Operands a, b are signed 32-bit", in two's complement: −(n + 1) is 2^32 − 1 − n
unfoldable pub signed_operand : ℤ → ℕ
signed_operand (pos n) = n
signed_operand (negsuc n) = 4294967295 - n

-- 02h Part: "kind 1, preference 1, a 4, b 4, p 4"
unfoldable pub part_bytes : Component → List ℕ
part_bytes c =
    part_byte ∷ kind_number c.kind ∷ c.preference ∷
    (operand_bytes (signed_operand c.a) ++ (operand_bytes (signed_operand c.b) ++ operand_bytes c.p))

-- 03h Span: "4 bytes", one command for each span
unfoldable pub spans_bytes : List ℕ → List ℕ
spans_bytes [] = []
spans_bytes (v ∷ vs) = span_byte ∷ (operand_bytes v ++ spans_bytes vs)

-- the parts, by number, each with its spans after it
unfoldable pub parts_bytes : List Component → List ℕ
parts_bytes [] = []
parts_bytes (c ∷ cs) = part_bytes c ++ (spans_bytes c.spans ++ parts_bytes cs)

-- 04h Wire: "source part, receiving part, receiving port, 1 byte each"; none for a port that nothing is wired to
unfoldable pub port_bytes : (receiver port : ℕ) → Source → List ℕ
port_bytes receiver port Unwired = []
port_bytes receiver port (From k) = wire_byte ∷ k ∷ receiver ∷ port ∷ []

-- the wires of the components from part number k on
unfoldable pub wires_bytes : ℕ → List Component → List ℕ
wires_bytes k [] = []
wires_bytes k (c ∷ cs) = port_bytes k 0 c.port0 ++ (port_bytes k 1 c.port1 ++ wires_bytes (suc k) cs)

-- the whole table, between 01h Begin with the default magnitude and 05h End
unfoldable pub table_bytes : Table → List ℕ
table_bytes t = begin_byte ∷ t.magnitude ∷ (parts_bytes t.parts ++ (wires_bytes 0 t.parts ++ (end_byte ∷ [])))
