-- The first bytes of the text were put.
use Rattle.std.proofs.Common.{take}
use Rattle.write_bytes.specs.Put.{Put}
use Rattle.write_bytes.proofs.put.put_text.Given as goal

abbrev pub invariant-loop-byte : goal.invariant-loop-byte
invariant-loop-byte l = Put l.byte-index (take l.byte-index l.text) l.at l.initial.line l.line l.next
