-- The first spans were put.
use Rattle.std.proofs.Common.{◌*◌, take}
use Rattle.machine.specs.TableBytes.{spans_bytes}
use Rattle.write_bytes.specs.Put.{Put}
use Rattle.save_call.proofs.writer.put_spans.Given as goal

abbrev pub invariant-loop-span : goal.invariant-loop-span
invariant-loop-span l =
    Put (5 * l.span-index) (spans_bytes (take l.span-index l.spans)) l.at l.initial.out l.out l.next
