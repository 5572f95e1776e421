-- The outputs of the first i parts of the model that the words mean were put from the position given, in a buffer as
-- long as it was.
use Rattle.std.proofs.Common.{◌*◌, take}
use Rattle.machine.specs.Rehearse.{outputs_text}
use Rattle.words_store.specs.ModelIn.{model_in}
use Rattle.write_bytes.specs.Put.{Put}
use Rattle.write_lines.proofs.lent_line.put_outputs.Given as goal

abbrev pub invariant-loop-i : goal.invariant-loop-i
invariant-loop-i l =
    Put (21 * l.i) (outputs_text (take l.i (model_in l.table l.state).parts)) l.at l.initial.line l.line l.next
