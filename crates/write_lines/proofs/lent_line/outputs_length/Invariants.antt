-- The sum is the length of the outputs of the first i parts of the model that the words mean.
use Rattle.std.proofs.Common.{◌≡◌, length, take}
use Rattle.machine.specs.Rehearse.{outputs_text}
use Rattle.words_store.specs.ModelIn.{model_in}
use Rattle.write_lines.proofs.lent_line.outputs_length.Given as goal

abbrev pub invariant-loop-i : goal.invariant-loop-i
invariant-loop-i l = l.length ≡ length (outputs_text (take l.i (model_in l.table l.state).parts))
