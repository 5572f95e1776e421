-- `longest_of` is `longest` of the part trimmed. Trimming changes the spans alone, so that the part is due where the
-- trimmed one is, and its P is the same; a due part accepts 0 only, and another is asked by its kind.
use Rattle.std.proofs.Common.{arith}
use Rattle.machine.specs.Model.{trimmed_component, trimmed_part}
use Rattle.machine.specs.Accept.{longest, longest_as}
use Rattle.ask_part.specs.DueTrimmed.{due_trimmed}
use Rattle.ask_part.proofs.longest.longest_of.Goals as goal

pub returns-then-due_of : goal.returns-then-due_of
unfolding longest longest_as trimmed_part trimmed_component
returns-then-due_of c = grind (arith, due_trimmed)

pub returns-in-Square : goal.returns-in-Square
unfolding longest longest_as trimmed_part trimmed_component
returns-in-Square c = grind (arith, due_trimmed)

pub returns-in-Drive : goal.returns-in-Drive
unfolding longest longest_as trimmed_part trimmed_component
returns-in-Drive c = grind (arith, due_trimmed)

pub returns-in_default : goal.returns-in_default
unfolding longest longest_as trimmed_part trimmed_component
returns-in_default c = grind (arith, due_trimmed)
