-- `print_words` refuses an outcome of too few words; of any other it reads how the call ended, and prints that line.
use native.Mathlib.Omega.{arith}
use Rattle.boundary.proofs.Laws.{printed_few, printed_told}
use Rattle.boundary.proofs.print_words.Goals as goal

pub returns-then-outcome-lt-OUTCOME : goal.returns-then-outcome-lt-OUTCOME
returns-then-outcome-lt-OUTCOME c = printed_few _ _ _ _ _ _ _ (omega arith)

pub returns : goal.returns
returns c =
    let line = rw c.outcome_in-ended.ensures at c.sheet.ensures in
    printed_told _ _ _ _ _ _ _ _ _ c.if-outcome-lt-OUTCOME.false line
