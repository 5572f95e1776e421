-- What `sheet` promises on lent words, for every argument. Assumes nothing.
use Rattle.std.specs.Prelude.{ℕ, cond, List}
use Rattle.machine.specs.declared.model.Answer.{Answer}
use Rattle.machine.specs.Answers.{Written}
use Rattle.machine.specs.Writing.{WrittenAs}
use Rattle.machine.specs.Sheet.{sheet_line, sheet_refusal}
use Rattle.words_store.specs.Form.{spelled}
use Rattle.write_lines.specs.LentLines.{lent_answer}
use Rattle.machine.specs.declared.model.Outcome.{Outcome}

-- the answer of a call that ended so, with the model that the words of its table and state mean
abbrev pub outcome_answer : List ℕ → List ℕ → Outcome → Answer
outcome_answer ts ss v = lent_answer ts ss v.number v.step v.rounds v.revisions v.ceiling

-- what refuses the line of such an answer before 25 is tested: 24 too where the words spell no model
unfoldable pub lent_sheet_refusal : List ℕ → List ℕ → Outcome → (a b c : ℕ) → ℕ
lent_sheet_refusal ts ss v a b c = cond (spelled ts ss) (sheet_refusal (outcome_answer ts ss v) a b c) 24

-- the words of a table and of a state, how the call ended, the chosen parts, a buffer before and after the call, and
-- what it answers
abbrev pub SheetInto : (ts ss : List ℕ) → Outcome → (a b c : ℕ) → (before after : List ℕ) → Written → Type 0
SheetInto ts ss v a b c before after w =
    WrittenAs (lent_sheet_refusal ts ss v a b c) (sheet_line (outcome_answer ts ss v) a b c) before after w
