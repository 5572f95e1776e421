-- The answer that a line of a call on lent words shows, and what writing that line promises, for every argument.
-- Assumes nothing.
use Rattle.std.specs.Prelude.{ℕ, ◌≡◌, refl, true, false, cond, List}
use Rattle.machine.specs.declared.model.Answer.{Answer}
use Rattle.machine.specs.Answers.{Written}
use Rattle.machine.specs.Model.{trimmed}
use Rattle.machine.specs.Rehearse.{answer_line}
use Rattle.machine.specs.Writing.{WrittenAs}
use Rattle.words_store.specs.ModelIn.{model_in}
use Rattle.words_store.specs.Form.{spelled}

-- the numbers of a call, with the model that the words of its table and state mean
abbrev pub lent_answer : List ℕ → List ℕ → (number step rounds revisions ceiling : ℕ) → Answer
lent_answer ts ss number step rounds revisions ceiling =
    record {
      model = trimmed (model_in ts ss);
      number = number;
      step = step;
      rounds = rounds;
      revisions = revisions;
      ceiling = ceiling;
    }

-- what refuses a line before 25 is tested: 24, if the words spell no model. An unsound model has a line too: any
-- answer's numbers are written
unfoldable pub line_refusal : List ℕ → List ℕ → ℕ
line_refusal ts ss = cond (spelled ts ss) 0 24

-- the words of a table and of a state, the numbers of a call, a buffer before and after the line of them, and its
-- answer. No line shows the last ceiling, so that it is the line whatever that is
abbrev pub LineInto : (ts ss : List ℕ) (number step rounds revisions : ℕ) (before after : List ℕ) → Written → Type 0
LineInto ts ss number step rounds revisions before after w =
    (ceiling : ℕ) →
    WrittenAs (line_refusal ts ss) (answer_line (lent_answer ts ss number step rounds revisions ceiling)) before after w

-- words that spell a model are not refused, and others are
pub spelled_line : (ts ss : List ℕ) → spelled ts ss ≡ true → line_refusal ts ss ≡ 0
unfolding line_refusal
spelled_line ts ss spells = rw spells refl

pub unspelled_line : (ts ss : List ℕ) → spelled ts ss ≡ false → line_refusal ts ss ≡ 24
unfolding line_refusal
unspelled_line ts ss none = rw none refl
