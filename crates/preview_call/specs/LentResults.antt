-- The same results on words: the same steps wanted of states that mean one model have the same results, with previews
-- among them and without, whatever the words lent for the new states held. `same_results` (advance_lists'
-- specs/PreviewLists.antt) says so of calls by value. The idea: the results of a chain on words are the machine's
-- answers to the steps that it wanted, and these depend on the model and the steps alone (`proofs/LentResults.antt`).
-- Assumes nothing.
use Rattle.std.specs.Prelude.{ℕ, ◌≡◌, List, [], ◌∷◌}
use Rattle.machine.specs.declared.model.Answer.{Answer}
use Rattle.advance_call.specs.Into.{lent_model}
use Rattle.advance_call.specs.EveryLent.{LentCall, next_state}
use Rattle.preview_call.specs.PreviewedInto.{told}
use Rattle.preview_call.specs.EveryPreviewed.{AnyLentCall, LentAdvance, LentPreview, lent_advances}

-- the steps that a list of advances wanted
unfoldable pub lent_wanted : List LentCall → List ℕ
lent_wanted [] = []
lent_wanted (c ∷ cs) = c.wanted ∷ lent_wanted cs

-- its results: of each call the answer that its outcome tells, with the model that the state means which it hands on
unfoldable pub lent_results : List ℕ → List LentCall → List Answer
lent_results ts [] = []
lent_results ts (c ∷ cs) = told ts (next_state c) c.result ∷ lent_results ts cs

-- the state that a list with previews hands on at its end, s where there is no call
unfoldable pub state_left : List ℕ → List AnyLentCall → List ℕ
state_left s [] = s
state_left s (LentAdvance c ∷ cs) = state_left (next_state c) cs
state_left s (LentPreview c ∷ cs) = state_left c.state cs

-- two lists of calls on the table ts have the same results, and their last states mean one model
pub record SameLentResults (ts s z : List ℕ) (cs ds : List AnyLentCall) : Type 0 where
  pub results : lent_results ts (lent_advances cs) ≡ lent_results ts (lent_advances ds)
  pub last : lent_model ts (state_left s cs) ≡ lent_model ts (state_left z ds)
