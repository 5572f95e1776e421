-- The same steps wanted of states that mean one model have the same results, with previews among them and without. The
-- idea: the results of a chain on words are the machine's answers to the steps that it wanted.
use Rattle.std.specs.Prelude.{ℕ, ◌≡◌, refl, true, List, [], ◌∷◌, eqb}
use Rattle.std.proofs.Common.{sym, ap, ap₂, ◌∙◌}
use Rattle.machine.specs.declared.model.Model.{Model}
use Rattle.machine.specs.declared.model.Answer.{Answer}
use Rattle.machine.specs.Model.{trimmed_answer}
use Rattle.machine.specs.Advance.{advance}
use Rattle.machine.specs.Previews.{machine_answers}
use Rattle.laws.specs.Bools.{either}
use Rattle.words_store.specs.Form.{spelled}
use Rattle.advance_call.specs.Into.{lent_model}
use Rattle.advance_call.specs.EveryLent.{LentCall, next_state, LentChain, machine_call, machine_calls_of}
use Rattle.advance_call.specs.EveryLent.{spells_on, lent_chain}
use Rattle.preview_call.specs.PreviewedInto.{told}
use Rattle.preview_call.specs.EveryPreviewed.{AnyLentCall, LentAdvance, LentPreview, LentMixed, lent_advances}
use Rattle.preview_call.proofs.EveryPreviewed.{lent_previews_alter_nothing}
use Rattle.preview_call.specs.LentResults.{lent_wanted, lent_results, state_left, SameLentResults}

-- a call of a chain tells the machine's answer
call_told : (ts s : List ℕ) (c : LentCall) (cs : List LentCall) → spelled ts s ≡ true → LentChain ts s (c ∷ cs) →
    told ts (next_state c) c.result ≡ advance (lent_model ts s) c.wanted
unfolding machine_calls_of machine_call trimmed_answer
call_told ts s c cs spells chain =
    (lent_chain ts s (c ∷ cs) spells chain).1.machine ∙
    ap (λ (z : List ℕ). advance (lent_model ts z) c.wanted) chain.0

-- so the results of a chain are the machine's answers to the steps that it wanted
lent_answers : (ts s : List ℕ) (cs : List LentCall) → spelled ts s ≡ true → LentChain ts s cs →
    lent_results ts cs ≡ machine_answers (lent_model ts s) (lent_wanted cs)
unfolding lent_results lent_wanted machine_answers
lent_answers ts s [] spells chain = refl
lent_answers ts s (c ∷ cs) spells chain =
    let here : spelled ts c.state ≡ true = ap (spelled ts) chain.0 ∙ spells in
    let there = spells_on ts c here chain.1 chain.2 (either (eqb c.result.number 0)) in
    let answers = call_told ts s c cs spells chain in
    ap₂ (λ (r : Answer) (rs : List Answer). r ∷ rs) answers
    (lent_answers ts (next_state c) cs there chain.3 ∙
    ap (λ (r : Answer). machine_answers r.model (lent_wanted cs)) answers)

-- the model of the last of some results, m where there is none
last_told : Model → List Answer → Model
last_told m [] = m
last_told m (r ∷ rs) = last_told r.model rs

-- which the last state of a list means
left_told : (ts s : List ℕ) (cs : List AnyLentCall) → LentMixed ts s cs →
    lent_model ts (state_left s cs) ≡ last_told (lent_model ts s) (lent_results ts (lent_advances cs))
unfolding state_left lent_results lent_advances last_told
left_told ts s [] mixed = refl
left_told ts s (LentAdvance c ∷ cs) mixed = left_told ts (next_state c) cs mixed.3
left_told ts s (LentPreview c ∷ cs) mixed =
    left_told ts c.state cs mixed.3 ∙
    ap (λ (z : List ℕ). last_told (lent_model ts z) (lent_results ts (lent_advances cs))) mixed.0

-- the advances of a list with previews have the machine's answers to the steps that they wanted
mixed_answers : (ts s : List ℕ) (cs : List AnyLentCall) → spelled ts s ≡ true → LentMixed ts s cs →
    lent_results ts (lent_advances cs) ≡ machine_answers (lent_model ts s) (lent_wanted (lent_advances cs))
mixed_answers ts s cs spells mixed =
    lent_answers ts s (lent_advances cs) spells (lent_previews_alter_nothing ts s cs spells mixed).chain

-- the same steps wanted of states that mean one model, as the same words do, have the same results
pub lent_same_results :
    (ts s z : List ℕ) (cs ds : List AnyLentCall) → spelled ts s ≡ true → spelled ts z ≡ true →
    lent_model ts s ≡ lent_model ts z → LentMixed ts s cs → LentMixed ts z ds →
    lent_wanted (lent_advances cs) ≡ lent_wanted (lent_advances ds) → SameLentResults ts s z cs ds
lent_same_results ts s z cs ds spells others one mixed chained wanted =
    let same : lent_results ts (lent_advances cs) ≡ lent_results ts (lent_advances ds) =
    mixed_answers ts s cs spells mixed ∙ ap₂ machine_answers one wanted ∙ sym (mixed_answers ts z ds others chained) in
    record {
      results = same;
      last = left_told ts s cs mixed ∙ ap₂ last_told one same ∙ sym (left_told ts z ds chained);
    }
