-- Demand 3 of the calls on lent words. `advance_into` (src/lib.rt) promises `AdvancedInto` of its words and outcome
-- for every argument; a chain of such calls is given at each call the state that the last committed one wrote, and
-- enough words for the next. Told of the models that the states mean, it is a chain of the machine's calls, so that
-- `whole_list` (advance_lists' proofs/Demand3.antt) speaks of it. Where the words spell a model, what
-- `advance_sound_into` promises is the same (`spelled_call`). Assumes nothing.
use Rattle.std.specs.Prelude.{ℕ, ◌≤◌, ◌≡◌, refl, true, false, cond, List, [], ◌∷◌, ◌⊎◌, length}
use Rattle.std.proofs.Math.Path.{sym, ap, ap₂}
use Rattle.std.proofs.Common.{◌∙◌, inl, inr, eqb-true, ne_eqb}
use Rattle.std.proofs.Math.Dec.{eqb}
use Rattle.machine.specs.declared.model.Model.{Model}
use Rattle.machine.specs.Answers.{Loaded}
use Rattle.machine.specs.Model.{trimmed_answer, trimmed_loaded}
use Rattle.machine.specs.Load.{load}
use Rattle.machine.specs.Step.{step_made}
use Rattle.machine.specs.Advance.{outcome, answer_with, advance}
use Rattle.machine.specs.declared.model.Outcome.{Outcome}
use Rattle.machine.specs.Calls.{Advanced, Call, Chain}
use Rattle.machine.specs.WholeList.{WholeList}
use Rattle.laws.specs.Bools.{either, cond_true, cond_false}
use Rattle.advance_lists.proofs.Demand3.{whole_list}
use Rattle.words_store.specs.ModelIn.{part_count, state_words, model_in}
use Rattle.words_store.specs.Form.{spelled}
use Rattle.words_store.specs.StoreFrame.{held_unused}
use Rattle.advance_call.specs.Into.{lent_model, AdvancedInto}
use Rattle.advance_call.specs.IntoLaws.{into_machine}

-- a call: the state that it was given, the wanted step, the words lent for the new state before it and after it, and
-- its outcome
pub record LentCall : Type 0 where
  pub state : List ℕ
  pub wanted : ℕ
  pub before : List ℕ
  pub after : List ℕ
  pub result : Outcome

-- the state that the next call is given: the new one where a step was committed, else the same
unfoldable pub next_state : LentCall → List ℕ
next_state c = cond (eqb c.result.number 0) c.after c.state

-- a chain of calls on the table ts from the state s
abbrev pub LentChain : List ℕ → List ℕ → List LentCall → Type 0
LentChain ts s [] = Unit {0}
LentChain ts s (c ∷ cs) =
    (c.state ≡ s) × (state_words (part_count ts) ≤ length c.before) ×
    AdvancedInto ts c.state c.wanted c.before c.after c.result ×
    LentChain ts (next_state c) cs

-- the machine's call that it is, and the list of those calls
unfoldable pub machine_call : List ℕ → LentCall → Call
machine_call ts c =
    record {
      given = model_in ts c.state;
      wanted = c.wanted;
      answer =
          record {
            model = model_in ts (next_state c);
            number = c.result.number;
            step = c.result.step;
            rounds = c.result.rounds;
            revisions = c.result.revisions;
            ceiling = c.result.ceiling;
          };
    }

unfoldable pub machine_calls_of : List ℕ → List LentCall → List Call
machine_calls_of ts [] = []
machine_calls_of ts (c ∷ cs) = machine_call ts c ∷ machine_calls_of ts cs

-- one call, by whether it committed a step
module _
    (ts : List ℕ)
    (c : LentCall)
    (spells : spelled ts c.state ≡ true)
    (enough : state_words (part_count ts) ≤ length c.before)
    (called : AdvancedInto ts c.state c.wanted c.before c.after c.result) where
  abbrev m : Model
  m = lent_model ts c.state

  abbrev o : Outcome
  o = outcome m c.wanted

  ends : c.result ≡ o
  ends = called.ends ∙ (into_machine ts c.state c.wanted (length c.before) spells enough)

  -- the state that is then handed on means the model of the machine's answer
  handed_on : (eqb c.result.number 0 ≡ true) ⊎ (eqb c.result.number 0 ≡ false) →
      lent_model ts (next_state c) ≡ (answer_with m o).model
  unfolding next_state answer_with
  handed_on (inl zero_number) =
      ap (lent_model ts) (cond_true (eqb c.result.number 0) c.after c.state zero_number) ∙
      called.next (called.asked (eqb-true c.result.number 0 zero_number)) ∙
      ap (λ (x : Outcome). (answer_with m x).model)
      (into_machine ts c.state c.wanted (length c.before) spells enough)
  handed_on (inr other) =
      ap (lent_model ts) (cond_false (eqb c.result.number 0) c.after c.state other) ∙
      sym (cond_false (eqb o.number 0) (step_made m o.step) m
      (ap (λ (v : Outcome). eqb v.number 0) (sym ends) ∙ other))

  -- where it is refused, that is the state handed in
  kept : eqb c.result.number 0 ≡ false → next_state c ≡ c.state
  unfolding next_state
  kept other = cond_false (eqb c.result.number 0) c.after c.state other

  answers : Advanced (model_in ts c.state) c.wanted (machine_call ts c).answer
  unfolding machine_call trimmed_answer advance answer_with
  answers =
      record {
        machine =
            ap₂ (λ (x : Model) (v : Outcome).
            record {
              model = x;
              number = v.number;
              step = v.step;
              rounds = v.rounds;
              revisions = v.revisions;
              ceiling = v.ceiling;
            })
            (handed_on (either (eqb c.result.number 0))) ends;
        unchanged = λ other. ap (model_in ts) (kept (ne_eqb c.result.number 0 other));
        unused = held_unused ts c.state (next_state c);
      }

  -- and spells it
  pub spells_on : (eqb c.result.number 0 ≡ true) ⊎ (eqb c.result.number 0 ≡ false) →
      spelled ts (next_state c) ≡ true
  unfolding next_state
  spells_on (inl zero_number) =
      rw zero_number (called.form (called.asked (eqb-true c.result.number 0 zero_number)))
  spells_on (inr other) = rw other spells

-- a chain of calls on words is a chain of the machine's
pub lent_chain : (ts s : List ℕ) (cs : List LentCall) → spelled ts s ≡ true → LentChain ts s cs →
    Chain (model_in ts s) (machine_calls_of ts cs)
unfolding machine_calls_of machine_call
lent_chain ts s [] spells chain = tt
lent_chain ts s (c ∷ cs) spells chain =
    let here : spelled ts c.state ≡ true = ap (spelled ts) chain.0 ∙ spells in (
      ap (model_in ts) chain.0,
      answers ts c here chain.1 chain.2,
      lent_chain ts (next_state c) cs (spells_on ts c here chain.1 chain.2 (either (eqb c.result.number 0)))
          chain.3,
    )

-- demand 3: whatever bytes were loaded into words, and whatever steps were wanted then, the claim holds of the whole
-- list of calls
pub every_lent_list :
    (bs ts s : List ℕ) → (load bs).number ≡ 0 → lent_model ts s ≡ (load bs).model → spelled ts s ≡ true →
    (cs : List LentCall) → LentChain ts s cs → WholeList (model_in ts s) (machine_calls_of ts cs)
unfolding trimmed_loaded
every_lent_list bs ts s accepted is spells cs chain =
    let loaded : Loaded = record { number = 0; position = (load bs).position; model = model_in ts s } in
    whole_list bs loaded (machine_calls_of ts cs)
    (ap₂ (λ (n : ℕ) (m : Model). record { number = n; position = (load bs).position; model = m }) (sym accepted) is)
    refl
    (lent_chain ts s cs spells chain)
