-- A call on words that spell a model, with room for the new state, is the machine's advance: what a caller has of the
-- states and of the answer. A call that commits made a round, so that its new state spells the answer's model; a
-- refused one leaves the old. Assumes nothing.
use Rattle.std.specs.Prelude.{ℕ, ◌≤◌, ◌≡◌, true, List, length}
use Rattle.std.proofs.Math.Path.{ap}
use Rattle.std.proofs.Common.{◌∙◌}
use Rattle.machine.specs.declared.model.Model.{Model}
use Rattle.machine.specs.Advance.{outcome, advance}
use Rattle.words_store.specs.ModelIn.{part_count, state_words}
use Rattle.words_store.specs.Form.{spelled}
use Rattle.machine.specs.declared.model.Outcome.{Outcome}
use Rattle.advance_call.specs.Searching.{answer_of}
use Rattle.advance_call.specs.Into.{lent_model, CalledInto, AdvancedSound}
use Rattle.advance_call.specs.IntoLaws.{spelled_call, into_machine}
use Rattle.advance_call.specs.ByValue.{answered, refused_model}

module _
    (ts os new₀ new₁ : List ℕ)
    (w : ℕ)
    (v : Outcome)
    (form : spelled ts os ≡ true)
    (room : state_words (part_count ts) ≤ length new₀)
    (called : AdvancedSound ts os w new₀ new₁ v) where
  -- the call is the machine's
  by_machine : CalledInto (outcome (lent_model ts os) w) ts os new₀ new₁ v
  by_machine = rw (into_machine ts os w (length new₀) form room) at (spelled_call ts os new₀ new₁ w v form called)

  -- where it commits, the new state is the answer's, and spells it
  pub moved_model : v.number ≡ 0 → lent_model ts new₁ ≡ (advance (lent_model ts os) w).model
  unfolding advance
  moved_model z = by_machine.next (by_machine.asked z)

  pub moved_form : v.number ≡ 0 → spelled ts new₁ ≡ true
  moved_form z = by_machine.form (by_machine.asked z)

  -- where it is refused, the old one is
  pub kept_model : (v.number ≡ 0 → ⊥) → lent_model ts os ≡ (advance (lent_model ts os) w).model
  unfolding advance
  kept_model other =
      let number = ap (λ (x : Outcome). x.number) by_machine.ends in
      refused_model (lent_model ts os) (outcome (lent_model ts os) w) (λ z. other (number ∙ z))

  -- with the call's numbers the model that is left makes the machine's answer
  pub answer_told : (n : Model) → n ≡ (advance (lent_model ts os) w).model →
      answer_of n v.number v.step v.rounds v.revisions v.ceiling ≡ advance (lent_model ts os) w
  unfolding advance
  answer_told n model = answered (lent_model ts os) n (outcome (lent_model ts os) w) v model by_machine.ends
