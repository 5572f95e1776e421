-- From what a call on lent words promises to what the call by value does: the model put into words is the one handed
-- in, but for the places in no use, and its state, taken back, is the answer's. The idea: words that spell a model,
-- with room for the new state, are asked of the machine as they are, so that the call on words ends as the machine
-- does. Assumes nothing.
use Rattle.std.specs.Prelude.{ℕ, ◌≤◌, ◌<◌, ◌≡◌, List, eqb, length}
use Rattle.std.proofs.Common.{arith, sym, ap, ◌∙◌, ne_eqb}
use Rattle.std.proofs.Math.Path.{refl, ap₂}
use Rattle.machine.specs.declared.model.Model.{Model}
use Rattle.machine.specs.Model.{most_parts, trimmed, trimmed_answer}
use Rattle.machine.specs.Step.{step_made}
use Rattle.machine.specs.Advance.{barred, outcome, answer_with, advance}
use Rattle.machine.specs.declared.model.Outcome.{Outcome}
use Rattle.machine.specs.Calls.{Advanced}
use Rattle.laws.specs.Bools.{cond_false}
use Rattle.words_store.specs.ModelIn.{part_count, state_words}
use Rattle.words_store.specs.Spelling.{spelled_few}
use Rattle.words_transfer.specs.ModelPut.{ModelPut}
use Rattle.words_transfer.specs.Recalled.{Recalled}
use Rattle.sound_test.specs.Whole.{unsound_many}
use Rattle.advance_call.specs.Searching.{answer_of}
use Rattle.advance_call.specs.Barring.{barred_answer}
use Rattle.advance_call.specs.Into.{outcome_into, CalledInto}
use Rattle.advance_call.specs.IntoLaws.{into_machine}

-- a model that says it has more parts than there are places is barred with 24
pub many_answer :
    (m : Model) (w : ℕ) → most_parts < m.count → length m.parts ≡ most_parts → Advanced m w (answer_of m 24 0 0 0 0)
unfolding barred
many_answer m w many full = barred_answer m w 24 (rw (unsound_many m many full) refl) (λ z. omega arith)

-- an answer by how the call ends and the model of the machine's answer
pub answered : (x z : Model) (o : Outcome) (v : Outcome) → z ≡ (answer_with x o).model → v ≡ o →
    answer_of z v.number v.step v.rounds v.revisions v.ceiling ≡ answer_with x o
unfolding answer_with
answered x z o v same ends =
    ap₂ (λ (y : Model) (u : Outcome). answer_of y u.number u.step u.rounds u.revisions u.ceiling) same
    ends

-- which of a refusal is the model handed in
pub refused_model : (x : Model) (o : Outcome) → (o.number ≡ 0 → ⊥) → x ≡ (answer_with x o).model
unfolding answer_with
refused_model x o other = sym (cond_false (eqb o.number 0) (step_made x o.step) x (ne_eqb o.number 0 other))

-- a call on the words ts and os, which hold the model m, with room for the new state; it left the words ns, and ended
-- with v
module _
    (m : Model)
    (w room : ℕ)
    (ts os ns₀ ns : List ℕ)
    (v : Outcome)
    (put : ModelPut m ts os)
    (enough : 290 ≤ room)
    (called : CalledInto (outcome_into ts os w room) ts os ns₀ ns v) where
  -- it ended as the machine does
  machine_ends : outcome_into ts os w room ≡ outcome (trimmed m) w
  machine_ends =
      let fits : state_words (part_count ts) ≤ room = omega (arith, spelled_few ts os put.form, enough) in
      into_machine ts os w room put.form fits ∙ ap (λ (x : Model). outcome x w) put.is

  ends : v ≡ (outcome (trimmed m) w)
  ends = called.ends ∙ machine_ends

  -- so where it is refused, the answer has the model handed in
  pub refused_by_value : (v.number ≡ 0 → ⊥) →
      Advanced m w (answer_of m v.number v.step v.rounds v.revisions v.ceiling)
  unfolding advance trimmed_answer
  refused_by_value other =
      let o = outcome (trimmed m) w in
      record {
        machine = answered (trimmed m) (trimmed m) o v
            (refused_model (trimmed m) o (λ z. other (ap (λ (u : Outcome). u.number) ends ∙ z))) ends;
        unchanged = λ z. refl;
        unused = record { orders = refl; parts = refl; spans = λ i l. refl };
      }

  -- and where it is committed, the model that takes the new state
  pub committed_by_value : (r : Model) → Recalled m ns r → v.number ≡ 0 →
      Advanced m w (answer_of r v.number v.step v.rounds v.revisions v.ceiling)
  unfolding advance trimmed_answer
  committed_by_value r back none =
      let o = outcome (trimmed m) w in
      record {
        machine =
            answered (trimmed m) (trimmed r) o v
            (back.is ts os put.is ∙ called.next (called.asked none) ∙
            ap₂ (λ (x : Model) (u : Outcome). (answer_with x u).model) put.is machine_ends)
            ends;
        unchanged = λ other. absurd (other none);
        unused = back.unused;
      }
