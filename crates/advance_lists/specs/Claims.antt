-- Document 01's third demand of every chain of calls from a sound model. A chain is retraced, call by call: a
-- committed call makes its step, a refused one nothing, so that the list's committed steps, made alone, lead to its
-- last model and through its points. The claim's parts (`proofs/Claims.antt`) are then laws of steps made alone, and
-- the local counts are those of a last model that is sound again. Assumes nothing.
use Rattle.std.specs.Prelude.{ℕ, ◌≡◌, refl, true, false, ◌⊎◌, List, [], ◌∷◌, eqb}
use Rattle.std.proofs.Common.{ap, sym, subst, ◌∙◌, inl, inr, eqb-true, eq-eqb}
use Rattle.std.proofs.lemmas.Bool.{eqb-false}
use Rattle.machine.specs.declared.time.Point.{Point}
use Rattle.machine.specs.declared.model.Model.{Model}
use Rattle.machine.specs.declared.model.Answer.{Answer}
use Rattle.machine.specs.Lists.{All}
use Rattle.machine.specs.Time.{led_to}
use Rattle.machine.specs.Model.{trimmed, trimmed_answer}
use Rattle.machine.specs.Step.{step_made, steps_made}
use Rattle.machine.specs.Sound.{sound}
use Rattle.machine.specs.Advance.{outcome, answer_with, advance}
use Rattle.machine.specs.Calls.{Advanced, Call, Chain, last_model, committed, points_led_to}
use Rattle.machine.specs.WholeList.{OfCall}
use Rattle.laws.specs.Bools.{either}
use Rattle.advance_lists.specs.Points.{points_after}
use Rattle.advance_lists.specs.StepsAlone.{AllAccepted}
use Rattle.advance_lists.specs.RoundsOwed.{of_call}
use Rattle.advance_lists.specs.Bounds.{call_sound}

-- a committed call makes its step
committed_makes : (m : Model) (w : ℕ) (r : Answer) → Advanced m w r → r.number ≡ 0 →
    trimmed r.model ≡ step_made (trimmed m) r.step
unfolding trimmed_answer advance answer_with
committed_makes m w r a e =
    let number : r.number ≡ (outcome (trimmed m) w).number = ap (λ (z : Answer). z.number) a.machine in
    let step : r.step ≡ (outcome (trimmed m) w).step = ap (λ (z : Answer). z.step) a.machine in
    let zero_number : eqb (outcome (trimmed m) w).number 0 ≡ true =
    eq-eqb (outcome (trimmed m) w).number 0 (sym number ∙ e) in
    rw zero_number at (ap (λ (z : Answer). z.model) a.machine) ∙ ap (step_made (trimmed m)) (sym step)

-- and leads to its point
committed_leads : (m z : Model) (h : ℕ) → trimmed z ≡ step_made (trimmed m) h → z.point ≡ led_to m.point h
unfolding trimmed step_made
committed_leads m z h e = ap (λ (x : Model). x.point) e

-- what the calls of a chain come to, from a model m
pub record Retraced (m : Model) (cs : List Call) : Type 0 where
  -- the committed steps, made alone, lead to the last model
  pub model : trimmed (last_model m cs) ≡ steps_made (trimmed m) (committed cs)
  -- and through the points of the list
  pub points : points_led_to cs ≡ points_after m.point (committed cs)
  -- all parts accept each, where it is made
  pub accepted : AllAccepted (trimmed m) (committed cs)
  pub calls : All OfCall cs

-- a call before others that are retraced, committed or refused
one_more : (c : Call) (cs : List Call) → Advanced c.given c.wanted c.answer → Retraced c.answer.model cs →
    (eqb c.answer.number 0 ≡ true) ⊎ (eqb c.answer.number 0 ≡ false) → Retraced c.given (c ∷ cs)
unfolding committed last_model points_led_to steps_made points_after
one_more c cs a rest (inl e) =
    let number : c.answer.number ≡ 0 = eqb-true c.answer.number 0 e in
    let makes = committed_makes c.given c.wanted c.answer a number in
    let leads = committed_leads c.given c.answer.model c.answer.step makes in
    let this = of_call c.given c.wanted c.answer a in
    record {
      model = rw e (rest.model ∙ ap (λ (z : Model). steps_made z (committed cs)) makes);
      points = rw e (ap (λ (ps : List Point). led_to c.given.point c.answer.step ∷ ps)
          (rest.points ∙ ap (λ (p : Point). points_after p (committed cs)) leads));
      accepted = rw e (
        this.accepted number,
        subst (λ (z : Model). AllAccepted z (committed cs)) makes
            rest.accepted,
      );
      calls = (this, rest.calls);
    }
one_more c cs a rest (inr e) =
    let kept : c.answer.model ≡ c.given = a.unchanged (eqb-false c.answer.number 0 e) in
    record {
      model = rw e (rest.model ∙ ap (λ (z : Model). steps_made (trimmed z) (committed cs)) kept);
      points = rw e (rest.points ∙ ap (λ (z : Model). points_after z.point (committed cs)) kept);
      accepted = rw e (subst (λ (z : Model). AllAccepted (trimmed z) (committed cs)) kept rest.accepted);
      calls = (of_call c.given c.wanted c.answer a, rest.calls);
    }

-- every chain is retraced
pub retraced : (m : Model) (cs : List Call) → Chain m cs → Retraced m cs
unfolding committed last_model points_led_to steps_made points_after
retraced m [] ch = record { model = refl; points = refl; accepted = tt; calls = tt }
retraced m (c ∷ cs) ch =
    subst (λ (z : Model). Retraced z (c ∷ cs)) ch.0
    (one_more c cs ch.1 (retraced c.answer.model cs ch.2) (either (eqb c.answer.number 0)))

-- a chain from a sound model ends with one
pub chain_sound : (m : Model) (cs : List Call) → sound (trimmed m) ≡ true → Chain m cs →
    sound (trimmed (last_model m cs)) ≡ true
unfolding last_model
chain_sound m [] s ch = s
chain_sound m (c ∷ cs) s ch =
    chain_sound c.answer.model cs (call_sound c.given c.wanted c.answer ch.1 (rw ch.0 s)) ch.2
