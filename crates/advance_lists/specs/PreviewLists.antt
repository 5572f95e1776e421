-- Request 3: "Previews put anywhere into a list of advances alter none of its results", of every list of calls that
-- keep what they promise, so that document 01's third demand holds of the advances in it (`proofs/PreviewLists.antt`).
-- The idea: a preview hands on the model that it was given, so that what is after it begins where it began. Assumes
-- nothing.
use Rattle.std.specs.Prelude.{◌≡◌, refl, List, [], ◌∷◌}
use Rattle.std.proofs.Common.{ap, ap₂, sym, subst, ◌∙◌}
use Rattle.machine.specs.declared.model.Model.{Model}
use Rattle.machine.specs.declared.model.Answer.{Answer}
use Rattle.machine.specs.Model.{trimmed, trimmed_answer}
use Rattle.machine.specs.Advance.{advance}
use Rattle.machine.specs.Calls.{Advanced, Call, Chain, last_model}
use Rattle.machine.specs.Previews.{PreviewCall, AnyCall, Advancing, Previewing, MixedChain, advances, handed_on}
use Rattle.machine.specs.Previews.{Unaltered, wanted_steps, results, machine_answers}

-- a preview before a list that is unaltered
one_preview : (m : Model) (p : PreviewCall) (cs : List AnyCall) → p.given ≡ m → p.returned.given ≡ m →
    Advanced p.given p.wanted p.returned.answer →
    Unaltered p.returned.given cs → Unaltered m (Previewing p ∷ cs)
unfolding advances handed_on
one_preview m p cs given kept answer rest =
    let behind : Unaltered m cs = subst (λ (z : Model). Unaltered z cs) kept rest in
    record {
      chain = behind.chain;
      last = behind.last ∙ ap (λ (z : Model). handed_on z cs) (sym kept);
      previews = (subst (λ (z : Model). Advanced z p.wanted p.returned.answer) given answer, behind.previews);
    }

-- "Previews put anywhere into a list of advances alter none of its results"
pub previews_alter_nothing : (m : Model) (cs : List AnyCall) → MixedChain m cs → Unaltered m cs
unfolding advances handed_on last_model
previews_alter_nothing m [] mixed = record { chain = tt; last = refl; previews = tt }
previews_alter_nothing m (Advancing c ∷ cs) mixed =
    let rest = previews_alter_nothing c.answer.model cs mixed.2 in
    record { chain = (mixed.0, mixed.1, rest.chain); last = rest.last; previews = rest.previews }
previews_alter_nothing m (Previewing p ∷ cs) mixed =
    one_preview m p cs mixed.0 (mixed.1.unchanged ∙
    mixed.0) mixed.1.answer (previews_alter_nothing p.returned.given cs mixed.2)

-- the results of a chain are the machine's answers to its wanted steps
chain_results : (m : Model) (cs : List Call) → Chain m cs → results cs ≡ machine_answers (trimmed m) (wanted_steps cs)
unfolding results machine_answers wanted_steps trimmed_answer
chain_results m [] chain = refl
chain_results m (c ∷ cs) chain =
    let answers : trimmed_answer c.answer ≡ advance (trimmed m) c.wanted =
    chain.1.machine ∙ ap (λ (z : Model). advance (trimmed z) c.wanted) chain.0 in
    ap₂ (λ (r : Answer) (rs : List Answer). r ∷ rs) answers
    (chain_results c.answer.model cs chain.2 ∙
    ap (λ (r : Answer). machine_answers r.model (wanted_steps cs)) answers)

-- so the same steps wanted of the same model have the same results, with previews among them and without
pub same_results : (m : Model) (cs : List AnyCall) (ds : List Call) → MixedChain m cs → Chain m ds →
    wanted_steps (advances cs) ≡ wanted_steps ds →
    results (advances cs) ≡ results ds
same_results m cs ds mixed chain wanted =
    chain_results m (advances cs) (previews_alter_nothing m cs mixed).chain ∙ ap (machine_answers (trimmed m)) wanted ∙
    sym (chain_results m ds chain)
