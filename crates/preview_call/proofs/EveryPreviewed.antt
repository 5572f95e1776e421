-- Previews put anywhere into a list of advances on lent words alter none of its results, so that demand 3 holds of the
-- advances in every such list. The idea: a preview keeps the state that it was given, and the next call is given it.
use Rattle.std.specs.Prelude.{ℕ, ◌≤◌, ◌≡◌, true, List, [], ◌∷◌, eqb, leb, length}
use Rattle.std.proofs.Common.{ap, subst, ◌∙◌, le-leb}
use Rattle.machine.specs.Load.{load}
use Rattle.machine.specs.Advance.{advance}
use Rattle.machine.specs.WholeList.{WholeList}
use Rattle.laws.specs.Bools.{either, and_intro}
use Rattle.words_store.specs.ModelIn.{part_count, state_words, model_in}
use Rattle.words_store.specs.Form.{spelled}
use Rattle.advance_call.specs.Into.{lent_model}
use Rattle.advance_call.specs.EveryLent.{LentCall, next_state, machine_calls_of, spells_on, every_lent_list}
use Rattle.preview_call.specs.PreviewedInto.{shows, told, PreviewedInto}
use Rattle.preview_call.specs.EveryPreviewed.{AnyLentCall, LentAdvance, LentPreview, LentMixed, lent_advances}
use Rattle.preview_call.specs.EveryPreviewed.{LentUnaltered}

-- words that spell a model, and enough of them for a state, can show one
shows_there : (ts s : List ℕ) (room : ℕ) → spelled ts s ≡ true → state_words (part_count ts) ≤ room →
    shows ts s room ≡ true
unfolding shows
shows_there ts s room spells enough =
    and_intro (spelled ts s) (leb (state_words (part_count ts)) room) spells
    (le-leb (state_words (part_count ts)) room enough)

-- a preview in its place
told_there : (ts s : List ℕ) (c : LentCall) → spelled ts s ≡ true → c.state ≡ s →
    state_words (part_count ts) ≤ length c.before →
    PreviewedInto ts c.state c.wanted c.before c.after c.result →
    told ts c.after c.result ≡ advance (lent_model ts s) c.wanted
told_there ts s c spells given enough previewed =
    previewed.answer (shows_there ts c.state (length c.before) (ap (spelled ts) given ∙ spells) enough) ∙
    ap (λ (z : List ℕ). advance (lent_model ts z) c.wanted) given

-- "Previews put anywhere into a list of advances alter none of its results"
pub lent_previews_alter_nothing : (ts s : List ℕ) (cs : List AnyLentCall) → spelled ts s ≡ true → LentMixed ts s cs →
    LentUnaltered ts s cs
unfolding lent_advances
lent_previews_alter_nothing ts s [] spells mixed = record { chain = tt; previews = tt }
lent_previews_alter_nothing ts s (LentAdvance c ∷ cs) spells mixed =
    let here : spelled ts c.state ≡ true = ap (spelled ts) mixed.0 ∙ spells in
    let there = spells_on ts c here mixed.1 mixed.2 (either (eqb c.result.number 0)) in
    let rest = lent_previews_alter_nothing ts (next_state c) cs there mixed.3 in
    record { chain = (mixed.0, mixed.1, mixed.2, rest.chain); previews = rest.previews }
lent_previews_alter_nothing ts s (LentPreview c ∷ cs) spells mixed =
    let rest = lent_previews_alter_nothing ts s cs spells
    (subst (λ (z : List ℕ). LentMixed ts z cs) mixed.0 mixed.3) in
    record {
      chain = rest.chain;
      previews = (told_there ts s c spells mixed.0 mixed.1 mixed.2, rest.previews);
    }

-- so demand 3 holds of the advances in every such list: whatever bytes were loaded into words, and whatever steps were
-- wanted and previewed then
pub every_previewed_list :
    (bs ts s : List ℕ) → (load bs).number ≡ 0 → lent_model ts s ≡ (load bs).model → spelled ts s ≡ true →
    (cs : List AnyLentCall) → LentMixed ts s cs → WholeList (model_in ts s) (machine_calls_of ts (lent_advances cs))
every_previewed_list bs ts s accepted is spells cs mixed =
    every_lent_list bs ts s accepted is spells (lent_advances cs)
    (lent_previews_alter_nothing ts s cs spells mixed).chain
