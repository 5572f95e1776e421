-- Request 3 of the calls themselves: lists of advances and previews on lent words. `preview` by value (src/lib.rt)
-- promises `Previewed`, which is what a list with previews asks of each (`MixedChain`, machine's specs/Previews.antt),
-- so that `previews_alter_nothing`, `previewed_list` and `same_results` (advance_lists' PreviewLists.antt) speak of
-- every list of calls by value. `preview_into` promises `PreviewedInto`; here a list on words asks that of each
-- preview, and gives the next call the state that the preview was given, which is kept, since nothing can write it.
-- `proofs/EveryPreviewed.antt` shows that the advances are unaltered. Assumes nothing.
use Rattle.std.specs.Prelude.{ℕ, ◌≤◌, ◌≡◌, List, [], ◌∷◌, length}
use Rattle.machine.specs.Advance.{advance}
use Rattle.words_store.specs.ModelIn.{part_count, state_words}
use Rattle.advance_call.specs.Into.{lent_model, AdvancedInto}
use Rattle.advance_call.specs.EveryLent.{LentCall, next_state, LentChain}
use Rattle.preview_call.specs.PreviewedInto.{told, PreviewedInto}

-- a call of a list: an advance or a preview
pub data AnyLentCall : Type 0 where
  LentAdvance : LentCall → AnyLentCall
  LentPreview : LentCall → AnyLentCall

-- a chain of such calls on the table ts from the state s, with enough words for each: after a preview the next call is
-- given the state that it was given
abbrev pub LentMixed : List ℕ → List ℕ → List AnyLentCall → Type 0
LentMixed ts s [] = Unit {0}
LentMixed ts s (LentAdvance c ∷ cs) =
    (c.state ≡ s) × (state_words (part_count ts) ≤ length c.before) ×
    AdvancedInto ts c.state c.wanted c.before c.after c.result ×
    LentMixed ts (next_state c) cs
LentMixed ts s (LentPreview c ∷ cs) =
    (c.state ≡ s) × (state_words (part_count ts) ≤ length c.before) ×
    PreviewedInto ts c.state c.wanted c.before c.after c.result ×
    LentMixed ts c.state cs

-- the advances of a list, alone
unfoldable pub lent_advances : List AnyLentCall → List LentCall
lent_advances [] = []
lent_advances (LentAdvance c ∷ cs) = c ∷ lent_advances cs
lent_advances (LentPreview c ∷ cs) = lent_advances cs

-- what each preview tells, by its new words and its outcome, is the machine's advance of the state that the advances
-- before it lead to
abbrev pub LentInPlace : List ℕ → List ℕ → List AnyLentCall → Type 0
LentInPlace ts s [] = Unit {0}
LentInPlace ts s (LentAdvance c ∷ cs) = LentInPlace ts (next_state c) cs
LentInPlace ts s (LentPreview c ∷ cs) = (told ts c.after c.result ≡ advance (lent_model ts s) c.wanted) ×
    LentInPlace ts s cs

-- the advances alone are a chain from the same state, with the outcomes and words that they have in the list, and each
-- preview is answered as an advance in its place
pub record LentUnaltered (ts s : List ℕ) (cs : List AnyLentCall) : Type 0 where
  pub chain : LentChain ts s (lent_advances cs)
  pub previews : LentInPlace ts s cs
