-- `preview_into` is the advance on words; where that made no round, and a state can be shown, the state handed in is
-- copied, which is the answer's.
use Rattle.std.proofs.Common.{◌≡◌, true, List, ℕ, length, sym, ◌∙◌}
use Rattle.words_store.specs.ModelIn.{WordsThere}
use Rattle.words_store.specs.Spelling.{spelled_room}
use Rattle.preview_call.specs.PreviewedInto.{shows, shown_spelled, shown_room, found_spelled, searched_preview}
use Rattle.preview_call.specs.PreviewedInto.{unshown_preview, copied_preview}
use Rattle.preview_call.proofs.preview_into.Goals as goal
use Rattle.preview_call.proofs.preview_into.Goals.{else-ended-eq0-via-then-ended-eq0+else-can_show}
use Rattle.preview_call.proofs.preview_into.Goals.{else-ended-eq0-via-else-ended-eq0}

-- where a state can be shown in new words, all words are there
there : (ts os new₁ : List ℕ) → shows ts os (length new₁) ≡ true → WordsThere ts os
there ts os new₁ can = spelled_room ts os (shown_spelled ts os (length new₁) can)

pub can_show-requires : goal.can_show-requires
can_show-requires c =
    found_spelled _ _ _ _ c.advance_into-ended.new.new c.advance_into-ended.result c.advance_into-ended.ensures

pub kept_in-requires-clause-old_there : goal.kept_in-requires-clause-old_there
kept_in-requires-clause-old_there c =
    there _ _ c.advance_into-ended.new.new (sym c.can_show.ensures ∙ c.if-can_show.true)

pub kept_in-requires-clause-new_there : goal.kept_in-requires-clause-new_there
kept_in-requires-clause-new_there c =
    let new₁ = c.advance_into-ended.new.new in
    let can = sym c.can_show.ensures ∙ c.if-can_show.true in
    record { table = (there _ _ new₁ can).table; state = shown_room _ _ (length new₁) can }

pub returns-then-can_show : goal.returns-then-can_show
returns-then-can_show c =
    copied_preview _ _ _ _ c.advance_into-ended.new.new c.advance_into-ended.result c.advance_into-ended.ensures
    c.kept_in.new.new c.if-ended-eq0.true (sym c.can_show.ensures ∙ c.if-can_show.true) c.kept_in.ensures

pub returns-else-ended-eq0 : goal.returns-else-ended-eq0
returns-else-ended-eq0 c =
    let ended = c.advance_into-ended in
    elim c.else-ended-eq0.branch [
      | else-ended-eq0-via-then-ended-eq0+else-can_show w ↦
          unshown_preview _ _ _ _ ended.new.new ended.result ended.ensures w.if-ended-eq0.true
          (sym w.can_show.ensures ∙ w.if-can_show.false)
      | else-ended-eq0-via-else-ended-eq0 w ↦
          searched_preview _ _ _ _ ended.new.new ended.result ended.ensures w.if-ended-eq0.false
    ]
