-- A preview on lent words and then the advance that it foretold, computed: the first of the calls that form a chain on
-- words (master's proofs/ChainedWords.antt) is previewed and then made. So what `LentMixed` asks can be met. Assumes
-- nothing.
use native.Mathlib.Omega.{arith}
use mathlib.Core.Path.{refl}
use mathlib.Core.List.{[], ◌∷◌}
use Rattle.advance_call.proofs.ChainedWords.{square_words, at_start, at_the_edge, any_words, stepped_call, stepped_kept}
use Rattle.preview_call.specs.PreviewedInto.{PreviewedInto, searched_preview}
use Rattle.preview_call.specs.EveryPreviewed.{LentAdvance, LentPreview, LentMixed}

-- the preview, which is answered as the advance is
stepped_preview : PreviewedInto square_words at_start 9 any_words at_the_edge stepped_call.result
stepped_preview =
    searched_preview square_words at_start 9 any_words at_the_edge stepped_call.result stepped_kept
    (λ e. omega arith)

-- the list of the two, which is a chain
pub previewed_words : LentMixed square_words at_start (LentPreview stepped_call ∷ LentAdvance stepped_call ∷ [])
previewed_words = (refl, omega arith, stepped_preview, (refl, omega arith, stepped_kept, tt))
