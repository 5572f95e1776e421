-- `put_counts` puts five words, one after the other.
use mathlib.Core.List.{[], ◌∷◌}
use Rattle.boundary.specs.Exported.{outcome_words}
use Rattle.boundary.proofs.Laws.{front_none, front_next}
use Rattle.boundary.proofs.put_counts.Goals as goal

pub returns : goal.returns
unfolding outcome_words
returns c =
    let one = front_next [] _ _ (front_none _) c.put_word.ensures in
    let two = front_next (_ ∷ []) _ _ one c.put_word-2.ensures in
    let three = front_next (_ ∷ _ ∷ []) _ _ two c.put_word-3.ensures in
    let four = front_next (_ ∷ _ ∷ _ ∷ []) _ _ three c.put_word-4.ensures in
    front_next (_ ∷ _ ∷ _ ∷ _ ∷ []) _ _ four c.put_word-5.ensures
