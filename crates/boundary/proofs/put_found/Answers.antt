-- `put_found` puts two words, one after the other.
use mathlib.Core.List.{[], ◌∷◌}
use Rattle.boundary.proofs.Laws.{front_none, front_next}
use Rattle.boundary.proofs.put_found.Goals as goal

pub returns : goal.returns
returns c =
    let one = front_next [] _ _ (front_none _) c.put_word.ensures in
    front_next (_ ∷ []) _ _ one c.put_word-2.ensures
