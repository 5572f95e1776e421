-- `put_point` writes the two words of the point.
use Rattle.words_store.specs.Updated.{point_put}
use Rattle.words_store.proofs.update.put_point.Goals as goal

pub returns : goal.returns
returns c = point_put _ _ c.requires
