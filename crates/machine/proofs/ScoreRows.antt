-- The rows of the score: each side computes to the other. Assumes nothing.
use mathlib.Core.Path.{refl}
use Rattle.machine.specs.ScoreRows.{ScoreRows}
use Rattle.machine.proofs.Computing.{computing}

pub score_rows : ScoreRows
unfolding computing
score_rows =
    record {
      wanted = refl;
      table_bytes = refl;
      other_bytes = refl;
      cut = (refl, refl);
      before_cut = (refl, refl);
      ended = (refl, refl);
    }
