-- The rows of document 01's "Time": each side computes to the other. Assumes nothing.
use mathlib.Core.Path.{refl}
use Rattle.machine.specs.Time.{compared, stepped}
use Rattle.machine.specs.TimeRows.{TimeRows}
use Rattle.machine.proofs.Computing.{computing}

pub time_rows : TimeRows
unfolding computing compared stepped
time_rows =
    record {
      ends = (refl, refl);
      ranges = (refl, refl, refl);
      order = (refl, refl, refl, refl, refl);
      steps = (refl, refl);
      last_steps = (refl, refl, refl, refl);
      magnitudes = (refl, refl, refl);
      master = (refl, refl, refl, refl);
      ratio = (refl, refl, refl, refl);
      table_ratios = refl;
      periods = refl;
      locals = (refl, refl, refl);
      gains = (refl, refl, refl, refl);
    }
