-- The columns of the table of kinds: each side computes to the other. Assumes nothing.
use mathlib.Core.Path.{refl}
use Rattle.machine.specs.Lists.{selected}
use Rattle.machine.specs.KindRows.{KindRows}
use Rattle.machine.proofs.Computing.{computing}

pub kind_rows : KindRows
unfolding computing selected
kind_rows =
    record {
      numbers = (refl, refl, refl, refl);
      port_counts = refl;
      direct = (refl, refl);
      operands = (refl, refl, refl);
      periods = (refl, refl, refl, refl);
      unnamed = (refl, refl, refl, refl, refl, refl, refl, refl);
      integrating = (refl, refl);
      classes = refl;
    }
