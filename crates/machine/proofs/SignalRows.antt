-- The rows of document 01's "Signals": each side computes to the other. Assumes nothing.
use mathlib.Core.Path.{refl}
use Rattle.machine.specs.SignalRows.{SignalRows}
use Rattle.machine.proofs.Computing.{computing}

pub signal_rows : SignalRows
unfolding computing
signal_rows =
    record {
      values = (refl, refl, refl, refl);
      signals = (refl, refl, refl, refl, refl);
      clamped = (refl, refl, refl, refl, refl, refl);
      products = (refl, refl, refl, refl, refl, refl, refl);
      squares = (refl, refl, refl);
      sums = (refl, refl, refl, refl, refl, refl, refl, refl);
      integrals = (refl, refl, refl, refl, refl, refl, refl);
    }
