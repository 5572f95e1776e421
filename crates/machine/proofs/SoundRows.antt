-- The clauses of soundness: each side computes to the other. Assumes nothing.
use mathlib.Core.Path.{refl}
use Rattle.machine.specs.SoundRows.{SoundRows}
use Rattle.machine.proofs.Computing.{computing}

pub sound_rows : SoundRows
unfolding computing
sound_rows =
    record {
      time = (refl, refl, refl, refl);
      locals = (refl, refl, refl);
      ratio = refl;
      held = (refl, refl, refl, refl);
      signals = (refl, refl, refl, refl);
      outputs = (refl, refl, refl, refl);
      speeds = (refl, refl, refl, refl, refl, refl, refl);
      sides = (refl, refl, refl);
      orders = (refl, refl, refl, refl, refl);
      magnitudes = (refl, refl, refl, refl, refl);
      operands = (refl, refl, refl, refl, refl, refl);
      spans = (refl, refl, refl, refl, refl, refl, refl);
      wires = (refl, refl, refl);
      most = (refl, refl);
      periods = (refl, refl, refl);
    }
