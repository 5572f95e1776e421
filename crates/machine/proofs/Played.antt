-- The ten marked cases of document 01's "Played examples" hold of its machine: each side computes to the other. Assumes
-- nothing.
use mathlib.Core.Path.{refl}
use Rattle.machine.specs.Played.{Played}
use Rattle.machine.proofs.Computing.{computing}

pub played : Played
unfolding computing
played =
    record {
      printed = refl;
      drives = (refl, refl, refl, refl);
      revised = (refl, refl, refl, refl);
      hundredth = (refl, refl);
      tenth = (refl, refl);
      square = (refl, refl, refl, refl);
      looped = (refl, refl);
      delays = (refl, refl);
      latest = (refl, refl, refl, refl);
      empty = refl;
    }
