-- The rows of loading's refusals: each side computes to the other. Assumes nothing.
use mathlib.Core.Path.{refl}
use Rattle.machine.specs.LoadRows.{LoadRows}
use Rattle.machine.proofs.Computing.{computing}

pub load_rows : LoadRows
unfolding computing
load_rows =
    record {
      cut = (refl, refl, refl, refl);
      unended = (refl, refl);
      unknown = (refl, refl, refl);
      first = refl;
      misplaced = (refl, refl, refl, refl, refl);
      magnitudes = refl;
      preferences = refl;
      kinds = refl;
      a_values = refl;
      b_values = refl;
      p_values = refl;
      unnamed = refl;
      spans = refl;
      out_of_range = (refl, refl, refl);
      ninth = (refl, refl);
      not_above = (refl, refl, refl, refl);
      thirty_third = (refl, refl, refl);
      unknown_wires = (refl, refl, refl, refl);
      wired_twice = (refl, refl, refl);
      no_parts = refl;
      long_periods = (refl, refl, refl, refl);
      circles = (refl, refl);
      place_first = (refl, refl);
      cut_first = (refl, refl, refl);
      range_first = (refl, refl);
      name_first = (refl, refl);
      period_first = refl;
      in_turn = refl;
      position = (refl, refl);
      read = refl;
      placing = (refl, refl);
      placing_direct = (refl, refl);
    }
