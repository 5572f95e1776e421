-- The rows of a sheet line's refusals: each side computes to the other. Assumes nothing.
use mathlib.Core.Path.{refl}
use Rattle.machine.specs.Sheet.{output_of, shown, texts_fit, field_texts, shown_fits, has_part, sheet_refusal}
use Rattle.machine.specs.SheetRefusals.{SheetRefusals}
use Rattle.machine.proofs.Computing.{computing}

pub sheet_refusals : SheetRefusals
unfolding computing output_of shown texts_fit field_texts shown_fits has_part sheet_refusal
sheet_refusals =
    record {
      chosen = (refl, refl, refl, refl);
      wide = (refl, refl, refl);
      unsound = refl;
      shows = (refl, refl);
      wide_tick = refl;
      wide_microstep = refl;
      wide_outputs = (refl, refl, refl, refl);
    }
