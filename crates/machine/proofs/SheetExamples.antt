-- The worked sheet lines: each computes to its characters. Assumes nothing.
use mathlib.Core.Path.{refl}
use Rattle.machine.specs.Rehearse.{digits_before, decimal, signed_decimal, signal_text}
use Rattle.machine.specs.Sheet.{right_aligned, filled_up, row, texts_fit, field_texts, refused_row, shown_line}
use Rattle.machine.specs.Sheet.{shown_fits}
use Rattle.machine.specs.SheetExamples.{SheetExamples}

pub sheet_examples : SheetExamples
unfolding digits_before decimal signed_decimal signal_text right_aligned filled_up row texts_fit field_texts refused_row
    shown_line shown_fits
sheet_examples =
    record {
      numbers = refl;
      widest = refl;
      refused = refl;
      fits = refl;
      wide_step = refl;
      wide_rounds = refl;
      wide_revisions = refl;
    }
