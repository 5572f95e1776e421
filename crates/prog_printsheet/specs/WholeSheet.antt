-- The whole sheet: what is said at its beginning and the texts of all batches, one after the other up to its end, are
-- what `printsheet` prints, for the bytes that are read of all that standard input holds; and what is said of an
-- input that is too short to choose. Assumes nothing.
use Rattle.std.specs.Prelude.{ℕ, ◌≤◌, ◌<◌, ◌≡◌, refl, true, List, [], length, take}
use Rattle.std.proofs.Common.{lt-ltb, le-ltb}
use Rattle.machine.specs.Rehearse.{refused_at_line}
use Rattle.play_score.specs.declared.format.Format.TheVariants.{Sheet}
use Rattle.play_score.specs.declared.print.Said.{Said}
use Rattle.play_score.specs.Lines.{choice_bytes}
use Rattle.play_score.specs.Playing.{said_and, LineOpened}
use Rattle.play_score.specs.WholeScore.{Batch, InBatches, said_by}
use Rattle.play_score.proofs.WholeScore.{whole_score}
use Rattle.prog_printsheet.specs.SheetPrinted.{choice_in, stream_in, most_input, read_printout, printout}

pub sheet_printed : (all : List ℕ) (batches : List Batch) →
    let input = take most_input all in
    choice_bytes ≤ length input → (p : InBatches (stream_in input) (Sheet (choice_in input)) batches) →
    printout all ≡ said_by p.buffer p.opening batches
unfolding printout read_printout
sheet_printed all batches long p =
    let input = take most_input all in
    rw (le-ltb (length input) choice_bytes long)
    (whole_score.whole (stream_in input) (Sheet (choice_in input)) batches p)

pub short_printed : (all buffer : List ℕ) (r : Said) →
    length (take most_input all) < choice_bytes → LineOpened true (refused_at_line 1 0) buffer r →
    printout all ≡ said_and r.errors (take r.used buffer) []
unfolding printout read_printout
short_printed all buffer r short line =
    rw (lt-ltb (length (take most_input all)) choice_bytes short, line.told, line.said) refl
