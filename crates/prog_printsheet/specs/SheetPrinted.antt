-- What the program `printsheet` prints for what its standard input holds: three chosen parts and a stream, of which it
-- prints the rehearsal as a sheet. Assumes nothing.
use Rattle.std.specs.Prelude.{ℕ, ◌+◌, cond, List, ltb, length, take, drop}
use Rattle.machine.specs.Load.{word_at}
use Rattle.machine.specs.Rehearse.{refused_at_line, most_read}
use Rattle.play_score.specs.declared.format.Choice.{Choice}
use Rattle.play_score.specs.declared.format.Format.TheVariants.{Sheet}
use Rattle.play_score.specs.Lines.{Printout, on_errors, choice_bytes, score_printout}

-- the parts that an input chooses, by number: four bytes for each, the lowest first
unfoldable pub choice_in : List ℕ → Choice
choice_in input = record { first = word_at input 0; second = word_at input 4; third = word_at input 8 }

-- the stream of an input
abbrev pub stream_in : List ℕ → List ℕ
stream_in input = drop choice_bytes input

-- what is printed for the bytes that were read: 1 at 0 where they are too few to choose
unfoldable pub read_printout : List ℕ → Printout
read_printout input =
    cond (ltb (length input) choice_bytes) (on_errors (refused_at_line 1 0))
    (score_printout (stream_in input) (Sheet (choice_in input)))

-- how many bytes are read: those of the choice, and as many of the stream as `rehearse` reads
abbrev pub most_input : ℕ
most_input = choice_bytes + most_read

-- what `printsheet` prints for all that standard input holds
unfoldable pub printout : List ℕ → Printout
printout input = read_printout (take most_input input)
