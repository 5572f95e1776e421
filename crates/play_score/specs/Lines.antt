-- What is printed of a stream in a format: the machine's lines of a rehearsal, or sheet lines with three chosen parts.
-- Assumes nothing.
use Rattle.std.specs.Prelude.{ℕ, zero, suc, cond, List, [], ◌++◌, Option, Some, None, eqb, ltb, length}
use Rattle.machine.specs.declared.model.Model.{Model}
use Rattle.machine.specs.Answers.{Loaded}
use Rattle.machine.specs.declared.model.Answer.{Answer}
use Rattle.machine.specs.Answers.{Score}
use Rattle.machine.specs.Answers.{End, Wanted, Refused}
use Rattle.machine.specs.Load.{load}
use Rattle.machine.specs.Advance.{advance}
use Rattle.machine.specs.Score.{score_at}
use Rattle.machine.specs.Rehearse.{answer_line, refused_at_line}
use Rattle.machine.specs.Sheet.{sheet_line}
use Rattle.play_score.specs.declared.format.Choice.{Choice}
use Rattle.play_score.specs.declared.format.Format.{Format}
use Rattle.play_score.specs.declared.format.Format.TheVariants.{Plain, Sheet}

-- the line of an answer: a plain line, or a sheet line with the chosen parts
abbrev pub line_of : Answer → Format → List ℕ
line_of r Plain = answer_line r
line_of r (Sheet ch) = sheet_line r ch.first ch.second ch.third

-- the lines from a score's position on: a line for each wanted step, and at a bad or cut command the line of its
-- refusal, which is the last. `on` prints what follows a command
abbrev pub command_lines : Score → (Answer → ℕ → List ℕ) → (ℕ → Answer) → Format → List ℕ
command_lines End on call f = []
command_lines (Wanted w next) on call f = line_of (call w) f ++ on (call w) next
command_lines (Refused number position) on call f = refused_at_line number position

-- the lines of at most n score commands; each takes a byte or more, so that as many as there are bytes, and one, are
-- never all taken without an end
unfoldable pub played_from : ℕ → List ℕ → ℕ → Model → Format → List ℕ
played_from zero bs at m f = []
played_from (suc n) bs at m f =
    command_lines (score_at bs at) (λ r next. played_from n bs next r.model f) (advance m) f

-- all lines of a score from a position of the stream on
unfoldable pub played_at : List ℕ → ℕ → Model → Format → List ℕ
played_at bs at m f = played_from (suc (length bs)) bs at m f

-- what is printed: the text on standard output, and that on standard error
pub record Printout : Type 0 where
  pub out : List ℕ
  pub errors : List ℕ

abbrev pub on_output : List ℕ → Printout
on_output text = record { out = text; errors = [] }

abbrev pub on_errors : List ℕ → Printout
on_errors text = record { out = []; errors = text }

-- the bytes that choose the parts of a sheet, before those of the stream
abbrev pub choice_bytes : ℕ
choice_bytes = 12

-- the position of the first choice that names none of so many parts, where one does
unfoldable pub missing_at : ℕ → Choice → Option ℕ
missing_at count ch =
    cond (ltb ch.first count)
    (cond (ltb ch.second count) (cond (ltb ch.third count) None (Some 8)) (Some 4))
    (Some 0)

-- the same of a format: no choice is missing for plain lines
unfoldable pub missing_in : ℕ → Format → Option ℕ
missing_in count Plain = None
missing_in count (Sheet ch) = missing_at count ch

-- the number of a choice that names no part
abbrev pub no_such_part : ℕ
no_such_part = 26

-- what is printed where a choice is missing, and where none is: these lines
abbrev pub chosen_printout : Option ℕ → List ℕ → Printout
chosen_printout None lines = on_output lines
chosen_printout (Some position) lines = on_errors (refused_at_line no_such_part position)

-- what is printed for an accepted load, which left this model and the score at this position
unfoldable pub accepted_printout : List ℕ → ℕ → Model → Format → Printout
accepted_printout bs at m f = chosen_printout (missing_in (length m.parts) f) (played_at bs at m f)

-- and for a stream that was loaded so: the load's refusal is a line of the output
unfoldable pub loaded_printout : List ℕ → Loaded → Format → Printout
loaded_printout bs r f =
    cond (eqb r.number 0) (accepted_printout bs r.position r.model f)
    (on_output (refused_at_line r.number r.position))

-- what is printed for a stream
abbrev pub score_printout : List ℕ → Format → Printout
score_printout bs f = loaded_printout bs (load bs) f
