-- Document 01, "Played examples": what the program `rehearse` prints, byte for byte. Assumes nothing.
use Rattle.std.specs.Prelude.{ℕ, zero, suc, ◌+◌, ◌/◌, ◌%◌, cond, List, [], ◌∷◌, ◌++◌, length, take, eqb, ltb, ℤ, pos}
use Rattle.std.specs.Prelude.{negsuc}
use Rattle.machine.specs.declared.signal.Signal.{Signal}
use Rattle.machine.specs.declared.signal.Signal.TheVariants.{Absent, Value}
use Rattle.machine.specs.declared.part.Part.{Part}
use Rattle.machine.specs.declared.model.Model.{Model}
use Rattle.machine.specs.Answers.{Loaded}
use Rattle.machine.specs.declared.model.Answer.{Answer}
use Rattle.machine.specs.Answers.{Score}
use Rattle.machine.specs.Answers.{End, Wanted, Refused}
use Rattle.machine.specs.Time.{tick}
use Rattle.machine.specs.Load.{load}
use Rattle.machine.specs.Advance.{advance}
use Rattle.machine.specs.Score.{score_at}

-- the characters that a line has besides digits and the words below
abbrev pub blank : ℕ
blank = 32

abbrev pub hyphen : ℕ
hyphen = 45

abbrev pub line_feed : ℕ
line_feed = 10

-- `refused `, and ` at `
abbrev pub refused_text : List ℕ
refused_text = 114 ∷ 101 ∷ 102 ∷ 117 ∷ 115 ∷ 101 ∷ 100 ∷ blank ∷ []

abbrev pub at_text : List ℕ
at_text = blank ∷ 97 ∷ 116 ∷ blank ∷ []

-- a number's decimal digits in front of the characters given, in at most f + 1 places; n has no more digits than n + 1
unfoldable pub digits_before : ℕ → ℕ → List ℕ → List ℕ
digits_before zero n cs = (48 + n % 10) ∷ cs
digits_before (suc f) n cs =
    let more = digits_before f (n / 10) ((48 + n % 10) ∷ cs) in
    cond (ltb n 10) ((48 + n % 10) ∷ cs) more

-- a number in base ten
unfoldable pub decimal : ℕ → List ℕ
decimal n = digits_before n n []

-- a value in base ten, with a hyphen before it where it is negative
unfoldable pub signed_decimal : ℤ → List ℕ
signed_decimal (pos n) = decimal n
signed_decimal (negsuc n) = hyphen ∷ decimal (suc n)

-- an output: "absent is -"
unfoldable pub signal_text : Signal → List ℕ
signal_text Absent = hyphen ∷ []
signal_text (Value v) = signed_decimal v

-- "each part's output in part order", read as by part number (docs/DECISIONS.md, R1), with "one blank between"
unfoldable pub outputs_text : List Part → List ℕ
outputs_text [] = []
outputs_text (p ∷ ps) = blank ∷ (signal_text p.state.output ++ outputs_text ps)

-- "A line holds t, n, step, rounds, revisions, then each part's output in part order"
unfoldable pub committed_line : Answer → List ℕ
committed_line r =
    decimal (tick r.model.point) ++ (blank ∷
    (decimal r.model.point.n ++ (blank ∷
    (decimal r.step ++ (blank ∷
    (decimal r.rounds ++ (blank ∷
    (decimal r.revisions ++
    (outputs_text r.model.parts ++ (line_feed ∷ []))))))))))

-- "a refused advance is `refused N`"
unfoldable pub refused_line : ℕ → List ℕ
refused_line number = refused_text ++ (decimal number ++ (line_feed ∷ []))

-- "a load or score refusal is `refused N at POSITION`"
unfoldable pub refused_at_line : ℕ → ℕ → List ℕ
refused_at_line number position =
    refused_text ++ (decimal number ++ (at_text ++ (decimal position ++ (line_feed ∷ []))))

-- the line of an answer
unfoldable pub answer_line : Answer → List ℕ
answer_line r = cond (eqb r.number 0) (committed_line r) (refused_line r.number)

-- the lines from a score's position on: "a line per score command, and stops at a bad byte". `on` prints what follows a
-- command
abbrev pub score_lines : Score → (Answer → ℕ → List ℕ) → (ℕ → Answer) → List ℕ
score_lines End on call = []
score_lines (Wanted w next) on call = answer_line (call w) ++ on (call w) next
score_lines (Refused number position) on call = refused_at_line number position

-- the lines of at most n score commands; each takes a byte or more, so that as many as there are bytes, and one, are
-- never all taken without an end
unfoldable pub lines_from : ℕ → List ℕ → ℕ → Model → List ℕ
lines_from zero bs at m = []
lines_from (suc n) bs at m = score_lines (score_at bs at) (λ r next. lines_from n bs next r.model) (advance m)

-- "reads the first 65,536 bytes of standard input"
abbrev pub most_read : ℕ
most_read = 65536

-- what is printed for a stream that was loaded so
unfoldable pub loaded_lines : List ℕ → Loaded → List ℕ
loaded_lines bs r =
    cond (eqb r.number 0)
    (lines_from (suc (length bs)) bs r.position r.model)
    (refused_at_line r.number r.position)

-- what `rehearse` prints for all that standard input holds
unfoldable pub rehearsed : List ℕ → List ℕ
rehearsed input = loaded_lines (take most_read input) (load (take most_read input))
