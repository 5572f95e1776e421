-- What the functions that play and print a score promise. The lines in a buffer and those still to come are those that
-- were to come, told of the model that the words of a table mean, with those of the state that the rehearsal is in.
-- Assumes nothing.
use Rattle.std.specs.Prelude.{ℕ, ◌≤◌, ◌<◌, ◌≡◌, Bool, true, false, cond, List, [], ◌++◌, length, take}
use Rattle.std.specs.Prelude.{Option, Some, None, Result, Ok, Err}
use Rattle.machine.specs.declared.model.Model.{Model}
use Rattle.machine.specs.declared.model.Outcome.{Outcome}
use Rattle.machine.specs.Model.{most_parts}
use Rattle.machine.specs.Sound.{sound}
use Rattle.machine.specs.Advance.{advance}
use Rattle.words_store.specs.ModelIn.{part_count, table_words, state_words}
use Rattle.words_store.specs.Form.{spelled}
use Rattle.advance_call.specs.Into.{lent_model}
use Rattle.sheet_call.specs.LentSheet.{Chosen}
use Rattle.sheet_call.specs.SheetInto.{outcome_answer}
use Rattle.play_score.specs.declared.format.Format.{Format}
use Rattle.play_score.specs.declared.format.Format.TheVariants.{Plain, Sheet}
use Rattle.play_score.specs.declared.play.Played.{Played}
use Rattle.play_score.specs.declared.print.Said.{Said}
use Rattle.play_score.specs.Held.{Held, text_held, LinePut}
use Rattle.play_score.specs.Lines.{Printout, on_output, line_of, played_at, score_printout}

-- how many words have room for the table of any model, and for a state of it
abbrev pub most_table_words : ℕ
most_table_words = table_words most_parts

abbrev pub most_state_words : ℕ
most_state_words = state_words most_parts

-- the state that a rehearsal is in: the second of the two where they are exchanged
abbrev pub stands_in : Bool → List ℕ → List ℕ → List ℕ
stands_in exchanged a b = cond exchanged b a

-- a table of so many parts has those that a format shows
abbrev pub Shows : Format → ℕ → Type 0
Shows Plain count = Unit {0}
Shows (Sheet ch) count = Chosen count ch.first ch.second ch.third

-- words of which a score can be played: they spell a model that is sound, and it has the chosen parts
pub record Playable (ts ss : List ℕ) (f : Format) : Type 0 where
  pub form : spelled ts ss ≡ true
  pub sounds : sound (lent_model ts ss) ≡ true
  pub shows : Shows f (part_count ts)

-- the state and the outcome of a call are those of the machine's answer to a step that was wanted of a sound model, of
-- as many parts
pub record AnswerIn (ts ss : List ℕ) (v : Outcome) (f : Format) : Type 0 where
  pub asked : Model
  pub wanted : ℕ
  pub sounds : sound asked ≡ true
  pub many : length asked.parts ≡ part_count ts
  pub small : v.number < 18446744073709551616
  pub is : outcome_answer ts ss v ≡ advance asked wanted
  pub form : spelled ts ss ≡ true
  pub shows : Shows f (part_count ts)

-- the lines still to come where a score was played up to the next command's position: none once it ended
unfoldable pub lines_left : List ℕ → Option ℕ → Model → Format → List ℕ
lines_left bs None m f = []
lines_left bs (Some at) m f = played_at bs at m f

-- A step was wanted of the state os, and the rehearsal is now in ns: the line of the machine's answer is after the
-- lines that the buffer held, and the state is the answer's.
pub record PlayedWanted (ts os : List ℕ) (w next : ℕ) (f : Format) (ns : List ℕ) (before after : Held) (r : Played) :
    Type 0 where
  pub line : LinePut (line_of (advance (lent_model ts os) w) f) before after
  pub model : lent_model ts ns ≡ (advance (lent_model ts os) w).model
  pub playable : Playable ts ns f
  pub position : r.next ≡ Some next

-- One score command was played of the state os, and the rehearsal is now in ns: the lines that the buffer held and all
-- lines from there on are the same text as before. The buffer is as long. Where the score did not end, the next
-- command lies later, and the one played lay within the stream.
pub record CommandPlayed
    (bs : List ℕ) (at : ℕ) (ts os : List ℕ) (f : Format) (ns : List ℕ) (before after : Held) (r : Played) :
    Type 0 where
  pub lines :
      text_held before ++ played_at bs at (lent_model ts os) f ≡
      text_held after ++ lines_left bs r.next (lent_model ts ns) f
  pub room : after.used ≤ length after.bytes
  pub size : length after.bytes ≡ length before.bytes
  pub playable : Playable ts ns f
  pub later : (next : ℕ) → r.next ≡ Some next → (at < next) × (at < length bs)

-- Some score commands were played: all lines from a position on are those in the buffer and those still to come.
-- Where the score did not end and the buffer has room for a line, the next command lies later, and the first one lay
-- within the stream.
pub record Batched (bs : List ℕ) (at : ℕ) (ts ss : List ℕ) (f : Format) (ns : List ℕ) (held : Held) (r : Played) :
    Type 0 where
  pub lines :
      played_at bs at (lent_model ts ss) f ≡
      text_held held ++ lines_left bs r.next (lent_model ts ns) f
  pub room : held.used ≤ length held.bytes
  pub later : (next : ℕ) → r.next ≡ Some next → 1024 ≤ length held.bytes → (at < next) × (at < length bs)

-- what is printed by a beginning that said this text, and by what then comes
abbrev pub said_and : Bool → (text rest : List ℕ) → Printout
said_and errors text rest = cond errors (record { out = rest; errors = text }) (on_output (text ++ rest))

-- A line was said, with which printing ends.
pub record LineOpened (errors : Bool) (line buffer : List ℕ) (r : Said) : Type 0 where
  pub said : take r.used buffer ≡ line
  pub room : r.used ≤ length buffer
  pub told : r.errors ≡ errors

-- how the printing of a stream begins: the position of the first score command, or what was said where it ends
abbrev pub Opening : Type 0
Opening = Result ℕ Said

-- whether what was said goes to standard error, how many bytes of a buffer were said, and the next command's position
abbrev pub errors_of : Opening → Bool
errors_of (Ok at) = false
errors_of (Err s) = s.errors

abbrev pub used_of : Opening → ℕ
used_of (Ok at) = 0
used_of (Err s) = s.used

abbrev pub next_of : Opening → Option ℕ
next_of (Ok at) = Some at
next_of (Err s) = None

-- The printing of a stream began: what was said and what is to come are what is printed. Where it goes on, its words
-- can be played.
pub record Opened (bs : List ℕ) (f : Format) (ts ss buffer : List ℕ) (r : Opening) : Type 0 where
  pub printed :
      score_printout bs f ≡
      said_and (errors_of r) (take (used_of r) buffer) (lines_left bs (next_of r) (lent_model ts ss) f)
  pub room : used_of r ≤ length buffer
  pub ready : (at : ℕ) → r ≡ Ok at → Playable ts ss f

-- of what is printed for a stream some text was printed, and all lines from a position on, of a model, are still to
-- come
pub record PrintedSoFar (bs : List ℕ) (f : Format) (at : ℕ) (m : Model) : Type 0 where
  pub text : List ℕ
  pub whole : score_printout bs f ≡ on_output (text ++ played_at bs at m f)
