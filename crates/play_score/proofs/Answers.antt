-- A call on words that can be played, with room for the new state, is the machine's advance, and the line of its
-- numbers and of the state left is the answer's (`SoundCalls` of `advance_call`), in either format. The idea: every
-- answer of a sound model is printed, so that nothing but the room could refuse a sheet line. Assumes nothing.
use Prim.Native.Nat.{ℕ, ◌≤◌, ◌<◌}
use native.Mathlib.Omega.{arith}
use mathlib.Core.Path.{◌≡◌, refl, sym, subst}
use mathlib.Core.Bool.{true, false}
use Rattle.std.specs.Prelude.{Some}
use mathlib.Core.List.{List}
use lib.ListN.{length}
use Rattle.machine.specs.declared.model.Answer.{Answer}
use Rattle.machine.specs.declared.model.Outcome.{Outcome}
use Rattle.machine.specs.Answers.{Written}
use Rattle.machine.specs.Model.{most_parts}
use Rattle.machine.specs.Rehearse.{answer_line}
use Rattle.machine.specs.Sheet.{sheet_line}
use Rattle.machine.specs.Writing.{WrittenAs}
use Rattle.advance_lists.specs.Bounds.{answer_sound}
use Rattle.write_bytes.specs.Fitting.{size_told}
use Rattle.words_store.specs.ModelIn.{part_count, state_words, WordsThere}
use Rattle.words_store.specs.Spelling.{spelled_room, spelled_few}
use Rattle.step_parts.specs.LentReading.{lent_many}
use Rattle.advance_call.specs.Into.{lent_model, outcome_with, CalledInto}
use Rattle.advance_call.specs.SoundCalls.{moved_model, moved_form, kept_model, answer_told}
use Rattle.sheet_call.specs.SheetInto.{outcome_answer, lent_sheet_refusal, SheetInto}
use Rattle.sheet_call.specs.LentSheet.{line_length}
use Rattle.sheet_call.specs.SheetsOwed.{every_answer_printed}
use Rattle.play_score.specs.declared.format.Choice.{Choice}
use Rattle.play_score.specs.declared.format.Format.{Format}
use Rattle.play_score.specs.declared.format.Format.TheVariants.{Plain, Sheet}
use Rattle.play_score.specs.Held.{Held, LinePut}
use Rattle.play_score.specs.Lines.{line_of}
use Rattle.play_score.specs.Playing.{most_state_words, Playable, AnswerIn, PlayedWanted}

-- the words of an answer are all there, of at most as many parts as a model has, so that a line of them can be written
pub line_words : {v : Outcome} {f : Format} (ts ss : List ℕ) → AnswerIn ts ss v f →
    WordsThere ts ss × (part_count ts ≤ most_parts)
line_words ts ss answer = (spelled_room ts ss answer.form, spelled_few ts ss answer.form)

-- a line put in one of the formats is the line of that format
pub plain_put : {before after : Held} (r : Answer) (f : Format) → f ≡ Plain →
    LinePut (answer_line r) before after → LinePut (line_of r f) before after
plain_put {before = before} {after = after} r f e put =
    subst (λ (x : Format). LinePut (line_of r x) before after) (sym e) put

pub sheet_put : {before after : Held} (r : Answer) (f : Format) (ch : Choice) → f ≡ Sheet ch →
    LinePut (sheet_line r ch.first ch.second ch.third) before after → LinePut (line_of r f) before after
sheet_put {before = before} {after = after} r f ch e put =
    subst (λ (x : Format). LinePut (line_of r x) before after) (sym e) put

-- a sheet line of an answer is not refused, and has room in as many bytes as any line
pub sheet_written :
    {before after : List ℕ} {x : Written} (ts ss : List ℕ) (v : Outcome) (f : Format) (ch : Choice) → f ≡ Sheet ch →
    AnswerIn ts ss v f →
    SheetInto ts ss v ch.first ch.second ch.third before after x →
    WrittenAs 0 (sheet_line (outcome_answer ts ss v) ch.first ch.second ch.third) before after x ×
    (x.length ≤ 1024)
unfolding lent_sheet_refusal
sheet_written ts ss v f ch e any written =
    let answer : AnswerIn ts ss v (Sheet ch) = subst (λ (g : Format). AnswerIn ts ss v g) e any in
    let one : ch.first < length answer.asked.parts = rw answer.many answer.shows.first in
    let two : ch.second < length answer.asked.parts = rw answer.many answer.shows.second in
    let three : ch.third < length answer.asked.parts = rw answer.many answer.shows.third in
    let printed = every_answer_printed answer.asked answer.wanted _ _ _ answer.sounds one two three in
    let free : lent_sheet_refusal ts ss v ch.first ch.second ch.third ≡ 0 =
    rw (answer.form, answer.is) printed in
    let whole = rw free at written in
    let size = line_length ts ss v ch.first ch.second ch.third answer.small free in
    (whole, omega (arith, size, size_told whole))

-- a call of words that can be played
module _
    (ts os a b : List ℕ)
    (w : ℕ)
    (v : Outcome)
    (f : Format)
    (words : Playable ts os f)
    (room : most_state_words ≤ length a)
    (called : CalledInto (outcome_with ts os w (length a)) ts os a b v) where
  -- there is room for a state of the model
  room_for : state_words (part_count ts) ≤ length a
  room_for = let few = spelled_few ts os words.form in omega arith

  -- a committed call: its new state is the answer's, and can be played
  pub moved_answer : v.number < 18446744073709551616 → v.number ≡ 0 → AnswerIn ts b v f
  moved_answer small z =
      let model = moved_model ts os a b w v words.form room_for called z in
      record {
        asked = lent_model ts os;
        wanted = w;
        sounds = words.sounds;
        many = lent_many ts os;
        small = small;
        is = answer_told ts os a b w v words.form room_for called (lent_model ts b) model;
        form = moved_form ts os a b w v words.form room_for called z;
        shows = words.shows;
      }

  pub wanted_moved : (next : ℕ) (before after : Held) → v.number ≡ 0 →
      LinePut (line_of (outcome_answer ts b v) f) before after →
      PlayedWanted ts os w next f b before after (record { next = Some next; moved = true })
  wanted_moved next before after z put =
      let model = moved_model ts os a b w v words.form room_for called z in
      let told = answer_told ts os a b w v words.form room_for called (lent_model ts b) model in
      record {
        line = subst (λ (r : Answer). LinePut (line_of r f) before after) told put;
        model = model;
        playable = record {
          form = moved_form ts os a b w v words.form room_for called z;
          sounds = rw model (answer_sound (lent_model ts os) w words.sounds);
          shows = words.shows;
        };
        position = refl;
      }

  -- and a refused one: the old state is
  pub kept_answer : v.number < 18446744073709551616 → (v.number ≡ 0 → ⊥) → AnswerIn ts os v f
  kept_answer small other =
      let model = kept_model ts os a b w v words.form room_for called other in
      record {
        asked = lent_model ts os;
        wanted = w;
        sounds = words.sounds;
        many = lent_many ts os;
        small = small;
        is = answer_told ts os a b w v words.form room_for called (lent_model ts os) model;
        form = words.form;
        shows = words.shows;
      }

  pub wanted_kept : (next : ℕ) (before after : Held) → (v.number ≡ 0 → ⊥) →
      LinePut (line_of (outcome_answer ts os v) f) before after →
      PlayedWanted ts os w next f os before after (record { next = Some next; moved = false })
  wanted_kept next before after other put =
      let model = kept_model ts os a b w v words.form room_for called other in
      let told = answer_told ts os a b w v words.form room_for called (lent_model ts os) model in
      record {
        line = subst (λ (r : Answer). LinePut (line_of r f) before after) told put;
        model = model;
        playable = words;
        position = refl;
      }
