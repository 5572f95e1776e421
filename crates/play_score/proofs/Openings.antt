-- How printing begins, by what refuses it: the line of a refusal is said and ends it; else the loaded model is in
-- words, and all lines are to come. Assumes nothing.
use Prim.Native.Nat.{ℕ, ◌≤◌}
use native.Mathlib.Omega.{arith}
use mathlib.Core.Path.{◌≡◌, refl, sym, ap, subst, ◌∙◌}
use mathlib.Core.Bool.{Bool, true, false, cond}
use Rattle.std.specs.Prelude.{Option, Some, None, Ok, Err}
use mathlib.Core.List.{List, [], append-nil}
use lib.Dec.{ltb}
use lib.ListN.{length, length-take}
use borrow.Author.Tests.{ne_eqb, ltb-true}
use Rattle.machine.specs.declared.model.Model.{Model}
use Rattle.machine.specs.Answers.{Loaded}
use Rattle.machine.specs.Answers.{Written}
use Rattle.machine.specs.Model.{trimmed, trimmed_loaded}
use Rattle.machine.specs.Load.{load}
use Rattle.machine.specs.Sound.{sound}
use Rattle.machine.specs.Rehearse.{refused_at_line}
use Rattle.machine.specs.Writing.{WrittenAs}
use Rattle.sound_laws.specs.Facts.{sound_facts}
use Rattle.write_bytes.specs.Fitting.{size_told, enough_room, written_whole}
use Rattle.words_store.specs.ModelIn.{part_count}
use Rattle.words_transfer.specs.ModelPut.{ModelPut}
use Rattle.load_call.specs.LoadOwed.{accepted_is_a_table}
use Rattle.step_parts.specs.LentReading.{lent_many}
use Rattle.advance_call.specs.Into.{lent_model}
use Rattle.sheet_call.specs.LentSheet.{Chosen}
use Rattle.play_score.specs.declared.format.Choice.{Choice}
use Rattle.play_score.specs.declared.format.Format.{Format}
use Rattle.play_score.specs.declared.format.Format.TheVariants.{Plain, Sheet}
use Rattle.play_score.specs.declared.print.Said.{Said}
use Rattle.play_score.specs.Lines.{missing_at, missing_in, no_such_part}
use Rattle.play_score.specs.Lines.{accepted_printout, loaded_printout}
use Rattle.play_score.specs.Playing.{Shows, Playable, lines_left, LineOpened, Opening, Opened, PrintedSoFar}

-- a line that was said is in front of the buffer, which has room for it
pub line_said : (errors : Bool) (number position : ℕ) (before after : List ℕ) (x : Written) → 64 ≤ length before →
    WrittenAs 0 (refused_at_line number position) before after x → x.length ≤ 64 →
    LineOpened errors (refused_at_line number position) after
    (record { errors = errors; used = x.length })
line_said errors number position before after x room written short =
    let text = refused_at_line number position in
    let fits : length text ≤ length before = omega (arith, size_told written) in
    let whole = written_whole 0 text before after x written (enough_room written fits) in
    record {
      said = whole.front;
      room = omega (arith, length-take x.length after, ap length whole.front, whole.size);
      told = refl;
    }

-- where no choice is missing, all three name a part
all_named : (count : ℕ) (ch : Choice) → missing_at count ch ≡ None →
    Chosen count ch.first ch.second ch.third
unfolding missing_at
all_named count ch none = named (tests (ltb ch.first count) (ltb ch.second count) (ltb ch.third count) none)
  where
    tests : (p q r : Bool) → cond {A = Option ℕ} p (cond q (cond r None (Some 8)) (Some 4)) (Some 0) ≡ None →
        (p ≡ true) × (q ≡ true) × (r ≡ true)
    tests true true true e = (refl, refl, refl)
    tests true true false e = grind arith
    tests true false r e = grind arith
    tests false q r e = grind arith

    named : (ltb ch.first count ≡ true) × (ltb ch.second count ≡ true) × (ltb ch.third count ≡ true) →
        Chosen count ch.first ch.second ch.third
    named (one, two, three) =
        record {
          first = ltb-true ch.first count one;
          second = ltb-true ch.second count two;
          third = ltb-true ch.third count three;
        }

all_shown : (count : ℕ) (f : Format) → missing_in count f ≡ None → Shows f count
unfolding missing_in
all_shown count Plain none = tt
all_shown count (Sheet ch) none = all_named count ch none

-- the beginning for a load
module _ (bs : List ℕ) (f : Format) (r : Loaded) (is : trimmed_loaded r ≡ load bs) where
  -- its number, position and model
  number_is : (load bs).number ≡ r.number
  unfolding trimmed_loaded
  number_is = ap (λ (l : Loaded). l.number) (sym is)

  position_is : (load bs).position ≡ r.position
  unfolding trimmed_loaded
  position_is = ap (λ (l : Loaded). l.position) (sym is)

  model_is : (load bs).model ≡ trimmed r.model
  unfolding trimmed_loaded
  model_is = ap (λ (l : Loaded). l.model) (sym is)

  -- a refused load
  pub load_refused : (ts ss buffer : List ℕ) (s : Said) → (r.number ≡ 0 → ⊥) →
      LineOpened false (refused_at_line r.number r.position) buffer s → Opened bs f ts ss buffer (Err s)
  unfolding loaded_printout lines_left
  load_refused ts ss buffer s some line =
      let number = ne_eqb r.number 0 some in
      record {
        printed = rw (number_is, position_is, number, line.told, line.said, append-nil) refl;
        room = line.room;
        ready = λ at goes. grind arith;
      }

  -- an accepted one has as many parts as it counts
  module _ (none : r.number ≡ 0) where
    sounds : sound (trimmed r.model) ≡ true
    sounds = (accepted_is_a_table bs r is none).1.sound

    counted : length (load bs).model.parts ≡ r.model.count
    unfolding trimmed
    counted = rw model_is (sym (sound_facts (trimmed r.model) sounds).counted)

    -- a part that is not there
    pub part_missing : (ts ss buffer : List ℕ) (s : Said) (k : ℕ) → Some k ≡ missing_in r.model.count f →
        LineOpened true (refused_at_line no_such_part k) buffer s → Opened bs f ts ss buffer (Err s)
    unfolding loaded_printout accepted_printout lines_left
    part_missing ts ss buffer s k at line =
        record {
          printed = rw (number_is, none, counted, ← at, line.told, line.said) refl;
          room = line.room;
          ready = λ at goes. grind arith;
        }

    -- and all of them are
    pub score_ready : (ts ss buffer : List ℕ) → None ≡ missing_in r.model.count f → ModelPut r.model ts ss →
        Opened bs f ts ss buffer (Ok r.position)
    unfolding loaded_printout accepted_printout lines_left
    score_ready ts ss buffer at put =
        let model : (load bs).model ≡ lent_model ts ss = model_is ∙ sym put.is in
        let parts = ap (λ (m : Model). length m.parts) (sym model) in
        let many : part_count ts ≡ r.model.count = sym (lent_many ts ss) ∙ parts ∙ counted in
        record {
          printed = rw (number_is, none, counted, ← at, position_is, model) refl;
          room = omega arith;
          ready = λ next goes. record {
            form = put.form;
            sounds = rw put.is sounds;
            shows = subst (λ (n : ℕ). Shows f n) (sym many) (all_shown r.model.count f (sym at));
          };
        }

-- where printing goes on, its words can be played, what was said is printed, and all lines are to come
pub opened_goes_on : {bs ts ss buffer : List ℕ} {f : Format} {o : Opening} {at : ℕ} → o ≡ Ok at →
    Opened bs f ts ss buffer o → Playable ts ss f × PrintedSoFar bs f at (lent_model ts ss)
unfolding lines_left
opened_goes_on {buffer = buffer} {o = o} {at = at} goes opened =
    (opened.ready at goes, record { text = []; whole = rw goes at opened.printed })
