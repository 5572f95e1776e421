-- What is told of a refused stream and of an accepted one: the buffer has room for a line and for the longest table, so
-- that each is written whole. Assumes nothing.
use Prim.Native.Nat.{ℕ, ◌≤◌}
use native.Mathlib.Omega.{arith}
use mathlib.Core.Path.{◌≡◌, refl, sym, ap, ◌∙◌}
use mathlib.Core.Bool.{true, not}
use mathlib.Core.List.{List}
use Rattle.std.specs.Prelude.{Result, Ok, Err, is_err}
use lib.Dec.{eqb}
use lib.ListN.{length, length-take}
use borrow.Author.Tests.{ne_eqb}
use Rattle.machine.specs.Answers.{Loaded}
use Rattle.machine.specs.Answers.{Written}
use Rattle.machine.specs.Model.{trimmed, trimmed_loaded}
use Rattle.machine.specs.Load.{load}
use Rattle.machine.specs.Rehearse.{refused_at_line}
use Rattle.machine.specs.Sound.{sound}
use Rattle.machine.specs.Writing.{WrittenAs}
use Rattle.machine.specs.Save.{saved_bytes, longest_table}
use Rattle.sound_laws.specs.SavedBytes.{every_saved_model}
use Rattle.write_bytes.specs.Fitting.{size_told, enough_room, written_whole}
use Rattle.words_store.specs.ModelIn.{model_in}
use Rattle.words_transfer.specs.ModelPut.{ModelPut}
use Rattle.load_call.specs.LoadOwed.{accepted_is_a_table}
use Rattle.save_call.specs.SavedInto.{SavedInto, lent_refusal, sound_saved}
use Rattle.prog_savetable.specs.Telling.{told_length, told_text, ToldOf}

-- a text that was written where there is room for it
told_whole : (bs text before after : List ℕ) (w : Written) (r : Result ℕ ℕ) → told_length r ≡ w.length →
    is_err r ≡ not (eqb (load bs).number 0) → text ≡ told_text bs → WrittenAs 0 text before after w →
    length text ≤ length before → ToldOf bs after r
told_whole bs text before after w r counted known is written long =
    let whole = written_whole 0 text before after w written (enough_room written long) in
    record {
      refused = known;
      text = rw counted (whole.front ∙ is);
      within = rw counted (omega (arith, length-take w.length after, ap length whole.front, whole.size));
    }

-- the line of a refused load
pub refusal_told : (bs before after : List ℕ) (r : Loaded) (w : Written) → trimmed_loaded r ≡ load bs →
    (r.number ≡ 0 → ⊥) → longest_table ≤ length before →
    WrittenAs 0 (refused_at_line r.number r.position) before after w → w.length ≤ 64 →
    ToldOf bs after (Err w.length)
unfolding trimmed_loaded told_text
refusal_told bs before after r w is some room written short =
    let number : (load bs).number ≡ r.number = ap (λ (l : Loaded). l.number) (sym is) in
    let position : (load bs).position ≡ r.position = ap (λ (l : Loaded). l.position) (sym is) in
    told_whole bs (refused_at_line r.number r.position) before after w (Err w.length) refl
    (rw (number, ne_eqb r.number 0 some) refl)
    (rw (number, position, ne_eqb r.number 0 some) refl) written (omega (arith, room, short, size_told written))

-- the table of an accepted one, whose model was put into words, is saved, and no longer than the longest
pub table_whole : (bs ts ss : List ℕ) (r : Loaded) → trimmed_loaded r ≡ load bs → r.number ≡ 0 →
    ModelPut r.model ts ss →
    (lent_refusal ts ss ≡ 0) × (length (saved_bytes (trimmed (model_in ts ss))) ≤ longest_table)
table_whole bs ts ss r is none put =
    let m = trimmed (model_in ts ss) in
    let sounds : sound m ≡ true = ap sound put.is ∙ (accepted_is_a_table bs r is none).1.sound in
    (sound_saved ts ss put.form sounds, (every_saved_model m sounds).short)

-- its bytes
pub table_told : (bs ts ss before after : List ℕ) (r : Loaded) (w : Written) → trimmed_loaded r ≡ load bs →
    r.number ≡ 0 → longest_table ≤ length before →
    ModelPut r.model ts ss → SavedInto ts ss before after w → ToldOf bs after (Ok w.length)
unfolding trimmed_loaded told_text
table_told bs ts ss before after r w is none room put saved =
    let m = trimmed (model_in ts ss) in
    let number : (load bs).number ≡ 0 = ap (λ (l : Loaded). l.number) (sym is) ∙ none in
    let model : m ≡ (load bs).model = put.is ∙ ap (λ (l : Loaded). l.model) is in
    let whole = table_whole bs ts ss r is none put in
    told_whole bs (saved_bytes m) before after w (Ok w.length) refl (rw number refl) (rw (number, model) refl)
    (rw whole.0 at saved) (omega (arith, room, whole.1))
