-- What follows for a caller of `save` from its promise: what was written loads to the fresh model of the same table;
-- saved, loaded and saved again it is the same bytes; two saves differ by nothing but the tables, and have equal bytes
-- where the tables are equal and nowhere else; and promises that wrong savers would break. Assumes nothing.
use Rattle.std.specs.Prelude.{ℕ, ◌≡◌, true, false, ◌⊎◌, ◌↔◌, List, [], ◌∷◌, ◌++◌, get_or, take, drop, pos}
use Rattle.std.proofs.Common.{arith, sym, ap, ◌∙◌, inl, inr}
use Rattle.machine.specs.declared.part.Kind.TheVariants.{Gain}
use Rattle.machine.specs.declared.part.Source.TheVariants.{Unwired, From}
use Rattle.machine.specs.declared.part.Component.{Component}
use Rattle.machine.specs.Answers.{Written}
use Rattle.machine.specs.Model.{blank_component, trimmed}
use Rattle.machine.specs.Table.{table_of}
use Rattle.machine.specs.Fresh.{fresh}
use Rattle.machine.specs.Load.{begin_byte, wire_byte, end_byte, load}
use Rattle.machine.specs.Sound.{sound}
use Rattle.machine.specs.TableBytes.{operand_bytes, part_bytes, spans_bytes, parts_bytes, port_bytes, wires_bytes}
use Rattle.machine.specs.TableBytes.{table_bytes}
use Rattle.machine.specs.Writing.{too_short}
use Rattle.machine.specs.Save.{saved_bytes, save_refusal}
use Rattle.laws.specs.Bools.{either}
use Rattle.sound_laws.specs.SavedBytes.{every_saved_model}
use Rattle.write_bytes.specs.Fitting.{written_whole, refused_kept}
use Rattle.words_store.specs.ModelIn.{model_in}
use Rattle.words_store.specs.Form.{spelled}
use Rattle.save_call.specs.SavedInto.{lent_refusal, SavedInto}

-- what is not refused spells a sound model
saved_sound : (ts ss : List ℕ) → lent_refusal ts ss ≡ 0 → (spelled ts ss ≡ true) ×
    (sound (trimmed (model_in ts ss)) ≡ true)
unfolding lent_refusal save_refusal
saved_sound ts ss free = cases (either (spelled ts ss)) (either (sound (trimmed (model_in ts ss))))
  where
    cases : (spelled ts ss ≡ true) ⊎ (spelled ts ss ≡ false) → (sound (trimmed (model_in ts ss)) ≡ true) ⊎
        (sound (trimmed (model_in ts ss)) ≡ false) →
        (spelled ts ss ≡ true) × (sound (trimmed (model_in ts ss)) ≡ true)
    cases (inr none) known = let h : ◌≡◌ {A = ℕ} 24 0 = rw none at free in absurd (omega arith)
    cases (inl spells) (inr unsound) = let h : ◌≡◌ {A = ℕ} 24 0 = rw (spells, unsound) at free in absurd (omega arith)
    cases (inl spells) (inl sounds) = (spells, sounds)

-- a save that ended with 0 was of a sound model; its bytes are in front, up to its length, and what lay after them is
-- kept; and they load, up to their end, to the fresh model of the same table
pub record SavedWhole (ts ss before after : List ℕ) (w : Written) : Type 0 where
  pub sounds : sound (trimmed (model_in ts ss)) ≡ true
  pub front : take w.length after ≡ saved_bytes (trimmed (model_in ts ss))
  pub behind : drop w.length after ≡ drop w.length before
  pub loads : load (take w.length after) ≡ record {
    number = 0;
    position = w.length;
    model = fresh (table_of (trimmed (model_in ts ss)));
  }

pub saved_whole : (ts ss before after : List ℕ) (w : Written) → SavedInto ts ss before after w → w.number ≡ 0 →
    SavedWhole ts ss before after w
saved_whole ts ss before after w saved none =
    let m = trimmed (model_in ts ss) in
    let whole = written_whole (lent_refusal ts ss) (saved_bytes m) before after w saved none in
    let sounds = (saved_sound ts ss whole.free).1 in
    record {
      sounds = sounds;
      front = whole.front;
      behind = whole.behind;
      loads = rw (whole.front, whole.size) (every_saved_model m sounds).loads;
    }

-- saved, loaded and saved again: the same bytes, whatever words the loaded model was put into
pub saved_again : (ts ss us vs a b c d : List ℕ) (v w : Written) → SavedInto ts ss a b v → v.number ≡ 0 →
    trimmed (model_in us vs) ≡ (load (take v.length b)).model → SavedInto us vs c d w → w.number ≡ 0 →
    take w.length d ≡ take v.length b
saved_again ts ss us vs a b c d v w first none is second zero =
    let one = saved_whole ts ss a b v first none in
    let other = saved_whole us vs c d w second zero in
    other.front ∙ ap saved_bytes (is ∙ ap (λ (x : List ℕ). (load x).model) one.front) ∙
    (every_saved_model (trimmed (model_in ts ss)) one.sounds).same ∙
    sym one.front

-- saves of sound models with one table, whatever their points, states and unused places, into equal buffers: the same
-- answer and the same bytes
pub one_table_saved : (ts ss us vs a b d : List ℕ) (v w : Written) → lent_refusal ts ss ≡ 0 → lent_refusal us vs ≡ 0 →
    table_of (trimmed (model_in ts ss)) ≡ table_of (trimmed (model_in us vs)) → SavedInto ts ss a b v →
    SavedInto us vs a d w → (v ≡ w) × (b ≡ d)
unfolding saved_bytes
one_table_saved ts ss us vs a b d v w free other same first second =
    let f = rw (free, same) at first in
    let s = rw other at second in
    (f.answer ∙ sym s.answer, f.buffer ∙ sym s.buffer)

-- of two saves that ended with 0, into whatever buffers, the bytes up to their lengths are equal exactly where the
-- tables are
pub saves_tell_tables : (ts ss us vs a b c d : List ℕ) (v w : Written) → SavedInto ts ss a b v → v.number ≡ 0 →
    SavedInto us vs c d w → w.number ≡ 0 →
    (take v.length b ≡ take w.length d) ↔
    (table_of (trimmed (model_in ts ss)) ≡ table_of (trimmed (model_in us vs)))
saves_tell_tables ts ss us vs a b c d v w first none second zero =
    let one = saved_whole ts ss a b v first none in
    let other = saved_whole us vs c d w second zero in
    let m = trimmed (model_in ts ss) in
    let apart = (every_saved_model m one.sounds).apart (trimmed (model_in us vs)) other.sounds in (
      λ equal. apart.0 (sym one.front ∙ equal ∙ other.front),
      λ same. one.front ∙ apart.1 same ∙ sym other.front,
    )

-- wrong savers. One that tests 25 before 24: of words that spell no sound model it would answer 25
pub room_first_refuted : (ts ss before after : List ℕ) (n : ℕ) → lent_refusal ts ss ≡ 24 →
    SavedInto ts ss before after (record { number = too_short; length = n }) → ⊥
room_first_refuted ts ss before after n refused saved =
    let h : ◌≡◌ {A = ℕ} too_short 24 = rw refused at (ap (λ (x : Written). x.number) saved.answer) in omega arith

-- one that leaves a byte in a buffer that is too short, or of words that are refused
pub touched_refuted : (ts ss before after : List ℕ) (w : Written) → SavedInto ts ss before after w →
    (w.number ≡ 0 → ⊥) → (after ≡ before → ⊥) → ⊥
touched_refuted ts ss before after w saved some touched =
    touched (refused_kept (lent_refusal ts ss) (saved_bytes (trimmed (model_in ts ss))) before after w saved some)

-- one that touches a byte after the length
pub behind_touched_refuted : (ts ss before after : List ℕ) (w : Written) → SavedInto ts ss before after w →
    w.number ≡ 0 →
    (drop w.length after ≡ drop w.length before → ⊥) → ⊥
behind_touched_refuted ts ss before after w saved none touched =
    touched (saved_whole ts ss before after w saved none).behind

-- one that writes the master's magnitude, or any but the default: its second byte is the table's
pub other_magnitude_refuted : (ts ss before after : List ℕ) (w : Written) → SavedInto ts ss before after w →
    w.number ≡ 0 →
    (get_or (take w.length after) 1 0 ≡ (trimmed (model_in ts ss)).magnitude → ⊥) → ⊥
unfolding saved_bytes table_bytes table_of
other_magnitude_refuted ts ss before after w saved none other =
    other (ap (λ (l : List ℕ). get_or l 1 0) (saved_whole ts ss before after w saved none).front)

-- one that puts the wires by source. Part 0 reads part 1, and part 2 reads part 0: by receiving part the wire from part
-- 1 comes first
abbrev gain_from : ℕ → Component
gain_from k =
    record {
      kind = Gain;
      preference = 255;
      a = pos 2;
      b = pos 0;
      p = 0;
      span_count = 0;
      spans = [];
      port0 = From k;
      port1 = Unwired;
    }

abbrev crossed : List Component
crossed = gain_from 1 ∷ blank_component ∷ gain_from 0 ∷ []

pub by_source_refuted : (ts ss before after : List ℕ) (w : Written) (e : ℕ) → SavedInto ts ss before after w →
    w.number ≡ 0 →
    (table_of (trimmed (model_in ts ss))).parts ≡ crossed →
    take w.length after ≡
    begin_byte ∷ e ∷ (parts_bytes crossed ++ (wire_byte ∷ 0 ∷ 2 ∷ 0 ∷ wire_byte ∷ 1 ∷ 0 ∷ 0 ∷ end_byte ∷ [])) → ⊥
unfolding saved_bytes table_bytes parts_bytes part_bytes spans_bytes wires_bytes port_bytes operand_bytes
by_source_refuted ts ss before after w e saved none is by_source =
    let bytes = sym (saved_whole ts ss before after w saved none).front ∙ by_source in
    let byte : ◌≡◌ {A = ℕ} 1 0 = rw is at (ap (λ (l : List ℕ). get_or l 48 0) bytes) in
    omega arith
