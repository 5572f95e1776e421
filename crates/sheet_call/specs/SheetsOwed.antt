-- What follows for a caller of `sheet` from its promise: every answer that the machine gives for a sound model is
-- printed; a line that was written has 78 columns and a line feed, and reads back as what was shown; and promises that
-- wrong printers would break. Assumes nothing.
use Rattle.std.specs.Prelude.{ℕ, ◌≤◌, ◌<◌, ◌≡◌, refl, true, ◌&&◌, List, eqb, length, take, drop}
use Rattle.std.proofs.Common.{arith, sym, ap, ◌∙◌, lt-ltb}
use Rattle.std.proofs.lemmas.Bool.{lt-leb}
use Rattle.machine.specs.declared.signal.Signal.{Signal}
use Rattle.machine.specs.declared.signal.Signal.TheVariants.{Absent}
use Rattle.machine.specs.declared.model.Model.{Model}
use Rattle.machine.specs.declared.model.Answer.{Answer}
use Rattle.machine.specs.Answers.{Written}
use Rattle.machine.specs.Time.{tick}
use Rattle.machine.specs.Sound.{sound}
use Rattle.machine.specs.Rehearse.{decimal}
use Rattle.machine.specs.Advance.{advance, answer_with, outcome}
use Rattle.machine.specs.Step.{step_made}
use Rattle.machine.specs.Writing.{too_short}
use Rattle.machine.specs.Sheet.{step_width, Shown, ShownStep, ShownRefusal, output_of, shown, shown_fits, has_part}
use Rattle.machine.specs.Sheet.{sheet_line, sheet_refusal, sheet_read, SheetLine}
use Rattle.laws.specs.Bools.{cond_cases}
use Rattle.sound_laws.specs.Facts.{sound_few, sound_facts}
use Rattle.advance_laws.specs.Frame.{made_length}
use Rattle.advance_lists.specs.Bounds.{answer_sound, answer_bounds, AnswerBounds}
use Rattle.write_laws.specs.SheetCounts.{answer_fits}
use Rattle.write_laws.specs.SheetLines.{every_sheet_line}
use Rattle.write_bytes.specs.Fitting.{written_whole, refused_kept}
use Rattle.words_store.specs.ModelIn.{part_count, ordered_part, stored_state}
use Rattle.words_store.specs.Form.{spelled}
use Rattle.machine.specs.declared.model.Outcome.{Outcome}
use Rattle.advance_call.specs.Into.{lent_model}
use Rattle.sheet_call.specs.SheetInto.{outcome_answer, lent_sheet_refusal, SheetInto}
use Rattle.sheet_call.specs.LentSheet.{all_there, output_lent, step_shown, counted_sheet, sheet_free, shown_taken}
use Rattle.sheet_call.specs.LentSheet.{line_length}

-- advancing leaves the number of parts
answer_many : (m : Model) (w : ℕ) → length (advance m w).model.parts ≡ length m.parts
unfolding advance answer_with
answer_many m w =
    let o = outcome m w in
    cond_cases (λ (z : Model). length z.parts ≡ length m.parts) (eqb o.number 0) (step_made m o.step) m
    (λ e. made_length m o.step) (λ e. refl)

-- the line of a refusal fits
refusal_fits : (n : ℕ) → shown_fits (ShownRefusal n) ≡ true
unfolding shown_fits
refusal_fits n = refl

-- an answer within the machine's bounds, of a model with at most 600 parts: what is shown of it fits
bounded_fits : (parts : ℕ) (r : Answer) (a b c : ℕ) → parts ≤ 600 → AnswerBounds parts r →
    a < length r.model.parts → b < length r.model.parts →
    c < length r.model.parts → shown_fits (shown r a b c) ≡ true
unfolding shown output_of
bounded_fits parts r a b c few bounds first second third =
    let m = r.model in
    cond_cases (λ (s : Shown). shown_fits s ≡ true) (eqb r.number 0) _ _
    (λ none. answer_fits parts (tick m.point) m.point.n r.step r.rounds r.revisions (output_of m a)
    (output_of m b) (output_of m c) few bounds.ticks
    bounds.microstep bounds.step bounds.rounds bounds.revisions (bounds.outputs a first)
    (bounds.outputs b second) (bounds.outputs c third))
    (λ some. refusal_fits r.number)

-- "Every answer that the machine gives for a sound model fits": whatever step is wanted and whichever of its parts are
-- chosen, nothing but the room can refuse the line
pub every_answer_printed : (m : Model) (w a b c : ℕ) → sound m ≡ true → a < length m.parts → b < length m.parts →
    c < length m.parts →
    sheet_refusal (advance m w) a b c ≡ 0
unfolding sheet_refusal has_part
every_answer_printed m w a b c sounds first second third =
    let many = answer_many m w in
    let few : length m.parts ≤ 600 = omega (arith, sound_few m sounds, (sound_facts m sounds).counted) in
    let one : a < length (advance m w).model.parts = omega (arith, many) in
    let two : b < length (advance m w).model.parts = omega (arith, many) in
    let three : c < length (advance m w).model.parts = omega (arith, many) in
    rw (
      answer_sound m w sounds,
      lt-ltb _ _ one,
      lt-ltb _ _ two,
      lt-ltb _ _ three,
      bounded_fits (length m.parts) (advance m w) a b c few (answer_bounds m w sounds) one two three,
    ) refl

-- what a caller has of a line that was written: its 79 bytes are in front, of the claims of `SheetLine`, so that they
-- read back as what is shown, and what lay after them is kept
pub record SheetWhole (ts ss : List ℕ) (v : Outcome) (a b c : ℕ) (before after : List ℕ) (w : Written) : Type 0 where
  pub size : w.length ≡ 79
  pub front : take 79 after ≡ sheet_line (outcome_answer ts ss v) a b c
  pub behind : drop 79 after ≡ drop 79 before
  pub claims : SheetLine (shown (outcome_answer ts ss v) a b c)
  pub reads : sheet_read (take 79 after) ≡ shown (outcome_answer ts ss v) a b c

pub sheet_whole : (ts ss : List ℕ) (v : Outcome) (a b c : ℕ) (before after : List ℕ) (w : Written) →
    v.number < 18446744073709551616 →
    SheetInto ts ss v a b c before after w → w.number ≡ 0 → SheetWhole ts ss v a b c before after w
unfolding sheet_line
sheet_whole ts ss v a b c before after w small written none =
    let whole = written_whole (lent_sheet_refusal ts ss v a b c)
    (sheet_line (outcome_answer ts ss v) a b c) before after w written none in
    let size = whole.size ∙ line_length ts ss v a b c small whole.free in
    let front = rw size at whole.front in
    let claims = every_sheet_line (shown (outcome_answer ts ss v) a b c) (sheet_free ts ss v a b c whole.free).fits
    (shown_taken ts ss v a b c small) in
    record {
      size = size;
      front = front;
      behind = rw size at whole.behind;
      claims = claims;
      reads = rw front claims.reads;
    }

-- so two answers whose lines are the same bytes show the same
pub same_line_same_shown : {ts ss us vs : List ℕ} {v x : Outcome} {a b c d e f : ℕ} {k l m n : List ℕ} {w y : Written} →
    SheetWhole ts ss v a b c k l w →
    SheetWhole us vs x d e f m n y → take 79 l ≡ take 79 n →
    shown (outcome_answer ts ss v) a b c ≡ shown (outcome_answer us vs x) d e f
same_line_same_shown one other same = sym one.reads ∙ ap sheet_read same ∙ other.reads

-- wrong printers. One that tests 25 before 26: of a choice that is refused it would answer 25
pub sheet_room_first_refuted : (ts ss : List ℕ) (v : Outcome) (a b c : ℕ) (before after : List ℕ) (n : ℕ) →
    lent_sheet_refusal ts ss v a b c ≡ 26 →
    SheetInto ts ss v a b c before after (record { number = too_short; length = n }) → ⊥
sheet_room_first_refuted ts ss v a b c before after n refused written =
    let h : ◌≡◌ {A = ℕ} too_short 26 = rw refused at (ap (λ (x : Written). x.number) written.answer) in omega arith

-- one that cuts a wide step to its last digits: such an answer is refused
pub wide_step_refused : (ts ss : List ℕ) (v : Outcome) (a b c : ℕ) (before after : List ℕ) (w : Written) →
    (spelled ts ss && sound (lent_model ts ss)) ≡ true →
    all_there (part_count ts) a b c ≡ true → v.number ≡ 0 → step_width < length (decimal v.step) →
    SheetInto ts ss v a b c before after w →
    (w.number ≡ 26) × (after ≡ before)
wide_step_refused ts ss v a b c before after w sounds there none wide written =
    let refused : lent_sheet_refusal ts ss v a b c ≡ 26 = counted_sheet ts ss v a b c sounds there none ∙
    rw (lt-leb _ _ wide) refl in
    let number : w.number ≡ 26 = rw refused at (ap (λ (x : Written). x.number) written.answer) in (
      number,
      refused_kept (lent_sheet_refusal ts ss v a b c) (sheet_line (outcome_answer ts ss v) a b c) before after w
          written (λ e. omega (arith, number)),
    )

-- one that touches a byte after the line
pub sheet_behind_refuted : {ts ss : List ℕ} {v : Outcome} {a b c : ℕ} {before after : List ℕ} {w : Written} →
    SheetWhole ts ss v a b c before after w →
    (drop 79 after ≡ drop 79 before → ⊥) → ⊥
sheet_behind_refuted whole touched = touched whole.behind

-- one that shows outputs by place in the part order: of parts whose outputs differ it would show another
pub by_order_refuted : (ts ss : List ℕ) (v : Outcome) (a b c : ℕ) (before after : List ℕ) (w : Written) →
    v.number ≡ 0 → SheetWhole ts ss v a b c before after w →
    a < part_count ts → sheet_read (take 79 after) ≡
    ShownStep (tick (lent_model ts ss).point) (lent_model ts ss).point.n v.step v.rounds v.revisions
    (stored_state ss (ordered_part ts a)).output
    (output_of (lent_model ts ss) b) (output_of (lent_model ts ss) c) →
    ((stored_state ss (ordered_part ts a)).output ≡ (stored_state ss a).output → ⊥) → ⊥
by_order_refuted ts ss v a b c before after w none whole low by_order differ =
    let same = sym by_order ∙ whole.reads ∙ step_shown ts ss v a b c none in
    differ (ap first_of same ∙ output_lent ts ss a low)
  where
    first_of : Shown → Signal
    first_of (ShownStep t n step rounds revisions x y z) = x
    first_of (ShownRefusal n) = Absent
