-- What a preview on lent words promises, for every argument: one equation with the machine's advance, and what is
-- written where no model is spelled or there is no room; and the laws by which the advance on words, and the copy of a
-- state that was not searched, keep it. Of the words lent for the new state, new₀ is the list before the call and new₁
-- after it. Assumes nothing.
use Rattle.std.specs.Prelude.{ℕ, ◌≤◌, ◌<◌, ◌≡◌, refl, Bool, true, false, ◌&&◌, ◌⊎◌, List, leb, length}
use native.Mathlib.Omega.{arith}
use Rattle.std.proofs.Math.Decide.{ℕ_discrete}
use Rattle.std.proofs.Common.{sym, subst, ◌∙◌, true≢false, inl, inr, leb-true, leb-false}
use Rattle.std.proofs.Math.Path.{ap}
use Rattle.machine.specs.declared.model.Answer.{Answer}
use Rattle.machine.specs.Model.{trimmed}
use Rattle.machine.specs.Advance.{barred, barred_outcome, outcome, answer_with, advance}
use Rattle.machine.specs.declared.model.Outcome.{Outcome}
use Rattle.laws.specs.Bools.{and_false_cases, and_left, and_right, either}
use Rattle.words_store.specs.ModelIn.{part_count, state_words}
use Rattle.words_store.specs.Form.{spelled}
use Rattle.words_store.specs.Clean.{CleanAfter, SameState}
use Rattle.words_store.specs.Updated.{SameBehind, Copied}
use Rattle.words_store.specs.StoreFrame.{held_copied, copied_spelled, behind_copied}
use Rattle.words_store.specs.Respelled.{respelled, states_spelled}
use Rattle.advance_call.specs.Searching.{answer_of}
use Rattle.advance_call.specs.Into.{lent_model, outcome_into, AdvancedInto}
use Rattle.advance_call.specs.IntoLaws.{with_barred, with_short, into_machine}
use Rattle.advance_call.specs.ByValue.{answered, refused_model}

-- whether the words of a table and of an old state spell a model, and a state of it fits into so many words: only then
-- is there an answer's state to show
unfoldable pub shows : List ℕ → List ℕ → ℕ → Bool
shows ts os room = spelled ts os && leb (state_words (part_count ts)) room

-- the answer that the words of a state tell, with how the call ended
abbrev pub told : List ℕ → List ℕ → Outcome → Answer
told ts new₁ r = answer_of (lent_model ts new₁) r.number r.step r.rounds r.revisions r.ceiling

-- what a preview by at most w promises of the words of the new state, and of how it ends
pub record PreviewedInto (table old : List ℕ) (w : ℕ) (new₀ new₁ : List ℕ) (r : Outcome) : Type 0 where
  -- "A preview returns the same number, step, rounds, revisions, ceiling and outputs as an advance on a copy"
  pub answer : shows table old (length new₀) ≡ true → told table new₁ r ≡ advance (lent_model table old) w
  -- and the new words spell the answer's model
  pub form : shows table old (length new₀) ≡ true → spelled table new₁ ≡ true
  -- it ends as an advance on the same words, and where no model is spelled or there is no room for a state it writes
  -- none
  pub ends : r ≡ outcome_into table old w (length new₀)
  pub kept : shows table old (length new₀) ≡ false → new₁ ≡ new₀
  -- the words after the model's are kept
  pub behind : SameBehind (part_count table) new₀ new₁
  -- of its free words: where a step would be committed the outputs are clean, and each held signal is or has its words
  -- from the old state; where the call is refused and a state can be shown, the new one has the old one's words
  pub clean : r.number ≡ 0 → CleanAfter (part_count table) old new₁
  pub same : shows table old (length new₀) ≡ true → (r.number ≡ 0 → ⊥) → SameState (part_count table) old new₁

-- the two facts that it is made of
pub shown_spelled : (ts os : List ℕ) (room : ℕ) → shows ts os room ≡ true → spelled ts os ≡ true
unfolding shows
shown_spelled ts os room can = and_left (spelled ts os) (leb (state_words (part_count ts)) room) can

pub shown_room : (ts os : List ℕ) (room : ℕ) → shows ts os room ≡ true → state_words (part_count ts) ≤ room
unfolding shows
shown_room ts os room can =
    leb-true (state_words (part_count ts)) room (and_right (spelled ts os) (leb (state_words (part_count ts)) room) can)

-- a call that cannot show a state makes no round
unshown_rounds : (ts os : List ℕ) (w room : ℕ) → (spelled ts os ≡ false) ⊎
    (leb (state_words (part_count ts)) room ≡ false) →
    (spelled ts os ≡ true) ⊎ (spelled ts os ≡ false) → Dec (barred (lent_model ts os) w ≡ 0) →
    (outcome_into ts os w room).rounds ≡ 0
unfolding outcome_into
unshown_rounds ts os w room (inl none) known bars = rw none refl
unshown_rounds ts os w room (inr short) (inr none) bars = rw none refl
unshown_rounds ts os w room (inr short) (inl spells) (yes free) =
    rw spells (ap (λ (o : Outcome). o.rounds)
    (with_short ts os w room free (leb-false (state_words (part_count ts)) room short)))
unshown_rounds ts os w room (inr short) (inl spells) (no other) =
    rw spells (ap (λ (o : Outcome). o.rounds) (with_barred ts os w room (barred (lent_model ts os) w) refl other))

-- a call whose words spell no model ends with 24
unspelled_number : (ts os : List ℕ) (w room : ℕ) → ((outcome_into ts os w room).number ≡ 24 → ⊥) →
    (spelled ts os ≡ true) ⊎ (spelled ts os ≡ false) → spelled ts os ≡ true
unfolding outcome_into
unspelled_number ts os w room other (inl spells) = spells
unspelled_number ts os w room other (inr none) = absurd (other (rw none refl))

-- an advance on words that ended with r
module _
    (ts os : List ℕ)
    (w : ℕ)
    (new₀ new₁ : List ℕ)
    (r : Outcome)
    (called : AdvancedInto ts os w new₀ new₁ r) where
  abbrev o : Outcome
  o = outcome_into ts os w (length new₀)

  -- where it can show a state, it ended as the machine does
  machine_ends : shows ts os (length new₀) ≡ true → o ≡ outcome (lent_model ts os) w
  machine_ends can =
      let room = length new₀ in
      into_machine ts os w room (shown_spelled ts os room can) (shown_room ts os room can)

  -- so the answer is the machine's where some words c mean the model of it
  tells : (c : List ℕ) → shows ts os (length new₀) ≡ true → lent_model ts c ≡ (answer_with (lent_model ts os) o).model →
      told ts c r ≡ advance (lent_model ts os) w
  unfolding advance
  tells c can same = answered (lent_model ts os) (lent_model ts c) o r same called.ends ∙
      ap (answer_with (lent_model ts os)) (machine_ends can)

  -- where it ended with another number than 24, the words spell a model
  pub found_spelled : (r.number ≡ 24 → ⊥) → spelled ts os ≡ true
  found_spelled other =
      unspelled_number ts os w (length new₀) (λ e. other (ap (λ (v : Outcome). v.number) called.ends ∙ e))
      (either (spelled ts os))

  -- a call that was searched is a preview as it is
  pub searched_preview : (r.rounds ≡ 0 → ⊥) → PreviewedInto ts os w new₀ new₁ r
  unfolding shows
  searched_preview some =
      let asked : 0 < r.rounds = omega arith in
      record {
        answer = λ can. tells new₁ can (called.next asked);
        form = λ can. called.form asked;
        ends = called.ends;
        kept =
            λ cannot.
            absurd (some (ap (λ (v : Outcome). v.rounds) called.ends ∙
            unshown_rounds ts os w (length new₀)
            (and_false_cases (spelled ts os) (leb (state_words (part_count ts)) (length new₀)) cannot)
            (either (spelled ts os)) (ℕ_discrete (barred (lent_model ts os) w) 0)));
        behind = called.behind;
        clean = called.clean;
        same = λ can. called.same asked;
      }

  -- so is one that was barred and cannot show a state
  pub unshown_preview : r.rounds ≡ 0 → shows ts os (length new₁) ≡ false → PreviewedInto ts os w new₀ new₁ r
  unshown_preview none cannot =
      let short : shows ts os (length new₀) ≡ false = ap (shows ts os) (sym called.behind.size) ∙ cannot in
      record {
        answer = λ can. absurd (true≢false (sym can ∙ short));
        form = λ can. absurd (true≢false (sym can ∙ short));
        ends = called.ends;
        kept = λ same. called.barred none;
        behind = called.behind;
        clean = λ zero_number. absurd (omega (arith, none, called.asked zero_number));
        same = λ can. absurd (true≢false (sym can ∙ short));
      }

  -- and where it can, the state handed in is copied over the new words: it is that of the answer, which is refused
  pub copied_preview :
      (copied : List ℕ) → r.rounds ≡ 0 → shows ts os (length new₁) ≡ true →
      Copied (state_words (part_count ts)) os new₁ copied → PreviewedInto ts os w new₀ copied r
  copied_preview copied none there copy =
      let n = part_count ts in
      let can : shows ts os (length new₀) ≡ true = ap (shows ts os) (sym called.behind.size) ∙ there in
      let spells = shown_spelled ts os (length new₀) can in
      let deep = shown_room ts os (length new₀) can in
      let each = states_spelled ts os spells in
      let refused : o.number ≡ 0 → ⊥ = λ zero_number.
      let asked = called.asked (ap (λ (v : Outcome). v.number) called.ends ∙ zero_number) in
      omega (arith, none, asked) in
      let behind : SameBehind n new₀ copied =
      subst (λ (z : List ℕ). SameBehind n z copied) (called.barred none) (behind_copied n os new₁ copied copy each) in
      record {
        answer =
            λ same.
            tells copied can
            (ap trimmed (held_copied ts os new₁ copied copy) ∙ refused_model (lent_model ts os) o refused);
        form =
            λ same.
            respelled ts os copied spells (omega (arith, deep, behind.size))
            (copied_spelled n os new₁ copied copy each);
        ends = called.ends;
        kept = λ cannot. absurd (true≢false (sym can ∙ cannot));
        behind = behind;
        clean = λ zero_number. absurd (omega (arith, none, called.asked zero_number));
        same = λ shown other. copy.front;
      }

-- a preview that answers 20 where 24 comes first breaks the promise: of words that spell no model and a wanted step of
-- 0
pub range_first_refuted :
    (ts os new₀ new₁ : List ℕ) → spelled ts os ≡ false → PreviewedInto ts os 0 new₀ new₁ (barred_outcome 20) → ⊥
unfolding outcome_into
range_first_refuted ts os new₀ new₁ none previewed =
    let h : ◌≡◌ {A = ℕ} 20 24 = rw none at (ap (λ (v : Outcome). v.number) previewed.ends) in omega arith

-- request 6 of previews: two on the same words, with as many lent for the new state, end alike whatever those held, and
-- where a state can be shown they tell the same answer
pub previewed_anyway :
    (ts os : List ℕ) (w : ℕ) (new₀ new₁ new₀' new₁' : List ℕ) (r r' : Outcome) → length new₀ ≡ length new₀' →
    PreviewedInto ts os w new₀ new₁ r → PreviewedInto ts os w new₀' new₁' r' →
    (r ≡ r') × (shows ts os (length new₀) ≡ true → told ts new₁ r ≡ told ts new₁' r')
previewed_anyway ts os w new₀ new₁ new₀' new₁' r r' e one other = (
  one.ends ∙ ap (λ (n : ℕ). (outcome_into ts os w n)) e ∙ sym other.ends,
  λ can. one.answer can ∙ sym (other.answer (sym (ap (shows ts os) e) ∙ can)),
)
