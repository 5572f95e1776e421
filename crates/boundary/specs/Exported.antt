-- What the exported calls leave in the words that the caller lends, and what they answer, for every argument. Of each
-- list that is lent for writing, ₀ is it before the call and ₁ after it. Assumes nothing.
use Rattle.std.specs.Prelude.{ℕ, ◌≡◌, true, cond, ◌&&◌, List, [], ◌∷◌, eqb, leb, length}
use Rattle.machine.specs.declared.model.Model.{Model}
use Rattle.machine.specs.Answers.{Written}
use Rattle.machine.specs.Load.{load}
use Rattle.machine.specs.Sound.{sound}
use Rattle.machine.specs.declared.model.Outcome.{Outcome}
use Rattle.machine.specs.Writing.{written_number, written_length, WrittenAs}
use Rattle.machine.specs.Save.{saved_bytes}
use Rattle.machine.specs.Sheet.{sheet_line}
use Rattle.words_store.specs.ModelIn.{slot, table_words, state_words}
use Rattle.words_store.specs.Form.{spelled}
use Rattle.words_store.specs.Clean.{CleanWords}
use Rattle.words_transfer.specs.ModelPut.{KeptBehind, ModelPut}
use Rattle.advance_call.specs.Into.{lent_model, outcome_into, AdvancedInto}
use Rattle.preview_call.specs.PreviewedInto.{PreviewedInto}
use Rattle.save_call.specs.SavedInto.{lent_refusal}
use Rattle.sheet_call.specs.SheetInto.{outcome_answer, lent_sheet_refusal}
use Rattle.boundary.specs.PutFront.{put_front}

-- the number of a load that ended with a number and a model of so many parts, with so many words lent for the table and
-- for the state: 25 where the table is accepted and there are too few of either
unfoldable pub taken_number : (number count table state : ℕ) → ℕ
taken_number number count table state =
    cond (eqb number 0) (cond (leb (table_words count) table && leb (state_words count) state) 0 25) number

-- A model that was loaded with a number, the words of a table and of a state before and after it was taken in, and the
-- number that the call then has. Where that is 0 the model was put into the words, and those after it are kept; where
-- it is not, all are kept.
pub record TakenIn (m : Model) (loaded : ℕ) (table₀ table₁ state₀ state₁ : List ℕ) (number : ℕ) : Type 0 where
  pub is : number ≡ taken_number loaded m.count (length table₀) (length state₀)
  pub put : number ≡ 0 → ModelPut m table₁ state₁
  pub behind : number ≡ 0 → KeptBehind m.count table₀ table₁ state₀ state₁
  pub kept : (number ≡ 0 → ⊥) → (table₁ ≡ table₀) × (state₁ ≡ state₀)

-- the number of a load of a stream
abbrev pub loaded_number : List ℕ → ℕ → ℕ → ℕ
loaded_number stream table state = taken_number (load stream).number (load stream).model.count table state

-- A load of a stream: the words of a table, of a state and of the answer, and the call's number. The number is the
-- load's, or 25; it and the load's position are put in front of the answer's words. Where it is 0, the words spell the
-- model that loading the stream gives, and it is sound, so that a call on it is not refused with 24; its free words
-- are 0, and the words after it are kept. Where it is not, all words of the table and of the state are kept.
pub record LoadedWords (stream table₀ table₁ state₀ state₁ out₀ out₁ : List ℕ) (number : ℕ) : Type 0 where
  pub is : number ≡ loaded_number stream (length table₀) (length state₀)
  pub answer : out₁ ≡ put_front (number ∷ (load stream).position ∷ []) out₀
  pub model : number ≡ 0 → lent_model table₁ state₁ ≡ (load stream).model
  pub form : number ≡ 0 → spelled table₁ state₁ ≡ true
  pub sounds : number ≡ 0 → sound (lent_model table₁ state₁) ≡ true
  pub clean : number ≡ 0 → CleanWords (load stream).model.count table₁ state₁
  pub behind : number ≡ 0 → KeptBehind (load stream).model.count table₀ table₁ state₀ state₁
  pub kept : (number ≡ 0 → ⊥) → (table₁ ≡ table₀) × (state₁ ≡ state₀)

-- how a call of `advance` ends, in words
unfoldable pub outcome_words : Outcome → List ℕ
outcome_words o = o.number ∷ o.step ∷ o.rounds ∷ o.revisions ∷ o.ceiling ∷ []

-- An advance by at most w: the words of a table, of an old state, of a new state and of the answer, and the call's
-- number. The call ends as it does on those words, whatever the answer has room for; what it ends with is put in front
-- of the answer's words.
pub record AdvancedWords (table old : List ℕ) (w : ℕ) (new₀ new₁ out₀ out₁ : List ℕ) (number : ℕ) : Type 0 where
  pub is : number ≡ (outcome_into table old w (length new₀)).number
  pub answer : out₁ ≡ put_front (outcome_words (outcome_into table old w (length new₀))) out₀
  pub called : AdvancedInto table old w new₀ new₁ (outcome_into table old w (length new₀))

-- The same of a preview by at most w, but for what it leaves in the words of the new state.
pub record PreviewedWords (table old : List ℕ) (w : ℕ) (new₀ new₁ out₀ out₁ : List ℕ) (number : ℕ) : Type 0 where
  pub is : number ≡ (outcome_into table old w (length new₀)).number
  pub answer : out₁ ≡ put_front (outcome_words (outcome_into table old w (length new₀))) out₀
  pub previewed : PreviewedInto table old w new₀ new₁ (outcome_into table old w (length new₀))

-- A call that writes bytes: a buffer, the words of the answer, and the call's number; `refusal` is what its own tests
-- come to, and `bytes` what it has to write. The number and the length are those of every writing call, and are put in
-- front of the answer's words; the buffer is as every writing call leaves it.
pub record WrittenWords (refusal : ℕ) (bytes buffer₀ buffer₁ out₀ out₁ : List ℕ) (number : ℕ) : Type 0 where
  pub is : number ≡ written_number refusal bytes (length buffer₀)
  pub answer : out₁ ≡ put_front (number ∷ written_length refusal bytes ∷ []) out₀
  pub written :
      WrittenAs refusal bytes buffer₀ buffer₁ (record { number = number; length = written_length refusal bytes })

-- a save of the words of a table and of a state
abbrev pub SavedWords : (table state buffer₀ buffer₁ out₀ out₁ : List ℕ) → ℕ → Type 0
SavedWords table state buffer₀ buffer₁ out₀ out₁ number =
    WrittenWords (lent_refusal table state) (saved_bytes (lent_model table state)) buffer₀ buffer₁ out₀ out₁ number

-- how a call ended, by the words that an advance or a preview writes
abbrev pub outcome_lent : List ℕ → Outcome
outcome_lent outcome =
    record {
      number = slot outcome 0;
      step = slot outcome 1;
      rounds = slot outcome 2;
      revisions = slot outcome 3;
      ceiling = slot outcome 4;
    }

-- The answer that the words of a table, of a state and of an outcome tell, printed as a sheet line with three chosen
-- parts.
module _ (table state outcome : List ℕ) (first second third : ℕ) where
  -- what refuses it before 25 is tested: 24 where the outcome's words are too few to spell an answer, else what refuses
  -- that answer's line
  unfoldable pub printed_refusal : ℕ
  printed_refusal =
      cond (leb 5 (length outcome)) (lent_sheet_refusal table state (outcome_lent outcome) first second third) 24

  -- its line
  abbrev pub printed_line : List ℕ
  printed_line = sheet_line (outcome_answer table state (outcome_lent outcome)) first second third

  -- what the call below the exported one leaves in a buffer, and answers
  abbrev pub PrintedInto : (buffer₀ buffer₁ : List ℕ) → Written → Type 0
  PrintedInto buffer₀ buffer₁ w = WrittenAs printed_refusal printed_line buffer₀ buffer₁ w

  -- and the exported one
  abbrev pub PrintedWords : (buffer₀ buffer₁ out₀ out₁ : List ℕ) → ℕ → Type 0
  PrintedWords buffer₀ buffer₁ out₀ out₁ number =
      WrittenWords printed_refusal printed_line buffer₀ buffer₁ out₀ out₁ number
