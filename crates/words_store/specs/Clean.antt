-- Clean words: what is in those free words that a call writes. The value's word of an absent signal is 0, and so is
-- a span word after a part's count of spans. A state written from an old one is clean but for held signals whose two
-- words were copied. Assumes nothing.
use Rattle.std.specs.Prelude.{ℕ, ◌+◌, ◌≤◌, ◌<◌, ◌≡◌, ◌⊎◌, List}
use Rattle.std.proofs.Common.{◌∙◌, inl, inr}
use Rattle.machine.specs.Model.{most_spans}
use Rattle.words_store.specs.Layout.{in_table, in_state, span_count_field, spans_field, signal_field}
use Rattle.words_store.specs.Layout.{signal_value_field, output_field, output_value_field}
use Rattle.words_store.specs.ModelIn.{slot, state_words}

-- a signal by the places of its two words: the value's word is 0 unless the code says that there is a value
abbrev pub CleanSignal : List ℕ → (code value : ℕ) → Type 0
CleanSignal ws code value = (slot ws code ≡ 1 → ⊥) → slot ws value ≡ 0

-- the held signal of part j, and its stored output
abbrev pub CleanHeld : List ℕ → ℕ → Type 0
CleanHeld ss j = CleanSignal ss (in_state j signal_field) (in_state j signal_value_field)

abbrev pub CleanOutput : List ℕ → ℕ → Type 0
CleanOutput ss j = CleanSignal ss (in_state j output_field) (in_state j output_value_field)

-- a state of n parts
pub record CleanState (n : ℕ) (ss : List ℕ) : Type 0 where
  pub signals : (j : ℕ) → j < n → CleanHeld ss j
  pub outputs : (j : ℕ) → j < n → CleanOutput ss j

-- the span words of part j after its count of spans
abbrev pub CleanSpans : List ℕ → ℕ → Type 0
CleanSpans ts j = (x : ℕ) → slot ts (in_table j span_count_field) ≤ x → x < most_spans →
    slot ts (in_table j spans_field + x) ≡ 0

-- a table and a state of n parts
pub record CleanWords (n : ℕ) (ts ss : List ℕ) : Type 0 where
  pub spans : (j : ℕ) → j < n → CleanSpans ts j
  pub state : CleanState n ss

-- a signal of the words b is clean, or its two words are those of the words a
abbrev pub CleanOrKept : List ℕ → List ℕ → (code value : ℕ) → Type 0
CleanOrKept a b code value = CleanSignal b code value ⊎ ((slot b code ≡ slot a code) × (slot b value ≡ slot a value))

-- so are both signals of part j
abbrev pub SignalsKept : List ℕ → List ℕ → ℕ → Type 0
SignalsKept a b j = CleanOrKept a b (in_state j signal_field) (in_state j signal_value_field) ×
    CleanOrKept a b (in_state j output_field) (in_state j output_value_field)

-- a state b of n parts after a step from the state a: each output is clean, and each held signal is or has its words
-- from a
pub record CleanAfter (n : ℕ) (a b : List ℕ) : Type 0 where
  pub signals : (j : ℕ) → j < n → CleanOrKept a b (in_state j signal_field) (in_state j signal_value_field)
  pub outputs : (j : ℕ) → j < n → CleanOutput b j

-- a state b of n parts has the words of the state a
abbrev pub SameState : ℕ → List ℕ → List ℕ → Type 0
SameState n a b = (x : ℕ) → x < state_words n → slot b x ≡ slot a x

-- a signal that is clean or kept is clean where it was clean before, and is so through two changes
pub clean_kept : (a b : List ℕ) (code value : ℕ) → CleanSignal a code value → CleanOrKept a b code value →
    CleanSignal b code value
clean_kept a b code value before (inl clean) = clean
clean_kept a b code value before (inr (same, word)) = λ absent. word ∙ before (λ one. absent (same ∙ one))

pub kept_through : (a b c : List ℕ) (code value : ℕ) → CleanOrKept a b code value → CleanOrKept b c code value →
    CleanOrKept a c code value
kept_through a b c code value first (inl clean) = inl clean
kept_through a b c code value (inl clean) (inr kept) = inl (clean_kept b c code value clean (inr kept))
kept_through a b c code value (inr (same, word)) (inr (same', word')) = inr (same' ∙ same, word' ∙ word)

pub signals_through : (a b c : List ℕ) (j : ℕ) → SignalsKept a b j → SignalsKept b c j → SignalsKept a c j
signals_through a b c j first second = (
  kept_through a b c (in_state j signal_field) (in_state j signal_value_field) first.0 second.0,
  kept_through a b c (in_state j output_field) (in_state j output_value_field) first.1 second.1,
)

-- a state after a step is one of the state before it, and stays so while its signals are clean or kept
pub after_kept : (n : ℕ) (a b c : List ℕ) → ((j : ℕ) → j < n → SignalsKept a b j) → CleanAfter n b c → CleanAfter n a c
after_kept n a b c kept after =
    record {
      signals = λ j low. kept_through a b c (in_state j signal_field) (in_state j signal_value_field) (kept j low).0
          (after.signals j low);
      outputs = after.outputs;
    }

pub kept_after : (n : ℕ) (a b c : List ℕ) → CleanAfter n a b → ((j : ℕ) → j < n → SignalsKept b c j) → CleanAfter n a c
kept_after n a b c after kept =
    record {
      signals = λ j low. kept_through a b c (in_state j signal_field) (in_state j signal_value_field)
          (after.signals j low) (kept j low).0;
      outputs = λ j low. clean_kept b c (in_state j output_field) (in_state j output_value_field) (after.outputs j low)
          (kept j low).1;
    }

-- so the state after a step from a clean state is clean
pub clean_after : (n : ℕ) (a b : List ℕ) → CleanState n a → CleanAfter n a b → CleanState n b
clean_after n a b before after =
    record {
      signals = λ j low. clean_kept a b (in_state j signal_field) (in_state j signal_value_field)
          (before.signals j low) (after.signals j low);
      outputs = after.outputs;
    }
