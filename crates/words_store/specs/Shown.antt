-- What writing the stored output of a part changes of the words, and of the model that they mean. Assumes nothing.
use Rattle.std.specs.Prelude.{ℕ, zero, suc, ◌+◌, ◌*◌, ◌≤◌, ◌<◌, ◌≡◌, refl, true, List, [], ◌∷◌, leb, length, get_or}
use Rattle.std.specs.Prelude.{set}
use Rattle.std.proofs.Common.{arith, sym, subst, ap, ◌∙◌, inl, inr, leb-true}
use Rattle.machine.specs.declared.signal.Signal.{Signal}
use Rattle.machine.specs.declared.part.State.{State}
use Rattle.machine.specs.Model.{with_state, with_parts}
use Rattle.laws.specs.Bools.{and_left, and_right}
use Rattle.words_codec.specs.Decoded.{decode_signal}
use Rattle.words_store.specs.Layout.{state_record, in_state, local_field, held_field, speed_field, signal_field}
use Rattle.words_store.specs.Layout.{signal_value_field, output_field, side_field, mark_field}
use Rattle.words_store.specs.ModelIn.{slot, part_count, state_words, stored_state, stored_part, model_in}
use Rattle.words_store.specs.Form.{any_word, state_limits, words_within}
use Rattle.words_store.specs.Clean.{CleanOutput}
use Rattle.words_store.specs.WordsWritten.{Outside, written, length_written, written_at, written_outside}
use Rattle.words_store.specs.Updated.{state_spelled, SameBehind, within_all}
use Rattle.words_store.specs.StoreFrame.{KeptOutside, behind_outside, held_outside}

-- the state with another stored output
abbrev pub state_shown : State → Signal → State
state_shown s out =
    record {
      local = s.local;
      held = s.held;
      speed = s.speed;
      signal = s.signal;
      output = out;
      side = s.side;
      mark = s.mark;
    }

-- the words b are the words a with the stored output of part i written anew: it is read back with the rest of the
-- state as before, from words that are within their limits where they were so, its free word is clean, and every word
-- but its two is kept
pub record OutputPut (i : ℕ) (out : Signal) (a b : List ℕ) : Type 0 where
  pub size : length b ≡ length a
  pub is : stored_state b i ≡ state_shown (stored_state a i) out
  pub form : state_spelled a i ≡ true → state_spelled b i ≡ true
  pub clean : CleanOutput b i
  pub others : (x : ℕ) → Outside (in_state i output_field) (in_state i side_field) x → slot b x ≡ slot a x

-- words within their limits are at most these, one by one
pub within_one : (ws : List ℕ) (k : ℕ) (ls : List ℕ) → words_within ws k ls ≡ true → (n : ℕ) → n < length ls →
    slot ws (k + n) ≤ get_or ls n 0
unfolding words_within
within_one ws k [] all n low = absurd (omega arith)
within_one ws k (l ∷ ls) all zero low =
    let first : k + 0 ≡ k = omega arith in
    rw first (leb-true (slot ws k) l (and_left (leb (slot ws k) l) (words_within ws (k + 1) ls) all))
within_one ws k (l ∷ ls) all (suc n) low =
    let next : k + suc n ≡ k + 1 + n = omega arith in
    rw next (within_one ws (k + 1) ls (and_right (leb (slot ws k) l) (words_within ws (k + 1) ls) all) n (omega arith))

-- two words that are read back as a signal, written at the output of a record
module _ (a : List ℕ) (i : ℕ) (out : Signal) (tag word : ℕ) (room : state_words (i + 1) ≤ length a) where
  abbrev two : List ℕ
  two = tag ∷ word ∷ []

  -- the words with them
  abbrev after : List ℕ
  after = written a (state_record * i) output_field two

  -- they are at their places, and every other word is kept: of the record, those before them and those after them
  place : (n : ℕ) → n < 2 → slot after (in_state i (output_field + n)) ≡ get_or two n 0
  place n low = written_at a (state_record * i) output_field n two low (omega arith)

  other : (x : ℕ) → Outside (in_state i output_field) (in_state i side_field) x → slot after x ≡ slot a x
  other x (inl low) = written_outside a (state_record * i) output_field x two (inl low)
  other x (inr high) = written_outside a (state_record * i) output_field x two (inr (omega arith))

  before : (n : ℕ) → n < 5 → slot after (state_words i + n) ≡ slot a (state_words i + n)
  before n low = other (state_words i + n) (inl (omega arith))

  behind : (n : ℕ) → 7 ≤ n → slot after (state_words i + n) ≡ slot a (state_words i + n)
  behind n high = other (state_words i + n) (inr (omega arith))

  -- they are within their limits, and the others of the record are so where they were before
  limits : tag ≤ 1 → word ≤ any_word → state_spelled a i ≡ true → (n : ℕ) → n < 9 →
      slot after (state_words i + n) ≤ get_or state_limits n 0
  limits tagged fits form zero low = rw (before 0 (omega arith)) (within_one a (state_words i) state_limits form 0 low)
  limits tagged fits form (suc zero) low =
      rw (before 1 (omega arith)) (within_one a (state_words i) state_limits form 1 low)
  limits tagged fits form (suc (suc zero)) low =
      rw (before 2 (omega arith)) (within_one a (state_words i) state_limits form 2 low)
  limits tagged fits form (suc (suc (suc zero))) low =
      rw (before 3 (omega arith)) (within_one a (state_words i) state_limits form 3 low)
  limits tagged fits form (suc (suc (suc (suc zero)))) low =
      rw (before 4 (omega arith)) (within_one a (state_words i) state_limits form 4 low)
  limits tagged fits form (suc (suc (suc (suc (suc zero))))) low =
      let same : state_words i + 5 ≡ in_state i (output_field + 0) = omega arith in
      rw (ap (slot after) same ∙ place 0 (omega arith)) tagged
  limits tagged fits form (suc (suc (suc (suc (suc (suc zero)))))) low =
      let same : state_words i + 6 ≡ in_state i (output_field + 1) = omega arith in
      rw (ap (slot after) same ∙ place 1 (omega arith)) fits
  limits tagged fits form (suc (suc (suc (suc (suc (suc (suc n))))))) low =
      rw (behind (suc (suc (suc (suc (suc (suc (suc n))))))) (omega arith))
      (within_one a (state_words i) state_limits form (suc (suc (suc (suc (suc (suc (suc n))))))) low)

  -- so the output is written anew
  two_written : decode_signal tag word ≡ out → tag ≤ 1 → word ≤ any_word → ((tag ≡ 1 → ⊥) → word ≡ 0) →
      OutputPut i out a after
  unfolding stored_state
  two_written e tagged fits clean =
      record {
        size = length_written a (state_record * i) output_field two;
        is =
            rw (
              other (in_state i local_field) (inl (omega arith)),
              other (in_state i held_field) (inl (omega arith)),
              other (in_state i speed_field) (inl (omega arith)),
              other (in_state i signal_field) (inl (omega arith)),
              other (in_state i signal_value_field) (inl (omega arith)),
              place 0 (omega arith),
              place 1 (omega arith),
              other (in_state i side_field) (inr (omega arith)),
              other (in_state i mark_field) (inr (omega arith)),
              e,
            )
            refl;
        form = λ spelled. within_all after (state_words i) state_limits (limits tagged fits spelled);
        clean = λ absent. place 1 (omega arith) ∙ clean (λ one. absent (place 0 (omega arith) ∙ one));
        others = other;
      }

  pub two_put : {b : List ℕ} → b ≡ after → decode_signal tag word ≡ out → tag ≤ 1 → word ≤ any_word →
      ((tag ≡ 1 → ⊥) → word ≡ 0) → OutputPut i out a b
  two_put is e tagged fits clean = subst (OutputPut i out a) (sym is) (two_written e tagged fits clean)

-- the words outside the record are kept
pub output_outside : (a b : List ℕ) (i : ℕ) (out : Signal) → OutputPut i out a b → KeptOutside i a b
output_outside a b i out put x (inl low) = put.others x (inl (omega arith))
output_outside a b i out put x (inr high) = put.others x (inr (omega arith))

-- the model after a write of part i's output is the model before with that part's output set
pub held_shown : (ts a b : List ℕ) (i : ℕ) (out : Signal) → OutputPut i out a b → i < part_count ts →
    model_in ts b ≡
    with_parts (model_in ts a) (model_in ts a).point
    (set (model_in ts a).parts i (with_state (stored_part ts a i) (state_shown (stored_state a i) out)))
held_shown ts a b i out put low =
    held_outside a b i (output_outside a b i out put) ts (state_shown (stored_state a i) out) put.is low

-- the words after the model's are kept
pub behind_shown : (n i : ℕ) (out : Signal) (a b : List ℕ) → OutputPut i out a b → i < n → SameBehind n a b
behind_shown n i out a b put low = behind_outside a b i (output_outside a b i out put) n put.size put.form low
