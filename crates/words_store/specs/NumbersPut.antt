-- What writing the local count, the held number and the speed of a part changes of the words: its other words and
-- those of the other parts are kept. Assumes nothing.
use Rattle.std.specs.Prelude.{ℕ, zero, suc, ◌+◌, ◌*◌, ◌≤◌, ◌<◌, ◌≡◌, refl, true, List, [], ◌∷◌, length, get_or, ℤ}
use Rattle.std.proofs.Common.{arith, sym, subst, ap, ◌∙◌, inl, inr}
use Rattle.machine.specs.declared.part.State.{State}
use Rattle.words_codec.specs.Words.{decode_signed}
use Rattle.words_store.specs.Layout.{header, state_record, in_state, local_field, signal_field}
use Rattle.words_store.specs.Layout.{signal_value_field, output_field, output_value_field, side_field}
use Rattle.words_store.specs.Layout.{mark_field}
use Rattle.words_store.specs.ModelIn.{slot, state_words, stored_state, stored_point}
use Rattle.words_store.specs.Form.{any_word, state_limits}
use Rattle.words_store.specs.WordsWritten.{Outside, written, length_written, written_at, written_outside}
use Rattle.words_store.specs.Updated.{state_spelled, SameBehind, within_all}
use Rattle.words_store.specs.StoreFrame.{KeptOutside, state_outside, point_outside, behind_outside}
use Rattle.words_store.specs.Shown.{within_one}

-- the state with another local count, held number and speed
abbrev pub state_numbered : State → ℕ → ℤ → ℤ → State
state_numbered s local held speed =
    record {
      local = record { 0 = local };
      held = held;
      speed = speed;
      signal = s.signal;
      output = s.output;
      side = s.side;
      mark = s.mark;
    }

-- the words b are the words a with the three numbers of part i written anew: they are read back with the rest of the
-- state as before, from words that are within their limits where they were so, and every word but their three is kept
pub record NumbersPut (i local : ℕ) (held speed : ℤ) (a b : List ℕ) : Type 0 where
  pub size : length b ≡ length a
  pub is : stored_state b i ≡ state_numbered (stored_state a i) local held speed
  pub form : state_spelled a i ≡ true → state_spelled b i ≡ true
  pub others : (x : ℕ) → Outside (in_state i local_field) (in_state i signal_field) x → slot b x ≡ slot a x

-- three words that are read back as the numbers, written at the front of a record
module _
    (a : List ℕ)
    (i local : ℕ)
    (held speed : ℤ)
    (held_word speed_word : ℕ)
    (room : state_words (i + 1) ≤ length a) where
  abbrev three : List ℕ
  three = local ∷ held_word ∷ speed_word ∷ []

  -- the words with them
  abbrev after : List ℕ
  after = written a (state_record * i) header three

  -- they are at their places, and every other word is kept
  place : (n : ℕ) → n < 3 → slot after (in_state i (header + n)) ≡ get_or three n 0
  place n low = written_at a (state_record * i) header n three low (omega arith)

  other : (x : ℕ) → Outside (in_state i local_field) (in_state i signal_field) x → slot after x ≡ slot a x
  other x (inl low) = written_outside a (state_record * i) header x three (inl low)
  other x (inr high) = written_outside a (state_record * i) header x three (inr (omega arith))

  -- they are within their limits, and the others of the record are so where they were before
  limits :
      local ≤ any_word → held_word ≤ any_word → speed_word ≤ any_word → state_spelled a i ≡ true →
      (n : ℕ) → n < 9 → slot after (state_words i + n) ≤ get_or state_limits n 0
  limits fits0 fits1 fits2 form zero low =
      let same : state_words i + 0 ≡ in_state i (header + 0) = omega arith in
      rw (ap (slot after) same ∙ place 0 (omega arith)) fits0
  limits fits0 fits1 fits2 form (suc zero) low =
      let same : state_words i + 1 ≡ in_state i (header + 1) = omega arith in
      rw (ap (slot after) same ∙ place 1 (omega arith)) fits1
  limits fits0 fits1 fits2 form (suc (suc zero)) low =
      let same : state_words i + 2 ≡ in_state i (header + 2) = omega arith in
      rw (ap (slot after) same ∙ place 2 (omega arith)) fits2
  limits fits0 fits1 fits2 form (suc (suc (suc n))) low =
      rw (other (state_words i + suc (suc (suc n))) (inr (omega arith)))
      (within_one a (state_words i) state_limits form (suc (suc (suc n))) low)

  -- so the numbers are written anew
  three_written :
      decode_signed held_word ≡ held → decode_signed speed_word ≡ speed → local ≤ any_word → held_word ≤ any_word →
      speed_word ≤ any_word → NumbersPut i local held speed a after
  unfolding stored_state
  three_written e1 e2 fits0 fits1 fits2 =
      record {
        size = length_written a (state_record * i) header three;
        is =
            rw (
              place 0 (omega arith),
              place 1 (omega arith),
              place 2 (omega arith),
              other (in_state i signal_field) (inr (omega arith)),
              other (in_state i signal_value_field) (inr (omega arith)),
              other (in_state i output_field) (inr (omega arith)),
              other (in_state i output_value_field) (inr (omega arith)),
              other (in_state i side_field) (inr (omega arith)),
              other (in_state i mark_field) (inr (omega arith)),
              e1,
              e2,
            )
            refl;
        form = λ spelled. within_all after (state_words i) state_limits (limits fits0 fits1 fits2 spelled);
        others = other;
      }

  pub three_put : {b : List ℕ} → b ≡ after →
      decode_signed held_word ≡ held → decode_signed speed_word ≡ speed → local ≤ any_word → held_word ≤ any_word →
      speed_word ≤ any_word → NumbersPut i local held speed a b
  three_put is e1 e2 fits0 fits1 fits2 =
      subst (NumbersPut i local held speed a) (sym is) (three_written e1 e2 fits0 fits1 fits2)

-- the words outside the record are kept: the states of the other parts, the point, and the words after the model's
module _ (i local : ℕ) (held speed : ℤ) (a b : List ℕ) (put : NumbersPut i local held speed a b) where
  pub numbers_outside : KeptOutside i a b
  numbers_outside x (inl low) = put.others x (inl low)
  numbers_outside x (inr high) = put.others x (inr (omega arith))

  pub state_unnumbered : (j : ℕ) → (j ≡ i → ⊥) → stored_state b j ≡ stored_state a j
  state_unnumbered = state_outside a b i numbers_outside

  pub point_unnumbered : stored_point b ≡ stored_point a
  point_unnumbered = point_outside a b i numbers_outside

  pub behind_numbered : (n : ℕ) → i < n → SameBehind n a b
  behind_numbered n low = behind_outside a b i numbers_outside n put.size put.form low
