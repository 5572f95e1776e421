-- Writing the numbers, the output or the state of a part, or the point, leaves every signal clean or as it was; copying
-- a state leaves the signals of the state that is copied. Assumes nothing.
use Rattle.std.specs.Prelude.{ℕ, ◌+◌, ◌≤◌, ◌<◌, ◌≡◌, true, false, ◌⊎◌, List, ℤ, eqb, ltb}
use Rattle.std.proofs.Common.{arith, sym, subst, inl, inr, eqb-true}
use Rattle.std.proofs.lemmas.Bool.{eqb-false}
use Rattle.machine.specs.declared.time.Point.{Point}
use Rattle.machine.specs.declared.signal.Signal.{Signal}
use Rattle.machine.specs.declared.part.State.{State}
use Rattle.laws.specs.Bools.{either}
use Rattle.words_store.specs.Layout.{in_state, signal_field, signal_value_field, output_field}
use Rattle.words_store.specs.Layout.{output_value_field}
use Rattle.words_store.specs.ModelIn.{slot, state_words}
use Rattle.words_store.specs.Clean.{SignalsKept}
use Rattle.words_store.specs.Updated.{StatePut, PointPut, Copied}
use Rattle.words_store.specs.StoreFrame.{apart, KeptOutside}
use Rattle.words_store.specs.NumbersPut.{NumbersPut, numbers_outside}
use Rattle.words_store.specs.Shown.{OutputPut, output_outside}

-- signals whose words are all kept
all_kept : (a b : List ℕ) (j : ℕ) →
    ((x : ℕ) → state_words j ≤ x → x < state_words (j + 1) → slot b x ≡ slot a x) → SignalsKept a b j
all_kept a b j same = (
  inr (
    same (in_state j signal_field) (omega arith) (omega arith),
    same (in_state j signal_value_field) (omega arith) (omega arith),
  ),
  inr (
    same (in_state j output_field) (omega arith) (omega arith),
    same (in_state j output_value_field) (omega arith) (omega arith),
  ),
)

-- where every word outside part i's record is kept, the signals of all parts are clean or kept where those of part i
-- are
kept_outside : (a b : List ℕ) (i : ℕ) → KeptOutside i a b → SignalsKept a b i → (j : ℕ) → SignalsKept a b j
kept_outside a b i kept here j = cases (either (eqb j i))
  where
    cases : (eqb j i ≡ true) ⊎ (eqb j i ≡ false) → SignalsKept a b j
    cases (inl e) = subst (SignalsKept a b) (sym (eqb-true j i e)) here
    cases (inr e) = all_kept a b j (λ x from to. kept x (apart i j x (eqb-false j i e) from to (either (ltb j i))))

-- so it is after each of the writes
pub kept_numbered : (a b : List ℕ) (i local : ℕ) (held speed : ℤ) → NumbersPut i local held speed a b → (j : ℕ) →
    SignalsKept a b j
kept_numbered a b i local held speed put =
    kept_outside a b i (numbers_outside i local held speed a b put) (
      inr (
        put.others (in_state i signal_field) (inr (omega arith)),
        put.others (in_state i signal_value_field) (inr (omega arith)),
      ),
      inr (
        put.others (in_state i output_field) (inr (omega arith)),
        put.others (in_state i output_value_field) (inr (omega arith)),
      ),
    )

pub kept_shown : (a b : List ℕ) (i : ℕ) (out : Signal) → OutputPut i out a b → (j : ℕ) → SignalsKept a b j
kept_shown a b i out put =
    kept_outside a b i (output_outside a b i out put) (
      inr (
        put.others (in_state i signal_field) (inl (omega arith)),
        put.others (in_state i signal_value_field) (inl (omega arith)),
      ),
      inl put.clean,
    )

pub kept_put : (a b : List ℕ) (i : ℕ) (s : State) → StatePut i s a b → (j : ℕ) → SignalsKept a b j
kept_put a b i s put = kept_outside a b i put.others (inl put.held_clean, inl put.output_clean)

pub kept_pointed : (a b : List ℕ) (now : Point) → PointPut now a b → (j : ℕ) → SignalsKept a b j
kept_pointed a b now put j = all_kept a b j (λ x from to. put.others x (omega arith))

-- and of a state that was copied
pub kept_copied : (n : ℕ) (l a b : List ℕ) → Copied (state_words n) l a b → (j : ℕ) → j < n → SignalsKept l b j
kept_copied n l a b copy j low = all_kept l b j (λ x from to. copy.front x (omega arith))
