-- Which words of a table and of a state are free: the words after the model's, the span words after a part's count of
-- spans, and the value's word of an absent signal. Shown: words that differ in free places alone mean the same trimmed
-- model and are spelled alike. The idea: no place that is read and kept by trimming is free, so that each field is read
-- from the same words. Assumes nothing.
use Prim.Native.Nat.{ℕ, zero, suc, ◌+◌, ◌-◌, ◌%◌, ◌≤◌, ◌<◌}
use native.Mathlib.Omega.{arith}
use Rattle.std.specs.Prelude.{◌≡◌, true, false, ◌⊎◌, List, [], ◌∷◌, map, eqb, leb, get_or, take}
use Rattle.std.proofs.Math.Path.{refl, sym, ap, ap₂}
use Rattle.std.proofs.Common.{◌∙◌, inl, inr, take_all, eqb-true, le-leb}
use Rattle.std.proofs.Math.Bool.{◌&&◌}
use Rattle.std.proofs.Math.ListN.{length, length-replicate}
use Rattle.std.proofs.lemmas.Bool.{eqb-false}
use Rattle.machine.specs.Model.{most_spans, trimmed_component, trimmed_part, trimmed}
use Rattle.laws.specs.Bools.{either}
use Rattle.laws.specs.ListLaws.{take_same}
use Rattle.words_codec.specs.Words.{tabulate}
use Rattle.words_codec.specs.Tables.{length_table, table_at, table_same, map_table}
use Rattle.words_codec.specs.Decoded.{decode_signal}
use Rattle.words_store.specs.Layout.{in_table, in_state, preference_field, a_field, b_field, p_field}
use Rattle.words_store.specs.Layout.{span_count_field, spans_field, port0_field, port1_field, ratio_field}
use Rattle.words_store.specs.Layout.{order_field, kind_field, local_field, held_field, speed_field}
use Rattle.words_store.specs.Layout.{signal_field, signal_value_field, output_field, output_value_field}
use Rattle.words_store.specs.Layout.{side_field, mark_field}
use Rattle.words_store.specs.ModelIn.{slot, part_count, table_words, state_words, stored_spans, stored_component}
use Rattle.words_store.specs.ModelIn.{stored_ratio, ordered_part, stored_state, stored_part, stored_point}
use Rattle.words_store.specs.ModelIn.{model_in}
use Rattle.words_store.specs.Form.{any_word, any_32, operand_limits, spans_used, span_limits, wire_limits}
use Rattle.words_store.specs.Form.{state_limits}
use Rattle.words_store.specs.Form.{words_within, component_spelled, part_spelled, parts_spelled, spelled}
use Rattle.words_store.specs.Updated.{state_spelled, within_same}

-- a place x of a table is free: it is after the model's words, or that of a span word s of a part j that counts no more
-- than s spans
abbrev pub FreeInTable : List ℕ → ℕ → Type 0
FreeInTable ts x =
    (table_words (part_count ts) ≤ x) ⊎
    ((j : ℕ) × (s : ℕ) × (slot ts (in_table j span_count_field) ≤ s) × (s < most_spans) ×
    (x ≡ in_table j spans_field + s))

-- a place x of a state of n parts is free: it is after the model's words, or that of the value of a held signal or of
-- an output that is absent
abbrev pub FreeInState : ℕ → List ℕ → ℕ → Type 0
FreeInState n ss x =
    (state_words n ≤ x) ⊎
    (((j : ℕ) × (slot ss (in_state j signal_field) ≡ 1 → ⊥) × (x ≡ in_state j signal_value_field)) ⊎
    ((j : ℕ) × (slot ss (in_state j output_field) ≡ 1 → ⊥) × (x ≡ in_state j output_value_field)))

-- the words us and vs are as many as ts and ss and agree with them but in free places
pub record SameButFree (ts us ss vs : List ℕ) : Type 0 where
  pub table_size : length us ≡ length ts
  pub state_size : length vs ≡ length ss
  pub table : (x : ℕ) → (FreeInTable ts x → ⊥) → slot us x ≡ slot ts x
  pub state : (x : ℕ) → (FreeInState (part_count ts) ss x → ⊥) → slot vs x ≡ slot ss x

-- a signal is the same where its code is, and its value's word where there is a value
signal_same : (c d v w : ℕ) → d ≡ c → (c ≡ 1 → w ≡ v) → decode_signal d w ≡ decode_signal c v
unfolding decode_signal
signal_same c d v w code value = cases (either (eqb c 1))
  where
    cases : (eqb c 1 ≡ true) ⊎ (eqb c 1 ≡ false) → decode_signal d w ≡ decode_signal c v
    cases (inl e) = rw (code, value (eqb-true c 1 e)) refl
    cases (inr e) = rw (code, e) refl

-- words are within limits alike where each is at most its limit or none
within_alike : (a b : List ℕ) (k : ℕ) (ls : List ℕ) →
    ((n : ℕ) → n < length ls → leb (slot b (k + n)) (get_or ls n 0) ≡ leb (slot a (k + n)) (get_or ls n 0)) →
    words_within b k ls ≡ words_within a k ls
unfolding words_within
within_alike a b k [] each = refl
within_alike a b k (l ∷ ls) each =
    let first : k + 0 ≡ k = omega arith in
    ap₂ ◌&&◌ (rw first at (each 0 (omega arith)))
    (within_alike a b (k + 1) ls
    (λ n low. let next : k + suc n ≡ k + 1 + n = omega arith in rw next at (each (suc n) (omega arith))))

-- parts are spelled alike where each is
parts_alike : (ts us ss vs : List ℕ) (n : ℕ) → ((j : ℕ) → j < n → part_spelled us vs j ≡ part_spelled ts ss j) →
    parts_spelled us vs n ≡ parts_spelled ts ss n
unfolding parts_spelled
parts_alike ts us ss vs zero each = refl
parts_alike ts us ss vs (suc n) each =
    ap₂ ◌&&◌ (parts_alike ts us ss vs n (λ j low. each j (omega arith))) (each n (omega arith))

module _ (ts us ss vs : List ℕ) (same : SameButFree ts us ss vs) where
  -- the words that are not free: the header of a table and the point of a state
  header : (x : ℕ) → x < 2 → slot us x ≡ slot ts x
  header x low = same.table x (λ free. bound free)
    where
      bound : FreeInTable ts x → ⊥
      bound (inl far) = omega arith
      bound (inr (j, s, count, few, e)) = omega arith

  pub same_count : part_count us ≡ part_count ts
  same_count = header 1 (omega arith)

  pointed : (x : ℕ) → x < 2 → slot vs x ≡ slot ss x
  pointed x low = same.state x (λ free. bound free)
    where
      bound : FreeInState (part_count ts) ss x → ⊥
      bound (inl far) = omega arith
      bound (inr (inl (j, absent, e))) = omega arith
      bound (inr (inr (j, absent, e))) = omega arith

  -- the operands and the wires of a part, and its spans that are in use
  operands : (j : ℕ) → j < part_count ts → (x : ℕ) → in_table j kind_field ≤ x → x < in_table j spans_field →
      slot us x ≡ slot ts x
  operands j low x from to = same.table x (λ free. bound free)
    where
      bound : FreeInTable ts x → ⊥
      bound (inl far) = omega arith
      bound (inr (k, s, count, few, e)) = omega arith

  wires : (j : ℕ) → j < part_count ts → (x : ℕ) → in_table j port0_field ≤ x → x < table_words (j + 1) →
      slot us x ≡ slot ts x
  wires j low x from to = same.table x (λ free. bound free)
    where
      bound : FreeInTable ts x → ⊥
      bound (inl far) = omega arith
      bound (inr (k, s, count, few, e)) = omega arith

  spans : (j : ℕ) → j < part_count ts → (s : ℕ) → s < slot ts (in_table j span_count_field) → s < most_spans →
      slot us (in_table j spans_field + s) ≡ slot ts (in_table j spans_field + s)
  spans j low s used inside = same.table (in_table j spans_field + s) (λ free. bound free)
    where
      bound : FreeInTable ts (in_table j spans_field + s) → ⊥
      bound (inl far) = omega arith
      bound (inr (k, z, count, few, e)) =
          let part : k ≡ j = omega arith in
          let fewer : slot ts (in_table j span_count_field) ≤ z = rw part at count in
          omega arith

  -- the words of a state but the two values', and these where there is a value
  plain : (j x : ℕ) → j < part_count ts → in_state j local_field ≤ x → x < state_words (j + 1) →
      (x ≡ in_state j signal_value_field → ⊥) →
      (x ≡ in_state j output_value_field → ⊥) → slot vs x ≡ slot ss x
  plain j x low from to held output = same.state x (λ free. bound free)
    where
      bound : FreeInState (part_count ts) ss x → ⊥
      bound (inl far) = omega arith
      bound (inr (inl (k, absent, e))) = held (omega arith)
      bound (inr (inr (k, absent, e))) = output (omega arith)

  held_value : (j : ℕ) → j < part_count ts → slot ss (in_state j signal_field) ≡ 1 →
      slot vs (in_state j signal_value_field) ≡ slot ss (in_state j signal_value_field)
  held_value j low present = same.state (in_state j signal_value_field) (λ free. bound free)
    where
      bound : FreeInState (part_count ts) ss (in_state j signal_value_field) → ⊥
      bound (inl far) = omega arith
      bound (inr (inl (k, absent, e))) =
          let part : k ≡ j = omega arith in
          absent (ap (λ (z : ℕ). slot ss (in_state z signal_field)) part ∙ present)
      bound (inr (inr (k, absent, e))) = omega arith

  output_value : (j : ℕ) → j < part_count ts → slot ss (in_state j output_field) ≡ 1 →
      slot vs (in_state j output_value_field) ≡ slot ss (in_state j output_value_field)
  output_value j low present = same.state (in_state j output_value_field) (λ free. bound free)
    where
      bound : FreeInState (part_count ts) ss (in_state j output_value_field) → ⊥
      bound (inl far) = omega arith
      bound (inr (inl (k, absent, e))) = omega arith
      bound (inr (inr (k, absent, e))) =
          let part : k ≡ j = omega arith in
          absent (ap (λ (z : ℕ). slot ss (in_state z output_field)) part ∙ present)

  -- so each part is the same trimmed
  state_meant : (j : ℕ) → j < part_count ts → stored_state vs j ≡ stored_state ss j
  unfolding stored_state
  state_meant j low =
      let at : (x : ℕ) → in_state j local_field ≤ x → x < state_words (j + 1) →
      (x ≡ in_state j signal_value_field → ⊥) → (x ≡ in_state j output_value_field → ⊥) → slot vs x ≡
      slot ss x = λ x. plain j x low in
      rw (
        at (in_state j local_field) (omega arith) (omega arith) (λ e. omega arith) (λ e. omega arith),
        at (in_state j held_field) (omega arith) (omega arith) (λ e. omega arith) (λ e. omega arith),
        at (in_state j speed_field) (omega arith) (omega arith) (λ e. omega arith) (λ e. omega arith),
        signal_same (slot ss (in_state j signal_field)) (slot vs (in_state j signal_field))
            (slot ss (in_state j signal_value_field)) (slot vs (in_state j signal_value_field))
            (at (in_state j signal_field) (omega arith) (omega arith) (λ e. omega arith) (λ e. omega arith))
            (held_value j low),
        signal_same (slot ss (in_state j output_field)) (slot vs (in_state j output_field))
            (slot ss (in_state j output_value_field)) (slot vs (in_state j output_value_field))
            (at (in_state j output_field) (omega arith) (omega arith) (λ e. omega arith) (λ e. omega arith))
            (output_value j low),
        at (in_state j side_field) (omega arith) (omega arith) (λ e. omega arith) (λ e. omega arith),
        at (in_state j mark_field) (omega arith) (omega arith) (λ e. omega arith) (λ e. omega arith),
      )
      refl

  spans_meant : (j : ℕ) → j < part_count ts → take (slot ts (in_table j span_count_field)) (stored_spans us j) ≡
      take (slot ts (in_table j span_count_field)) (stored_spans ts j)
  unfolding stored_spans
  spans_meant j low =
      let f : ℕ → ℕ = λ (s : ℕ). slot us (in_table j spans_field + s) % 4294967296 in
      let g : ℕ → ℕ = λ (s : ℕ). slot ts (in_table j spans_field + s) % 4294967296 in
      take_same (slot ts (in_table j span_count_field)) (tabulate f 8) (tabulate g 8)
      (length_table f 8 ∙ sym (length_table g 8))
      (λ s used inside.
      let few : s < 8 = omega (arith, length_table g 8) in
      table_at f 8 s 0 few ∙ ap (λ (w : ℕ). w % 4294967296) (spans j low s used few) ∙ sym (table_at g 8 s 0 few))

  component_meant : (j : ℕ) → j < part_count ts → trimmed_component (stored_component us j) ≡
      trimmed_component (stored_component ts j)
  unfolding trimmed_component stored_component
  component_meant j low =
      rw (
        operands j low (in_table j kind_field) (omega arith) (omega arith),
        operands j low (in_table j preference_field) (omega arith) (omega arith),
        operands j low (in_table j a_field) (omega arith) (omega arith),
        operands j low (in_table j b_field) (omega arith) (omega arith),
        operands j low (in_table j p_field) (omega arith) (omega arith),
        operands j low (in_table j span_count_field) (omega arith) (omega arith),
        spans_meant j low,
        wires j low (in_table j port0_field) (omega arith) (omega arith),
        wires j low (in_table j port1_field) (omega arith) (omega arith),
      )
      refl

  part_meant : (j : ℕ) → j < part_count ts → trimmed_part (stored_part us vs j) ≡ trimmed_part (stored_part ts ss j)
  unfolding trimmed_part stored_part stored_ratio
  part_meant j low = rw
      (component_meant j low, wires j low (in_table j ratio_field) (omega arith) (omega arith), state_meant j low) refl

  -- and so is the model
  parts_meant :
      map trimmed_part (take (part_count ts) (tabulate (stored_part us vs) (part_count ts))) ≡
      map trimmed_part (take (part_count ts) (tabulate (stored_part ts ss) (part_count ts)))
  parts_meant =
      let n = part_count ts in
      let f = stored_part us vs in
      let g = stored_part ts ss in
      ap (map trimmed_part) (take_all n (tabulate f n) (omega (arith, length_table f n))) ∙ map_table trimmed_part f n ∙
      table_same (λ (j : ℕ). trimmed_part (f j)) (λ (j : ℕ). trimmed_part (g j)) n part_meant ∙
      sym (ap (map trimmed_part) (take_all n (tabulate g n) (omega (arith, length_table g n))) ∙
      map_table trimmed_part g n)

  order_meant : tabulate (ordered_part us) (part_count ts) ≡ tabulate (ordered_part ts) (part_count ts)
  unfolding ordered_part
  order_meant =
      table_same (λ (j : ℕ). slot us (in_table j order_field) % 65536)
      (λ (j : ℕ). slot ts (in_table j order_field) % 65536) (part_count ts)
      (λ j low. ap (λ (w : ℕ). w % 65536) (wires j low (in_table j order_field) (omega arith) (omega arith)))

  pub same_meant : trimmed (model_in us vs) ≡ trimmed (model_in ts ss)
  unfolding trimmed model_in stored_point
  same_meant = rw (
    header 0 (omega arith),
    header 1 (omega arith),
    order_meant,
    pointed 0 (omega arith),
    pointed 1 (omega arith),
    parts_meant,
  ) refl

  -- the records of a part are spelled alike, of words of 64 bits
  component_alike : (j : ℕ) → j < part_count ts → component_spelled us j ≡ component_spelled ts j
  unfolding component_spelled
  component_alike j low =
      let count = slot ts (in_table j span_count_field) in
      let span_at : (x : ℕ) → in_table j spans_field ≤ x → x < in_table j spans_field + length (span_limits count) →
      slot us x ≡ slot ts x =
      λ x from to.
      let within = length-replicate (spans_used count) any_32 in
      let s : ℕ = x - (in_table j spans_field) in
      let place : x ≡ in_table j spans_field + s = omega arith in
      let word = spans j low s (omega arith) (omega arith) in
      ap (slot us) place ∙ word ∙ ap (slot ts) (sym place) in
      ap₂ ◌&&◌
      (ap₂ ◌&&◌ (within_same ts us (table_words j) operand_limits (λ x from to. operands j low x from (omega arith)))
      (ap (λ (n : ℕ). words_within us (in_table j spans_field) (span_limits n))
      (operands j low (in_table j span_count_field) (omega arith) (omega arith)) ∙
      within_same ts us (in_table j spans_field) (span_limits count) span_at))
      (within_same ts us (in_table j port0_field) wire_limits (λ x from to. wires j low x from (omega arith)))

  module _ (small : (x : ℕ) → slot ss x ≤ any_word) (small' : (x : ℕ) → slot vs x ≤ any_word) where
    state_alike : (j : ℕ) → j < part_count ts → state_spelled vs j ≡ state_spelled ss j
    state_alike j low = within_alike ss vs (state_words j) state_limits
        (λ n few. cases n few (either (eqb n 4)) (either (eqb n 6)))
      where
        free : (x : ℕ) → leb (slot vs x) any_word ≡ leb (slot ss x) any_word
        free x = le-leb (slot vs x) any_word (small' x) ∙ sym (le-leb (slot ss x) any_word (small x))

        cases : (n : ℕ) → n < 9 → (eqb n 4 ≡ true) ⊎ (eqb n 4 ≡ false) → (eqb n 6 ≡ true) ⊎ (eqb n 6 ≡ false) →
            leb (slot vs (state_words j + n)) (get_or state_limits n 0) ≡
            leb (slot ss (state_words j + n)) (get_or state_limits n 0)
        cases n few (inl e) other = rw (eqb-true n 4 e) (free (state_words j + 4))
        cases n few (inr e) (inl f) = rw (eqb-true n 6 f) (free (state_words j + 6))
        cases n few (inr e) (inr f) =
            let held = eqb-false n 4 e in
            let output = eqb-false n 6 f in
            ap (λ (w : ℕ). leb w (get_or state_limits n 0))
            (plain j (state_words j + n) low (omega arith) (omega arith) (λ g. held (omega arith))
            (λ g. output (omega arith)))

    -- so the words are
    pub same_spelled : spelled us vs ≡ spelled ts ss
    unfolding spelled part_spelled
    same_spelled =
        rw (
          same.table_size,
          same.state_size,
          header 0 (omega arith),
          header 1 (omega arith),
          parts_alike ts us ss vs (part_count ts) (λ j low. ap₂ ◌&&◌ (component_alike j low) (state_alike j low)),
        )
        refl
