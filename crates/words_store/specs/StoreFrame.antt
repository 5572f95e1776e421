-- The frame: a write of one part's state, or of the point, changes that of the model that the words mean, and nothing
-- else; and the places of that model. The idea: a record's words lie apart from every other record's, so that each
-- state but the one written is read from words that were kept. Assumes nothing.
use Rattle.std.specs.Prelude.{ℕ, ◌+◌, ◌≤◌, ◌<◌, ◌≡◌, true, false, ◌⊎◌, eqb, ltb, length, get_or, set, drop}
use Rattle.std.proofs.Common.{arith, sym, ◌∙◌, inl, inr, length-set, drop_of_length-le, get_or-set_same}
use Rattle.std.proofs.Common.{get_or-set_other, ext_get_or, eqb-true, ltb-true, ltb-false}
use Rattle.std.proofs.Math.Path.{refl, ap, ap₂}
use mathlib.Core.List.{List}
use Rattle.std.proofs.lemmas.Bool.{eqb-false}
use Rattle.machine.specs.declared.time.Point.{Point}
use Rattle.machine.specs.declared.part.State.{State}
use Rattle.machine.specs.declared.part.Part.{Part}
use Rattle.machine.specs.Model.{blank_part, part_at, with_state, with_parts, spare_spans, SameUnused}
use Rattle.laws.specs.Bools.{either}
use Rattle.words_codec.specs.Words.{tabulate}
use Rattle.words_codec.specs.Tables.{length_table, table_at, table_same}
use Rattle.words_store.specs.Layout.{in_state, local_field, held_field, speed_field, signal_field}
use Rattle.words_store.specs.Layout.{signal_value_field, output_field, output_value_field, side_field}
use Rattle.words_store.specs.Layout.{mark_field}
use Rattle.words_store.specs.ModelIn.{slot, part_count, state_words, ordered_part, stored_state, stored_part}
use Rattle.words_store.specs.ModelIn.{stored_point, model_in}
use Rattle.words_store.specs.Form.{state_limits}
use Rattle.words_store.specs.WordsWritten.{Outside}
use Rattle.words_store.specs.Updated.{state_spelled, StatePut, PointPut, Copied, SameBehind, within_same}

-- a table with one place set
table_set : {A : Type 0} (f g : ℕ → A) (n i : ℕ) (v : A) → i < n → ((j : ℕ) → (j ≡ i → ⊥) → g j ≡ f j) → g i ≡ v →
    tabulate g n ≡ set (tabulate f n) i v
table_set f g n i v low others here =
    ext_get_or v (tabulate g n) (set (tabulate f n) i v)
    (length_table g n ∙ sym (length-set (tabulate f n) i v ∙ length_table f n))
    (λ j inside. at j (rw (length_table g n) at inside) (either (eqb j i)))
  where
    at : (j : ℕ) → j < n → (eqb j i ≡ true) ⊎ (eqb j i ≡ false) →
        get_or (tabulate g n) j v ≡ get_or (set (tabulate f n) i v) j v
    at j within (inl e) =
        let same : j ≡ i = eqb-true j i e in
        let inside : i < length (tabulate f n) = rw (length_table f n) low in
        table_at g n j v within ∙ ap g same ∙ here ∙
        sym (ap (λ (k : ℕ). get_or (set (tabulate f n) i v) k v) same ∙ get_or-set_same (tabulate f n) i v v inside)
    at j within (inr e) =
        let other = eqb-false j i e in
        table_at g n j v within ∙ others j other ∙
        sym (get_or-set_other (tabulate f n) i j v v other ∙ table_at f n j v within)

-- the places of the model that words mean
module _ (ts ss : List ℕ) where
  pub held_many : length (model_in ts ss).parts ≡ part_count ts
  unfolding model_in
  held_many = length_table (stored_part ts ss) (part_count ts)

  pub held_order : length (model_in ts ss).order ≡ part_count ts
  unfolding model_in
  held_order = length_table (ordered_part ts) (part_count ts)

  pub held_part : (i : ℕ) → i < part_count ts → part_at (model_in ts ss).parts i ≡ stored_part ts ss i
  unfolding model_in
  held_part i low = table_at (stored_part ts ss) (part_count ts) i blank_part low

  pub held_number : (i : ℕ) → i < part_count ts → get_or (model_in ts ss).order i 0 ≡ ordered_part ts i
  unfolding model_in
  held_number i low = table_at (ordered_part ts) (part_count ts) i 0 low

-- the same words of a record give the same state
pub same_state : (a b : List ℕ) (i : ℕ) →
    ((x : ℕ) → state_words i ≤ x → x < state_words (i + 1) → slot b x ≡ slot a x) →
    stored_state b i ≡ stored_state a i
unfolding stored_state
same_state a b i same =
    rw (
      same (in_state i local_field) (omega arith) (omega arith),
      same (in_state i held_field) (omega arith) (omega arith),
      same (in_state i speed_field) (omega arith) (omega arith),
      same (in_state i signal_field) (omega arith) (omega arith),
      same (in_state i signal_value_field) (omega arith) (omega arith),
      same (in_state i output_field) (omega arith) (omega arith),
      same (in_state i output_value_field) (omega arith) (omega arith),
      same (in_state i side_field) (omega arith) (omega arith),
      same (in_state i mark_field) (omega arith) (omega arith),
    )
    refl

-- a record's words lie apart from another's
pub apart : (i j x : ℕ) → (j ≡ i → ⊥) → state_words j ≤ x → x < state_words (j + 1) → (ltb j i ≡ true) ⊎
    (ltb j i ≡ false) →
    Outside (state_words i) (state_words (i + 1)) x
apart i j x other from to (inl e) = let low = ltb-true j i e in inl (omega arith)
apart i j x other from to (inr e) =
    let high = ltb-false j i e in
    let above : i < j = more (either (eqb j i)) in
    inr (omega arith)
  where
    more : (eqb j i ≡ true) ⊎ (eqb j i ≡ false) → i < j
    more (inl same) = absurd (other (eqb-true j i same))
    more (inr differ) = omega (arith, ltb-false j i e, eqb-false j i differ)

-- every word outside part i's record is kept
abbrev pub KeptOutside : ℕ → List ℕ → List ℕ → Type 0
KeptOutside i a b = (x : ℕ) → Outside (state_words i) (state_words (i + 1)) x → slot b x ≡ slot a x

-- then so are the states of the other parts, whether their words are within their limits, and the point
module _ (a b : List ℕ) (i : ℕ) (kept : KeptOutside i a b) where
  pub state_outside : (j : ℕ) → (j ≡ i → ⊥) → stored_state b j ≡ stored_state a j
  state_outside j other = same_state a b j (λ x from to. kept x (apart i j x other from to (either (ltb j i))))

  spelled_outside : (j : ℕ) → (j ≡ i → ⊥) → state_spelled b j ≡ state_spelled a j
  spelled_outside j other =
      within_same a b (state_words j) state_limits
      (λ x from to. kept x (apart i j x other from (omega arith) (either (ltb j i))))

  pub point_outside : stored_point b ≡ stored_point a
  unfolding stored_point
  point_outside = rw (kept 0 (inl (omega arith)), kept 1 (inl (omega arith))) refl

  -- and the words after the model's, where the words of part i's state are within their limits still
  pub behind_outside : (n : ℕ) → length b ≡ length a → (state_spelled a i ≡ true → state_spelled b i ≡ true) → i < n →
      SameBehind n a b
  behind_outside n size form low =
      record {
        size = size;
        behind = λ x far. kept x (inr (omega arith));
        form = λ j before. form_at j before (either (eqb j i));
      }
    where
      form_at : (j : ℕ) → state_spelled a j ≡ true → (eqb j i ≡ true) ⊎ (eqb j i ≡ false) → state_spelled b j ≡ true
      form_at j before (inl e) =
          let same : j ≡ i = eqb-true j i e in
          rw same (form (rw same at before))
      form_at j before (inr e) = spelled_outside j (eqb-false j i e) ∙ before

  -- and the model is the one before with part i's state set to the one that is there
  pub held_outside : (ts : List ℕ) (s : State) → stored_state b i ≡ s → i < part_count ts →
      model_in ts b ≡ with_parts (model_in ts a) (model_in ts a).point
      (set (model_in ts a).parts i (with_state (stored_part ts a i) s))
  unfolding model_in stored_part
  held_outside ts s is low =
      ap₂ (λ (now : Point) (ps : List Part). with_parts (model_in ts a) now ps) point_outside
      (table_set (stored_part ts a) (stored_part ts b) (part_count ts) i (with_state (stored_part ts a i) s) low
      (λ j other. ap (with_state (stored_part ts a j)) (state_outside j other))
      (ap (with_state (stored_part ts a i)) is))

-- so a write of part i's state keeps the others'
pub state_kept : (a b : List ℕ) (i j : ℕ) (s : State) → StatePut i s a b → (j ≡ i → ⊥) →
    stored_state b j ≡ stored_state a j
state_kept a b i j s put other = state_outside a b i put.others j other

-- and whether their words are within their limits
pub spelled_kept : (a b : List ℕ) (i j : ℕ) (s : State) → StatePut i s a b → (j ≡ i → ⊥) →
    state_spelled b j ≡ state_spelled a j
spelled_kept a b i j s put other = spelled_outside a b i put.others j other

-- and the point
pub point_kept : (a b : List ℕ) (i : ℕ) (s : State) → StatePut i s a b → stored_point b ≡ stored_point a
point_kept a b i s put = point_outside a b i put.others

-- the model after a write of part i's state is the model before with that part's state set
pub held_put : (ts a b : List ℕ) (i : ℕ) (s : State) → StatePut i s a b → i < part_count ts →
    model_in ts b ≡ with_parts (model_in ts a) (model_in ts a).point
    (set (model_in ts a).parts i (with_state (stored_part ts a i) s))
held_put ts a b i s put low = held_outside a b i put.others ts s put.is low

-- and after a write of the point the model before at that point
pub held_pointed : (ts a b : List ℕ) (now : Point) → PointPut now a b →
    model_in ts b ≡ with_parts (model_in ts a) now (model_in ts a).parts
unfolding model_in stored_part
held_pointed ts a b now put =
    ap₂ (λ (p : Point) (ps : List Part). with_parts (model_in ts a) p ps) put.is
    (table_same (stored_part ts b) (stored_part ts a) (part_count ts)
    (λ j low. ap (with_state (stored_part ts a j)) (same_state a b j (λ x from to. put.others x (omega arith)))))

-- the model in words that were copied is the model that they were copied from
pub held_copied : (ts l a b : List ℕ) → Copied (state_words (part_count ts)) l a b → model_in ts b ≡ model_in ts l
unfolding model_in stored_part stored_point
held_copied ts l a b copy =
    ap₂ (λ (now : Point) (ps : List Part). with_parts (model_in ts l) now ps)
    (rw (copy.front 0 (omega arith), copy.front 1 (omega arith)) refl)
    (table_same (stored_part ts b) (stored_part ts l) (part_count ts)
    (λ j low. ap (with_state (stored_part ts l j)) (same_state l b j (λ x from to. copy.front x (omega arith)))))

-- words copied whole are those that they were copied from
pub copied_whole : (n : ℕ) (l a b : List ℕ) → Copied n l a b → length l ≡ n → length b ≡ n → b ≡ l
copied_whole n l a b copy all same = ext_get_or 0 b l (same ∙ sym all) (λ x inside. copy.front x (omega (arith, same)))

-- states within their limits are so still once they are copied, and the words after them are kept
pub copied_spelled : (n : ℕ) (l a b : List ℕ) → Copied (state_words n) l a b →
    ((j : ℕ) → j < n → state_spelled l j ≡ true) →
    (j : ℕ) → j < n → state_spelled b j ≡ true
copied_spelled n l a b copy spells j low =
    within_same l b (state_words j) state_limits (λ x from to. copy.front x (omega arith)) ∙ spells j low

pub behind_copied : (n : ℕ) (l a b : List ℕ) → Copied (state_words n) l a b →
    ((j : ℕ) → j < n → state_spelled l j ≡ true) → SameBehind n a b
behind_copied n l a b copy spells =
    record { size = copy.size; behind = copy.behind; form = λ j before. form j before (either (ltb j n)) }
  where
    form : (j : ℕ) → state_spelled a j ≡ true → (ltb j n ≡ true) ⊎ (ltb j n ≡ false) → state_spelled b j ≡ true
    form j before (inl e) = copied_spelled n l a b copy spells j (ltb-true j n e)
    form j before (inr e) =
        let high = ltb-false j n e in
        within_same a b (state_words j) state_limits (λ x from to. copy.behind x (omega arith)) ∙ before

-- the words after the model's are kept by both, by nothing, and by one change after another
pub behind_put : (n i : ℕ) (s : State) (a b : List ℕ) → StatePut i s a b → i < n → SameBehind n a b
behind_put n i s a b put low = behind_outside a b i put.others n put.size (λ before. put.form) low

pub behind_pointed : (n : ℕ) (now : Point) (a b : List ℕ) → PointPut now a b → SameBehind n a b
behind_pointed n now a b put =
    record {
      size = put.size;
      behind = λ x far. put.others x (omega arith);
      form = λ j before. within_same a b (state_words j) state_limits (λ x from to. put.others x (omega arith)) ∙
          before;
    }

pub behind_none : (n : ℕ) (a : List ℕ) → SameBehind n a a
behind_none n a = record { size = refl; behind = λ x far. refl; form = λ j before. before }

pub behind_through : (n : ℕ) (a b c : List ℕ) → SameBehind n a b → SameBehind n b c → SameBehind n a c
behind_through n a b c first second =
    record {
      size = second.size ∙ first.size;
      behind = λ x far. second.behind x far ∙ first.behind x far;
      form = λ j before. second.form j (first.form j before);
    }

-- models of one table have the same unused places: none but of spans, which the table holds
pub held_unused : (ts a b : List ℕ) → SameUnused (model_in ts a) (model_in ts b)
unfolding model_in spare_spans stored_part
held_unused ts a b =
    record {
      orders = refl;
      parts =
          drop_of_length-le (tabulate (stored_part ts b) (part_count ts)) {i = part_count ts}
          (rw (length_table (stored_part ts b) (part_count ts)) (omega arith)) ∙
          sym (drop_of_length-le (tabulate (stored_part ts a) (part_count ts)) {i = part_count ts}
          (rw (length_table (stored_part ts a) (part_count ts)) (omega arith)));
      spans = λ i low. spans_of i low;
    }
  where
    spans_of : (i : ℕ) → i < part_count ts → spare_spans (model_in ts b) i ≡ spare_spans (model_in ts a) i
    spans_of i low =
        ap (λ (p : Part). drop p.component.span_count p.component.spans) (held_part ts b i low) ∙
        sym (ap (λ (p : Part). drop p.component.span_count p.component.spans) (held_part ts a i low))
