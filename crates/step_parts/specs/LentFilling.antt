-- What a turn of filling outputs in the words of a state asks, and what it comes to: the laws of showing the next part,
-- over the models that the words mean. The idea: the parts, the numbers and the outputs that are read from the words
-- are those of these models, and the output that is written changes one of their parts. Assumes nothing.
use Rattle.std.specs.Prelude.{ℕ, ◌+◌, ◌≤◌, ◌<◌, ◌≡◌, refl, false, ◌⊎◌, length, get_or, set, ltb}
use native.Mathlib.Omega.{arith}
use Rattle.std.proofs.Math.Path.{sym, ap, subst}
use Rattle.std.proofs.Common.{◌∙◌, inl, inr, get_or-take, ltb-true, ltb-false}
use Rattle.std.proofs.Math.Bool.{true}
use mathlib.Core.List.Memᴰ
use mathlib.Core.List.{List, [], ◌∷◌, Memᴰ}
use Rattle.machine.specs.declared.time.Point.{Point}
use Rattle.machine.specs.declared.signal.Signal.{Signal}
use Rattle.machine.specs.declared.part.Part.{Part}
use Rattle.machine.specs.Lists.{All}
use Rattle.machine.specs.Signal.{is_signal}
use Rattle.machine.specs.Kind.{direct0, direct1, output}
use Rattle.machine.specs.Model.{most_parts, part_at, with_parts, reading0, reading1, trimmed}
use Rattle.machine.specs.Step.{with_output, shown}
use Rattle.laws.specs.Bools.{either}
use Rattle.laws.specs.ListLaws.{all_intro}
use Rattle.order_laws.specs.Row.{components_length}
use Rattle.step_part.specs.PartRanges as point
use Rattle.words_store.specs.Layout.{in_state, signal_field, signal_value_field, output_field, output_value_field}
use Rattle.words_store.specs.ModelIn.{WordsThere, table_words, state_words, part_count, ordered_part, stored_part}
use Rattle.words_store.specs.ModelIn.{stored_point, model_in}
use Rattle.words_store.specs.Updated.{SameBehind}
use Rattle.words_store.specs.StoreFrame.{held_number, held_part}
use Rattle.words_store.specs.Clean.{CleanOutput, CleanOrKept, SignalsKept, CleanAfter, clean_kept, kept_through}
use Rattle.words_store.specs.CleanKept.{kept_shown}
use Rattle.words_store.specs.Shown.{OutputPut, held_shown}
use Rattle.step_parts.specs.Reading.{WiredBelow, source_index, index_below}
use Rattle.step_parts.specs.Trimmed.{Changed}
use Rattle.step_parts.specs.Fillable.{Fillable}
use Rattle.step_parts.specs.Anyway.{FilledAnyway, filled_whatever}
use Rattle.step_parts.specs.Showing.{partly, Showable, number_below, half_wired, showable, shown_next, all_filled}
use Rattle.step_parts.specs.Showing.{heard_shown}
use Rattle.step_parts.specs.LentReading.{heard_in, lent_heard, lent_wired}

-- the words of each part are there
pub table_room : (ts ss : List ℕ) → WordsThere ts ss → (j : ℕ) → j < part_count ts → table_words (j + 1) ≤ length ts
table_room ts ss room j low = omega (arith, room.table, low)

pub state_room : (ts ss : List ℕ) → WordsThere ts ss → (j : ℕ) → j < part_count ts → state_words (j + 1) ≤ length ss
state_room ts ss room j low = omega (arith, room.state, low)

-- and still are once words were written in place
pub room_kept : (ts a b : List ℕ) (n : ℕ) → SameBehind n a b → WordsThere ts a → WordsThere ts b
room_kept ts a b n same room = record { table = room.table; state = rw same.size room.state }

-- a turn that shows the part p with the number k, which is the i-th of the order, in the words ns; the words os are at
-- the point before, and ns₀ are those before the first turn: what it asks, and what it comes to
pub record LentTurn (ts os ns₀ ns : List ℕ) (i k : ℕ) (p : Part) : Type 0 where
  pub place : i < most_parts
  pub number : k < part_count ts
  pub source0 : source_index p.component.port0 < part_count ts
  pub source1 : source_index p.component.port1 < part_count ts
  pub ranges : point.PartFits p
  pub signal0 :
      direct0 p.component.kind ≡ true → (x : Signal) → x ≡ heard_in ns p.component.port0 → is_signal x ≡ true
  pub signal1 :
      direct1 p.component.kind ≡ true → (y : Signal) → y ≡ heard_in ns p.component.port1 → is_signal y ≡ true
  -- what was heard, shown and written fills one output more
  pub fills : (now : Point) (x y before out : Signal) (then : List ℕ) → now ≡ stored_point ns₀ →
      x ≡ heard_in ns p.component.port0 → y ≡ heard_in ns p.component.port1 →
      before ≡ heard_in os p.component.port0 → out ≡ output p now x y before → OutputPut k out ns then →
      Changed (model_in ts ns₀) (partly (model_in ts os) (model_in ts ns₀) (i + 1)) (model_in ts then)

module _
    (ts os ns₀ ns : List ℕ)
    (fit : Fillable (trimmed (model_in ts os)) (trimmed (model_in ts ns₀)))
    (i : ℕ)
    (half : Changed (model_in ts ns₀) (partly (model_in ts os) (model_in ts ns₀) i) (model_in ts ns))
    (low : i < part_count ts) where
  within : i < (model_in ts ns).count
  unfolding model_in
  within = low

  -- the number that is next in the order, and its part
  next_number : get_or (model_in ts ns).order i 0 ≡ ordered_part ts i
  next_number = held_number ts ns i low

  number_low : ordered_part ts i < part_count ts
  unfolding model_in
  number_low = rw next_number at (number_below (model_in ts os) (model_in ts ns₀) fit (model_in ts ns) i half within)

  next_part : part_at (model_in ts ns).parts (ordered_part ts i) ≡ stored_part ts ns (ordered_part ts i)
  next_part = held_part ts ns (ordered_part ts i) number_low

  -- what the law of the next part says of them
  next_showable : Showable (model_in ts ns).parts i (ordered_part ts i)
  next_showable = subst (Showable (model_in ts ns).parts i) next_number
      (showable (model_in ts os) (model_in ts ns₀) fit (model_in ts ns) i half within)

  next_wired : WiredBelow (part_count ts) (stored_part ts ns (ordered_part ts i)).component
  unfolding stored_part
  next_wired = lent_wired ts ns (half_wired (model_in ts os) (model_in ts ns₀) fit (model_in ts ns) i half within)
      (ordered_part ts i) number_low

  -- the part shown, and its output written, fills one output more
  next_filled :
      (out : Signal) (then : List ℕ) →
      with_output (stored_part ts ns (ordered_part ts i)) out ≡
      shown (model_in ts os).parts (model_in ts ns₀).point (model_in ts ns).parts
      (stored_part ts ns (ordered_part ts i)) →
      OutputPut (ordered_part ts i) out ns then →
      Changed (model_in ts ns₀) (partly (model_in ts os) (model_in ts ns₀) (i + 1)) (model_in ts then)
  unfolding stored_part
  next_filled out then shows put =
      let old = model_in ts os in
      let new = model_in ts ns₀ in
      let next = model_in ts ns in
      let k = ordered_part ts i in
      let p = stored_part ts ns k in
      let v = with_output p out in
      let part : p ≡ part_at next.parts (get_or next.order i 0) =
      sym (ap (part_at next.parts) next_number ∙ next_part) in
      let is : model_in ts then ≡ with_parts next next.point (set next.parts k v) =
      held_shown ts ns then k out put number_low in
      subst (Changed new (partly old new (i + 1))) (sym is)
      (subst (λ (j : ℕ). Changed new (partly old new (i + 1)) (with_parts next next.point (set next.parts j v)))
      next_number
      (shown_next old new fit next i half within v (shows ∙ ap (shown old.parts new.point next.parts) part)))

  -- so it is a turn
  next_turn : LentTurn ts os ns₀ ns i (ordered_part ts i) (stored_part ts ns (ordered_part ts i))
  unfolding model_in reading0 reading1
  next_turn =
      let n = part_count ts in
      let k = ordered_part ts i in
      let p = stored_part ts ns k in
      let qs = (model_in ts ns).parts in
      let some : 0 < n = omega arith in
      let below0 : source_index p.component.port0 < n =
      index_below n p.component.port0 some next_wired.port0 in
      let below1 : source_index p.component.port1 < n =
      index_below n p.component.port1 some next_wired.port1 in
      let signals0 : direct0 p.component.kind ≡ true → is_signal (reading0 qs p) ≡ true =
      subst (λ (q : Part). direct0 q.component.kind ≡ true → is_signal (reading0 qs q) ≡ true) next_part
      next_showable.signal0 in
      let signals1 : direct1 p.component.kind ≡ true → is_signal (reading1 qs p) ≡ true =
      subst (λ (q : Part). direct1 q.component.kind ≡ true → is_signal (reading1 qs q) ≡ true) next_part
      next_showable.signal1 in
      record {
        place = next_showable.place;
        number = number_low;
        source0 = below0;
        source1 = below1;
        ranges = subst point.PartFits next_part next_showable.ranges;
        signal0 = λ direct x ex. rw (ex ∙ lent_heard ts ns p.component.port0 below0) (signals0 direct);
        signal1 = λ direct y ey. rw (ey ∙ lent_heard ts ns p.component.port1 below1) (signals1 direct);
        fills = λ now x y before out then en ex ey eb eo put.
            next_filled out then
            (heard_shown (model_in ts os).parts qs (model_in ts ns₀).point p x y before out
            (ex ∙ lent_heard ts ns p.component.port0 below0)
            (ey ∙ lent_heard ts ns p.component.port1 below1) (eb ∙ lent_heard ts os p.component.port0 below0)
            (eo ∙ ap (λ (q : Point). output p q x y before) en))
            put;
      }

  -- the number that was read is a part's
  pub lent_number : (k : ℕ) → k ≡ ordered_part ts i → k < part_count ts
  lent_number k ek = rw ek number_low

  -- the turn, of what was read
  pub lent_turn : (k : ℕ) (p : Part) → k ≡ ordered_part ts i → p ≡ stored_part ts ns k → LentTurn ts os ns₀ ns i k p
  lent_turn k p ek ep =
      subst (LentTurn ts os ns₀ ns i k) (sym ep)
      (subst (λ (j : ℕ). LentTurn ts os ns₀ ns i j (stored_part ts ns j)) (sym ek) next_turn)

-- of the words b, which were a, the outputs of the first i numbers of the order are clean, and every held signal is
-- clean or kept
pub record FilledClean (ts a : List ℕ) (i : ℕ) (b : List ℕ) : Type 0 where
  pub signals : (j : ℕ) → CleanOrKept a b (in_state j signal_field) (in_state j signal_value_field)
  pub outputs : (x : ℕ) → x < i → CleanOutput b (ordered_part ts x)

-- none at first, and then one number more
pub none_clean : (ts a : List ℕ) → FilledClean ts a 0 a
none_clean ts a = record { signals = λ j. inr (refl, refl); outputs = λ x low. absurd (omega arith) }

pub clean_more : (ts a b c : List ℕ) (i k : ℕ) (out : Signal) → FilledClean ts a i b → k ≡ ordered_part ts i →
    OutputPut k out b c →
    FilledClean ts a (i + 1) c
clean_more ts a b c i k out so_far number put =
    let kept = kept_shown b c k out put in
    record {
      signals = λ j.
          kept_through a b c (in_state j signal_field) (in_state j signal_value_field) (so_far.signals j) (kept j).0;
      outputs = λ x low. output x low kept (either (ltb x i));
    }
  where
    output : (x : ℕ) → x < i + 1 → ((j : ℕ) → SignalsKept b c j) → (ltb x i ≡ true) ⊎ (ltb x i ≡ false) →
        CleanOutput c (ordered_part ts x)
    output x low kept (inl e) =
        let l = ordered_part ts x in
        clean_kept b c (in_state l output_field) (in_state l output_value_field)
        (so_far.outputs x (ltb-true x i e)) (kept l).1
    output x low kept (inr e) =
        let last : i ≡ x = omega (arith, ltb-false x i e) in
        subst (CleanOutput c) (number ∙ ap (ordered_part ts) last) put.clean

-- what holds of all elements of a list holds of its members
of_member : (P : ℕ → Type 0) (k : ℕ) (l : List ℕ) → All P l → Memᴰ k l → P k
of_member P k [] all among = absurd (Memᴰ.not-nil among)
of_member P k (x ∷ l) all among = cases (Memᴰ.cases_cons among) (of_member P k l all.1)
  where
    cases : (k ≡ x) ⊎ Memᴰ k l → (Memᴰ k l → P k) → P k
    cases (inl e) later = subst P (sym e) all.0
    cases (inr m) later = later m

-- since the order has every part, all outputs are clean at last
pub clean_done :
    (ts os a b : List ℕ) → Fillable (trimmed (model_in ts os)) (trimmed (model_in ts a)) → (i : ℕ) →
    FilledClean ts a i b →
    part_count ts ≤ i →
    CleanAfter (part_count ts) a b
unfolding trimmed model_in
clean_done ts os a b fit i so_far past =
    let n = part_count ts in
    let count : (trimmed (model_in ts a)).count ≡ n = refl in
    let ks = (trimmed (model_in ts a)).order in
    let every : All (CleanOutput b) ks =
    all_intro (CleanOutput b) ks 0 (λ x inside.
    let low : x < n = omega (arith, fit.places, count) in
    subst (CleanOutput b) (sym (get_or-take n (model_in ts a).order x 0 low ∙ held_number ts a x low))
    (so_far.outputs x (omega arith))) in
    record {
      signals = λ j low. so_far.signals j;
      outputs = λ j low.
          of_member (CleanOutput b) j ks every
          (fit.complete.all j
          (omega (arith, components_length (trimmed (model_in ts a)).parts, fit.wired.counted, count)));
    }

-- all of them filled is the model filled, whatever outputs it held before
pub lent_filled :
    (ts os ns₀ ns : List ℕ) → Fillable (trimmed (model_in ts os)) (trimmed (model_in ts ns₀)) → (i : ℕ) →
    Changed (model_in ts ns₀) (partly (model_in ts os) (model_in ts ns₀) i) (model_in ts ns) → part_count ts ≤ i →
    FilledAnyway (model_in ts os) (model_in ts ns₀) (model_in ts ns)
unfolding model_in
lent_filled ts os ns₀ ns fit i half past =
    filled_whatever (model_in ts os) (model_in ts ns₀) (model_in ts ns) fit
    (all_filled (model_in ts os) (model_in ts ns₀) fit (model_in ts ns) i half past)
