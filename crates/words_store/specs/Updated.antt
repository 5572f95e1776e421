-- What writing the state of a part, and the point, changes of the words, and of the model that they mean: the frame
-- laws. Assumes nothing.
use Rattle.std.specs.Prelude.{ℕ, zero, suc, ◌+◌, ◌*◌, ◌≤◌, ◌<◌, ◌≡◌, refl, Bool, true, false, ◌&&◌, ◌⊎◌, List, []}
use Rattle.std.specs.Prelude.{◌∷◌, eqb, leb, length, get_or, set}
use Rattle.std.proofs.Common.{arith, sym, ap, ap₂, ◌∙◌, length-set, get_or-set_same, get_or-set_other, eqb-true, le-leb}
use Rattle.std.proofs.Math.Path.{subst}
use Rattle.std.proofs.Math.Logic.{inl, inr}
use Rattle.std.proofs.lemmas.List.{length-replicate}
use Rattle.std.proofs.lemmas.Bool.{eqb-false}
use Rattle.machine.specs.declared.time.Point.{Point}
use Rattle.machine.specs.declared.part.State.{State}
use Rattle.laws.specs.Bools.{either}
use Rattle.words_codec.specs.Words.{decode_signed}
use Rattle.words_codec.specs.Decoded.{decode_side, decode_mark, decode_signal}
use Rattle.words_store.specs.Layout.{header, state_record, in_table, in_state, span_count_field, spans_field}
use Rattle.words_store.specs.Layout.{port0_field, local_field, held_field, speed_field, signal_field}
use Rattle.words_store.specs.Layout.{signal_value_field, output_field, output_value_field, side_field}
use Rattle.words_store.specs.Layout.{mark_field}
use Rattle.words_store.specs.ModelIn.{slot, table_words, state_words, stored_state, stored_point}
use Rattle.words_store.specs.Form.{any_word, any_32, state_limits, spans_used, span_limits, operand_limits}
use Rattle.words_store.specs.Form.{wire_limits}
use Rattle.words_store.specs.Form.{words_within, component_spelled}
use Rattle.words_store.specs.Clean.{CleanHeld, CleanOutput}
use Rattle.words_store.specs.WordsWritten.{FieldPut, PairPut, Outside, written, pair_after}
use Rattle.words_store.specs.WordsWritten.{length_written, written_at, written_outside}

-- the words of part i's state are within their limits
abbrev pub state_spelled : List ℕ → ℕ → Bool
state_spelled ss i = words_within ss (state_words i) state_limits

-- the words b are the words a with the state s of part i written anew: it is read back, from words within their limits,
-- its free words are clean, and every word outside its record is kept
pub record StatePut (i : ℕ) (s : State) (a b : List ℕ) : Type 0 where
  pub size : length b ≡ length a
  pub is : stored_state b i ≡ s
  pub form : state_spelled b i ≡ true
  pub held_clean : CleanHeld b i
  pub output_clean : CleanOutput b i
  pub others : (x : ℕ) → Outside (state_words i) (state_words (i + 1)) x → slot b x ≡ slot a x

-- the words b are the words a with the point written anew
pub record PointPut (now : Point) (a b : List ℕ) : Type 0 where
  pub size : length b ≡ length a
  pub is : stored_point b ≡ now
  pub others : (x : ℕ) → 2 ≤ x → slot b x ≡ slot a x

-- the words b are the words a with the first n words of l copied into them
pub record Copied (n : ℕ) (l a b : List ℕ) : Type 0 where
  pub size : length b ≡ length a
  pub front : (x : ℕ) → x < n → slot b x ≡ slot l x
  pub behind : (x : ℕ) → n ≤ x → slot b x ≡ slot a x

-- the words after a state of n parts, and how many there are, are the same; and states within their limits are so
-- still
pub record SameBehind (n : ℕ) (a b : List ℕ) : Type 0 where
  pub size : length b ≡ length a
  pub behind : (x : ℕ) → state_words n ≤ x → slot b x ≡ slot a x
  pub form : (j : ℕ) → state_spelled a j ≡ true → state_spelled b j ≡ true

-- words that are at most their limits one by one are within them
pub within_all : (ws : List ℕ) (k : ℕ) (ls : List ℕ) → ((n : ℕ) → n < length ls → slot ws (k + n) ≤ get_or ls n 0) →
    words_within ws k ls ≡ true
unfolding words_within
within_all ws k [] below = refl
within_all ws k (l ∷ ls) below =
    let first : k + 0 ≡ k = omega arith in
    let here : slot ws k ≤ l = rw first at (below 0 (omega arith)) in
    rw (
      le-leb (slot ws k) l here,
      within_all ws (k + 1) ls
          (λ n low. let next : k + suc n ≡ k + 1 + n = omega arith in rw next at (below (suc n) (omega arith))),
    )
    refl

-- the same words are within the same limits
pub within_same : (a b : List ℕ) (k : ℕ) (ls : List ℕ) → ((x : ℕ) → k ≤ x → x < k + length ls → slot b x ≡ slot a x) →
    words_within b k ls ≡ words_within a k ls
unfolding words_within
within_same a b k [] same = refl
within_same a b k (l ∷ ls) same =
    ap₂ ◌&&◌ (ap (λ (v : ℕ). leb v l) (same k (omega arith) (omega arith)))
    (within_same a b (k + 1) ls (λ x from to. same x (omega arith) (omega arith)))

-- the same words of a record of the table are
pub component_same : (a b : List ℕ) (j : ℕ) →
    ((x : ℕ) → table_words j ≤ x → x < table_words (j + 1) → slot b x ≡ slot a x) →
    component_spelled b j ≡ component_spelled a j
unfolding component_spelled
component_same a b j same =
    let count : slot b (in_table j span_count_field) ≡ slot a (in_table j span_count_field) =
    same (in_table j span_count_field) (omega arith) (omega arith) in
    let used = spans_used (slot a (in_table j span_count_field)) in
    ap₂ ◌&&◌
    (ap₂ ◌&&◌ (within_same a b (table_words j) operand_limits (λ x from to. same x (omega arith) (omega arith)))
    (ap (λ (n : ℕ). words_within b (in_table j spans_field) (span_limits n)) count ∙
    within_same a b (in_table j spans_field) (span_limits (slot a (in_table j span_count_field)))
    (λ x from to. same x (omega arith) (omega (arith, length-replicate used any_32)))))
    (within_same a b (in_table j port0_field) wire_limits (λ x from to. same x (omega arith) (omega arith)))

-- nine words that are read back as the fields of a state, written at its record
module _
    (a : List ℕ)
    (i : ℕ)
    (s : State)
    (local held_word speed_word signal_tag encode_value output_tag output_word side_word mark_word : ℕ)
    (room : state_words (i + 1) ≤ length a) where
  abbrev pub nine : List ℕ
  nine =
      local ∷ held_word ∷ speed_word ∷ signal_tag ∷ encode_value ∷ output_tag ∷ output_word ∷ side_word ∷ mark_word ∷ []

  -- the words of the record
  abbrev pub after : List ℕ
  after = written a (state_record * i) header nine

  place : (n : ℕ) → n < 9 → slot after (in_state i (header + n)) ≡ get_or nine n 0
  place n low = written_at a (state_record * i) header n nine low (omega arith)

  -- they are within their limits
  pub record Limited : Type 0 where
    pub local_fits : local ≤ any_word
    pub held_fits : held_word ≤ any_word
    pub speed_fits : speed_word ≤ any_word
    pub signal_tagged : signal_tag ≤ 1
    pub signal_fits : encode_value ≤ any_word
    pub output_tagged : output_tag ≤ 1
    pub output_fits : output_word ≤ any_word
    pub sided : side_word ≤ 2
    pub marked : mark_word ≤ 2

  limits : Limited → (n : ℕ) → n < 9 → get_or nine n 0 ≤ get_or state_limits n 0
  limits l zero low = l.local_fits
  limits l (suc zero) low = l.held_fits
  limits l (suc (suc zero)) low = l.speed_fits
  limits l (suc (suc (suc zero))) low = l.signal_tagged
  limits l (suc (suc (suc (suc zero)))) low = l.signal_fits
  limits l (suc (suc (suc (suc (suc zero))))) low = l.output_tagged
  limits l (suc (suc (suc (suc (suc (suc zero)))))) low = l.output_fits
  limits l (suc (suc (suc (suc (suc (suc (suc zero))))))) low = l.sided
  limits l (suc (suc (suc (suc (suc (suc (suc (suc zero)))))))) low = l.marked
  limits l (suc (suc (suc (suc (suc (suc (suc (suc (suc n))))))))) low = absurd (omega arith)

  within : Limited → state_spelled after i ≡ true
  within l =
      within_all after (state_words i) state_limits
      (λ n low.
      let same : state_words i + n ≡ in_state i (header + n) = omega arith in
      rw (ap (slot after) same ∙ place n low) (limits l n low))

  nine_written :
      local ≡ s.local.0 → decode_signed held_word ≡ s.held → decode_signed speed_word ≡ s.speed →
      decode_signal signal_tag encode_value ≡ s.signal → decode_signal output_tag output_word ≡ s.output →
      decode_side side_word ≡ s.side → decode_mark mark_word ≡ s.mark → Limited →
      ((signal_tag ≡ 1 → ⊥) → encode_value ≡ 0) → ((output_tag ≡ 1 → ⊥) → output_word ≡ 0) → StatePut i s a after
  unfolding stored_state
  nine_written e0 e1 e2 e3 e4 e5 e6 limited signal_clean output_clean =
      record {
        size = length_written a (state_record * i) header nine;
        is =
            rw (
              place 0 (omega arith),
              place 1 (omega arith),
              place 2 (omega arith),
              place 3 (omega arith),
              place 4 (omega arith),
              place 5 (omega arith),
              place 6 (omega arith),
              place 7 (omega arith),
              place 8 (omega arith),
              e0,
              e1,
              e2,
              e3,
              e4,
              e5,
              e6,
            )
            refl;
        form = within limited;
        held_clean = λ absent. place 4 (omega arith) ∙ signal_clean (λ one. absent (place 3 (omega arith) ∙ one));
        output_clean = λ absent. place 6 (omega arith) ∙ output_clean (λ one. absent (place 5 (omega arith) ∙ one));
        others = λ x out. written_outside a (state_record * i) header x nine (moved_out x out);
      }
    where
      moved_out : (x : ℕ) → Outside (state_words i) (state_words (i + 1)) x →
          Outside (in_state i local_field) (state_words i + 9) x
      moved_out x (inl low) = inl low
      moved_out x (inr high) = inr (omega arith)

  -- and so they are where one field and four pairs are written one after the other
  pub nine_put : {b c d e f : List ℕ} → FieldPut (in_state i local_field) local a b →
      PairPut (in_state i held_field) held_word (in_state i speed_field) speed_word b c →
      PairPut (in_state i signal_field) signal_tag (in_state i signal_value_field) encode_value c d →
      PairPut (in_state i output_field) output_tag (in_state i output_value_field) output_word d e →
      PairPut (in_state i side_field) side_word (in_state i mark_field) mark_word e f →
      local ≡ s.local.0 → decode_signed held_word ≡ s.held → decode_signed speed_word ≡ s.speed →
      decode_signal signal_tag encode_value ≡ s.signal → decode_signal output_tag output_word ≡ s.output →
      decode_side side_word ≡ s.side → decode_mark mark_word ≡ s.mark → Limited →
      ((signal_tag ≡ 1 → ⊥) → encode_value ≡ 0) → ((output_tag ≡ 1 → ⊥) → output_word ≡ 0) → StatePut i s a f
  unfolding written
  nine_put first second third fourth last e0 e1 e2 e3 e4 e5 e6 limited signal_clean output_clean =
      let is = pair_after (pair_after (pair_after (pair_after first.is second) third) fourth) last in
      subst (StatePut i s a) (sym is) (nine_written e0 e1 e2 e3 e4 e5 e6 limited signal_clean output_clean)

-- the point, written
pub point_put : (a : List ℕ) (now : Point) → 2 ≤ length a → PointPut now a (set (set a 0 now.t.0) 1 now.n)
unfolding stored_point
point_put a now room =
    let inside : 1 < length (set a 0 now.t.0) = rw (length-set a 0 now.t.0) (omega arith) in
    record {
      size = length-set (set a 0 now.t.0) 1 now.n ∙ length-set a 0 now.t.0;
      is =
          rw (
            get_or-set_same (set a 0 now.t.0) 1 now.n 0 inside,
            get_or-set_other (set a 0 now.t.0) 1 0 now.n 0 (λ e. omega arith),
            get_or-set_same a 0 now.t.0 0 (omega arith),
          )
          refl;
      others = λ x high.
          get_or-set_other (set a 0 now.t.0) 1 x now.n 0 (λ e. omega arith) ∙
          get_or-set_other a 0 x now.t.0 0 (λ e. omega arith);
    }

-- nothing is copied at first, and then one word more
pub copied_none : (l a : List ℕ) → Copied 0 l a a
copied_none l a = record { size = refl; front = λ x low. absurd (omega arith); behind = λ x far. refl }

pub copied_more : (n : ℕ) (l a b : List ℕ) → Copied n l a b → n < length b → Copied (n + 1) l a (set b n (slot l n))
copied_more n l a b done inside =
    record {
      size = length-set b n (slot l n) ∙ done.size;
      front = λ x low. front x low (either (eqb x n));
      behind = λ x far. get_or-set_other b n x (slot l n) 0 (λ e. omega arith) ∙ done.behind x (omega arith);
    }
  where
    front : (x : ℕ) → x < n + 1 → (eqb x n ≡ true) ⊎ (eqb x n ≡ false) → slot (set b n (slot l n)) x ≡ slot l x
    front x low (inl e) =
        let same : x ≡ n = eqb-true x n e in
        ap (λ (k : ℕ). slot (set b n (slot l n)) k) same ∙ get_or-set_same b n (slot l n) 0 inside ∙
        ap (slot l) (sym same)
    front x low (inr e) =
        let other = eqb-false x n e in
        get_or-set_other b n x (slot l n) 0 other ∙ done.front x (omega arith)
