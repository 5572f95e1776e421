-- The three runs of words that the record of a part has in a table: its operands, its spans and its wires. Each is
-- written one word after another, and then read back, from words within their limits, while every other word is kept.
-- Assumes nothing.
use Rattle.std.specs.Prelude.{ℕ, ◌+◌, ◌*◌, ◌%◌, ◌≤◌, ◌<◌, ◌≡◌, refl, true, cond, List, [], ◌∷◌, leb, ltb, ℤ}
use Rattle.std.specs.Prelude.{length, get_or, set, take}
use Rattle.std.proofs.Common.{arith, sym, ap, ◌∙◌, inl, inr, length-set, get_or-set_same, le-leb}
use Rattle.std.proofs.Common.{lt-ltb, le-ltb}
use Rattle.std.proofs.lemmas.List.{length-replicate, get_or-replicate}
use Rattle.machine.specs.declared.part.Kind.{Kind}
use Rattle.machine.specs.declared.part.Source.{Source}
use Rattle.machine.specs.Kind.{kind_number, kind_of}
use Rattle.machine.specs.Model.{most_spans}
use Rattle.laws.specs.ListLaws.{take_same}
use Rattle.laws.specs.Bools.{and_intro, cond_true, cond_false}
use Rattle.words_codec.specs.Words.{tabulate, decode_signed}
use Rattle.words_codec.specs.Encoded.{encode_source}
use Rattle.words_codec.specs.Decoded.{decode_source}
use Rattle.words_codec.specs.Sized.{FitsSource}
use Rattle.words_codec.specs.Fields.{kind_limit, kind_same, source_limit, source_same}
use Rattle.words_codec.specs.Tables.{length_table, table_at}
use Rattle.words_store.specs.ModelIn.{slot, table_words, stored_spans, stored_ratio, ordered_part}
use Rattle.words_store.specs.Form.{any_word, any_32, operand_limits, spans_used, span_limits, wire_limits, words_within}
use Rattle.words_store.specs.WordsWritten.{Outside, written, length_written, written_at, written_before}
use Rattle.words_store.specs.WordsWritten.{written_outside}
use Rattle.words_store.specs.Updated.{within_all}

-- the word of span place j, where a part counts so many spans: the span, or 0 where no span is there
abbrev pub used_span : ℕ → List ℕ → ℕ → ℕ
used_span count spans j = cond (ltb j count) (get_or spans j 0) 0

-- the words b are the words a with the kind, preference, operands and count of spans of part i written anew
pub record OperandsPut (i : ℕ) (kind : Kind) (preference : ℕ) (x y : ℤ) (p count : ℕ) (a b : List ℕ) : Type 0 where
  pub size : length b ≡ length a
  pub kind_is : kind_of (slot b (18 * i + 2)) ≡ kind
  pub preference_is : slot b (18 * i + 3) % 256 ≡ preference
  pub a_is : decode_signed (slot b (18 * i + 4)) ≡ x
  pub b_is : decode_signed (slot b (18 * i + 5)) ≡ y
  pub p_is : slot b (18 * i + 6) % 4294967296 ≡ p
  pub count_is : slot b (18 * i + 7) ≡ count
  pub form : words_within b (18 * i + 2) operand_limits ≡ true
  pub others : (k : ℕ) → Outside (18 * i + 2) (18 * i + 8) k → slot b k ≡ slot a k

-- with its places for spans written anew, of which the first `count` are in use: these are read back, and the others
-- are 0
pub record SpansPut (i count : ℕ) (spans a b : List ℕ) : Type 0 where
  pub size : length b ≡ length a
  pub is : take count (stored_spans b i) ≡ take count spans
  pub form : words_within b (18 * i + 8) (span_limits count) ≡ true
  pub clean : (j : ℕ) → count ≤ j → j < most_spans → slot b (18 * i + 8 + j) ≡ 0
  pub others : (k : ℕ) → Outside (18 * i + 8) (18 * i + 16) k → slot b k ≡ slot a k

-- with its ports, its ratio and the number at its place of the part order written anew
pub record WiresPut (i : ℕ) (port0 port1 : Source) (ratio number : ℕ) (a b : List ℕ) : Type 0 where
  pub size : length b ≡ length a
  pub port0_is : decode_source (slot b (18 * i + 16)) ≡ port0
  pub port1_is : decode_source (slot b (18 * i + 17)) ≡ port1
  pub ratio_is : stored_ratio b i ≡ ratio
  pub number_is : ordered_part b i ≡ number
  pub form : words_within b (18 * i + 16) wire_limits ≡ true
  pub others : (k : ℕ) → Outside (18 * i + 16) (18 * i + 20) k → slot b k ≡ slot a k

-- numbers that are at most their limits one by one
abbrev Below : List ℕ → List ℕ → Type 0
Below [] ls = Unit {0}
Below (v ∷ vs) [] = ⊥
Below (v ∷ vs) (l ∷ ls) = (v ≤ l) × Below vs ls

-- such words, as many as the limits, are within them where they are written
written_within : (a : List ℕ) (k j : ℕ) (vs ls : List ℕ) → length ls ≡ length vs → Below vs ls →
    k + j + length vs ≤ length a →
    words_within (written a k j vs) (k + j) ls ≡ true
unfolding words_within written
written_within a k j vs [] many below room = refl
written_within a k j [] (l ∷ ls) many below room = absurd (omega arith)
written_within a k j (v ∷ vs) (l ∷ ls) many below room =
    let after : List ℕ = written (set a (k + j) v) k (j + 1) vs in
    let here : slot after (k + j) ≡ v =
    written_before (set a (k + j) v) k (j + 1) (k + j) vs (omega arith) ∙ get_or-set_same a (k + j) v 0 (omega arith) in
    let next : k + j + 1 ≡ k + (j + 1) = omega arith in
    let rest : k + (j + 1) + length vs ≤ length (set a (k + j) v) = rw (length-set a (k + j) v) (omega arith) in
    and_intro (leb (slot after (k + j)) l) (words_within after (k + j + 1) ls)
    (ap (λ (x : ℕ). leb x l) here ∙ le-leb v l below.0)
    (ap (λ (x : ℕ). words_within after x ls) next ∙
    written_within (set a (k + j) v) k (j + 1) vs ls (omega arith) below.1 rest)

-- a place outside a run, with the run's end spelled in another way
outside_as : (from to end k : ℕ) → end ≤ to → Outside from to k → Outside from end k
outside_as from to end k e (inl low) = inl low
outside_as from to end k e (inr high) = inr (omega arith)

-- six words that are read back as a part's operands, written at their places
pub operands_put :
    (a : List ℕ) (i : ℕ) (kind : Kind) (preference : ℕ) (x y : ℤ) (p count kind_word x_word y_word : ℕ) →
    table_words (i + 1) ≤ length a → kind_word ≡ kind_number kind → preference ≤ 255 → decode_signed x_word ≡ x →
    x_word ≤ any_word →
    decode_signed y_word ≡ y → y_word ≤ any_word → p ≤ any_32 → count ≤ any_word →
    OperandsPut i kind preference x y p count a
    (written a (18 * i) 2 (kind_word ∷ preference ∷ x_word ∷ y_word ∷ p ∷ count ∷ []))
operands_put a i kind preference x y p count kind_word x_word y_word room coded octet x_back x_Fits y_back y_fits p_fits
    count_fits =
    let six : List ℕ = kind_word ∷ preference ∷ x_word ∷ y_word ∷ p ∷ count ∷ [] in
    let place : (n : ℕ) → n < 6 → slot (written a (18 * i) 2 six) (18 * i + (2 + n)) ≡ get_or six n 0 =
    λ n low. written_at a (18 * i) 2 n six low (omega arith) in
    let few : kind_word ≤ 12 = rw coded (kind_limit kind) in
    record {
      size = length_written a (18 * i) 2 six;
      kind_is = rw (place 0 (omega arith), coded) (kind_same kind);
      preference_is = rw (place 1 (omega arith)) (omega arith);
      a_is = rw (place 2 (omega arith)) x_back;
      b_is = rw (place 3 (omega arith)) y_back;
      p_is = rw (place 4 (omega arith)) (omega arith);
      count_is = place 5 (omega arith);
      form = written_within a (18 * i) 2 six operand_limits refl
          (few, (octet, (x_Fits, (y_fits, (p_fits, (count_fits, tt)))))) (omega arith);
      others = λ k out. written_outside a (18 * i) 2 k six
          (outside_as (18 * i + 2) (18 * i + 8) (18 * i + 2 + 6) k (omega arith) out);
    }

-- four words that are read back as a part's wires, written at their places
pub wires_put :
    (a : List ℕ) (i : ℕ) (port0 port1 : Source) (ratio number word0 word1 : ℕ) → table_words (i + 1) ≤ length a →
    word0 ≡ encode_source port0 → FitsSource port0 → word1 ≡ encode_source port1 → FitsSource port1 → ratio ≤ any_word →
    number ≤ 65535 →
    WiresPut i port0 port1 ratio number a (written a (18 * i) 16 (word0 ∷ word1 ∷ ratio ∷ number ∷ []))
unfolding stored_ratio ordered_part
wires_put a i port0 port1 ratio number word0 word1 room coded0 fits0 coded1 fits1 ratio_fits number_fits =
    let four : List ℕ = word0 ∷ word1 ∷ ratio ∷ number ∷ [] in
    let place : (n : ℕ) → n < 4 → slot (written a (18 * i) 16 four) (18 * i + (16 + n)) ≡ get_or four n 0 =
    λ n low. written_at a (18 * i) 16 n four low (omega arith) in
    let few0 : word0 ≤ 65536 = rw coded0 (source_limit port0 fits0) in
    let few1 : word1 ≤ 65536 = rw coded1 (source_limit port1 fits1) in
    record {
      size = length_written a (18 * i) 16 four;
      port0_is = rw (place 0 (omega arith), coded0) (source_same port0 fits0);
      port1_is = rw (place 1 (omega arith), coded1) (source_same port1 fits1);
      ratio_is = place 2 (omega arith);
      number_is = rw (place 3 (omega arith)) (omega arith);
      form = written_within a (18 * i) 16 four wire_limits refl (few0, (few1, (ratio_fits, (number_fits, tt))))
          (omega arith);
      others = λ k out. written_outside a (18 * i) 16 k four
          (outside_as (18 * i + 16) (18 * i + 20) (18 * i + 16 + 4) k (omega arith) out);
    }

-- the words b are the words a with the words of the first j span places written from the place k on
pub record SpansFirst (k j count : ℕ) (spans a b : List ℕ) : Type 0 where
  pub size : length b ≡ length a
  pub front : (n : ℕ) → n < j → slot b (k + n) ≡ used_span count spans n
  pub fits : (n : ℕ) → n < j → used_span count spans n < 4294967296
  pub others : (x : ℕ) → Outside k (k + j) x → slot b x ≡ slot a x

-- once all eight are written, those in use are read back and the others are 0
pub spans_put : (i count : ℕ) (spans a b : List ℕ) → SpansFirst (18 * i + 8) 8 count spans a b → length spans ≡ 8 →
    SpansPut i count spans a b
unfolding stored_spans
spans_put i count spans a b done many =
    let f : ℕ → ℕ = λ (j : ℕ). slot b (18 * i + 8 + j) % 4294967296 in
    record {
      size = done.size;
      is = take_same count (tabulate f 8) spans (length_table f 8 ∙ sym many) (λ j used inside.
          let low : j < 8 = omega (arith, many) in
          let here : slot b (18 * i + 8 + j) ≡ get_or spans j 0 = done.front j low ∙
          cond_true (ltb j count) (get_or spans j 0) 0 (lt-ltb j count used) in
          let fits : slot b (18 * i + 8 + j) < 4294967296 = rw (done.front j low) (done.fits j low) in
          let whole : slot b (18 * i + 8 + j) % 4294967296 ≡ slot b (18 * i + 8 + j) = omega arith in
          table_at f 8 j 0 low ∙ whole ∙ here);
      form = within_all b (18 * i + 8) (span_limits count) (λ n inside.
          let used : n < spans_used count = rw (length-replicate (spans_used count) any_32) at inside in
          let here = done.front n (omega arith) in
          let fits = done.fits n (omega arith) in
          rw (get_or-replicate (spans_used count) n any_32 0 used) (omega arith));
      clean = λ j past low. done.front j low ∙ cond_false (ltb j count) (get_or spans j 0) 0 (le-ltb j count past);
      others = λ k out. done.others k (outside_as (18 * i + 8) (18 * i + 16) (18 * i + 8 + 8) k (omega arith) out);
    }
