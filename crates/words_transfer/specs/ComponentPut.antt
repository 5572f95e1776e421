-- What writing the record of a part into the words of a table changes: it is read back, but for places of spans that no
-- span is in, from words within their limits; its span words after the count are 0, and every other word is kept. The
-- idea: the three runs of a record lie apart from one another, so that each is still read back once the others are
-- written. Assumes nothing.
use Rattle.std.specs.Prelude.{ℕ, ◌+◌, ◌*◌, ◌%◌, ◌<◌, ◌≡◌, refl, List, length, take}
use Rattle.std.proofs.Common.{arith, ◌∙◌, inl, inr}
use Rattle.std.proofs.Math.Path.{ap}
use Rattle.std.proofs.Math.Bool.{true}
use Rattle.std.proofs.Math.ListN.{length-replicate}
use Rattle.machine.specs.declared.part.Component.{Component}
use Rattle.machine.specs.Model.{trimmed_component}
use Rattle.words_codec.specs.Tables.{table_same}
use Rattle.words_store.specs.ModelIn.{slot, table_words, stored_spans, stored_component, stored_ratio, ordered_part}
use Rattle.words_store.specs.Form.{any_32, operand_limits, spans_used, span_limits, words_within, component_spelled}
use Rattle.words_store.specs.Clean.{CleanSpans}
use Rattle.words_store.specs.WordsWritten.{Outside}
use Rattle.words_store.specs.Updated.{within_same}
use Rattle.words_transfer.specs.TableRuns.{OperandsPut, SpansPut, WiresPut}

-- the words b are the words a with the record of part i written anew: what the table fixes of it, its ratio, and the
-- number at its place of the order
pub record ComponentPut (i : ℕ) (c : Component) (ratio number : ℕ) (a b : List ℕ) : Type 0 where
  pub size : length b ≡ length a
  pub is : trimmed_component (stored_component b i) ≡ trimmed_component c
  pub ratio_is : stored_ratio b i ≡ ratio
  pub number_is : ordered_part b i ≡ number
  pub form : component_spelled b i ≡ true
  pub clean : CleanSpans b i
  pub others : (k : ℕ) → Outside (table_words i) (table_words (i + 1)) k → slot b k ≡ slot a k

-- the same words of a record give the same component
pub same_component : (a b : List ℕ) (j : ℕ) → ((x : ℕ) → x < table_words (j + 1) → slot b x ≡ slot a x) →
    stored_component b j ≡ stored_component a j
unfolding stored_component stored_spans
same_component a b j same =
    rw (
      same (18 * j + 2) (omega arith),
      same (18 * j + 3) (omega arith),
      same (18 * j + 4) (omega arith),
      same (18 * j + 5) (omega arith),
      same (18 * j + 6) (omega arith),
      same (18 * j + 7) (omega arith),
      same (18 * j + 16) (omega arith),
      same (18 * j + 17) (omega arith),
      table_same (λ (k : ℕ). slot b (18 * j + 8 + k) % 4294967296) (λ (k : ℕ). slot a (18 * j + 8 + k) % 4294967296) 8
          (λ k low. ap (λ (w : ℕ). w % 4294967296) (same (18 * j + 8 + k) (omega arith))),
    )
    refl

-- the three runs of a record, written one after another
module _
    (i : ℕ)
    (c : Component)
    (ratio number : ℕ)
    (a b d e : List ℕ)
    (operands : OperandsPut i c.kind c.preference c.a c.b c.p c.span_count a b)
    (spans : SpansPut i c.span_count c.spans b d)
    (wires : WiresPut i c.port0 c.port1 ratio number d e) where
  -- a word before the wires, and one before the spans, is still there
  after_spans : (k : ℕ) → k < 18 * i + 16 → slot e k ≡ slot d k
  after_spans k low = wires.others k (inl low)

  after_operands : (k : ℕ) → k < 18 * i + 8 → slot e k ≡ slot b k
  after_operands k low = after_spans k (omega arith) ∙ spans.others k (inl low)

  -- the count of spans is still there
  count : slot e (18 * i + 7) ≡ c.span_count
  count = after_operands (18 * i + 7) (omega arith) ∙ operands.count_is

  -- all are within their limits
  form : component_spelled e i ≡ true
  unfolding component_spelled
  form =
      let n = c.span_count in
      let first : words_within e (18 * i + 2) operand_limits ≡ true =
      within_same b e (18 * i + 2) operand_limits (λ x from to. after_operands x (omega arith)) ∙ operands.form in
      let second : words_within e (18 * i + 8) (span_limits (slot e (18 * i + 7))) ≡ true =
      ap (λ (k : ℕ). words_within e (18 * i + 8) (span_limits k)) count ∙
      within_same d e (18 * i + 8) (span_limits n)
      (λ x from to. after_spans x (omega (arith, length-replicate (spans_used n) any_32))) ∙
      spans.form in
      rw (first, second) wires.form

  -- those of spans after the count are 0
  clean : CleanSpans e i
  clean x past low =
      after_spans (18 * i + 8 + x) (omega arith) ∙ spans.clean x (omega (arith, count)) low

  -- every other word is kept
  others : (k : ℕ) → Outside (table_words i) (table_words (i + 1)) k → slot e k ≡ slot a k
  others k (inl low) = after_operands k (omega arith) ∙ operands.others k (inl low)
  others k (inr high) =
      wires.others k (inr (omega arith)) ∙ spans.others k (inr (omega arith)) ∙ operands.others k (inr (omega arith))

  -- the spans are read back
  spans_back : take c.span_count (stored_spans e i) ≡ take c.span_count c.spans
  unfolding stored_spans
  spans_back =
      ap (take c.span_count)
      (table_same (λ (j : ℕ). slot e (18 * i + 8 + j) % 4294967296) (λ (j : ℕ). slot d (18 * i + 8 + j) % 4294967296) 8
      (λ j low. ap (λ (w : ℕ). w % 4294967296) (after_spans (18 * i + 8 + j) (omega arith)))) ∙
      spans.is

  -- and so is the whole record
  pub component_put : ComponentPut i c ratio number a e
  unfolding stored_component trimmed_component
  component_put =
      record {
        size = wires.size ∙ spans.size ∙ operands.size;
        is =
            rw (
              after_operands (18 * i + 2) (omega arith),
              after_operands (18 * i + 3) (omega arith),
              after_operands (18 * i + 4) (omega arith),
              after_operands (18 * i + 5) (omega arith),
              after_operands (18 * i + 6) (omega arith),
              count,
              operands.kind_is,
              operands.preference_is,
              operands.a_is,
              operands.b_is,
              operands.p_is,
              spans_back,
              wires.port0_is,
              wires.port1_is,
            )
            refl;
        ratio_is = wires.ratio_is;
        number_is = wires.number_is;
        form = form;
        clean = clean;
        others = others;
      }
