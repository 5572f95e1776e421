-- The bytes of a table part by part: what one part more adds to them, how long they are, and what a table that fits
-- grants of the words of each part. Assumes nothing.
use Prim.Native.Nat.{ℕ, zero, suc, ◌+◌, ◌*◌, ◌-◌, ◌≤◌, ◌<◌}
use native.Mathlib.Nat.{add-zero, add-suc}
use native.Mathlib.Numerals.{add-one}
use native.Mathlib.Omega.{arith}
use mathlib.Core.Path.{◌≡◌, refl, ap, ◌∙◌}
use mathlib.Core.Bool.{true}
use mathlib.Core.List.{List, [], ◌∷◌, ◌++◌, append_assoc, append-nil}
use lib.ListN.{length, length-append}
use lib.Dec.{ltb}
use borrow.Author.Tests.{ltb-true}
use Rattle.machine.specs.declared.part.Source.{Source}
use Rattle.machine.specs.declared.part.Source.TheVariants.{Unwired, From}
use Rattle.machine.specs.declared.part.Component.{Component}
use Rattle.machine.specs.Kind.{operands_fit, ports}
use Rattle.machine.specs.Model.{most_parts, blank_component, trimmed_component}
use Rattle.machine.specs.Sound.{source_fits, table_fits}
use Rattle.machine.specs.TableBytes.{part_bytes, spans_bytes, parts_bytes, port_bytes}
use Rattle.machine.specs.TableBytes.{wires_bytes}
use Rattle.laws.specs.Bools.{and_right}
use Rattle.laws.specs.ListLaws.{all_at}
use Rattle.sound_laws.specs.Facts.{ComponentFits, table_facts}
use Rattle.sound_laws.specs.ByteLengths.{spans_length, part_length, few_spans}
use Rattle.words_codec.specs.Words.{tabulate}
use Rattle.words_codec.specs.Tables.{length_table, table_at}
use Rattle.words_store.specs.ModelIn.{part_count, stored_component}
use Rattle.save_call.specs.LentTable.{lent_component, lent_table, SourceInByte, part_text, wires_text}

-- one part more
parts_added : (cs : List Component) (c : Component) → parts_bytes (cs ++ (c ∷ [])) ≡ parts_bytes cs ++ part_text c
unfolding parts_bytes part_text
parts_added [] c = simp append-nil
parts_added (d ∷ cs) c = simp (parts_added cs c, append_assoc)

pub parts_bytes_more : (f : ℕ → Component) (i : ℕ) → parts_bytes (tabulate f (i + 1)) ≡ parts_bytes (tabulate f i) ++
    part_text (f i)
unfolding tabulate
parts_bytes_more f i = rw add-one (parts_added (tabulate f i) (f i))

-- and the wires into it, part numbers going on from k
wires_added : (k : ℕ) (cs : List Component) (c : Component) →
    wires_bytes k (cs ++ (c ∷ [])) ≡ wires_bytes k cs ++ wires_text (k + length cs) c
unfolding wires_bytes wires_text
wires_added k [] c = simp (append-nil, add-zero)
wires_added k (d ∷ cs) c =
    let there : suc k + length cs ≡ k + length (d ∷ cs) = omega arith in
    rw (wires_added (suc k) cs c, there) (simp append_assoc)

pub wires_bytes_more : (f : ℕ → Component) (i : ℕ) →
    wires_bytes 0 (tabulate f (i + 1)) ≡ wires_bytes 0 (tabulate f i) ++ wires_text i (f i)
unfolding tabulate
wires_bytes_more f i =
    let here : 0 + length (tabulate f i) ≡ i = omega (arith, length_table f i) in
    rw add-one (wires_added 0 (tabulate f i) (f i) ∙
    ap (λ (n : ℕ). wires_bytes 0 (tabulate f i) ++ wires_text n (f i)) here)

-- how long they are
pub text_length : (c : Component) → length (part_text c) ≡ 15 + 5 * length c.spans
unfolding part_text
text_length c = omega (
  arith,
  length-append (part_bytes c) (spans_bytes c.spans),
  part_length c,
  spans_length c.spans,
)

pub port_length : (receiver port : ℕ) (s : Source) → length (port_bytes receiver port s) ≡ length (port_bytes 0 0 s)
unfolding port_bytes
port_length receiver port Unwired = refl
port_length receiver port (From k) = refl

pub wires_length : (i : ℕ) (c : Component) →
    length (wires_text i c) ≡ length (port_bytes 0 0 c.port0) + length (port_bytes 0 0 c.port1)
unfolding wires_text
wires_length i c =
    omega (
      arith,
      length-append (port_bytes i 0 c.port0) (port_bytes i 1 c.port1),
      port_length i 0 c.port0,
      port_length i 1 c.port1,
    )

-- a text that grows by a piece at each number is as long at a later one
grown : (g h : ℕ → List ℕ) → ((i : ℕ) → g (i + 1) ≡ g i ++ h i) → (i k : ℕ) → length (g i) ≤ length (g (i + k))
grown g h more i zero = rw add-zero (omega arith)
grown g h more i (suc k) =
    let step : g (i + suc k) ≡ g (i + k) ++ h (i + k) = rw (add-suc, ← add-one) (more (i + k)) in
    rw step (omega (arith, length-append (g (i + k)) (h (i + k)), grown g h more i k))

pub grows : (g h : ℕ → List ℕ) → ((i : ℕ) → g (i + 1) ≡ g i ++ h i) → (i n : ℕ) → i ≤ n → length (g i) ≤ length (g n)
grows g h more i n low =
    let sum : i + (n - i) ≡ n = omega arith in
    rw sum at (grown g h more i (n - i))

-- what holds of the words of part i where the table fits
pub record SavablePart (ts : List ℕ) (i : ℕ) : Type 0 where
  pub operands : operands_fit (stored_component ts i).kind (stored_component ts i).a (stored_component ts i).b
      (stored_component ts i).p ≡ true
  pub counted : (stored_component ts i).span_count ≡ length (lent_component ts i).spans
  pub spans : (stored_component ts i).span_count ≤ 8
  pub port0 : SourceInByte (stored_component ts i).port0
  pub port1 : SourceInByte (stored_component ts i).port1

-- a source that fits into a table of at most 32 parts
fitting_source : (n many port : ℕ) (s : Source) → n ≤ most_parts → source_fits n many port s ≡ true → SourceInByte s
unfolding source_fits
fitting_source n many port Unwired few fits = tt
fitting_source n many port (From k) few fits = omega (arith, ltb-true k n (and_right (ltb port many) (ltb k n) fits))

module _ (ts : List ℕ) (fits : table_fits (lent_table ts) ≡ true) where
  -- it has from 1 to 32 parts
  pub some_parts : (1 ≤ part_count ts) × (part_count ts ≤ most_parts)
  unfolding lent_table
  some_parts =
      let f = table_facts (lent_table ts) fits in
      let many = length_table (lent_component ts) (part_count ts) in
      (omega (arith, many, f.some), omega (arith, many, f.few))

  -- and each is as its words' table asks
  pub part_fits_at : (i : ℕ) → i < part_count ts → SavablePart ts i
  unfolding lent_table lent_component trimmed_component
  part_fits_at i low =
      let f = table_facts (lent_table ts) fits in
      let n = length (lent_table ts).parts in
      let inside : i < n = omega (arith, length_table (lent_component ts) (part_count ts)) in
      let here : ComponentFits n (lent_component ts i) =
      rw (table_at (lent_component ts) (part_count ts) i blank_component low) at
      (all_at (ComponentFits n) (lent_table ts).parts blank_component i f.components inside) in
      record {
        operands = here.operands;
        counted = here.counted;
        spans = omega (arith, here.counted, few_spans n (lent_component ts i) here);
        port0 = fitting_source n (ports (lent_component ts i).kind) 0 (lent_component ts i).port0 f.few
            here.port0;
        port1 = fitting_source n (ports (lent_component ts i).kind) 1 (lent_component ts i).port1 f.few
            here.port1;
      }

-- the lengths with one part more, as its words tell them
module _ (ts : List ℕ) (i : ℕ) (fit : SavablePart ts i) where
  pub parts_counted :
      length (parts_bytes (tabulate (lent_component ts) (i + 1))) ≡
      length (parts_bytes (tabulate (lent_component ts) i)) + (15 + 5 * (stored_component ts i).span_count)
  parts_counted =
      rw (parts_bytes_more (lent_component ts) i)
      (omega (
        arith,
        length-append (parts_bytes (tabulate (lent_component ts) i)) (part_text (lent_component ts i)),
        text_length (lent_component ts i),
        fit.counted,
      ))

  pub wires_counted :
      length (wires_bytes 0 (tabulate (lent_component ts) (i + 1))) ≡
      length (wires_bytes 0 (tabulate (lent_component ts) i)) +
      (length (port_bytes 0 0 (stored_component ts i).port0) + length (port_bytes 0 0 (stored_component ts i).port1))
  unfolding lent_component trimmed_component
  wires_counted =
      rw (wires_bytes_more (lent_component ts) i)
      (omega (
        arith,
        length-append (wires_bytes 0 (tabulate (lent_component ts) i)) (wires_text i (lent_component ts i)),
        wires_length i (lent_component ts i),
      ))

-- with a part of the table and its wires, no more than those of all parts
module _ (ts : List ℕ) (i : ℕ) (low : i < part_count ts) where
  pub parts_within : length (parts_bytes (tabulate (lent_component ts) (i + 1))) ≤ length
      (parts_bytes (lent_table ts).parts)
  unfolding lent_table
  parts_within =
      grows (λ (n : ℕ). parts_bytes (tabulate (lent_component ts) n)) (λ (n : ℕ). part_text (lent_component ts n))
      (parts_bytes_more (lent_component ts)) (i + 1)
      (part_count ts) (omega arith)

  pub wires_within : length (wires_bytes 0 (tabulate (lent_component ts) (i + 1))) ≤ length
      (wires_bytes 0 (lent_table ts).parts)
  unfolding lent_table
  wires_within =
      grows (λ (n : ℕ). wires_bytes 0 (tabulate (lent_component ts) n)) (λ (n : ℕ). wires_text n (lent_component ts n))
      (wires_bytes_more (lent_component ts)) (i + 1)
      (part_count ts) (omega arith)
