-- Sheet lines: a line of which nothing is wider than its field has 78 printed columns and a line feed, and reads back
-- as what it shows, so that lines that show different things differ. The idea: a row's fields are its texts, each of
-- which reads back; and a row has no character beyond the digits, so that it does not begin with the r of a refusal.
-- Assumes nothing.
use Rattle.std.specs.Prelude.{ℕ, suc, ◌-◌, ◌≤◌, ◌<◌, ◌≡◌, true, false, ◌&&◌, get_or, pos, negsuc, eqb, leb, ltb}
use native.Mathlib.Omega.{arith}
use Rattle.std.proofs.Math.Path.{refl, ap}
use Rattle.std.proofs.Common.{sym, ◌∙◌, length-append, leb-true, ltb-true, ne_eqb}
use mathlib.Core.List.{List, [], ◌∷◌, ◌++◌, map}
use Rattle.std.proofs.Math.ListN.{length, replicate, get_or-append}
use Rattle.machine.specs.declared.signal.Signal.{Signal}
use Rattle.machine.specs.declared.signal.Signal.TheVariants.{Absent, Value}
use Rattle.machine.specs.Lists.{every, All}
use Rattle.machine.specs.Rehearse.{blank, line_feed, refused_text, decimal, signed_decimal, signal_text}
use Rattle.machine.specs.Sheet.{Shown, ShownStep, ShownRefusal, SheetLine, sheet_widths, sheet_columns, tick_width}
use Rattle.machine.specs.Sheet.{microstep_width, step_width, rounds_width, revisions_width, output_width, field_texts}
use Rattle.machine.specs.Sheet.{filled_up, refused_row, shown_line, shown_fits, number_taken, is_digit, digits_read}
use Rattle.machine.specs.Sheet.{number_read, ordered_part, signal_at, fields_read, sheet_read}
use Rattle.laws.specs.Bools.{and_left, and_right}
use Rattle.laws.specs.Alls.{every_all, all_append, all_give}
use Rattle.laws.specs.ListLaws.{all_at}
use Rattle.write_laws.specs.Decimal.{word_digits}
use Rattle.write_laws.specs.SheetReads.{Digit, all_digits, read_append, read_blanks, decimal_read, number_aligned}
use Rattle.write_laws.specs.SheetReads.{signal_aligned}
use Rattle.write_laws.specs.SheetRows.{LineColumns, Filled, fit_filled, row_columns, row_fields, filled_length}
use Rattle.write_laws.specs.SheetRows.{all_filled}

-- a character that is printed, and one of a committed answer's: a blank, a hyphen or a digit, none beyond 9
abbrev Printed : ℕ → Type 0
Printed c = (blank ≤ c) × (c < 127)

abbrev Plain : ℕ → Type 0
Plain c = (blank ≤ c) × (c ≤ 57)

-- the characters of a number and of an output are plain
plain_decimal : (n : ℕ) → All Plain (decimal n)
plain_decimal n = all_give Digit Plain (decimal n) (λ c h. (omega arith, omega arith)) (all_digits n)

plain_signal : (x : Signal) → All Plain (signal_text x)
unfolding signal_text signed_decimal
plain_signal Absent = ((omega arith, omega arith), tt)
plain_signal (Value (pos n)) = plain_decimal n
plain_signal (Value (negsuc n)) = ((omega arith, omega arith), plain_decimal (suc n))

-- .. and so of as many as there are
plain_decimals : (ns : List ℕ) → All (All Plain) (map decimal ns)
plain_decimals [] = tt
plain_decimals (n ∷ ns) = (plain_decimal n, plain_decimals ns)

plain_signals : (xs : List Signal) → All (All Plain) (map signal_text xs)
plain_signals [] = tt
plain_signals (x ∷ xs) = (plain_signal x, plain_signals xs)

-- plain characters are printed, and so are those of `refused `
plain_printed : (l : List ℕ) → All Plain l → All Printed l
plain_printed l = all_give Plain Printed l (λ c h. (h.0, omega arith))

printed_word : All Printed refused_text
unfolding every
printed_word =
    every_all Printed (λ c. leb blank c && ltb c 127) refused_text (λ c e.
    (leb-true blank c (and_left (leb blank c) (ltb c 127) e), ltb-true c 127 (and_right (leb blank c) (ltb c 127) e)))
    refl

-- a committed answer
module _ (t n step rounds revisions : ℕ) (x y z : Signal)
    (fits : shown_fits (ShownStep t n step rounds revisions x y z) ≡ true) where
  -- its texts fill their fields
  step_filled : Filled Plain sheet_widths (field_texts t n step rounds revisions x y z)
  unfolding field_texts shown_fits
  step_filled =
      let numbers = t ∷ n ∷ step ∷ rounds ∷ revisions ∷ [] in
      let outputs = x ∷ y ∷ z ∷ [] in
      fit_filled Plain sheet_widths (field_texts t n step rounds revisions x y z) refl
      (all_append (All Plain) (map decimal numbers) (map signal_text outputs) (plain_decimals numbers)
      (plain_signals outputs)) fits

  -- its line has plain columns
  step_columns : LineColumns Plain sheet_columns (shown_line (ShownStep t n step rounds revisions x y z))
  unfolding field_texts shown_line
  step_columns =
      row_columns Plain tick_width
      (microstep_width ∷ step_width ∷ rounds_width ∷ revisions_width ∷ output_width ∷ output_width ∷ output_width ∷ [])
      (field_texts t n step rounds revisions x y z) (omega arith, omega arith) step_filled

  -- so that it does not begin as a refusal
  step_begins : eqb (get_or (shown_line (ShownStep t n step rounds revisions x y z)) 0 0) 114 ≡ false
  step_begins =
      let has = step_columns in
      let columns = has.columns in
      let some : 0 < length columns = omega (arith, has.many) in
      let low : Plain (get_or columns 0 0) = all_at Plain columns 0 0 has.each some in
      rw (has.whole, get_or-append columns (line_feed ∷ []) 0 0 some)
      (ne_eqb (get_or columns 0 0) 114 (λ e. omega arith))

  -- it reads back
  step_reads : sheet_read (shown_line (ShownStep t n step rounds revisions x y z)) ≡
      ShownStep t n step rounds revisions x y z
  unfolding sheet_read shown_line fields_read ordered_part signal_at field_texts
  step_reads =
      simp (
        step_begins,
        row_fields Plain sheet_widths (field_texts t n step rounds revisions x y z) step_filled,
        number_aligned,
        signal_aligned,
      )

-- a refusal
module _ (k : ℕ) (taken : k < 18_446_744_073_709_551_616) where
  -- its line has printed columns
  refusal_columns : LineColumns Printed sheet_columns (shown_line (ShownRefusal k))
  unfolding shown_line refused_row
  refusal_columns =
      let few : length (decimal k) ≤ 20 = word_digits k taken in
      let text = refused_text ++ decimal k in
      let printed = all_append Printed refused_text (decimal k) printed_word
      (plain_printed (decimal k) (plain_decimal k)) in
      record {
        columns = filled_up sheet_columns text;
        many = filled_length sheet_columns text (omega arith);
        each = all_filled Printed sheet_columns text (omega arith, omega arith) printed;
        whole = refl;
      }

  -- and reads back
  refusal_reads : sheet_read (shown_line (ShownRefusal k)) ≡ ShownRefusal k
  unfolding sheet_read shown_line refused_row filled_up number_read digits_read is_digit
  refusal_reads =
      let blanks = sheet_columns - length (refused_text ++ decimal k) in
      ap ShownRefusal (read_append 0 (decimal k ++ replicate blanks blank) (line_feed ∷ []) ∙
      read_append 0 (decimal k) (replicate blanks blank) ∙
      read_blanks (digits_read 0 (decimal k)) blanks ∙ decimal_read k)

-- every line has 78 columns that are printed, and a line feed
shown_columns : (s : Shown) → shown_fits s ≡ true → number_taken s → LineColumns Printed sheet_columns (shown_line s)
shown_columns (ShownStep t n step rounds revisions x y z) fits taken =
    let has = step_columns t n step rounds revisions x y z fits in
    record {
      columns = has.columns;
      many = has.many;
      each = plain_printed has.columns has.each;
      whole = has.whole;
    }
shown_columns (ShownRefusal k) fits taken = refusal_columns k taken

pub shown_length : (s : Shown) → shown_fits s ≡ true → number_taken s → length (shown_line s) ≡ 79
shown_length s fits taken =
    let has = shown_columns s fits taken in
    rw (has.whole, length-append has.columns (line_feed ∷ []), has.many) refl

-- every line reads back
shown_reads : (s : Shown) → shown_fits s ≡ true → number_taken s → sheet_read (shown_line s) ≡ s
shown_reads (ShownStep t n step rounds revisions x y z) fits taken = step_reads t n step rounds revisions x y z fits
shown_reads (ShownRefusal k) fits taken = refusal_reads k taken

-- the claims of a line
pub every_sheet_line : (s : Shown) → shown_fits s ≡ true → number_taken s → SheetLine s
every_sheet_line s fits taken =
    let has = shown_columns s fits taken in
    record {
      columns = has.columns;
      wide = has.many;
      printed = has.each;
      line = has.whole;
      reads = shown_reads s fits taken;
      apart = λ other fits₂ taken₂ e. sym (shown_reads s fits taken) ∙ ap sheet_read e ∙ shown_reads other fits₂ taken₂;
    }
