-- Document 02, request 5, "Print the rehearsal": what a sheet line shows of an answer, the line itself, what refuses
-- it, and a reader of such lines. Assumes nothing.
use Rattle.std.specs.Prelude.{ℕ, zero, suc, ◌+◌, ◌-◌, ◌*◌, ◌≤◌, ◌<◌, ◌≡◌, Bool, true, cond, ◌&&◌, List, [], ◌∷◌, ◌++◌}
use Rattle.std.specs.Prelude.{eqb, leb, ltb, ℤ, pos, negsuc, length, get_or, take, drop, replicate}
use Rattle.machine.specs.declared.signal.Signal.{Signal}
use Rattle.machine.specs.declared.signal.Signal.TheVariants.{Absent, Value}
use Rattle.machine.specs.declared.model.Model.{Model}
use Rattle.machine.specs.declared.model.Answer.{Answer}
use Rattle.machine.specs.Lists.{any, member, All}
use Rattle.machine.specs.Time.{tick}
use Rattle.machine.specs.Model.{part_at}
use Rattle.machine.specs.Sound.{sound}
use Rattle.machine.specs.Rehearse.{blank, hyphen, line_feed, refused_text, decimal, signal_text}

-- "t in 19, n in 3, step in 10, rounds in 4, revisions in 2, then three chosen outputs in 11 each"
abbrev pub tick_width : ℕ
tick_width = 19

abbrev pub microstep_width : ℕ
microstep_width = 3

abbrev pub step_width : ℕ
step_width = 10

abbrev pub rounds_width : ℕ
rounds_width = 4

abbrev pub revisions_width : ℕ
revisions_width = 2

abbrev pub output_width : ℕ
output_width = 11

-- the widths of the fields, from left to right
abbrev pub sheet_widths : List ℕ
sheet_widths =
    tick_width ∷ microstep_width ∷ step_width ∷ rounds_width ∷ revisions_width ∷ output_width ∷ output_width ∷
    output_width ∷ []

-- "A sheet line has 78 columns and a line feed"
abbrev pub sheet_columns : ℕ
sheet_columns = 78

-- what a line shows of an answer: of a committed one t, n, step, rounds, revisions and the three chosen outputs, of a
-- refused one its number
pub data Shown : Type 0 where
  ShownStep : (t n step rounds revisions : ℕ) → (first second third : Signal) → Shown
  ShownRefusal : ℕ → Shown

-- the stored output of part k
unfoldable pub output_of : Model → ℕ → Signal
output_of m k = (part_at m.parts k).state.output

-- what is shown of an answer, the chosen parts being those with the numbers a, b and c
unfoldable pub shown : Answer → (a b c : ℕ) → Shown
shown r a b c =
    let m = r.model in
    cond (eqb r.number 0)
    (ShownStep (tick m.point) m.point.n r.step r.rounds r.revisions (output_of m a) (output_of m b)
    (output_of m c))
    (ShownRefusal r.number)

-- "Fields are right-aligned"
unfoldable pub right_aligned : ℕ → List ℕ → List ℕ
right_aligned width text = replicate (width - length text) blank ++ text

-- "filled with blanks"
unfoldable pub filled_up : ℕ → List ℕ → List ℕ
filled_up width text = text ++ replicate (width - length text) blank

-- what is after a field, by the widths of those that follow it: "one blank between", and the line feed after the last
abbrev pub behind_field : List ℕ → ℕ
behind_field [] = line_feed
behind_field (w ∷ ws) = blank

-- texts in fields of these widths
unfoldable pub row : (widths : List ℕ) → List (List ℕ) → List ℕ
row [] texts = []
row (w ∷ ws) [] = []
row (w ∷ ws) (t ∷ ts) = right_aligned w t ++ (behind_field ws ∷ row ws ts)

-- no text is wider than its field
unfoldable pub texts_fit : (widths : List ℕ) → List (List ℕ) → Bool
texts_fit [] texts = true
texts_fit (w ∷ ws) [] = true
texts_fit (w ∷ ws) (t ∷ ts) = leb (length t) w && texts_fit ws ts

-- the texts of a committed answer's fields: numbers in base ten; "Absent is a single -"
unfoldable pub field_texts : (t n step rounds revisions : ℕ) → (first second third : Signal) → List (List ℕ)
field_texts t n step rounds revisions x y z =
    decimal t ∷ decimal n ∷ decimal step ∷ decimal rounds ∷ decimal revisions ∷ signal_text x ∷ signal_text y ∷
    signal_text z ∷ []

-- "A refused advance is `refused N` filled with blanks to 78"
unfoldable pub refused_row : ℕ → List ℕ
refused_row number = filled_up sheet_columns (refused_text ++ decimal number) ++ (line_feed ∷ [])

-- the line
unfoldable pub shown_line : Shown → List ℕ
shown_line (ShownStep t n step rounds revisions x y z) = row sheet_widths (field_texts t n step rounds revisions x y z)
shown_line (ShownRefusal number) = refused_row number

-- "a committed answer handed in has a number wider than its field": it has not
unfoldable pub shown_fits : Shown → Bool
shown_fits (ShownStep t n step rounds revisions x y z) =
    texts_fit sheet_widths (field_texts t n step rounds revisions x y z)
shown_fits (ShownRefusal number) = true

-- the model has a part of that number
unfoldable pub has_part : Model → ℕ → Bool
has_part m k = ltb k (length m.parts)

-- the sheet line of an answer and three chosen parts
unfoldable pub sheet_line : Answer → (a b c : ℕ) → List ℕ
sheet_line r a b c = shown_line (shown r a b c)

-- what refuses it before 25 is tested: 24, "the answer's model" is not sound; then "26, if a chosen part doesn't exist,
-- or a committed answer handed in has a number wider than its field"
unfoldable pub sheet_refusal : Answer → (a b c : ℕ) → ℕ
sheet_refusal r a b c =
    cond (sound r.model) (cond (has_part r.model a && has_part r.model b && has_part r.model c &&
    shown_fits (shown r a b c)) 0 26) 24

-- A reader of sheet lines. The character is a digit
unfoldable pub is_digit : ℕ → Bool
is_digit c = leb 48 c && leb c 57

-- the number that the digits of a text spell, in base ten, after those that spell n
unfoldable pub digits_read : ℕ → List ℕ → ℕ
digits_read n [] = n
digits_read n (c ∷ cs) = digits_read (cond (is_digit c) (10 * n + (c - 48)) n) cs

-- the number in a field
unfoldable pub number_read : List ℕ → ℕ
number_read cs = digits_read 0 cs

-- the number with a hyphen before it
abbrev pub opposite : ℕ → ℤ
opposite zero = pos 0
opposite (suc n) = negsuc n

-- the signal in a field: absent where it has no digit, negative where it has a hyphen
unfoldable pub signal_read : List ℕ → Signal
signal_read cs = cond (any is_digit cs)
    (Value (cond (member hyphen cs) (opposite (number_read cs)) (pos (number_read cs)))) Absent

-- the fields of a line, by their widths: after each is one character more
unfoldable pub fields_of : (widths : List ℕ) → List ℕ → List (List ℕ)
fields_of [] line = []
fields_of (w ∷ ws) line = take w line ∷ fields_of ws (drop (suc w) line)

-- what is in field k
unfoldable pub ordered_part : List (List ℕ) → ℕ → ℕ
ordered_part fs k = number_read (get_or fs k [])

unfoldable pub signal_at : List (List ℕ) → ℕ → Signal
signal_at fs k = signal_read (get_or fs k [])

-- what fields show
unfoldable pub fields_read : List (List ℕ) → Shown
fields_read fs =
    ShownStep (ordered_part fs 0) (ordered_part fs 1) (ordered_part fs 2) (ordered_part fs 3) (ordered_part fs 4)
    (signal_at fs 5) (signal_at fs 6) (signal_at fs 7)

-- what a line shows: a refusal where it begins with the r of `refused `, else its fields
unfoldable pub sheet_read : List ℕ → Shown
sheet_read line =
    cond (eqb (get_or line 0 0) 114) (ShownRefusal (number_read (drop (length refused_text) line)))
    (fields_read (fields_of sheet_widths line))

-- the refused numbers that a call can be handed: those of 64 bits
abbrev pub number_taken : Shown → Type 0
number_taken (ShownStep t n step rounds revisions x y z) = Unit {0}
number_taken (ShownRefusal number) = number < 18_446_744_073_709_551_616

-- The claims of a line of which nothing is wider than its field.
pub record SheetLine (s : Shown) : Type 0 where
  -- "78 columns and a line feed": each column holds a character that is printed, and so no line feed
  pub columns : List ℕ
  pub wide : length columns ≡ sheet_columns
  pub printed : All (λ (c : ℕ). (blank ≤ c) × (c < 127)) columns
  pub line : shown_line s ≡ columns ++ (line_feed ∷ [])
  -- field by field it reads back as what is shown ..
  pub reads : sheet_read (shown_line s) ≡ s
  -- .. so that no line that shows something else is the same
  pub apart : (other : Shown) → shown_fits other ≡ true → number_taken other → shown_line s ≡ shown_line other →
      s ≡ other
