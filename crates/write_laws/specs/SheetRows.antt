-- Rows of texts in fields: where each text is as wide as its field or less, the row is its columns and a line feed, and
-- its fields are the texts, each right-aligned. The idea: a field then has its width, so that the next begins one
-- character after it. Assumes nothing.
use Rattle.std.specs.Prelude.{ℕ, zero, suc, ◌+◌, ◌-◌, ◌≤◌, ◌≡◌, refl, true, List, [], ◌∷◌, ◌++◌, length, drop}
use Rattle.std.specs.Prelude.{replicate, leb}
use Rattle.std.proofs.Common.{add-one, arith, sym, ap, ap₂, ◌∙◌, append_assoc, length-append, take_at, leb-true}
use Rattle.std.proofs.lemmas.List.{length-replicate}
use Rattle.std.proofs.Math.Seq.{drop-append-add}
use Rattle.machine.specs.Lists.{All}
use Rattle.machine.specs.Rehearse.{blank, line_feed}
use Rattle.machine.specs.Sheet.{right_aligned, filled_up, row, texts_fit, fields_of, behind_field}
use Rattle.laws.specs.Bools.{and_left, and_right}
use Rattle.laws.specs.Alls.{all_append}

-- a text in a field that is wide enough fills it
pub aligned_length : (w : ℕ) (t : List ℕ) → length t ≤ w → length (right_aligned w t) ≡ w
unfolding right_aligned
aligned_length w t h = simp (length-append, length-replicate) (omega arith)

-- so does one filled up after
pub filled_length : (w : ℕ) (t : List ℕ) → length t ≤ w → length (filled_up w t) ≡ w
unfolding filled_up
filled_length w t h = simp (length-append, length-replicate) (omega arith)

-- what holds of a blank holds of any number of them
all_blanks : (P : ℕ → Type 0) (k : ℕ) → P blank → All P (replicate k blank)
all_blanks P zero p = tt
all_blanks P (suc k) p = (p, all_blanks P k p)

-- for each field a text, no wider than it and of characters that have P
abbrev pub Filled : (P : ℕ → Type 0) → (widths : List ℕ) → List (List ℕ) → Type 0
Filled P [] [] = Unit {0}
Filled P [] (t ∷ ts) = ⊥
Filled P (w ∷ ws) [] = ⊥
Filled P (w ∷ ws) (t ∷ ts) = (length t ≤ w) × All P t × Filled P ws ts

-- so it is with texts that fit, as many as there are fields
pub fit_filled : (P : ℕ → Type 0) (ws : List ℕ) (ts : List (List ℕ)) → length ts ≡ length ws → All (All P) ts →
    texts_fit ws ts ≡ true → Filled P ws ts
unfolding texts_fit
fit_filled P [] [] same all fit = tt
fit_filled P [] (t ∷ ts) same all fit = absurd (omega arith)
fit_filled P (w ∷ ws) [] same all fit = absurd (omega arith)
fit_filled P (w ∷ ws) (t ∷ ts) same all fit = (
  leb-true (length t) w (and_left (leb (length t) w) (texts_fit ws ts) fit),
  all.0,
  fit_filled P ws ts (omega arith) all.1 (and_right (leb (length t) w) (texts_fit ws ts) fit),
)

-- how many columns fields have, with one between
abbrev pub columns_wide : ℕ → List ℕ → ℕ
columns_wide w [] = w
columns_wide w (v ∷ ws) = w + suc (columns_wide v ws)

-- a line's columns, so many and of characters that have P, with the line feed after them
pub record LineColumns (P : ℕ → Type 0) (wide : ℕ) (line : List ℕ) : Type 0 where
  pub columns : List ℕ
  pub many : length columns ≡ wide
  pub each : All P columns
  pub whole : line ≡ columns ++ (line_feed ∷ [])

-- what holds of a blank and of a text's characters holds of those of its field, and of the text filled up
all_aligned : (P : ℕ → Type 0) (w : ℕ) (t : List ℕ) → P blank → All P t → All P (right_aligned w t)
unfolding right_aligned
all_aligned P w t p h = all_append P (replicate (w - length t) blank) t (all_blanks P (w - length t) p) h

pub all_filled : (P : ℕ → Type 0) (w : ℕ) (t : List ℕ) → P blank → All P t → All P (filled_up w t)
unfolding filled_up
all_filled P w t p h = all_append P t (replicate (w - length t) blank) h (all_blanks P (w - length t) p)

-- a row has columns
pub row_columns :
    (P : ℕ → Type 0) (w : ℕ) (ws : List ℕ) (ts : List (List ℕ)) → P blank → Filled P (w ∷ ws) ts →
    LineColumns P (columns_wide w ws) (row (w ∷ ws) ts)
unfolding row
row_columns P w ws [] p h = absurd h
row_columns P w [] (t ∷ []) p h =
    record {
      columns = right_aligned w t;
      many = aligned_length w t h.0;
      each = all_aligned P w t p h.1;
      whole = refl;
    }
row_columns P w [] (t ∷ u ∷ ts) p h = absurd h.2
row_columns P w (v ∷ ws) (t ∷ ts) p h =
    let rest = row_columns P v ws ts p h.2 in
    let text = right_aligned w t in
    record {
      columns = text ++ (blank ∷ rest.columns);
      many = simp (length-append, aligned_length w t h.0, rest.many) refl;
      each = all_append P text (blank ∷ rest.columns) (all_aligned P w t p h.1) (p, rest.each);
      whole = ap (λ l. text ++ (blank ∷ l)) rest.whole ∙
          sym (append_assoc text (blank ∷ rest.columns) (line_feed ∷ []));
    }

-- the texts in their fields
abbrev pub aligned : (widths : List ℕ) → List (List ℕ) → List (List ℕ)
aligned [] ts = []
aligned (w ∷ ws) [] = []
aligned (w ∷ ws) (t ∷ ts) = right_aligned w t ∷ aligned ws ts

-- what is after a field of width w and the character after it
drop_field : (w b : ℕ) (t rest : List ℕ) → length t ≡ w → drop (suc w) (t ++ (b ∷ rest)) ≡ rest
drop_field w b t rest e = rw (← e, ← add-one (length t)) (drop-append-add t (b ∷ rest) 1)

-- a row's fields are those
pub row_fields : (P : ℕ → Type 0) (ws : List ℕ) (ts : List (List ℕ)) → Filled P ws ts →
    fields_of ws (row ws ts) ≡ aligned ws ts
unfolding fields_of row
row_fields P [] ts h = refl
row_fields P (w ∷ ws) [] h = absurd h
row_fields P (w ∷ ws) (t ∷ ts) h =
    let e = aligned_length w t h.0 in
    ap₂ ◌∷◌ (take_at (right_aligned w t) (behind_field ws ∷ row ws ts) w e)
    (ap (fields_of ws) (drop_field w (behind_field ws) (right_aligned w t) (row ws ts) e) ∙ row_fields P ws ts h.2)
