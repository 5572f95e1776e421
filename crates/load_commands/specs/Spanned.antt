-- What a Span leaves that is not refused, in the rows and in the reading. Assumes nothing.
use Rattle.std.specs.Prelude.{ℕ, ◌-◌, ◌<◌, ◌≡◌, true, List, [], length, get_or, set, take}
use Rattle.machine.specs.Table.{component_at}
use Rattle.load_commands.specs.declared.progress.Progress.{Progress}
use Rattle.machine.specs.Load.{Reading, with_component, with_span}

-- the rows with a span in place n of row k
unfoldable pub row_with : List (List ℕ) → (k n v : ℕ) → List (List ℕ)
row_with rows k n v = set rows k (set (get_or rows k []) n v)

-- the last of a list of spans, 0 where there is none
unfoldable pub last_of : List ℕ → ℕ
last_of spans = get_or spans (length spans - 1) 0

-- the last of the first n spans of a row that has its eight places
pub record LastOf (row : List ℕ) (n r : ℕ) : Type 0 where
  pub is : r ≡ last_of (take n row)
  pub eight : length row ≡ 8

-- the reading with a span more at part k
unfoldable pub spanned_reading : Reading → (k v : ℕ) → Reading
spanned_reading rd k v = with_component rd true k (with_span (component_at rd.table.parts k) v)

-- the place of the last part, and how many spans it counts
abbrev pub last_place : Progress → ℕ
last_place progress = progress.count - 1

abbrev pub span_count : Progress → ℕ
span_count progress = (component_at progress.parts (last_place progress)).span_count

-- the last part's row is there with its eight places
pub record RowThere (progress : Progress) (rows : List (List ℕ)) : Type 0 where
  pub there : last_place progress < length rows
  pub eight : length (get_or rows (last_place progress) []) ≡ 8

-- and its last span is this one
pub record Beside (progress : Progress) (rows : List (List ℕ)) (last : ℕ) : Type 0 where
  pub row : RowThere progress rows
  pub final : last ≡ last_of (take (span_count progress) (get_or rows (last_place progress) []))
