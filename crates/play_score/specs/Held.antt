-- The lines that a buffer holds: its bytes, and how many of them they take. Assumes nothing.
use Rattle.std.specs.Prelude.{ℕ, ◌≡◌, ◌+◌, ◌≤◌, List, length, take}
use Rattle.write_bytes.specs.Put.{Put}
use Rattle.play_score.specs.declared.lines.Lines.{Lines}

-- the bytes of a buffer, and how many of them its lines take
pub record Held : Type 0 where
  pub bytes : List ℕ
  pub used : ℕ

-- those of a `Lines`
abbrev pub held_in : Lines → Held
held_in a = record { bytes = a.bytes.now; used = a.used }

-- two `Lines` are of one buffer, the same loan of it: what the last one holds is what its lender gets back
abbrev pub SameBuffer : (before after : Lines) → Type 0
SameBuffer before after = after.bytes.ghost_name ≡ before.bytes.ghost_name

-- the text of the lines
abbrev pub text_held : Held → List ℕ
text_held h = take h.used h.bytes

-- a buffer that holds no line
abbrev pub no_line : List ℕ → Held
no_line bytes = record { bytes = bytes; used = 0 }

-- there is room for any line, of either format
abbrev pub HasRoom : Held → Type 0
HasRoom h = h.used + 1024 ≤ length h.bytes

-- A line was put after those that a buffer held. The buffer is as long as before, and the lines lie within it.
pub record LinePut (line : List ℕ) (before after : Held) : Type 0 where
  pub put : Put 1024 line before.used before.bytes after.bytes after.used
  pub size : length after.bytes ≡ length before.bytes
  pub room : after.used ≤ length after.bytes
