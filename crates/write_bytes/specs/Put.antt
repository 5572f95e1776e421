-- What the functions that put a byte, a text or a line into a buffer promise. Assumes nothing.
use Rattle.std.specs.Prelude.{◌≡◌, List, ◌++◌, ℕ, ◌+◌, ◌≤◌, length, take, drop}

-- A text of at most `most` characters was put at position `at` of a line, and `next` is the position after it: what lay
-- before it is kept, the text follows, and what lay after it is kept.
pub record Put (most : ℕ) (text : List ℕ) (at : ℕ) (before after : List ℕ) (next : ℕ) : Type 0 where
  pub position : next ≡ at + length text
  pub line : take next after ≡ take at before ++ text
  pub behind : drop next after ≡ drop next before
  pub short : length text ≤ most
