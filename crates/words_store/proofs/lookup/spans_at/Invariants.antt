-- The first j places are the definition's.
use Prim.Native.Nat.{ℕ, ◌+◌, ◌*◌, ◌%◌}
use mathlib.Core.List.{List}
use Rattle.words_codec.specs.Tables.{Filled}
use Rattle.words_store.specs.ModelIn.{slot}
use Rattle.words_store.proofs.lookup.spans_at.Given as goal

-- span j of part i
abbrev span : List ℕ → ℕ → ℕ → ℕ
span words i j = slot words (18 * i + 8 + j) % 4294967296

abbrev pub invariant-loop-j : goal.invariant-loop-j
invariant-loop-j l = Filled (span l.table l.i) 8 l.j l.span-items
