-- `put_word` writes the word where `out` has that place; elsewhere a word set leaves a list as it is.
use mathlib.Core.Path.{sym}
use lib.Seq.{set_out}
use Rattle.boundary.proofs.put_word.Goals as goal

pub returns-else-at-out : goal.returns-else-at-out
returns-else-at-out c = sym (set_out _ _ _ c.if-at-out.false)
