-- The first i parts are spelled.
use mathlib.Core.Path.{◌≡◌}
use mathlib.Core.Bool.{true}
use Rattle.words_store.specs.Form.{parts_spelled}
use Rattle.words_store.proofs.form.parts_spelled.Given as goal

abbrev pub invariant-loop-i : goal.invariant-loop-i
invariant-loop-i l = parts_spelled l.table l.state l.i ≡ true
