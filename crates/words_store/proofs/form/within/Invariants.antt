-- The test of all words is the test of those from j on.
use Rattle.std.proofs.Common.{◌≡◌, ◌+◌}
use Rattle.std.specs.Prelude.{drop}
use Rattle.words_store.specs.Form.{words_within}
use Rattle.words_store.proofs.form.within.Given as goal

abbrev pub invariant-loop-j : goal.invariant-loop-j
invariant-loop-j l = words_within l.words l.k l.limits ≡ words_within l.words (l.k + l.j) (drop l.j l.limits)
