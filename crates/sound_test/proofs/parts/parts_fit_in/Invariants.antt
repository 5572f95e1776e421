-- The test of all parts is the test of those from i on.
use mathlib.Core.Path.{◌≡◌}
use lib.ListN.{drop}
use Rattle.machine.specs.Lists.{every}
use Rattle.machine.specs.Model.{trimmed}
use Rattle.words_store.specs.ModelIn.{model_in, part_count}
use Rattle.sound_test.specs.Parts.{part_fits}
use Rattle.sound_test.proofs.parts.parts_fit_in.Given as goal

abbrev pub invariant-loop-i : goal.invariant-loop-i
invariant-loop-i l =
    let asked = part_fits (part_count l.table) l.magnitude l.t.0 in
    let parts = (trimmed (model_in l.table l.state)).parts in
    every asked parts ≡ every asked (drop l.i parts)
