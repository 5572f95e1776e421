-- `parts_fit_in` asks every part of the model that the words mean.
use native.Mathlib.Omega.{arith}
use mathlib.Core.Path.{◌∙◌, refl, sym}
use Rattle.words_store.specs.ModelIn.{part_count}
use Rattle.sound_test.specs.Parts.{part_fits}
use Rattle.sound_test.specs.LentWhole.{held_on, held_end}
use Rattle.sound_test.proofs.parts.parts_fit_in.Goals as goal

pub returns-then-not-part_fits : goal.returns-then-not-part_fits
returns-then-not-part_fits c =
    let ts = c.args.table.now in
    let asked = part_fits (part_count ts) c.args.magnitude c.args.t.0 in
    let fails = rw (c.parts_of-count.ensures, c.part_at.ensures) at c.if-not-part_fits.ensures in
    sym (c.loop-i.invariant ∙ held_on ts c.args.state.now asked c.loop-i.i (omega arith) ∙ rw (← fails) refl)

pub loop-i-preserved : goal.loop-i-preserved
loop-i-preserved c =
    let ts = c.args.table.now in
    let asked = part_fits (part_count ts) c.args.magnitude c.args.t.0 in
    let fits = rw (c.parts_of-count.ensures, c.part_at.ensures) at c.if-not-part_fits.ensures in
    c.loop-i.invariant ∙ held_on ts c.args.state.now asked c.loop-i.i (omega arith) ∙ rw (← fits) refl

pub returns : goal.returns
returns c =
    let ts = c.args.table.now in
    let asked = part_fits (part_count ts) c.args.magnitude c.args.t.0 in
    sym (c.loop-i.invariant ∙ held_end ts c.args.state.now asked c.loop-i.i (omega arith))
