-- `put_numbers` writes the three words of a part's numbers.
use mathlib.Core.Path.{◌∙◌}
use mir.Syntax.{w64}
use mir.ValLaws.{to_z-of_z}
use Rattle.words_codec.specs.Fields.{signed_limit, signed_same, word_limit}
use Rattle.words_store.specs.WordsWritten.{written, pair_after, pair_put}
use Rattle.words_store.specs.NumbersPut.{three_put}
use Rattle.words_store.proofs.update.put_numbers.Goals as goal

pub returns : goal.returns
unfolding written
returns c =
    let held = c.args.held in
    let speed = c.args.speed in
    let first = c.put_field.ensures in
    let second = c.put_field-2.ensures in
    let third = c.put_field-3.ensures in
    three_put c.args.state.now c.args.i c.args.local.0 held speed _ _ c.requires
    (pair_after first.put.is (pair_put second.put third.put))
    (signed_same _ second.fits ∙ to_z-of_z w64 held c.ranges.held)
    (signed_same _ third.fits ∙ to_z-of_z w64 speed c.ranges.speed)
    (word_limit _ first.fits) (signed_limit _ second.fits) (signed_limit _ third.fits)
