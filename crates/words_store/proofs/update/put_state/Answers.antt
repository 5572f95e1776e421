-- `put_state` writes the nine words of a state's record, field by field.
use mathlib.Core.Path.{refl}
use mir.Syntax.{w64}
use mir.ValLaws.{to_z-of_z}
use borrow.Author.Rules.{rules}
use Rattle.words_codec.specs.Fields.{mark_limit, mark_same, side_limit, side_same, signal_limit, signal_same}
use Rattle.words_codec.specs.Fields.{signed_limit, signed_same, value_clean, value_limit, word_limit}
use Rattle.words_store.specs.WordsWritten.{pair_put}
use Rattle.words_store.specs.Updated.{nine_put}
use Rattle.words_store.proofs.update.put_state.Goals as goal

pub returns : goal.returns
returns c =
    let s = c.args.s in
    let local = c.put_field.ensures in
    let held = rw (to_z-of_z w64 s.held (search rules)) at c.put_field-2.ensures in
    let speed = rw (to_z-of_z w64 s.speed (search rules)) at c.put_field-3.ensures in
    let signal = c.put_signal.ensures in
    let output = c.put_signal-2.ensures in
    nine_put c.args.state.now c.args.i s _ _ _ _ _ _ _ _ _ c.requires
    local.put (pair_put held.put speed.put) signal.put output.put
    (pair_put c.put_field-4.ensures.put c.put_field-5.ensures.put)
    refl (signed_same s.held held.fits) (signed_same s.speed speed.fits)
    (signal_same s.signal signal.fits) (signal_same s.output output.fits) (side_same s.side) (mark_same s.mark)
    (record {
      local_fits = word_limit _ local.fits;
      held_fits = signed_limit s.held held.fits;
      speed_fits = signed_limit s.speed speed.fits;
      signal_tagged = signal_limit s.signal;
      signal_fits = value_limit s.signal signal.fits;
      output_tagged = signal_limit s.output;
      output_fits = value_limit s.output output.fits;
      sided = side_limit s.side;
      marked = mark_limit s.mark;
    })
    (value_clean s.signal) (value_clean s.output)
