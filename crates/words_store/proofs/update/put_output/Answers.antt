-- `put_output` writes the two words of a stored output.
use Rattle.words_codec.specs.Fields.{signal_limit, signal_same, value_clean, value_limit}
use Rattle.words_store.specs.WordsWritten.{written}
use Rattle.words_store.specs.Shown.{two_put}
use Rattle.words_store.proofs.update.put_output.Goals as goal

pub returns : goal.returns
unfolding written
returns c =
    let out = c.args.out in
    let fits = c.put_signal.ensures.fits in
    two_put c.args.state.now c.args.i out _ _ c.requires
    c.put_signal.ensures.put.is (signal_same out fits) (signal_limit out) (value_limit out fits) (value_clean out)
