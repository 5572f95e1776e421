-- None of no parts fails.
use mathlib.Core.Path.{refl}
use Rattle.words_store.specs.Form.{parts_spelled}
use Rattle.words_store.proofs.form.parts_spelled.Goals as goal

pub loop-i-init : goal.loop-i-init
unfolding parts_spelled
loop-i-init c = refl
