-- `with_begin` has no parts, as the definition.
use mathlib.Core.Path.{refl}
use Rattle.machine.specs.Load.{begun_with}
use Rattle.load_commands.specs.Progress.{joined, reading_of}
use Rattle.load_commands.proofs.progress.Progress.with_begin.Goals as goal

pub returns : goal.returns
unfolding begun_with joined reading_of
returns c = λ rows. refl
