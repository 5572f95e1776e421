-- `Ticks::local` gives floor(t / r). At a ratio of 0, where the code returns 0 and divides nothing, so does the
-- definition: t / 0 is 0.
use native.Mathlib.Nat.{div-zero}
use mathlib.Core.Path.{refl}
use Rattle.machine.specs.Time.{local_count}
use Rattle.machine.proofs.time.Ticks.local.Goals as goal

pub returns-then-ratio-eq0 : goal.returns-then-ratio-eq0
unfolding local_count
returns-then-ratio-eq0 c = simp (c.if-ratio-eq0.true, div-zero)

pub returns : goal.returns
unfolding local_count
returns c = refl
