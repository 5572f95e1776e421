-- `master_magnitude` is the master's magnitude of the table. The loop's invariant: it is that of what was found so far
-- and the preferences from i on.
use Prim.Native.Nat.{ℕ, ◌+◌, ◌≤◌}
use native.Mathlib.Omega.{arith}
use mathlib.Core.Path.{◌∙◌, refl, sym, ap}
use lib.ListN.{length, drop}
use Rattle.machine.specs.Time.{master_magnitude}
use Rattle.machine.specs.Table.{magnitude_of}
use Rattle.sound_laws.specs.Magnitude.{magnitude_end}
use Rattle.load_call.specs.FirstPlaces.{preferences_read, preferences_count, preferences_on, table_in}
use Rattle.load_call.proofs.ratios.master_magnitude.Goals as goal

pub loop-i-init : goal.loop-i-init
loop-i-init c = refl

pub loop-i-preserved : goal.loop-i-preserved
loop-i-preserved c =
    let loop = c.loop-i in
    let count = c.args.count in
    let parts = c.args.parts in
    let few : count ≤ length parts = omega arith in
    loop.invariant ∙ preferences_on count parts few loop.magnitude loop.i c.loop-i-test.true ∙
    ap (λ (e : ℕ). master_magnitude e (drop (loop.i + 1) (preferences_read count parts)))
    (sym c.larger_of-magnitude.ensures)

pub returns : goal.returns
unfolding magnitude_of table_in preferences_read
returns c =
    let loop = c.loop-i in
    let count = c.args.count in
    let parts = c.args.parts in
    let few : count ≤ length parts = omega arith in
    let past : length (preferences_read count parts) ≤ loop.i =
    rw (preferences_count count parts few) c.loop-i-test.false in
    sym (loop.invariant ∙ magnitude_end loop.magnitude (preferences_read count parts) loop.i past)
