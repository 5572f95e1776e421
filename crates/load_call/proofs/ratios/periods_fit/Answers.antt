-- `periods_fit` asks every component. The loop's invariant: the test of all components is the test of those from i on.
--
use Prim.Native.Nat.{◌+◌, ◌≤◌}
use native.Mathlib.Omega.{arith}
use mathlib.Core.Path.{◌≡◌, ◌∙◌, refl, sym}
use mathlib.Core.Bool.{◌&&◌}
use lib.ListN.{length, drop}
use Rattle.load_call.specs.FirstPlaces.{components_read, periods_within, periods_on, periods_end}
use Rattle.load_call.proofs.ratios.periods_fit.Goals as goal
use Rattle.load_call.proofs.ratios.periods_fit.Goals.{After-period_fits}

-- a turn's question of the component i, and the rest after it
turn : (c : After-period_fits) →
    let cs = components_read c.args.count c.args.parts in
    periods_within c.args.magnitude cs ≡
    (c.period_fits.result && periods_within c.args.magnitude (drop (c.loop-i.i + 1) cs))
turn c =
    let parts = c.args.parts in
    let few : c.args.count ≤ length parts = omega arith in
    c.loop-i.invariant ∙
    periods_on c.args.count parts few c.args.magnitude c.loop-i.i c.loop-i-test.true ∙
    rw (c.period_fits.ensures, c.ratio_of-ratio.ensures)

pub loop-i-init : goal.loop-i-init
loop-i-init c = refl

pub returns-then-not-period_fits : goal.returns-then-not-period_fits
returns-then-not-period_fits c =
    rw (turn (goal.at.returns-then-not-period_fits c).After-period_fits, c.if-not-period_fits.true)

pub loop-i-preserved : goal.loop-i-preserved
loop-i-preserved c = rw (turn (goal.at.loop-i-preserved c).After-period_fits, c.if-not-period_fits.false)

pub returns : goal.returns
returns c =
    let parts = c.args.parts in
    let few : c.args.count ≤ length parts = omega arith in
    sym (c.loop-i.invariant ∙ periods_end c.args.count parts few c.args.magnitude c.loop-i.i c.loop-i-test.false)
