-- `longest_of_drive` is the definition of a drive's longest step, by the local ticks d that a step of h adds. The gain,
-- in master ticks, is at most the tick that the step leads to. Where d fails the test, d is not 0, and so the largest
-- of 0 and the spans below d is less than d: one local tick more is at most d, so that in master ticks it is within d ×
-- r, and so within the time.
use Prim.Native.Nat.{ℕ, ◌+◌, ◌*◌, ◌/◌, ◌<◌, ◌≤◌}
use native.Mathlib.Nat.{div-mul-le_self, le_trans, mul-le-mul_right}
use native.Mathlib.Omega.{arith}
use mathlib.Core.Path.{◌≡◌, ◌∙◌, sym}
use mathlib.Core.Bool.{false}
use mathlib.Core.List.{List}
use lib.Dec.{eqb}
use lib.ListN.{take}
use borrow.Author.Tests.{eqb-false}
use Rattle.machine.specs.declared.part.Part.{Part}
use Rattle.machine.specs.Lists.{member}
use Rattle.machine.specs.Time.{gained, last_tick, local_count}
use Rattle.machine.specs.Model.{trimmed_component, trimmed_part}
use Rattle.machine.specs.Step.{gain_of}
use Rattle.machine.specs.Accept.{allowed, largest_below, longest_as}
use Rattle.laws.specs.Bools.{or_false_left}
use Rattle.ask_laws.specs.Spans.{largest_below_is}
use Rattle.step_part.specs.Gain.{gain_to}
use Rattle.step_part.specs.PartRanges.{StepFits}
use Rattle.ask_part.proofs.longest.longest_of_drive.Goals as goal

-- the places in use of a part's spans
abbrev spans_of : Part → List ℕ
spans_of p = take p.component.span_count p.component.spans

-- the gain, in master ticks, is at most the tick that the step leads to
gain_fits : (t h d : ℕ) (p : Part) → StepFits t h p → d ≡ gain_of t h p → d * p.ratio ≤ last_tick
unfolding gain_of gained local_count
gain_fits t h d p fits e =
    let few : d ≤ (t + h) / p.ratio = omega arith in
    le_trans (mul-le-mul_right p.ratio few) (le_trans (div-mul-le_self (t + h) p.ratio) fits.time)

-- one local tick more than the largest below d is at most d
one_more_fits :
    (spans : List ℕ) (d r v : ℕ) → allowed spans d ≡ false → d * r ≤ last_tick → v ≡ largest_below spans d →
    (v + 1) * r ≤ last_tick
unfolding allowed
one_more_fits spans d r v over fits e =
    let some = eqb-false d 0 (or_false_left (eqb d 0) (member d spans) over) in
    let positive : 0 < d = omega arith in
    let below : largest_below spans d < d = (largest_below_is spans d).below positive in
    let next : v + 1 ≤ d = omega arith in
    le_trans (mul-le-mul_right r next) fits

pub last_adding-requires-clause-ratio_bound : goal.last_adding-requires-clause-ratio_bound
last_adding-requires-clause-ratio_bound c =
    let args = c.args in
    let d = c.gain_of-d.result.0 in
    let gains = gain_to args.t.0 args.h.0 d c.local.result args.p c.local.ensures c.gain_of-d.ensures in
    let fits = gain_fits args.t.0 args.h.0 d args.p c.requires.step gains in
    let over = sym c.allowed.ensures ∙ c.if-allowed.false in
    one_more_fits (spans_of args.p) d args.p.ratio _ over fits c.largest_below.ensures

pub returns-then-allowed : goal.returns-then-allowed
unfolding longest_as trimmed_part trimmed_component gain_of gained
returns-then-allowed c = grind arith

pub returns-else-allowed : goal.returns-else-allowed
unfolding longest_as trimmed_part trimmed_component gain_of gained
returns-else-allowed c = grind arith
