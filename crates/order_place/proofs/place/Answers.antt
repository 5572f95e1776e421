-- `place` gives the part order. The loop's invariant is `Partway`: the parts placed so far, followed by those that are
-- placed from the marks on, are the order. A turn places the lowest marked part that is ready, and ends the loop where
-- there is none. The measure is the count of ones in the word of marks.
use Prim.Native.Nat.{ℕ, ◌-◌, ◌*◌, ◌%◌, ◌^◌, ◌≤◌, ◌<◌}
use native.Mathlib.Omega.{arith}
use mathlib.Core.Path.{◌≡◌, sym, ◌∙◌}
use mathlib.Core.List.{List, map}
use mathlib.Core.Option.{some}
use lib.ListN.{length, length-map, take}
use lib.Seq.{length-take-le}
use lib.Count.{ones, ones-le}
use Rattle.machine.specs.Model.{most_parts}
use Rattle.order_place.specs.declared.Direct.{Direct}
use Rattle.std.specs.Prelude.{Some}
use Rattle.laws.specs.WordMarks.{Cleared, mark_cleared, marks_of, one_mark}
use Rattle.order_place.specs.Direct.{direct_of, found_as, lowest_among}
use Rattle.laws.specs.ListLaws.{take_map}
use Rattle.order_place.proofs.Candidates.{found_at, found_marked, found_nothing, lowest_word}
use Rattle.order_place.proofs.PlacedPartway.{ended, started, turned}
use Rattle.order_place.proofs.place.Goals as goal
use Rattle.order_place.proofs.place.Goals.{After-all_direct-direct, At-loop-k, In-Some}

-- a turn that finds the part k: its mark can be cleared, and there is a place for it
record PlacingTurn (count : ℕ) (direct : List Direct) (w k : ℕ) : Type 0 where
  found : lowest_among (marks_of count w) (marks_of count w) 0 (take count direct) ≡ some k
  rest : Cleared count w k
  below : k < 32
  shifted : (1 * 2 ^ k) % 2 ^ 32 ≡ 2 ^ k
  room : count - ones w < 32

-- the code's answer says that it is such a turn
turn : (count : ℕ) (direct : List Direct) (w k : ℕ) → count ≤ most_parts → w < 2 ^ count →
    found_as (lowest_among (marks_of 32 w) (marks_of 32 w) 0 direct) ≡ Some k → PlacingTurn count direct w k
turn count direct w k few fits answer =
    let marks = marks_of count w in
    let found = sym (lowest_word count w direct few fits) ∙ found_at _ k answer in
    let rest = mark_cleared count w k (found_marked marks marks 0 k (take count direct) found) in
    let below : k < 32 = omega (arith, rest.below) in
    record {
      found = found;
      rest = rest;
      below = below;
      shifted = one_mark 32 k below;
      room = omega (arith, rest.fewer);
    }

-- the direct sources are those of the parts
of_parts : (c : After-all_direct-direct) →
    take c.args.count c.all_direct-direct.result ≡
    map direct_of (take c.args.count c.args.parts)
of_parts c = rw c.all_direct-direct.ensures (take_map direct_of c.args.count c.args.parts)

-- there are at most as many ones as parts
few_ones : (c : At-loop-k) →
    ones c.loop-k.marks ≤ c.args.count
few_ones c =
    ones-le c.args.count c.loop-k.marks c.loop-k.invariant.fits

-- the turn, where the code has found a part
turn_of : (c : In-Some) →
    PlacingTurn c.args.count c.all_direct-direct.result c.loop-k.marks
    c.in-Some.k
turn_of c =
    turn c.args.count c.all_direct-direct.result c.loop-k.marks c.in-Some.k
    c.requires c.loop-k.invariant.fits (sym c.lowest.ensures ∙ c.in-Some.is)

pub loop-k-init : goal.loop-k-init
loop-k-init c =
    let count = c.args.count in
    let direct = take count c.all_direct-direct.result in
    let room : length c.args.parts ≡ most_parts = omega arith in
    let counted : length direct ≡ count =
    rw (of_parts (goal.at.loop-k-init c).After-all_direct-direct, length-map)
    (length-take-le count c.args.parts (omega (arith, c.requires))) in
    rw c.all_marked-marks.ensures (started count direct counted)

pub overflow_sub-done : goal.overflow_sub-done
overflow_sub-done c = few_ones (goal.at.overflow_sub-done c).At-loop-k

pub returns-in_default : goal.returns-in_default
returns-in_default c =
    let count = c.args.count in
    let direct = c.all_direct-direct.result in
    let nothing =
    sym (lowest_word count c.loop-k.marks direct c.requires c.loop-k.invariant.fits) ∙
    found_nothing _ (sym c.lowest.ensures ∙ c.in_default.is) in
    ended count c.args.parts (take count direct) c.loop-k.order c.loop-k.marks c.requires
    (of_parts (goal.at.returns-in_default c).After-all_direct-direct)
    c.loop-k.invariant nothing

pub overflow_cast-order : goal.overflow_cast-order
overflow_cast-order c = omega (arith, (turn_of (goal.at.overflow_cast-order c).In-Some).below)

pub bounds-order-done : goal.bounds-order-done
bounds-order-done c = (turn_of (goal.at.bounds-order-done c).In-Some).room

pub overflow_shl-marks : goal.overflow_shl-marks
overflow_shl-marks c = (turn_of (goal.at.overflow_shl-marks c).In-Some).below

pub overflow_sub-marks : goal.overflow_sub-marks
overflow_sub-marks c =
    let it = turn_of (goal.at.overflow_sub-marks c).In-Some in
    omega (arith, it.shifted, it.rest.fits)

pub loop-k-smaller : goal.loop-k-smaller
loop-k-smaller c =
    let it = turn_of (goal.at.loop-k-smaller c).In-Some in
    rw it.shifted (omega (arith, it.rest.fewer))

pub loop-k-preserved : goal.loop-k-preserved
loop-k-preserved c =
    let count = c.args.count in
    rw (turn_of (goal.at.loop-k-preserved c).In-Some).shifted
    (turned count (take count c.all_direct-direct.result) c.loop-k.order c.loop-k.marks
    c.in-Some.k
    c.requires c.loop-k.invariant (turn_of (goal.at.loop-k-preserved c).In-Some).found)
