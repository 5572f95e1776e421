-- `follows` passes the places of the order. The loop's invariant is `Passed`: the places before i are in turn. What a
-- turn asks of place i decides whether that is in turn too.
use Prim.Native.Nat.{◌≤◌}
use native.Mathlib.Numerals.{add-one}
use mathlib.Core.Path.{◌≡◌, refl}
use mathlib.Core.Bool.{false, ◌&&◌}
use mathlib.Core.List.{List, map}
use lib.ListN.{length, take}
use native.Mathlib.Omega.{arith}
use Rattle.machine.specs.declared.part.Component.{Component}
use Rattle.machine.specs.Lists.{same}
use Rattle.machine.specs.Model.{most_parts}
use Rattle.machine.specs.Table.{ordered, part_order}
use Rattle.order_place.specs.Direct.{direct_of}
use Rattle.order_test.specs.PlacesInTurn.{InTurn}
use Rattle.order_test.specs.Passed.{none_passed, one_passed, placed_twice, before_source, after_higher}
use Rattle.order_test.specs.Passed.{refused_at, all_accepted}
use Rattle.order_test.proofs.follows.Goals as goal
use Rattle.order_test.proofs.follows.Goals.{In-loop-i, Start, then-count-k-via-then-count-k}
use Rattle.order_test.proofs.follows.Goals.{then-count-k-via-else-count-k+then-after-k}

-- the order, and the direct sources, have places for all parts
long : (c : Start) → c.args.count ≤ length c.args.order
long c =
    let full : length c.args.order ≡ most_parts = omega arith in
    let few : c.args.count ≤ most_parts = c.requires in
    omega arith

sourced : (c : Start) → c.args.count ≤ length c.args.direct
sourced c =
    let full : length c.args.direct ≡ most_parts = omega arith in
    let few : c.args.count ≤ most_parts = c.requires in
    omega arith

-- where place i is not in turn, the order is refused
refused_here : (c : In-loop-i) →
    let args = c.args in
    (InTurn args.count args.direct args.order c.loop-i.i → ⊥) →
    (cs : List Component) → map direct_of cs ≡ take args.count args.direct →
    false ≡ (ordered cs && same (take args.count args.order) (part_order cs))
refused_here c never cs of_parts =
    let args = c.args in
    let start = c.before.before in
    refused_at args.count args.direct args.order (sourced start) (long start) cs of_parts c.loop-i.i
    c.loop-i-test.true never

pub loop-i-init : goal.loop-i-init
loop-i-init c = none_passed _ _ _ _ c.requires refl

pub returns-then-count-k : goal.returns-then-count-k
returns-then-count-k c =
    refused_here (goal.at.returns-then-count-k c).In-loop-i
    (elim c.then-count-k.branch [
      | then-count-k-via-then-count-k w ↦ λ turn. omega (arith, turn.below, w.if-count-k.true)
      | then-count-k-via-else-count-k+then-after-k w ↦ placed_twice _ _ _ _ _ _ c.loop-i.invariant w.if-after-k.true
    ])

pub returns-then-i-ready : goal.returns-then-i-ready
returns-then-i-ready c =
    let late = rw c.ready_after-ready.ensures at c.if-i-ready.true in
    refused_here (goal.at.returns-then-i-ready c).In-loop-i (before_source _ _ _ _ _ _ c.loop-i.invariant late)

pub returns-then-ready-link : goal.returns-then-ready-link
returns-then-ready-link c =
    let walked = rw c.ready_after-ready.ensures at c.walk_back-link.ensures in
    let behind = rw c.ready_after-ready.ensures at c.if-ready-link.true in
    refused_here (goal.at.returns-then-ready-link c).In-loop-i
    (after_higher _ _ _ _ _ _ c.loop-i.invariant c.walk_back-link.result walked behind)

pub loop-i-preserved : goal.loop-i-preserved
loop-i-preserved c =
    let ready = rw c.ready_after-ready.ensures at c.if-i-ready.false in
    let back = rw c.ready_after-ready.ensures at c.if-ready-link.false in
    rw add-one
    (one_passed _ _ _ _ _ _ c.loop-i.invariant c.if-count-k.false c.if-after-k.false ready
    c.walk_back-link.result c.walk_back-link.ensures.link back c.loop-i-test.true c.requires
    (long (goal.at.loop-i-preserved c).Start))

pub returns : goal.returns
returns c = λ cs of_parts.
    let start = (goal.at.returns c).Start in
    all_accepted c.args.count c.args.direct c.args.order (sourced start) (long start) cs of_parts
    (λ i h. c.loop-i.invariant.turns i (omega (arith, c.loop-i-test.false)))
