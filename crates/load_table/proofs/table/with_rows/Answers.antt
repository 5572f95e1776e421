-- `with_rows` puts each row into its part. The invariant: the first i parts have their rows, and nothing else is
-- changed.
use Rattle.std.proofs.Common.{suc, ◌+◌, ◌≤◌, ◌<◌, ◌≡◌, arith, refl, ap, ◌∙◌, length}
use Rattle.machine.specs.Model.{blank_component}
use Rattle.load_table.proofs.Rowed.{rowed, rowed_next, rowed_all}
use Rattle.load_table.proofs.table.with_rows.Goals as goal

pub loop-i-init : goal.loop-i-init
unfolding rowed
loop-i-init c = refl

pub loop-i-preserved : goal.loop-i-preserved
loop-i-preserved c =
    let loop = c.loop-i in
    let parts = c.args.parts in
    let rows = c.args.rows in
    let here : loop.i < length parts = omega arith in
    let there : loop.i < length rows = omega arith in
    let more : suc loop.i ≡ loop.i + 1 = omega arith in
    rw loop.invariant (rowed_next loop.i parts rows blank_component here there ∙ ap (λ n. rowed n parts rows) more)

pub returns : goal.returns
returns c =
    let loop = c.loop-i in
    let parts = c.args.parts in
    let rows = c.args.rows in
    let all : length parts ≤ loop.i = omega arith in
    let there : length parts ≤ length rows = omega arith in
    λ count. rw loop.invariant (rowed_all loop.i parts rows count all there)
