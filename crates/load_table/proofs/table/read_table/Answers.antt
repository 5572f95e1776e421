-- `read_table` is loading, with End still to be judged. The invariant: loading is reading from this position on, after
-- the progress and its rows, which reading keeps readable. The measure is how many bytes are left: each turn that goes
-- on raises the position.
use Rattle.std.proofs.Common.{ℕ, ◌<◌, arith, ◌∙◌, sym, List, Ok, Some}
use Rattle.load_commands.specs.declared.progress.Progress.{Progress}
use Rattle.load_commands.specs.declared.table_command.Step.{Step}
use Rattle.load_commands.specs.CommandSteps.{rows_after}
use Rattle.load_commands.specs.Progress.{reading_of}
use Rattle.load_table.specs.Concluded.{ended_concluded, refused_concluded}
use Rattle.load_table.specs.EndReached.{stopped_ended}
use Rattle.load_table.specs.Stands.{Stands, stands_ended, stands_first, stands_on}
use Rattle.load_table.specs.Turned.{Turned}
use Rattle.load_table.proofs.table.read_table.Goals as goal

-- a step goes further
goes_further : (bs : List ℕ) (at : ℕ) (progress : Progress) (rows : List (List ℕ)) (step : Step) →
    Stands bs at (reading_of progress rows) →
    Turned bs at progress rows (Ok (Some step)) →
    Stands bs step.next (reading_of step.progress (rows_after progress rows step.span)) × (at < step.next)
goes_further bs at progress rows step stands turned =
    stands_on bs at step.next (reading_of progress rows) _ stands turned.is

pub loop-step-init : goal.loop-step-init
loop-step-init c = stands_first _ _ (c.nothing_read-progress.ensures _)

pub returns-in_err-step-clause-loads : goal.returns-in_err-step-clause-loads
returns-in_err-step-clause-loads c =
    let loop = c.loop-step in
    stands_ended _ loop.at (reading_of loop.progress loop.rows) _ loop.invariant c.in_err-step.ensures.is ∙
    refused_concluded _ _ c.from_residual.ensures.1

pub loop-step-smaller : goal.loop-step-smaller
loop-step-smaller c =
    let loop = c.loop-step in
    let turned = rw c.in-Some.is at c.in_ok-step.ensures in
    let here = turned.left.0 in
    let further = (goes_further _ loop.at loop.progress loop.rows c.in-Some.step loop.invariant turned).1 in
    omega arith

pub loop-step-preserved : goal.loop-step-preserved
loop-step-preserved c =
    let loop = c.loop-step in
    let turned = rw c.in-Some.is at c.in_ok-step.ensures in
    rw c.rows_after-next.ensures (goes_further _ loop.at loop.progress loop.rows c.in-Some.step loop.invariant turned).0

pub returns-clause-loads : goal.returns-clause-loads
returns-clause-loads c =
    let loop = c.loop-step in
    let turned = rw c.in_default.is at c.in_ok-step.ensures in
    stands_ended _ loop.at (reading_of loop.progress loop.rows) _ loop.invariant turned.is ∙
    sym (ended_concluded loop.at _ c.ended_read.result c.ended_read.ensures)

pub returns-clause-stopped : goal.returns-clause-stopped
returns-clause-stopped c =
    let turned = rw c.in_default.is at c.in_ok-step.ensures in
    stopped_ended _ _ _ _ c.loop-step.invariant turned.left c.ended_read.ensures
