-- `begin` is cut where its operand is; else it is the definition's.
use Rattle.std.proofs.Common.{◌+◌, ◌≡◌, arith}
use Rattle.machine.specs.Load.{begin_command}
use Rattle.load_operands.specs.Operands.{read_cases}
use Rattle.load_commands.specs.CommandSteps.{cut_as, onward_as, refused_as}
use Rattle.load_commands.proofs.table_command.begin.Goals as goal

pub returns-in_default-clause-meant : goal.returns-in_default-clause-meant
returns-in_default-clause-meant c =
    let short = read_cases c.in_default.ensures in
    λ rows. cut_as _ _ 2 _ (omega arith)

pub returns-in_err-begin_refusal-clause-meant : goal.returns-in_err-begin_refusal-clause-meant
unfolding begin_command
returns-in_err-begin_refusal-clause-meant c =
    let got = read_cases c.in-Some.ensures in
    let number = rw got.1 at c.in_err-begin_refusal.ensures in
    λ rows. refused_as _ _ 2 c.args.progress rows _ _ _ _ _ (omega arith) c.from_residual.ensures.1 number

pub returns-clause-meant : goal.returns-clause-meant
unfolding begin_command
returns-clause-meant c =
    let got = read_cases c.in-Some.ensures in
    let none = rw got.1 at c.in_ok-begin_refusal.ensures in
    let next : c.in-Some.c.at ≡ c.args.at + 2 = omega arith in
    λ rows. rw (c.with_begin.ensures rows, next, got.1) (onward_as _ _ 2 _ _ _ (omega arith) none)
