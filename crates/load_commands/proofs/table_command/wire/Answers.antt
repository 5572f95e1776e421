-- `wire` is cut where its operands are; else it is the definition's, and a receiver that is not refused was read.
use Rattle.std.proofs.Common.{ℕ, ◌+◌, ◌≤◌, ◌≡◌, arith, sym, List, [], length}
use Rattle.machine.specs.Load.{byte_at, wire_command}
use Rattle.machine.specs.Model.{most_parts}
use Rattle.sound_laws.specs.CommandsPassed.{wire_passed}
use Rattle.load_operands.specs.declared.operands.WireOperands.{WireOperands}
use Rattle.load_operands.specs.Operands.{read_cases, wire_operands_at}
use Rattle.load_commands.specs.CommandSteps.{cut_as, onward_as, refused_as}
use Rattle.load_commands.specs.Progress.{reading_of}
use Rattle.load_commands.specs.SpanRows.{length_reading}
use Rattle.load_commands.specs.Wired.{wired_reading}
use Rattle.load_commands.proofs.table_command.wire.Goals as goal

-- the operands read are the definition's
operands_as : (bs : List ℕ) (at : ℕ) (o : WireOperands) → o ≡ wire_operands_at bs (at + 1) →
    o ≡ record { source = byte_at bs (at + 1); receiver = byte_at bs (at + 2); port = byte_at bs (at + 3) }
operands_as bs at o operands =
    let receiver : at + 1 + 1 ≡ at + 2 = omega arith in
    let port : at + 1 + 2 ≡ at + 3 = omega arith in
    rw (receiver, port) at operands

pub returns-in_default-clause-meant : goal.returns-in_default-clause-meant
returns-in_default-clause-meant c =
    let short = read_cases c.in_default.ensures in
    λ rows. cut_as _ _ 4 _ (omega arith)

pub returns-in_err-wire_refusal-clause-meant : goal.returns-in_err-wire_refusal-clause-meant
unfolding wire_command
returns-in_err-wire_refusal-clause-meant c =
    let got = read_cases c.in-Some.ensures in
    let operands = operands_as c.args.s.now c.args.at _ got.1 in
    λ rows.
    let number = rw operands at (c.in_err-wire_refusal.ensures rows) in
    refused_as _ _ 4 c.args.progress rows _ _ _ _ _ (omega arith) c.from_residual.ensures.1 number

pub with_wire-requires : goal.with_wire-requires
with_wire-requires c =
    let progress = c.args.progress in
    let o = c.in-Some.o in
    let many : length progress.parts ≡ most_parts = omega arith in
    let few : progress.count ≤ length progress.parts = omega (arith, progress.few) in
    let none = sym (c.in_ok-wire_refusal.ensures []) in
    let (there, here, port) =
    wire_passed (reading_of progress []).table.parts o.source o.receiver o.port none in
    rw (length_reading progress [] few) at here

pub returns-clause-meant : goal.returns-clause-meant
unfolding wire_command wired_reading
returns-clause-meant c =
    let got = read_cases c.in-Some.ensures in
    let operands = operands_as c.args.s.now c.args.at _ got.1 in
    let next : c.in-Some.c.at ≡ c.args.at + 4 = omega arith in
    λ rows.
    let none = rw operands at (c.in_ok-wire_refusal.ensures rows) in
    rw (c.with_wire.ensures rows, next, operands) (onward_as _ _ 4 _ _ _ (omega arith) none)
