-- `part` is cut where its operands are; else they make the definition's component, and it is the definition's.
use Rattle.std.proofs.Common.{ℕ, ◌+◌, ◌<◌, ◌≡◌, arith, ap, sym, ◌∙◌, List, length, length-take}
use Rattle.machine.specs.Load.{byte_at, part_read, part_refusal, part_command}
use Rattle.machine.specs.Model.{most_parts}
use Rattle.load_operands.specs.declared.operands.PartOperands.{PartOperands}
use Rattle.load_operands.specs.Operands.{part_operands_at, read_cases}
use Rattle.load_operands.specs.Refusals.{operands_judged, part_number}
use Rattle.load_operands.specs.Tests.{at_least_min, room_left}
use Rattle.load_commands.specs.declared.progress.Progress.{Progress}
use Rattle.load_commands.specs.ComponentMade.{component_of}
use Rattle.load_commands.specs.CommandSteps.{cut_as, onward_as, refused_as}
use Rattle.load_commands.specs.Progress.{reading_of}
use Rattle.load_commands.specs.SpanRows.{length_joined}
use Rattle.load_commands.proofs.table_command.part.Goals as goal

-- the operands read make the definition's component
read_as : (bs : List ℕ) (at : ℕ) (o : PartOperands) → o ≡ part_operands_at bs (at + 1) →
    part_read bs at ≡ component_of o
unfolding part_read component_of
read_as bs at o operands =
    let preference : at + 1 + 1 ≡ at + 2 = omega arith in
    let a : at + 1 + 2 ≡ at + 3 = omega arith in
    let b : at + 1 + 6 ≡ at + 7 = omega arith in
    let p : at + 1 + 10 ≡ at + 11 = omega arith in
    rw (operands, preference, a, b, p)

-- and the definition's refusal
number_as : (bs : List ℕ) (at : ℕ) (progress : Progress) (o : PartOperands) (rows : List (List ℕ)) →
    length progress.parts ≡ most_parts →
    o ≡ part_operands_at bs (at + 1) →
    part_refusal (reading_of progress rows).table.parts (byte_at bs (at + 1)) (part_read bs at) ≡
    part_number progress.count o
unfolding reading_of part_refusal part_number component_of
number_as bs at progress o rows many operands =
    let kind : o.kind ≡ byte_at bs (at + 1) = ap (λ (x : PartOperands). x.kind) operands in
    rw (read_as bs at o operands, ← kind, length_joined, length-take, many, at_least_min, operands_judged o)

-- a Part that is not refused has room
part_room : (count : ℕ) (o : PartOperands) → 0 ≡ part_number count o → count < most_parts
unfolding part_number
part_room count o none = room_left most_parts count _ (sym none)

pub returns-in_default-clause-meant : goal.returns-in_default-clause-meant
returns-in_default-clause-meant c =
    let short = read_cases c.in_default.ensures in
    λ rows. cut_as _ _ 15 _ (omega arith)

pub returns-in_err-part_refusal-clause-meant : goal.returns-in_err-part_refusal-clause-meant
unfolding part_command
returns-in_err-part_refusal-clause-meant c =
    let args = c.args in
    let got = read_cases c.in-Some.ensures in
    let many : length args.progress.parts ≡ most_parts = omega arith in
    λ rows.
    let number = c.in_err-part_refusal.ensures ∙ sym (number_as args.s.now args.at args.progress _ rows many got.1) in
    refused_as _ _ 15 args.progress rows _ _ _ _ _ (omega arith) c.from_residual.ensures.1 number

pub with_part-requires : goal.with_part-requires
with_part-requires c = part_room _ _ c.in_ok-part_refusal.ensures

pub returns-clause-meant : goal.returns-clause-meant
unfolding part_command
returns-clause-meant c =
    let args = c.args in
    let got = read_cases c.in-Some.ensures in
    let many : length args.progress.parts ≡ most_parts = omega arith in
    let next : c.in-Some.c.at ≡ args.at + 15 = omega arith in
    λ rows.
    let none = c.in_ok-part_refusal.ensures ∙ sym (number_as args.s.now args.at args.progress _ rows many got.1) in
    rw (c.with_part.ensures rows, next, ← read_as args.s.now args.at _ got.1)
    (onward_as _ _ 15 _ _ _ (omega arith) none)
