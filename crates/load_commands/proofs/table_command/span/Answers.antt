-- `span` is cut where its operand is; else it is the definition's, at the last part; a span that is not refused has
-- room.
use Rattle.std.proofs.Common.{ℕ, ◌+◌, ◌<◌, ◌≡◌, arith, sym, [], length, get_or}
use Rattle.load_operands.specs.Operands.{read_cases}
use Rattle.load_operands.specs.Refusals.{span_number}
use Rattle.load_operands.specs.Tests.{room_left}
use Rattle.load_commands.specs.Beside.{span_stepped}
use Rattle.load_commands.specs.CommandSteps.{cut_as, onward_as, refused_as}
use Rattle.load_commands.specs.Spanned.{last_place, span_count}
use Rattle.load_commands.proofs.table_command.span.Goals as goal

-- a span that is not refused has room
span_room : (count last v : ℕ) → 0 ≡ span_number count last v → count < 8
unfolding span_number
span_room count last v none = room_left 8 count _ (sym none)

pub returns-in_default-clause-meant : goal.returns-in_default-clause-meant
returns-in_default-clause-meant c =
    let short = read_cases c.in_default.ensures in
    λ rows row. cut_as _ _ 5 _ (omega arith)

pub returns-in_err-span_refusal-clause-meant : goal.returns-in_err-span_refusal-clause-meant
unfolding span_stepped
returns-in_err-span_refusal-clause-meant c =
    let got = read_cases c.in-Some.ensures in
    let number = rw got.1 at c.in_err-span_refusal.ensures in
    λ rows row.
    refused_as _ _ 5 c.args.progress rows _ _ _ _ _ (omega arith) c.from_residual.ensures.1 number

pub with_span_counted-requires-clause-room : goal.with_span_counted-requires-clause-room
with_span_counted-requires-clause-room c =
    span_room (span_count c.args.progress) c.args.last c.in-Some.v c.in_ok-span_refusal.ensures

pub returns-clause-meant : goal.returns-clause-meant
unfolding span_stepped
returns-clause-meant c =
    let progress = c.args.progress in
    let got = read_cases c.in-Some.ensures in
    let next : c.in-Some.c.at ≡ c.args.at + 5 = omega arith in
    let none = rw got.1 at c.in_ok-span_refusal.ensures in
    let room = span_room (span_count progress) c.args.last c.in-Some.v c.in_ok-span_refusal.ensures in
    λ rows row.
    let inside : span_count progress < length (get_or rows (last_place progress) []) = rw row.eight room in
    rw (c.with_span_counted.ensures rows c.in-Some.v row.there inside, next, got.1)
    (onward_as _ _ 5 _ _ _ (omega arith) none)

pub returns-clause-room : goal.returns-clause-room
returns-clause-room c =
    span_room (span_count c.args.progress) c.args.last c.in-Some.v c.in_ok-span_refusal.ensures
