-- `wire_operands` reads three operands in a row. Each is where those before it end, by their widths, and the bytes up
-- to there are in the stream. Where one is cut, the stream ends before the last.
use Rattle.std.proofs.Common.{ℕ, ◌+◌, ◌≡◌, List, arith}
use Rattle.machine.specs.Load.{byte_at}
use Rattle.load_operands.specs.declared.operands.WireOperands.{WireOperands}
use Rattle.load_operands.specs.Operands.{Behind, ReadAt, read_cases, cut_read, read_behind, whole_read}
use Rattle.load_operands.specs.Operands.{wire_operands_at}
use Rattle.load_operands.proofs.operands.wire_operands.Goals as goal
use Rattle.load_operands.proofs.operands.wire_operands.Goals.{In-Some, In-Some-byte, In-Some-byte-2}

-- each operand is the one so many bytes after the first, where those before it end, and the cursor is after it
source_read : (c : In-Some) →
    Behind c.args.s.now c.args.c.at 1 c.in-Some.c × (c.in-Some.source ≡ byte_at c.args.s.now c.args.c.at)
source_read c = read_cases c.in-Some.ensures

receiver_read : (c : In-Some-byte) → Behind c.args.s.now c.args.c.at 1 c.in-Some.c →
    ReadAt byte_at c.args.s.now c.args.c.at 1 1 c.in-Some-byte.receiver c.in-Some-byte.c
receiver_read c before = read_behind byte_at _ _ 1 1 _ _ _ before (read_cases c.in-Some-byte.ensures)

port_read : (c : In-Some-byte-2) → Behind c.args.s.now c.args.c.at 2 c.in-Some-byte.c →
    ReadAt byte_at c.args.s.now c.args.c.at 2 1 c.in-Some-byte-2.port c.in-Some-byte-2.c
port_read c before = read_behind byte_at _ _ 2 1 _ _ _ before (read_cases c.in-Some-byte-2.ensures)

-- operands that are each the definition's are the definition's
wire_made : (bs : List ℕ) (at source receiver port : ℕ) → source ≡ byte_at bs at → receiver ≡ byte_at bs (at + 1) →
    port ≡ byte_at bs (at + 2) →
    ◌≡◌ {A = WireOperands} (record { source = source; receiver = receiver; port = port }) (wire_operands_at bs at)
wire_made bs at source receiver port f g h = rw (f, g, h)

pub returns-in_default : goal.returns-in_default
returns-in_default c =
    let cut = read_cases c.in_default.ensures in
    cut_read _ _ 3 _ _ (omega arith)

pub returns-in_default-byte : goal.returns-in_default-byte
returns-in_default-byte c =
    let at = goal.at.returns-in_default-byte c in
    let source = source_read at.In-Some in
    let cut = read_cases c.in_default-byte.ensures in
    cut_read _ _ 3 _ _ (omega arith)

pub returns-in_default-byte-2 : goal.returns-in_default-byte-2
returns-in_default-byte-2 c =
    let at = goal.at.returns-in_default-byte-2 c in
    let source = source_read at.In-Some in
    let receiver = receiver_read at.In-Some-byte source.0 in
    let cut = read_cases c.in_default-byte-2.ensures in
    cut_read _ _ 3 _ _ (omega arith)

pub returns : goal.returns
returns c =
    let at = goal.at.returns c in
    let source = source_read at.In-Some in
    let receiver = receiver_read at.In-Some-byte source.0 in
    let port = port_read at.In-Some-byte-2 receiver.0 in
    let same = wire_made _ _ _ _ _ source.1 receiver.1 port.1 in
    whole_read _ _ 3 _ _ _ _ port.0 same
