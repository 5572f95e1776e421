-- `part_operands` reads five operands in a row. Each is where those before it end, by their widths, and the bytes up to
-- there are in the stream. Where one is cut, the stream ends before the last.
use Rattle.std.proofs.Common.{ℕ, ◌+◌, ◌≡◌, List, arith}
use Rattle.machine.specs.Load.{byte_at, word_at}
use Rattle.load_operands.specs.declared.operands.PartOperands.{PartOperands}
use Rattle.load_operands.specs.Operands.{Behind, ReadAt, read_cases, cut_read, part_operands_at, read_behind}
use Rattle.load_operands.specs.Operands.{whole_read}
use Rattle.load_operands.proofs.operands.part_operands.Goals as goal
use Rattle.load_operands.proofs.operands.part_operands.Goals.{In-Some, In-Some-byte, In-Some-u32_at, In-Some-u32_at-2}
use Rattle.load_operands.proofs.operands.part_operands.Goals.{In-Some-u32_at-3}

-- each operand is the one so many bytes after the first, where those before it end, and the cursor is after it
kind_read : (c : In-Some) →
    Behind c.args.s.now c.args.c.at 1 c.in-Some.c × (c.in-Some.kind ≡ byte_at c.args.s.now c.args.c.at)
kind_read c = read_cases c.in-Some.ensures

preference_read : (c : In-Some-byte) → Behind c.args.s.now c.args.c.at 1 c.in-Some.c →
    ReadAt byte_at c.args.s.now c.args.c.at 1 1 c.in-Some-byte.preference c.in-Some-byte.c
preference_read c before = read_behind byte_at _ _ 1 1 _ _ _ before (read_cases c.in-Some-byte.ensures)

a_read : (c : In-Some-u32_at) → Behind c.args.s.now c.args.c.at 2 c.in-Some-byte.c →
    ReadAt word_at c.args.s.now c.args.c.at 2 4 c.in-Some-u32_at.a c.in-Some-u32_at.c
a_read c before = read_behind word_at _ _ 2 4 _ _ _ before (read_cases c.in-Some-u32_at.ensures)

b_read : (c : In-Some-u32_at-2) → Behind c.args.s.now c.args.c.at 6 c.in-Some-u32_at.c →
    ReadAt word_at c.args.s.now c.args.c.at 6 4 c.in-Some-u32_at-2.b c.in-Some-u32_at-2.c
b_read c before = read_behind word_at _ _ 6 4 _ _ _ before (read_cases c.in-Some-u32_at-2.ensures)

p_read : (c : In-Some-u32_at-3) → Behind c.args.s.now c.args.c.at 10 c.in-Some-u32_at-2.c →
    ReadAt word_at c.args.s.now c.args.c.at 10 4 c.in-Some-u32_at-3.p c.in-Some-u32_at-3.c
p_read c before = read_behind word_at _ _ 10 4 _ _ _ before (read_cases c.in-Some-u32_at-3.ensures)

-- operands that are each the definition's are the definition's
part_made : (bs : List ℕ) (at kind preference a b p : ℕ) → kind ≡ byte_at bs at → preference ≡ byte_at bs (at + 1) →
    a ≡ word_at bs (at + 2) →
    b ≡ word_at bs (at + 6) → p ≡ word_at bs (at + 10) →
    ◌≡◌ {A = PartOperands} (record { kind = kind; preference = preference; a = a; b = b; p = p })
    (part_operands_at bs at)
part_made bs at kind preference a b p k q f g h = rw (k, q, f, g, h)

pub returns-in_default : goal.returns-in_default
returns-in_default c =
    let cut = read_cases c.in_default.ensures in
    cut_read _ _ 14 _ _ (omega arith)

pub returns-in_default-byte : goal.returns-in_default-byte
returns-in_default-byte c =
    let at = goal.at.returns-in_default-byte c in
    let kind = kind_read at.In-Some in
    let cut = read_cases c.in_default-byte.ensures in
    cut_read _ _ 14 _ _ (omega arith)

pub returns-in_default-u32_at : goal.returns-in_default-u32_at
returns-in_default-u32_at c =
    let at = goal.at.returns-in_default-u32_at c in
    let kind = kind_read at.In-Some in
    let preference = preference_read at.In-Some-byte kind.0 in
    let cut = read_cases c.in_default-u32_at.ensures in
    cut_read _ _ 14 _ _ (omega arith)

pub returns-in_default-u32_at-2 : goal.returns-in_default-u32_at-2
returns-in_default-u32_at-2 c =
    let at = goal.at.returns-in_default-u32_at-2 c in
    let kind = kind_read at.In-Some in
    let preference = preference_read at.In-Some-byte kind.0 in
    let a = a_read at.In-Some-u32_at preference.0 in
    let cut = read_cases c.in_default-u32_at-2.ensures in
    cut_read _ _ 14 _ _ (omega arith)

pub returns-in_default-u32_at-3 : goal.returns-in_default-u32_at-3
returns-in_default-u32_at-3 c =
    let at = goal.at.returns-in_default-u32_at-3 c in
    let kind = kind_read at.In-Some in
    let preference = preference_read at.In-Some-byte kind.0 in
    let a = a_read at.In-Some-u32_at preference.0 in
    let b = b_read at.In-Some-u32_at-2 a.0 in
    let cut = read_cases c.in_default-u32_at-3.ensures in
    cut_read _ _ 14 _ _ (omega arith)

pub returns : goal.returns
returns c =
    let at = goal.at.returns c in
    let kind = kind_read at.In-Some in
    let preference = preference_read at.In-Some-byte kind.0 in
    let a = a_read at.In-Some-u32_at preference.0 in
    let b = b_read at.In-Some-u32_at-2 a.0 in
    let p = p_read at.In-Some-u32_at-3 b.0 in
    let same = part_made _ _ _ _ _ _ _ kind.1 preference.1 a.1 b.1 p.1 in
    whole_read _ _ 14 _ _ _ _ p.0 same
