-- `save_table` works out how long the bytes are, and puts them where they fit.
use Rattle.std.proofs.Common.{ℕ, ◌+◌, ◌<◌, ◌≡◌, List, length, arith, ap}
use Rattle.machine.specs.TableBytes.{parts_bytes, table_bytes, wires_bytes}
use Rattle.machine.specs.Writing.{WrittenAs, too_short}
use Rattle.sound_laws.specs.ByteLengths.{table_length}
use Rattle.write_bytes.specs.Fitting.{left_out, put_in}
use Rattle.save_call.specs.LentTable.{lent_table}
use Rattle.save_call.proofs.save_table.Goals as goal

-- the length that was worked out
whole_length : (ts : List ℕ) {parts wires : ℕ} → parts ≡ length (parts_bytes (lent_table ts).parts) →
    wires ≡ length (wires_bytes 0 (lent_table ts).parts) → parts + 2 + wires + 1 ≡ length (table_bytes (lent_table ts))
whole_length ts parts wires = omega (arith, parts, wires, table_length (lent_table ts))

-- bytes that do not fit, their length being another's name
too_long : (text buf : List ℕ) (n : ℕ) → n ≡ length text → length buf < n → WrittenAs 0 text buf buf (record {
  number = too_short;
  length = n;
})
too_long text buf n size short = rw size (left_out text buf (rw size at short))

pub returns-then-out-length : goal.returns-then-out-length
returns-then-out-length c =
    let told = c.lengths_of-lengths.ensures in
    too_long _ _ _ (whole_length c.args.table.now told.parts_length told.wires_length) c.if-out-length.true

pub put_table-requires-clause-wires_start : goal.put_table-requires-clause-wires_start
put_table-requires-clause-wires_start c = ap (λ (n : ℕ). n + 2) c.lengths_of-lengths.ensures.parts_length

pub put_table-requires-clause-room : goal.put_table-requires-clause-room
put_table-requires-clause-room c =
    let told = c.lengths_of-lengths.ensures in
    omega (arith, whole_length c.args.table.now told.parts_length told.wires_length, c.if-out-length.false)

pub returns : goal.returns
returns c =
    let told = c.lengths_of-lengths.ensures in
    let size = whole_length c.args.table.now told.parts_length told.wires_length in
    put_in (omega (arith, size, c.if-out-length.false)) c.put_table.ensures
