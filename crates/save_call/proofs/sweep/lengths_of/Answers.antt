-- `lengths_of` adds up the lengths part by part.
use Rattle.std.proofs.Common.{ℕ, ◌+◌, ◌<◌, ◌≤◌, ◌≡◌, List, true, length, arith, refl}
use Rattle.machine.specs.declared.part.Source.{Source}
use Rattle.machine.specs.Sound.{table_fits}
use Rattle.machine.specs.TableBytes.{parts_bytes, port_bytes, wires_bytes}
use Rattle.sound_laws.specs.ByteLengths.{port_short, sweeps_short}
use Rattle.words_codec.specs.Words.{tabulate}
use Rattle.words_store.specs.ModelIn.{part_count}
use Rattle.save_call.specs.LentTable.{lent_component, lent_table}
use Rattle.save_call.proofs.TableText.{part_fits_at, parts_counted, wires_counted, parts_within, wires_within}
use Rattle.save_call.proofs.sweep.lengths_of.Goals as goal

-- how long the sums can become with the part at hand
most : (ts : List ℕ) (i : ℕ) → table_fits (lent_table ts) ≡ true → i < part_count ts →
    (length (parts_bytes (tabulate (lent_component ts) (i + 1))) ≤ 1760) ×
    (length (wires_bytes 0 (tabulate (lent_component ts) (i + 1))) ≤ 256)
most ts i fits low =
    let whole = sweeps_short (lent_table ts) fits in
    (omega (arith, whole.0, parts_within ts i low), omega (arith, whole.1, wires_within ts i low))

-- how many bytes a part's wires take, by what was read of its two ports
port_bytes_short : {n : ℕ} {s r : Source} → n ≡ length (port_bytes 0 0 s) → s ≡ r → (n ≡ length (port_bytes 0 0 r)) ×
    (n ≤ 4)
port_bytes_short {s = s} is same = (rw same at is, omega (arith, is, port_short 0 0 s))

pub loop-i-init : goal.loop-i-init
unfolding parts_bytes wires_bytes tabulate
loop-i-init c = (refl, refl)

pub overflow_mul-parts : goal.overflow_mul-parts
overflow_mul-parts c =
    omega (arith, (part_fits_at _ c.requires.fits c.loop-i.i (omega arith)).spans, c.span_count_at.ensures)

pub overflow_add-parts : goal.overflow_add-parts
overflow_add-parts c =
    omega (arith, (part_fits_at _ c.requires.fits c.loop-i.i (omega arith)).spans, c.span_count_at.ensures)

pub overflow_add-parts-in-loop-i : goal.overflow_add-parts-in-loop-i
overflow_add-parts-in-loop-i c =
    let fit = part_fits_at _ c.requires.fits c.loop-i.i (omega arith) in
    omega (
      arith,
      (most _ c.loop-i.i c.requires.fits (omega arith)).0,
      c.loop-i.invariant.0,
      parts_counted c.args.table.now c.loop-i.i fit,
      c.span_count_at.ensures,
    )

pub overflow_add-wires : goal.overflow_add-wires
overflow_add-wires c =
    let first = port_bytes_short c.wire_length.ensures c.port0_at.ensures in
    let second = port_bytes_short c.wire_length-in-loop-i.ensures c.port1_at.ensures in
    omega (arith, first.1, second.1)

pub overflow_add-wires-in-loop-i : goal.overflow_add-wires-in-loop-i
overflow_add-wires-in-loop-i c =
    let fit = part_fits_at _ c.requires.fits c.loop-i.i (omega arith) in
    let first = port_bytes_short c.wire_length.ensures c.port0_at.ensures in
    let second = port_bytes_short c.wire_length-in-loop-i.ensures c.port1_at.ensures in
    omega (
      arith,
      (most _ c.loop-i.i c.requires.fits (omega arith)).1,
      c.loop-i.invariant.1,
      wires_counted c.args.table.now c.loop-i.i fit,
      first.0,
      second.0,
    )

pub loop-i-preserved : goal.loop-i-preserved
loop-i-preserved c =
    let fit = part_fits_at _ c.requires.fits c.loop-i.i (omega arith) in
    let first = port_bytes_short c.wire_length.ensures c.port0_at.ensures in
    let second = port_bytes_short c.wire_length-in-loop-i.ensures c.port1_at.ensures in (
      omega (
        arith,
        c.loop-i.invariant.0,
        parts_counted c.args.table.now c.loop-i.i fit,
        c.span_count_at.ensures,
      ),
      omega (arith, c.loop-i.invariant.1, wires_counted c.args.table.now c.loop-i.i fit, first.0, second.0),
    )

pub returns : goal.returns
unfolding lent_table
returns c =
    let all : c.loop-i.i ≡ part_count c.args.table.now = omega arith in
    let sums = rw all at c.loop-i.invariant in
    let whole = sweeps_short (lent_table c.args.table.now) c.requires.fits in
    record {
      parts_length = sums.0;
      wires_length = sums.1;
      few_bytes = (omega (arith, sums.0, whole.0), omega (arith, sums.1, whole.1));
    }
