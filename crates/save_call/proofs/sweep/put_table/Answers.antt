-- `put_table` puts Begin, then each part and its wires, then End.
use Rattle.std.proofs.Common.{ℕ, ◌+◌, ◌%◌, ◌≤◌, ◌<◌, ◌≡◌, List, [], ◌∷◌, length, length-append, arith, refl, ap}
use Rattle.machine.specs.declared.part.Component.{Component}
use Rattle.machine.specs.Model.{trimmed_component}
use Rattle.machine.specs.Load.{begin_byte, end_byte}
use Rattle.machine.specs.TableBytes.{parts_bytes, wires_bytes, table_bytes}
use Rattle.words_codec.specs.Words.{tabulate}
use Rattle.words_store.specs.ModelIn.{slot, part_count, stored_component}
use Rattle.sound_laws.specs.ByteLengths.{table_length}
use Rattle.write_bytes.specs.Put.{Put}
use Rattle.save_call.specs.LentTable.{lent_component, lent_table, part_text, wires_text}
use Rattle.save_call.proofs.TableText.{some_parts, part_fits_at, parts_bytes_more, wires_bytes_more}
use Rattle.save_call.proofs.TableText.{parts_counted, parts_within, wires_within}
use Rattle.save_call.proofs.TableSweep.{Sweep, swept_none, swept_part, swept_wires, swept_all}
use Rattle.save_call.proofs.sweep.put_table.Goals as goal

-- one part more, as it was read and put, and its wires
part_swept : (ts : List ℕ) {i wires p q r s m n : ℕ} {k : Component} {a b c d : List ℕ} → i < part_count ts →
    k ≡ stored_component ts i →
    wires ≡ length (parts_bytes (lent_table ts).parts) + 2 →
    Sweep 2 wires (parts_bytes (tabulate (lent_component ts) i))
    (wires_bytes 0 (tabulate (lent_component ts) i)) a b p q →
    Put m (part_text (trimmed_component k)) p b c r → Put n (wires_text i k) q c d s →
    Sweep 2 wires (parts_bytes (tabulate (lent_component ts) (i + 1)))
    (wires_bytes 0 (tabulate (lent_component ts) (i + 1))) a d r s
unfolding lent_component trimmed_component wires_text
part_swept ts {i = i} {wires = wires} {p = p} {r = r} {m = m} {b = b} {c = c} low is begins sweep part into =
    let more = parts_bytes_more (lent_component ts) i in
    let put : Put m (part_text (lent_component ts i)) p b c r = rw is at part in
    let end : r ≤ wires =
    omega (
      arith,
      put.position,
      sweep.ends,
      begins,
      parts_within ts i low,
      ap length more,
      length-append (parts_bytes (tabulate (lent_component ts) i)) (part_text (lent_component ts i)),
    ) in
    rw (more, wires_bytes_more (lent_component ts) i) (swept_wires (swept_part sweep put end) (rw is at into))

-- once all parts were put and End is, the table's bytes were
table_put : (ts : List ℕ) {i e wires p q r two m n : ℕ} {l a b c : List ℕ} → i ≡ part_count ts → e ≡ slot ts 0 % 256 →
    wires ≡ length (parts_bytes (lent_table ts).parts) + 2 → Put m (begin_byte ∷ e ∷ []) 0 l a two →
    Sweep 2 wires (parts_bytes (tabulate (lent_component ts) i))
    (wires_bytes 0 (tabulate (lent_component ts) i)) a b p q → Put n (end_byte ∷ []) q b c r →
    Put (length (table_bytes (lent_table ts))) (table_bytes (lent_table ts)) 0 l c r
unfolding lent_table table_bytes
table_put ts {m = m} {l = l} {a = a} all magnitude begins first sweep end =
    let begin : Put m (begin_byte ∷ slot ts 0 % 256 ∷ []) 0 l a 2 = rw (first.position, magnitude) at first in
    let swept = swept_wires (rw all at sweep) end in
    swept_all begin swept (omega (arith, swept.ends, begins))

pub put_begin-at-requires : goal.put_begin-at-requires
put_begin-at-requires c = omega (arith, table_length (lent_table c.args.table.now), c.requires.room)

pub loop-i-init : goal.loop-i-init
unfolding parts_bytes wires_bytes tabulate
loop-i-init c =
    let two : c.put_begin-at.result ≡ 2 = c.put_begin-at.ensures.position in
    let size = table_length (lent_table c.args.table.now) in
    rw two (swept_none 2 c.args.wires _ (omega arith) (omega (arith, size, c.requires.room)))

pub put_component-at-requires-clause-few_spans : goal.put_component-at-requires-clause-few_spans
put_component-at-requires-clause-few_spans c =
    let fit = part_fits_at _ c.requires.fits c.loop-i.i (omega arith) in
    omega (arith, ap (λ (k : Component). k.span_count) c.component_at-c.ensures, fit.spans)

pub put_component-at-requires-clause-room : goal.put_component-at-requires-clause-room
put_component-at-requires-clause-room c =
    let fit = part_fits_at _ c.requires.fits c.loop-i.i (omega arith) in
    omega (
      arith,
      ap (λ (k : Component). k.span_count) c.component_at-c.ensures,
      parts_counted c.args.table.now c.loop-i.i fit,
      parts_within c.args.table.now c.loop-i.i (omega arith),
      c.loop-i.invariant.ends,
      table_length (lent_table c.args.table.now),
      c.requires.room,
    )

pub put_component-at-requires-clause-fits : goal.put_component-at-requires-clause-fits
put_component-at-requires-clause-fits c =
    rw c.component_at-c.ensures (part_fits_at _ c.requires.fits c.loop-i.i (omega arith)).operands

pub put_wires-next-requires-clause-receiver_in_byte : goal.put_wires-next-requires-clause-receiver_in_byte
put_wires-next-requires-clause-receiver_in_byte c = omega (arith, (some_parts _ c.requires.fits).1)

pub put_wires-next-requires-clause-port0_in_byte : goal.put_wires-next-requires-clause-port0_in_byte
put_wires-next-requires-clause-port0_in_byte c =
    rw c.component_at-c.ensures (part_fits_at _ c.requires.fits c.loop-i.i (omega arith)).port0

pub put_wires-next-requires-clause-port1_in_byte : goal.put_wires-next-requires-clause-port1_in_byte
put_wires-next-requires-clause-port1_in_byte c =
    rw c.component_at-c.ensures (part_fits_at _ c.requires.fits c.loop-i.i (omega arith)).port1

pub put_wires-next-requires-clause-room : goal.put_wires-next-requires-clause-room
unfolding lent_component trimmed_component wires_text
put_wires-next-requires-clause-room c =
    let ts = c.args.table.now in
    let i = c.loop-i.i in
    let text : length (wires_text i c.component_at-c.result) ≡ length (wires_text i (lent_component ts i)) =
    rw c.component_at-c.ensures refl in
    omega (
      arith,
      text,
      ap length (wires_bytes_more (lent_component ts) i),
      length-append (wires_bytes 0 (tabulate (lent_component ts) i)) (wires_text i (lent_component ts i)),
      wires_within ts i (omega arith),
      c.loop-i.invariant.next,
      c.requires.wires_start,
      c.requires.room,
      table_length (lent_table ts),
    )

pub loop-i-preserved : goal.loop-i-preserved
loop-i-preserved c =
    part_swept c.args.table.now (omega arith) c.component_at-c.ensures c.requires.wires_start c.loop-i.invariant
    c.put_component-at.ensures c.put_wires-next.ensures

pub put_byte-requires : goal.put_byte-requires
unfolding lent_table
put_byte-requires c =
    let ts = c.args.table.now in
    let all : c.loop-i.i ≡ part_count ts = omega arith in
    omega (
      arith,
      ap (λ (i : ℕ). length (wires_bytes 0 (tabulate (lent_component ts) i))) all,
      c.loop-i.invariant.next,
      c.requires.wires_start,
      c.requires.room,
      table_length (lent_table ts),
    )

pub returns : goal.returns
returns c =
    table_put c.args.table.now (omega arith) c.magnitude_of.ensures c.requires.wires_start c.put_begin-at.ensures
    c.loop-i.invariant c.put_byte.ensures
