-- The rows of a save: each side computes to the other. Assumes nothing.
use mathlib.Core.Path.{refl}
use Rattle.machine.specs.TableBytes.{operand_bytes, signed_operand, part_bytes, spans_bytes, parts_bytes}
use Rattle.machine.specs.TableBytes.{port_bytes, wires_bytes, table_bytes}
use Rattle.machine.specs.Save.{saved_bytes, save_refusal}
use Rattle.machine.specs.SaveRows.{SaveRows}
use Rattle.machine.proofs.Computing.{computing}

-- the bytes of parts, under one name
unfoldable parts_encoded : Unit {0}
unfolding operand_bytes signed_operand part_bytes spans_bytes parts_bytes
parts_encoded = tt

pub save_rows : SaveRows
unfolding computing parts_encoded port_bytes wires_bytes table_bytes saved_bytes save_refusal
save_rows =
    record {
      bytes = refl;
      longest = (refl, refl, refl);
      refusals = (refl, refl);
      numbers = (refl, refl, refl, refl);
      lengths = (refl, refl);
      buffers = (refl, refl, refl, refl);
    }
