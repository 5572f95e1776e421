-- `put_port` puts nothing for an unwired port, and the Wire for another, whose numbers fit a byte each.
use Prim.Native.Nat.{ℕ, ◌+◌, ◌≤◌, ◌<◌}
use native.Mathlib.Omega.{arith}
use mathlib.Core.Path.{◌≡◌, refl}
use lib.ListN.{length}
use Rattle.machine.specs.declared.part.Source.{Source}
use Rattle.machine.specs.declared.part.Source.TheVariants.{From}
use Rattle.machine.specs.TableBytes.{port_bytes}
use Rattle.write_bytes.specs.Pieces.{put_nothing, put_as}
use Rattle.save_call.specs.LentTable.{SourceInByte}
use borrow.Author.Rules.{rules}
use Rattle.save_call.proofs.writer.put_port.Goals as goal

-- a wired port takes four bytes, and its source's number fits a byte
wire_room : (receiver port at n k : ℕ) (s : Source) → s ≡ From k → at + length (port_bytes receiver port s) ≤ n →
    at + 4 ≤ n
unfolding port_bytes
wire_room receiver port at n k s is room = rw is at room

source_small : (k : ℕ) (s : Source) → s ≡ From k → SourceInByte s → k < 256
source_small k s is small = rw is at small

pub overflow_cast-k : goal.overflow_cast-k
overflow_cast-k c =
    let small = source_small _ _ c.in-From.is c.requires.source_in_byte in
    search rules

pub put_wire-requires : goal.put_wire-requires
put_wire-requires c =
    let room = wire_room c.args.receiver c.args.port c.args.at _ _ _ c.in-From.is c.requires.room in
    omega arith

pub returns-in-Unwired : goal.returns-in-Unwired
unfolding port_bytes
returns-in-Unwired c = rw c.in-Unwired.is (put_as (put_nothing _ _) refl (omega arith))

pub returns-in-From : goal.returns-in-From
unfolding port_bytes
returns-in-From c =
    rw c.in-From.is c.put_wire.ensures
