-- `put_wires` puts the Wire into port 0 and then that into port 1.
use native.Mathlib.Omega.{arith}
use lib.ListN.{length-append}
use Rattle.machine.specs.TableBytes.{port_bytes}
use Rattle.write_bytes.specs.Pieces.{put_then}
use Rattle.save_call.specs.LentTable.{wires_text}
use Rattle.save_call.proofs.writer.put_wires.Goals as goal

pub put_port-next-requires : goal.put_port-next-requires
unfolding wires_text
put_port-next-requires c =
    let part = c.args.c in
    let both = length-append (port_bytes c.args.receiver 0 part.port0)
    (port_bytes c.args.receiver 1 part.port1) in
    record {
      receiver_in_byte = c.requires.receiver_in_byte;
      source_in_byte = c.requires.port0_in_byte;
      room = omega arith;
    }

pub put_port-requires : goal.put_port-requires
unfolding wires_text
put_port-requires c =
    let part = c.args.c in
    let both = length-append (port_bytes c.args.receiver 0 part.port0)
    (port_bytes c.args.receiver 1 part.port1) in
    record {
      receiver_in_byte = c.requires.receiver_in_byte;
      source_in_byte = c.requires.port1_in_byte;
      room = omega arith;
    }

pub returns : goal.returns
unfolding wires_text
returns c =
    put_then c.put_port-next.ensures c.put_port.ensures
