-- `put_refusal` puts the text `refused `, and the number's digits after it.
use native.Mathlib.Omega.{arith}
use Rattle.write_bytes.specs.Pieces.{put_then}
use Rattle.write_lines.proofs.line.put_refusal.Goals as goal

pub put_decimal-requires : goal.put_decimal-requires
put_decimal-requires c = omega arith

pub returns : goal.returns
returns c =
    put_then c.put_text-at.ensures c.put_decimal.ensures
