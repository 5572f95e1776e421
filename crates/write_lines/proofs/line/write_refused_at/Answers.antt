-- `write_refused_at` works out how long the line is, and puts it where it fits.
use Rattle.std.proofs.Common.{arith}
use Rattle.write_bytes.specs.Fitting.{put_in}
use Rattle.write_lines.proofs.LineBounds.{no_room, refused_at_size}
use Rattle.write_lines.proofs.line.write_refused_at.Goals as goal

pub returns-then-buf-length-clause-written_as : goal.returns-then-buf-length-clause-written_as
returns-then-buf-length-clause-written_as c =
    no_room _ _ _ (simp refused_at_size (omega arith)) c.if-buf-length.true

pub put_refused_at_line-requires : goal.put_refused_at_line-requires
put_refused_at_line-requires c = simp refused_at_size (omega arith)

pub returns-clause-written_as : goal.returns-clause-written_as
returns-clause-written_as c = put_in (simp refused_at_size (omega arith)) c.put_refused_at_line.ensures
