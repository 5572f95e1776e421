-- `put_refused_at` lends what is left of the buffer, which has room for the line: it is put after the lines there.
use Rattle.std.proofs.Common.{arith, refl}
use Rattle.play_score.proofs.Commands.{line_put}
use Rattle.play_score.proofs.lines.Lines.put_refused_at.Goals as goal

pub returns : goal.returns
returns c =
    let told = rw c.unwrap-length.ensures at c.write_refused_at.ensures in
    record {
      same_buffer = refl;
      line_put = line_put c.args.self.now.used c.requires told.written_as (omega (arith, told.length_bound));
    }
