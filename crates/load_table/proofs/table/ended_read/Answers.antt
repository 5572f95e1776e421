-- `ended_read` has the progress's table: its parts with their rows.
use Rattle.std.proofs.Common.{◌≤◌, arith, refl, length}
use Rattle.load_commands.specs.Progress.{reading_of}
use Rattle.load_commands.specs.SpanRows.{length_reading}
use Rattle.load_table.specs.Concluded.{table_read}
use Rattle.load_table.proofs.table.ended_read.Goals as goal

pub returns : goal.returns
unfolding table_read reading_of
returns c =
    let progress = c.args.progress in
    let few : progress.count ≤ length progress.parts = omega (arith, progress.few) in
    record {
      position = refl;
      table = rw (c.with_rows-parts.ensures _);
      counted = length_reading progress c.args.rows few;
      few = progress.few;
    }
