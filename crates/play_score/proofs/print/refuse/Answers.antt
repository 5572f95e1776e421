-- `refuse` writes a line that the buffer has room for.
use Rattle.std.proofs.Common.{arith}
use Rattle.refusals.specs.Told.{wrote_ok}
use Rattle.write_bytes.specs.Fitting.{size_told}
use Rattle.play_score.proofs.Openings.{line_said}
use Rattle.play_score.proofs.print.refuse.Goals as goal

pub unwrap-used-requires : goal.unwrap-used-requires
unwrap-used-requires c =
    let told = c.write_refused_at.ensures in
    wrote_ok c.write_refused_at.result told.written_as
    (omega (arith, told.length_bound, c.requires, size_told told.written_as))

pub returns : goal.returns
returns c =
    let told = rw c.unwrap-used.ensures at c.write_refused_at.ensures in
    line_said _ _ _ _ _ _ c.requires told.written_as told.length_bound
