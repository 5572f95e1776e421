-- `span_beside` is `span` with the last span of the last part's row, which is kept apart from the progress, so that it
-- is document 01's.
use Rattle.std.proofs.Common.{◌≤◌, ◌∙◌, arith, ap, length}
use Rattle.load_commands.specs.Beside.{span_beside_as}
use Rattle.load_commands.specs.Spanned.{RowThere}
use Rattle.load_commands.specs.CommandSteps.{uncut}
use Rattle.load_table.proofs.turn.span_beside.Goals as goal

pub returns-clause-meant : goal.returns-clause-meant
returns-clause-meant c =
    let last = c.last_span-last.ensures in
    let s = c.args.s.now in
    let progress = c.args.progress in
    let row : RowThere progress c.args.rows = record { there = omega (arith, progress.few); eight = last.eight } in
    let few : progress.count ≤ length progress.parts = omega (arith, progress.few) in
    let same =
    span_beside_as progress c.args.rows _ c.requires.spannable.some few (record { row = row; final = last.is })
    s c.args.at in
    c.span.ensures.meant _ row ∙ ap (uncut s c.args.at 5) same
