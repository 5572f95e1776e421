-- `turn` is the definition: a command that is unknown or out of place is refused; any other is `placed`'s.
use Rattle.std.proofs.Common.{◌≤◌, arith, ◌∙◌, ap, sym, length}
use Rattle.machine.specs.Load.{byte_at}
use Rattle.load_operands.specs.Refusals.{command_byte}
use Rattle.load_table.specs.Judged.{end_begun, judged_placed, judged_refused}
use Rattle.load_table.specs.SpansKept.{span_asked}
use Rattle.load_table.proofs.turn.turn.Goals as goal

pub returns-in_err-command : goal.returns-in_err-command
unfolding byte_at
returns-in_err-command c =
    let args = c.args in
    let refused =
    judged_refused args.s.now args.at args.progress args.rows _ _ c.requires.here c.in_err-command.ensures.refused
    c.from_residual.ensures.1 in
    record { meant = refused.0; left = refused.1 }

pub placed-requires-clause-begun : goal.placed-requires-clause-begun
placed-requires-clause-begun c = λ end.
    let five = sym c.in_ok-command.ensures.byte ∙ ap command_byte end in
    end_begun _ _ _ five (sym c.in_ok-command.ensures.refused)

pub placed-requires-clause-spannable : goal.placed-requires-clause-spannable
placed-requires-clause-spannable c = λ span.
    let progress = c.args.progress in
    let few : progress.count ≤ length progress.parts = omega (arith, progress.few) in
    let three = sym c.in_ok-command.ensures.byte ∙ ap command_byte span in
    span_asked progress c.args.rows _ few c.requires.readable (sym c.in_ok-command.ensures.refused) three

pub returns-clause-meant : goal.returns-clause-meant
unfolding byte_at
returns-clause-meant c =
    let args = c.args in
    judged_placed args.s.now args.at args.progress args.rows c.requires.here (sym c.in_ok-command.ensures.refused) ∙
    rw (← c.in_ok-command.ensures.byte) c.placed.ensures.meant

pub returns-clause-left : goal.returns-clause-left
unfolding byte_at
returns-clause-left c = rw (← c.in_ok-command.ensures.byte) c.placed.ensures.left
