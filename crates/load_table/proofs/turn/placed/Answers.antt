-- `placed` is the definition by the command: each command is the definition's at its width, and End is judged after the
-- table.
use Rattle.std.proofs.Common.{◌∙◌, refl, sym}
use Rattle.load_table.specs.EndReached.{end_judged}
use Rattle.load_table.specs.Judged.{begin_sized, part_sized, passed_on, span_sized, wire_sized}
use Rattle.load_table.proofs.turn.placed.Goals as goal

pub returns-in_err-begin-in-Begin-clause-meant : goal.returns-in_err-begin-in-Begin-clause-meant
returns-in_err-begin-in-Begin-clause-meant c =
    let refused = c.in_err-begin-in-Begin.ensures.meant c.args.rows ∙ begin_sized _ _ _ in
    let passed = passed_on c.args.at c.args.progress c.args.rows _ _ c.from_residual.ensures.1 in
    rw c.in-Begin.is (sym refused ∙ passed)

pub returns-in_ok-begin-in-Begin-clause-meant : goal.returns-in_ok-begin-in-Begin-clause-meant
returns-in_ok-begin-in-Begin-clause-meant c =
    rw c.in-Begin.is (sym (c.in_ok-begin-in-Begin.ensures.meant c.args.rows ∙ begin_sized _ _ _))

pub returns-in_err-part-in-Part-clause-meant : goal.returns-in_err-part-in-Part-clause-meant
returns-in_err-part-in-Part-clause-meant c =
    let refused = c.in_err-part-in-Part.ensures.meant c.args.rows ∙ part_sized _ _ _ in
    let passed = passed_on c.args.at c.args.progress c.args.rows _ _ c.from_residual-in_err-part-in-Part.ensures.1 in
    rw c.in-Part.is (sym refused ∙ passed)

pub returns-in_ok-part-in-Part-clause-meant : goal.returns-in_ok-part-in-Part-clause-meant
returns-in_ok-part-in-Part-clause-meant c =
    rw c.in-Part.is (sym (c.in_ok-part-in-Part.ensures.meant c.args.rows ∙ part_sized _ _ _))

pub returns-in_err-span_beside-in-Span-clause-meant : goal.returns-in_err-span_beside-in-Span-clause-meant
returns-in_err-span_beside-in-Span-clause-meant c =
    let refused = c.in_err-span_beside-in-Span.ensures.meant ∙ span_sized _ _ _ in
    let args = c.args in
    let passed = passed_on args.at args.progress args.rows _ _ c.from_residual-in_err-span_beside-in-Span.ensures.1 in
    rw c.in-Span.is (sym refused ∙ passed)

pub returns-in_ok-span_beside-in-Span-clause-meant : goal.returns-in_ok-span_beside-in-Span-clause-meant
returns-in_ok-span_beside-in-Span-clause-meant c =
    rw c.in-Span.is (sym (c.in_ok-span_beside-in-Span.ensures.meant ∙ span_sized _ _ _))

pub returns-in_err-wire-in-Wire-clause-meant : goal.returns-in_err-wire-in-Wire-clause-meant
returns-in_err-wire-in-Wire-clause-meant c =
    let refused = c.in_err-wire-in-Wire.ensures.meant c.args.rows ∙ wire_sized _ _ _ in
    let passed = passed_on c.args.at c.args.progress c.args.rows _ _ c.from_residual-in_err-wire-in-Wire.ensures.1 in
    rw c.in-Wire.is (sym refused ∙ passed)

pub returns-in_ok-wire-in-Wire-clause-meant : goal.returns-in_ok-wire-in-Wire-clause-meant
returns-in_ok-wire-in-Wire-clause-meant c =
    rw c.in-Wire.is (sym (c.in_ok-wire-in-Wire.ensures.meant c.args.rows ∙ wire_sized _ _ _))

pub returns-in-End-clause-meant : goal.returns-in-End-clause-meant
returns-in-End-clause-meant c = rw c.in-End.is (end_judged _ _ _ _ c.requires.here refl)
