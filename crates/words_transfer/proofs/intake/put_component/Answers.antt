-- `put_component` writes the three runs of the record.
use Rattle.words_transfer.specs.ComponentPut.{component_put}
use Rattle.words_transfer.proofs.intake.put_component.Goals as goal

pub returns : goal.returns
returns c =
    component_put c.args.i c.args.p.now.component _ _ _ _ _ _ c.put_operands.ensures c.put_spans.ensures
    c.put_wires.ensures
