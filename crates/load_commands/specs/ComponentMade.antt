-- The component that a Part's operands make, as document 01 reads it, and as it is in the parts with its eight places
-- for spans. Assumes nothing.
use Rattle.std.specs.Prelude.{[], replicate}
use Rattle.machine.specs.declared.part.Source.TheVariants.{Unwired}
use Rattle.machine.specs.declared.part.Component.{Component}
use Rattle.machine.specs.Kind.{kind_of}
use Rattle.machine.specs.Model.{most_spans}
use Rattle.machine.specs.Load.{signed}
use Rattle.load_operands.specs.declared.operands.PartOperands.{PartOperands}

-- a component that no span or wire has reached yet
unfoldable pub component_of : PartOperands → Component
component_of o =
    record {
      kind = kind_of o.kind;
      preference = o.preference;
      a = signed o.a;
      b = signed o.b;
      p = o.p;
      span_count = 0;
      spans = [];
      port0 = Unwired;
      port1 = Unwired;
    }

-- the same with places for spans
unfoldable pub made_component : PartOperands → Component
made_component o =
    record {
      kind = kind_of o.kind;
      preference = o.preference;
      a = signed o.a;
      b = signed o.b;
      p = o.p;
      span_count = 0;
      spans = replicate most_spans 0;
      port0 = Unwired;
      port1 = Unwired;
    }
