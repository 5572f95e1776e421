-- The records of a model, as the definitions read and write them. Document 01 fixes what a model is: its table, ratios,
-- part order and point, and what its parts keep. The declared struct `Model` has room for more parts and spans than are
-- in use; `trimmed` cuts that room away, so that two models are equal, in document 01's sense, when they are equal
-- trimmed. Every definition of the machine is about trimmed models. Assumes nothing.
use Rattle.std.specs.Prelude.{ℕ, ◌<◌, ◌≡◌, List, [], map, get_or, take, drop, pos}
use Rattle.machine.specs.declared.time.Point.{Point}
use Rattle.machine.specs.declared.signal.Signal.{Signal}
use Rattle.machine.specs.declared.signal.Signal.TheVariants.{Absent}
use Rattle.machine.specs.declared.part.Kind.TheVariants.{Constant}
use Rattle.machine.specs.declared.part.Source.{Source}
use Rattle.machine.specs.declared.part.Source.TheVariants.{Unwired, From}
use Rattle.machine.specs.declared.part.Side.TheVariants.{Unset}
use Rattle.machine.specs.declared.part.Mark.TheVariants.{Clear}
use Rattle.machine.specs.declared.part.Component.{Component}
use Rattle.machine.specs.declared.part.State.{State}
use Rattle.machine.specs.declared.part.Part.{Part}
use Rattle.machine.specs.declared.model.Model.{Model}
use Rattle.machine.specs.Answers.{Loaded}
use Rattle.machine.specs.declared.model.Answer.{Answer}
use Rattle.machine.specs.Time.{start}

-- "at most 32" parts, and "eight places for spans"
abbrev pub most_parts : ℕ
most_parts = 32

abbrev pub most_spans : ℕ
most_spans = 8

-- a part with all of it 0, which is where a list has no such part
abbrev pub blank_component : Component
blank_component =
    record {
      kind = Constant;
      preference = 0;
      a = pos 0;
      b = pos 0;
      p = 0;
      span_count = 0;
      spans = [];
      port0 = Unwired;
      port1 = Unwired;
    }

abbrev pub blank_state : State
blank_state = record {
  local = record { 0 = 0 };
  held = pos 0;
  speed = pos 0;
  signal = Absent;
  output = Absent;
  side = Unset;
  mark = Clear;
}

abbrev pub blank_part : Part
blank_part = record { component = blank_component; ratio = 0; state = blank_state }

-- the part k of a list
abbrev pub part_at : List Part → ℕ → Part
part_at ps k = get_or ps k blank_part

-- "'No model' is a model of no parts with all else 0"
unfoldable pub no_model : Model
no_model = record { magnitude = 0; count = 0; order = []; point = start; parts = [] }

-- a part with another state
abbrev pub with_state : Part → State → Part
with_state p s = record { component = p.component; ratio = p.ratio; state = s }

-- a model with other parts, standing at another point
abbrev pub with_parts : Model → Point → List Part → Model
with_parts m now ps = record { magnitude = m.magnitude; count = m.count; order = m.order; point = now; parts = ps }

-- what a port reads in a list of parts: "An unwired port reads absent", another the stored output of its source
unfoldable pub reading : List Part → Source → Signal
reading ps Unwired = Absent
reading ps (From k) = (part_at ps k).state.output

-- what a part's port 0 reads
unfoldable pub reading0 : List Part → Part → Signal
reading0 ps p = reading ps p.component.port0

-- what its port 1 reads
unfoldable pub reading1 : List Part → Part → Signal
reading1 ps p = reading ps p.component.port1

-- a component without the places that no span is in
unfoldable pub trimmed_component : Component → Component
trimmed_component c =
    record {
      kind = c.kind;
      preference = c.preference;
      a = c.a;
      b = c.b;
      p = c.p;
      span_count = c.span_count;
      spans = take c.span_count c.spans;
      port0 = c.port0;
      port1 = c.port1;
    }

-- a part with such a component
unfoldable pub trimmed_part : Part → Part
trimmed_part p = record { component = trimmed_component p.component; ratio = p.ratio; state = p.state }

-- a model of such parts, without the places that no part is in
unfoldable pub trimmed : Model → Model
trimmed m =
    record {
      magnitude = m.magnitude;
      count = m.count;
      order = take m.count m.order;
      point = m.point;
      parts = map trimmed_part (take m.count m.parts);
    }

-- what loading answered, with its model trimmed
unfoldable pub trimmed_loaded : Loaded → Loaded
trimmed_loaded r = record { number = r.number; position = r.position; model = trimmed r.model }

-- what advancing answered, with its model trimmed
unfoldable pub trimmed_answer : Answer → Answer
trimmed_answer r =
    record {
      model = trimmed r.model;
      number = r.number;
      step = r.step;
      rounds = r.rounds;
      revisions = r.revisions;
      ceiling = r.ceiling;
    }

-- "bytes of unused places" are what `trimmed` cuts away: the places for spans of part i that no span is in ..
unfoldable pub spare_spans : Model → ℕ → List ℕ
spare_spans m i = drop (part_at m.parts i).component.span_count (part_at m.parts i).component.spans

-- .. and the places of the order and of the parts that no part is in. The two models have the same ones
pub record SameUnused (m r : Model) : Type 0 where
  pub orders : drop m.count r.order ≡ drop m.count m.order
  pub parts : drop m.count r.parts ≡ drop m.count m.parts
  pub spans : (i : ℕ) → i < m.count → spare_spans r i ≡ spare_spans m i
