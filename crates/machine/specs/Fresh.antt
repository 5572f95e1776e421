-- Document 01, "Kinds of part", with request 2: the fresh model of a table, at the start point. "The same rules fill
-- the start point." Assumes nothing.
use Rattle.std.specs.Prelude.{cond, List, [], map, length, pos}
use Rattle.machine.specs.declared.signal.Signal.TheVariants.{Absent}
use Rattle.machine.specs.declared.part.Side.TheVariants.{Unset}
use Rattle.machine.specs.declared.part.Mark.TheVariants.{Clear}
use Rattle.machine.specs.declared.part.Component.{Component}
use Rattle.machine.specs.declared.part.State.{State}
use Rattle.machine.specs.declared.part.Part.{Part}
use Rattle.machine.specs.declared.model.Model.{Model}
use Rattle.machine.specs.Time.{start}
use Rattle.machine.specs.Kind.{integrates, has_mass}
use Rattle.machine.specs.Table.{Table, component_ratio, part_order}
use Rattle.machine.specs.Step.{filled, all_settled}

-- "a local count, 0 at the start"; "held number, starting at a"; a "speed (starting at b)"; the held signal "at first
-- absent"; "The side is unset until a first value"
unfoldable pub first_state : Component → State
first_state c =
    record {
      local = record { 0 = 0 };
      held = cond (integrates c.kind) c.a (pos 0);
      speed = cond (has_mass c.kind) c.b (pos 0);
      signal = Absent;
      output = Absent;
      side = Unset;
      mark = Clear;
    }

-- a part before the start point is filled
unfoldable pub first_part : Table → Component → Part
first_part t c = record { component = c; ratio = component_ratio t c; state = first_state c }

-- all parts of a table, before the start point is filled
unfoldable pub first_parts : Table → List Part
first_parts t = map (first_part t) t.parts

-- the fresh model; there is no point before the start point, so no parts are there
unfoldable pub fresh : Table → Model
fresh t =
    record {
      magnitude = t.magnitude;
      count = length t.parts;
      order = part_order t.parts;
      point = start;
      parts = all_settled (filled [] start (part_order t.parts) (first_parts t));
    }
