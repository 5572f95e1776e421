-- Document 01, "Kinds of part" and "One advance", with request 2: a step made. No part is asked, and there is no trial,
-- round or ceiling: this file imports nothing of acceptance or advancing. Assumes nothing.
use Rattle.std.specs.Prelude.{ℕ, ◌+◌, cond, List, [], ◌∷◌, map, set, ℤ}
use Rattle.machine.specs.declared.time.Point.{Point}
use Rattle.machine.specs.declared.signal.Signal.{Signal}
use Rattle.machine.specs.declared.signal.Signal.TheVariants.{Value}
use Rattle.machine.specs.declared.part.Kind.{Kind}
use Rattle.machine.specs.declared.part.Kind.TheVariants.{Constant, Gain, Adder, Square, Pulse, Delay, Integrator}
use Rattle.machine.specs.declared.part.Kind.TheVariants.{ResetIntegrator, Detector, Hold, Sampler, Drive}
use Rattle.machine.specs.declared.part.Kind.TheVariants.{Clapper}
use Rattle.machine.specs.declared.part.State.{State}
use Rattle.machine.specs.declared.part.Part.{Part}
use Rattle.machine.specs.declared.model.Model.{Model}
use Rattle.machine.specs.Time.{tick, led_to, gained}
use Rattle.machine.specs.Signal.{integrated, integral}
use Rattle.machine.specs.Kind.{output, integrates, has_mass, side_after, mark_after}
use Rattle.machine.specs.Model.{part_at, with_state, with_parts, reading0, reading1}

-- "each part's d is taken at the old point": the local ticks that a step of h from tick t adds
unfoldable pub gain_of : ℕ → ℕ → Part → ℕ
gain_of t h p = (gained t p.ratio p.state.local h).0

-- request 2, "speed becomes clamp(speed + x × d) .. Here x is port 0 at the old point, and absent counts as 0"; of the
-- other kinds it stays
unfoldable pub moved_speed : Part → Signal → ℕ → ℤ
moved_speed p x d = cond (has_mass p.component.kind) (integral p.state.speed x d) p.state.speed

-- what a held number integrates: x, but of a clapper the "new speed"
unfoldable pub rate : Part → Signal → ℕ → Signal
rate p x d = cond (has_mass p.component.kind) (Value (moved_speed p x d)) x

-- "Held numbers move as their kinds say, by d and port 0 at the old point", which reads x; "and then position becomes
-- clamp(position + new speed × d)"
unfoldable pub moved_held : Part → Signal → ℕ → ℤ
moved_held p x d = cond (integrates p.component.kind) (integral p.state.held (rate p x d) d) p.state.held

-- the part with its d "added to its local count", and its held number and speed moved
unfoldable pub moved : ℕ → ℕ → Signal → Part → Part
moved t h x p =
    with_state p
    (record {
      local = record { 0 = p.state.local.0 + gain_of t h p };
      held = moved_held p x (gain_of t h p);
      speed = moved_speed p x (gain_of t h p);
      signal = p.state.signal;
      output = p.state.output;
      side = p.state.side;
      mark = p.state.mark;
    })

-- the part with another stored output
abbrev pub with_output : Part → Signal → Part
with_output p out =
    with_state p
    (record {
      local = p.state.local;
      held = p.state.held;
      speed = p.state.speed;
      signal = p.state.signal;
      output = out;
      side = p.state.side;
      mark = p.state.mark;
    })

-- the part p of the parts ps with its output at the point now; the parts `old` are at the point before
unfoldable pub shown : List Part → Point → List Part → Part → Part
shown old now ps p = with_output p (output p now (reading0 ps p) (reading1 ps p) (reading0 old p))

-- "All outputs there follow, in the part order that loading gave; delays read the old point, and detectors show the
-- mark set there"
unfoldable pub filled : List Part → Point → List ℕ → List Part → List Part
filled old now [] ps = ps
filled old now (k ∷ ks) ps = filled old now ks (set ps k (shown old now ps (part_at ps k)))

-- "Then kinds 7 and 9 hold their output, and detectors take mark and side", x being port 0 at the new point
unfoldable pub settled_as : Kind → Signal → State → State
settled_as Constant x s = s
settled_as Gain x s = s
settled_as Adder x s = s
settled_as Square x s = s
settled_as Pulse x s = s
settled_as Delay x s = s
settled_as Integrator x s = s
settled_as ResetIntegrator x s =
    record {
      local = s.local;
      held = integrated s.output;
      speed = s.speed;
      signal = s.signal;
      output = s.output;
      side = s.side;
      mark = s.mark;
    }
settled_as Detector x s =
    record {
      local = s.local;
      held = s.held;
      speed = s.speed;
      signal = s.signal;
      output = s.output;
      side = side_after s.side x;
      mark = mark_after s.side x;
    }
settled_as Hold x s =
    record {
      local = s.local;
      held = s.held;
      speed = s.speed;
      signal = s.output;
      output = s.output;
      side = s.side;
      mark = s.mark;
    }
settled_as Sampler x s = s
settled_as Drive x s = s
settled_as Clapper x s = s

-- a part settled so, by its kind
unfoldable pub settled : Signal → Part → Part
settled x p = with_state p (settled_as p.component.kind x p.state)

-- all parts moved, each by what its port 0 reads in the list given
unfoldable pub all_moved : ℕ → ℕ → List Part → List Part
all_moved t h ps = map (λ (p : Part). moved t h (reading0 ps p) p) ps

-- all parts settled, likewise
unfoldable pub all_settled : List Part → List Part
all_settled ps = map (λ (p : Part). settled (reading0 ps p) p) ps

-- "To make a step of h": move, take the time to the point that h leads to, show all outputs there, settle
unfoldable pub step_made : Model → ℕ → Model
step_made m h =
    with_parts m (led_to m.point h)
    (all_settled (filled m.parts (led_to m.point h) m.order (all_moved (tick m.point) h m.parts)))

-- "the list's committed steps are made again", in order
unfoldable pub steps_made : Model → List ℕ → Model
steps_made m [] = m
steps_made m (h ∷ hs) = steps_made (step_made m h) hs
