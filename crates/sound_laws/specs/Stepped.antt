-- A step that stays within the time keeps a sound model sound. The new local counts are floor((t + h) / r) because the
-- old ones are floor(t / r). Assumes nothing.
use Rattle.std.specs.Prelude.{ℕ, ◌+◌, ◌/◌, ◌≤◌, ◌<◌, ◌≡◌, refl, true, List, [], ◌∷◌, map, length, eqb}
use Rattle.std.proofs.Common.{arith, sym, ap, ◌∙◌, eqb-true, le-leb}
use Rattle.std.proofs.Math.Bool.{and-eq-true_iff}
use Rattle.machine.specs.declared.time.Point.{Point}
use Rattle.machine.specs.declared.part.Component.{Component}
use Rattle.machine.specs.declared.part.Part.{Part}
use Rattle.machine.specs.declared.model.Model.{Model}
use Rattle.machine.specs.Lists.{All}
use Rattle.machine.specs.Time.{last_tick, last_microstep, point, tick, led_to, in_time, local_count, gained}
use Rattle.machine.specs.Model.{reading0}
use Rattle.machine.specs.Table.{table_of}
use Rattle.machine.specs.Step.{gain_of, moved, all_moved, step_made}
use Rattle.machine.specs.Sound.{sound}
use Rattle.laws.specs.Numbers.{div_grows}
use Rattle.laws.specs.Alls.{map_kept, length_same_map, all_map}
use Rattle.laws.specs.Bools.{cond_cases}
use Rattle.sound_laws.specs.Facts.{operand_values, ComponentFits, table_facts, StateFits, sound_facts, sound_test}
use Rattle.sound_laws.specs.RangesKept.{InRange, all_moved_in_range}
use Rattle.sound_laws.specs.CoreKept.{Core, core, Counted, finished_kept, finished_states}

-- a step of h leads h ticks on
pub led_tick : (p : Point) (h : ℕ) → tick (led_to p h) ≡ tick p + h
unfolding led_to
led_tick p h =
    cond_cases (λ (q : Point). tick q ≡ tick p + h) (eqb h 0) (point (tick p) (p.n + 1)) (point (tick p + h) 0)
    (λ e. rw (eqb-true h 0 e) (omega arith)) (λ e. refl)

-- it leads to a point of the time where the tick is not past the last, and for a step of 0 the microstep is below the
-- last
led_in_time : (p : Point) (h : ℕ) → tick p + h ≤ last_tick → (h ≡ 0 → p.n < last_microstep) →
    in_time (led_to p h) ≡ true
unfolding led_to in_time
led_in_time p h far more =
    cond_cases (λ (q : Point). in_time q ≡ true) (eqb h 0) (point (tick p) (p.n + 1)) (point (tick p + h) 0)
    (λ e.
    let below = more (eqb-true h 0 e) in
    simp and-eq-true_iff (le-leb (tick p) last_tick (omega arith), le-leb (p.n + 1) last_microstep (omega arith)))
    (λ e. simp and-eq-true_iff (le-leb (tick p + h) last_tick far, refl))

-- parts whose components and states fit are in range
fitting_in_range :
    (n t : ℕ) (ps : List Part) → All (ComponentFits n) (map (λ (p : Part). p.component) ps) → All (StateFits t) ps →
    All InRange ps
fitting_in_range n t [] cs ss = tt
fitting_in_range n t (p ∷ ps) cs ss =
    let c = p.component in
    let s = ss.0 in
    let (a, b) = operand_values c.kind c.a c.b c.p cs.0.operands in (
      record { a = a; b = b; held = s.held; speed = s.speed; signal = s.signal; output = s.output },
      fitting_in_range n t ps cs.1 ss.1,
    )

-- so are those of a sound model
pub in_range : (m : Model) → sound m ≡ true → All InRange m.parts
unfolding table_of
in_range m s =
    let f = sound_facts m s in
    fitting_in_range (length (table_of m).parts) (tick m.point) m.parts
    (table_facts (table_of m) f.table).components f.states

-- moving takes local counts of floor(t / r) to floor((t + h) / r)
moved_counted : (t h : ℕ) (ps : List Part) → All (StateFits t) ps →
    All (λ (p : Part). Counted (t + h) (core p)) (all_moved t h ps)
unfolding all_moved moved gain_of gained local_count
moved_counted t h ps f =
    all_map (λ (p : Part). moved t h (reading0 ps p) p) (StateFits t) (λ (p : Part). Counted (t + h) (core p)) ps
    (λ p s.
    let local : p.state.local.0 ≡ t / p.ratio = s.local in
    let more = div_grows p.ratio t (t + h) (omega arith) in
    omega arith)
    f

-- a step keeps whatever of the cores moving keeps
pub step_kept :
    {B : Type 0} (f : Core → B) (m : Model) (h : ℕ) →
    ((p : Part) → f (core (moved (tick m.point) h (reading0 m.parts p) p)) ≡ f (core p)) →
    map (λ (p : Part). f (core p)) (step_made m h).parts ≡ map (λ (p : Part). f (core p)) m.parts
unfolding step_made all_moved
step_kept f m h keeps =
    finished_kept f m.parts (led_to m.point h) m.order (all_moved (tick m.point) h m.parts) ∙
    map_kept (λ (p : Part). f (core p)) (λ (p : Part). moved (tick m.point) h (reading0 m.parts p) p)
    m.parts keeps

-- so it keeps the table
step_table : (m : Model) (h : ℕ) → table_of (step_made m h) ≡ table_of m
unfolding table_of step_made moved
step_table m h =
    ap (λ (cs : List Component). record { magnitude = m.magnitude; parts = cs })
    (step_kept (λ (c : Core). c.component) m h (λ p. refl))

-- a step keeps a model sound
pub step_sound :
    (m : Model) (h : ℕ) → sound m ≡ true → tick m.point + h ≤ last_tick → (h ≡ 0 → m.point.n < last_microstep) →
    sound (step_made m h) ≡ true
unfolding step_made moved
step_sound m h s far more =
    let f = sound_facts m s in
    let r = in_range m s in
    let ratios = step_kept (λ (c : Core). c.ratio) m h (λ p. refl) in
    sound_test (step_made m h)
    (record {
      counted = f.counted ∙ sym (length_same_map (λ (p : Part). p.ratio) (step_made m h).parts m.parts ratios);
      table = rw (step_table m h) f.table;
      ratios = rw (step_table m h) (ratios ∙ f.ratios);
      order = rw (step_table m h) f.order;
      time = led_in_time m.point h far more;
      states =
          finished_states m.parts (led_to m.point h) m.order (all_moved (tick m.point) h m.parts)
          (tick (led_to m.point h)) r
          (all_moved_in_range (tick m.point) h m.parts r)
          (rw (led_tick m.point h) (moved_counted (tick m.point) h m.parts f.states));
    })
