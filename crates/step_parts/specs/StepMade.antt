-- A step made of moving, filling and settling: where it leads, what each asks of the model that the one before it
-- gives, and what they come to. Assumes nothing.
use Rattle.std.specs.Prelude.{ℕ, ◌+◌, ◌≤◌, ◌<◌, ◌≡◌, refl, Bool, true, false, List, map, eqb, length}
use Rattle.std.proofs.Common.{arith, sym, ap, subst, ◌∙◌, eqb-true, le-leb}
use Rattle.machine.specs.declared.time.Point.{Point}
use Rattle.std.specs.Prelude.{Some, None}
use Rattle.machine.specs.declared.part.Part.{Part}
use Rattle.machine.specs.declared.model.Model.{Model}
use Rattle.machine.specs.Time.{in_time, last_microstep, last_tick, led_to, stepped, tick}
use Rattle.machine.specs.Kind.{period}
use Rattle.machine.specs.Model.{with_parts, reading0, trimmed}
use Rattle.machine.specs.Table.{table_of}
use Rattle.machine.specs.Step.{moved, all_moved, filled, all_settled}
use Rattle.machine.specs.Sound.{sound}
use Rattle.laws.specs.Alls.{map_kept, all_map, all_give}
use Rattle.sound_laws.specs.Facts.{table_facts, sound_facts}
use Rattle.sound_laws.specs.RangesKept.{InRange, all_moved_in_range}
use Rattle.sound_laws.specs.CoreKept.{filled_kept}
use Rattle.sound_laws.specs.Stepped.{in_range}
use Rattle.order_laws.specs.Order.{order_complete, order_length}
use Rattle.order_laws.specs.Models.{moved_components}
use Rattle.step_parts.specs.Trimmed.{Changed}
use Rattle.step_parts.specs.Fillable.{Wired, Fillable, InRangeUnshown, in_range_unshown, kept_wired}
use Rattle.step_parts.specs.Fillable.{changed_wired}
use Rattle.step_parts.specs.WiredParts.{sound_wired, sound_periods, sound_many}

-- once a sound model's parts are moved, its outputs can be filled
pub moved_fillable :
    (m : Model) (now : Point) (h : ℕ) → sound m ≡ true →
    Fillable m (with_parts m now (all_moved (tick m.point) h m.parts))
unfolding all_moved moved table_of
moved_fillable m now h s =
    let facts = sound_facts m s in
    let t = tick m.point in
    let f : Part → Part = λ p. moved t h (reading0 m.parts p) p in
    let cs = (table_of m).parts in
    record {
      wired = kept_wired m now (map f m.parts) (map_kept (λ (p : Part). p.component) f m.parts (λ p. refl))
          (sound_wired m s);
      counted = facts.counted;
      same = refl;
      places = sym (ap length facts.order ∙ order_length cs (table_facts (table_of m) facts.table).order ∙
          sound_many m s);
      complete = rw (moved_components t h m.parts, facts.order)
          (order_complete cs (table_facts (table_of m) facts.table).order);
      periods =
          all_map f (λ (p : Part). period p ≤ last_tick) (λ (p : Part). period p ≤ last_tick) m.parts (λ p w. w)
          (sound_periods m s);
      before = in_range m s;
      ranges = all_give InRange InRangeUnshown (all_moved t h m.parts) in_range_unshown
          (all_moved_in_range t h m.parts (in_range m s));
    }

-- a model with its outputs filled, and then settled
pub filled_settled :
    (old : List Part) (b f r : Model) → Changed b (filled old b.point (trimmed b).order (trimmed b).parts) f →
    Changed f (all_settled (trimmed f).parts) r →
    Changed b (all_settled (filled old b.point (trimmed b).order (trimmed b).parts)) r
unfolding trimmed
filled_settled old b f r fills settles =
    record { is = settles.is ∙ ap (λ (x : Model). with_parts x x.point (all_settled x.parts)) fills.is }

-- the model a at another point
abbrev pub at_point : Model → Point → Model
at_point a now = with_parts a now a.parts

-- the model m with its parts moved, at the new point
pub moved_is :
    (m a : Model) (now : Point) (ps : List Part) → Changed m ps a →
    trimmed (at_point a now) ≡ with_parts (trimmed m) now ps
unfolding trimmed
moved_is m a now ps moves = ap (λ (x : Model). with_parts x now x.parts) moves.is

-- a step within the time leads to a point of it
leads_by : (b : Bool) (p : Point) (h : ℕ) → eqb h 0 ≡ b → tick p + h ≤ last_tick → (h ≡ 0 → p.n < last_microstep) →
    stepped p h ≡ Some (led_to p h)
unfolding stepped in_time led_to
leads_by true p h e within before =
    let zero = before (eqb-true h 0 e) in
    simp (e, le-leb (tick p) last_tick (omega arith), le-leb (p.n + 1) last_microstep (omega arith))
leads_by false p h e within before = simp (e, le-leb (tick p + h) last_tick within)

leads : (p : Point) (h : ℕ) → tick p + h ≤ last_tick → (h ≡ 0 → p.n < last_microstep) → stepped p h ≡ Some (led_to p h)
leads p h within before = leads_by (eqb h 0) p h refl within before

-- so it is not past the time, and where it leads is the definition's point
pub never_past : (p : Point) (h : ℕ) → tick p + h ≤ last_tick → (h ≡ 0 → p.n < last_microstep) → stepped p h ≡ None → ⊥
never_past p h within before past = let e = leads p h within before in let z : ◌≡◌ {A = ℕ} 0 1 = cc in omega arith

pub leads_to : (p q : Point) (h : ℕ) → tick p + h ≤ last_tick → (h ≡ 0 → p.n < last_microstep) → stepped p h ≡ Some q →
    q ≡ led_to p h
leads_to p q h within before to = let e = leads p h within before in cc

-- what filling asks of the moved model
pub made_fillable :
    (m a : Model) (now : Point) (h : ℕ) → sound (trimmed m) ≡ true →
    Changed m (all_moved (tick m.point) h (trimmed m).parts) a → Fillable (trimmed m) (trimmed (at_point a now))
unfolding trimmed
made_fillable m a now h s moves =
    subst (λ (x : Model). Fillable (trimmed m) x)
    (sym (moved_is m a now (all_moved (tick m.point) h (trimmed m).parts) moves))
    (moved_fillable (trimmed m) now h s)

-- what settling asks of the filled one
pub filled_settleable :
    (old : List Part) (b f : Model) → Wired (trimmed b) →
    Changed b (filled old b.point (trimmed b).order (trimmed b).parts) f →
    Wired (trimmed f)
filled_settleable old b f wired fills =
    changed_wired b (filled old b.point (trimmed b).order (trimmed b).parts) f fills
    (filled_kept (λ (p : Part). p.component) (λ p out. refl) old b.point (trimmed b).order (trimmed b).parts)
    wired
