-- The fresh model of a table that fits is sound, and keeps that table; it is at the start point, with every local count
-- 0. Assumes nothing.
use Rattle.std.specs.Prelude.{ℕ, ◌≡◌, refl, true, List, [], ◌∷◌, map, length, ℤ, pos}
use Rattle.std.proofs.Math.Nat.{zero-div}
use Rattle.std.proofs.Common.{sym, ap, ◌∙◌, map-id}
use Rattle.std.proofs.lemmas.Simd.{map-map}
use Rattle.std.proofs.lemmas.List.{length-map}
use Rattle.machine.specs.declared.part.Component.{Component}
use Rattle.machine.specs.declared.part.Part.{Part}
use Rattle.machine.specs.Lists.{All}
use Rattle.machine.specs.Time.{in_time, local_count, start}
use Rattle.machine.specs.Signal.{is_value, is_signal}
use Rattle.machine.specs.Kind.{integrates, has_mass}
use Rattle.machine.specs.Model.{blank_part, part_at}
use Rattle.machine.specs.Table.{Table, table_of, component_ratio, ratios, part_order}
use Rattle.machine.specs.Fresh.{first_state, first_part, first_parts, fresh}
use Rattle.machine.specs.Sound.{table_fits, speed_fits, sound}
use Rattle.laws.specs.Alls.{all_default, all_map, all_same_map}
use Rattle.laws.specs.Bools.{cond_cases}
use Rattle.sound_laws.specs.Facts.{operand_values, ComponentFits, table_facts, sound_test}
use Rattle.sound_laws.specs.RangesKept.{InRange}
use Rattle.sound_laws.specs.CoreKept.{core, Core, Counted, finished_core, finished_kept, finished_states}

-- the first part of a component that fits is in range
pub first_in_range : (t : Table) (n : ℕ) (c : Component) → ComponentFits n c → InRange (first_part t c)
unfolding first_part first_state is_value is_signal speed_fits
first_in_range t n c f =
    let (a, b) = operand_values c.kind c.a c.b c.p f.operands in
    record {
      a = a;
      b = b;
      held = cond_cases (λ (v : ℤ). is_value v ≡ true) (integrates c.kind) c.a (pos 0) (λ e. a) (λ e. refl);
      speed = cond_cases (λ (v : ℤ). speed_fits c.kind v ≡ true) (has_mass c.kind) c.b (pos 0) (λ e. rw e b)
          (λ e. rw e refl);
      signal = refl;
      output = refl;
    }

-- the fresh model keeps the table
pub fresh_table : (t : Table) → table_of (fresh t) ≡ t
unfolding table_of fresh first_parts first_part
fresh_table t = ap (λ (cs : List Component). record { magnitude = t.magnitude; parts = cs }) components
  where
    -- it keeps the components
    components : map (λ (p : Part). p.component) (fresh t).parts ≡ t.parts
    components =
        finished_kept (λ (c : Core). c.component) [] start (part_order t.parts) (first_parts t) ∙
        map-map (λ (p : Part). p.component) (first_part t) t.parts ∙
        map-id t.parts

-- so that equal fresh models are of one table
pub fresh_apart : (t u : Table) → fresh t ≡ fresh u → t ≡ u
fresh_apart t u same = sym (fresh_table t) ∙ ap table_of same ∙ fresh_table u

-- it has as many parts
fresh_count : (t : Table) → length (fresh t).parts ≡ length t.parts
unfolding table_of
fresh_count t = sym (length-map (fresh t).parts (λ (p : Part). p.component)) ∙
    ap (λ (u : Table). length u.parts) (fresh_table t)

-- it is at the start point
pub fresh_start : (t : Table) → (fresh t).point ≡ start
unfolding fresh
fresh_start t = refl

-- the local counts of first parts are 0, which is floor(0 / r)
first_counted : (t : Table) (cs : List Component) → All (λ (p : Part). Counted 0 (core p)) (map (first_part t) cs)
unfolding first_part first_state local_count
first_counted t [] = tt
first_counted t (c ∷ cs) = (sym (zero-div (component_ratio t c)), first_counted t cs)

-- every local count of the fresh model is 0
pub fresh_local : (t : Table) (i : ℕ) → (part_at (fresh t).parts i).state.local.0 ≡ 0
unfolding fresh first_parts local_count
fresh_local t i =
    all_default (λ (p : Part). Counted 0 (core p)) (fresh t).parts blank_part i
    (all_same_map core (Counted 0) (fresh t).parts (first_parts t)
    (finished_core [] start (part_order t.parts) (first_parts t))
    (first_counted t t.parts))
    refl ∙
    zero-div (part_at (fresh t).parts i).ratio

-- the fresh model of a table that fits is sound
pub fresh_sound : (t : Table) → table_fits t ≡ true → sound (fresh t) ≡ true
unfolding fresh first_parts first_part ratios in_time
fresh_sound t h =
    let n = length t.parts in
    sound_test (fresh t)
    (record {
      counted = sym (fresh_count t);
      table = rw (fresh_table t) h;
      ratios =
          rw (fresh_table t)
          (finished_kept (λ (c : Core). c.ratio) [] start (part_order t.parts) (first_parts t) ∙
          map-map (λ (p : Part). p.ratio) (first_part t) t.parts);
      order = rw (fresh_table t) refl;
      time = refl;
      states =
          finished_states [] start (part_order t.parts) (first_parts t) 0 tt
          (all_map (first_part t) (ComponentFits n) InRange t.parts (first_in_range t n)
          (table_facts t h).components)
          (first_counted t t.parts);
    })
