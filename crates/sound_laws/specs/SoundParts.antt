-- What soundness says of the point of a model and of each of its parts: the component is one that loading accepts, the
-- ratio is the one that the table gives, and the state fits. Assumes nothing.
use Rattle.std.specs.Prelude.{ℕ, ◌/◌, ◌≤◌, ◌<◌, ◌≡◌, true, length}
use Rattle.std.proofs.Math.Path.{sym, ap}
use Rattle.std.proofs.Common.{◌∙◌, leb-true}
use Rattle.std.proofs.Math.Bool.{and-eq-true_iff}
use Rattle.std.proofs.Math.ListN.{get_or, length-map, get_or-map}
use Rattle.machine.specs.declared.part.Part.{Part}
use Rattle.machine.specs.declared.model.Model.{Model}
use Rattle.machine.specs.Time.{last_tick, last_microstep, tick, in_time, local_count}
use Rattle.machine.specs.Signal.{is_signal}
use Rattle.machine.specs.Model.{blank_component, blank_part, part_at}
use Rattle.machine.specs.Table.{table_of, component_at, component_ratio, ratios}
use Rattle.machine.specs.Sound.{sound}
use Rattle.laws.specs.ListLaws.{all_at, getD_map_in}
use Rattle.sound_laws.specs.Facts.{ComponentFits, table_facts, StateFits, sound_facts}

-- the point of a sound model is in range
pub sound_time : (m : Model) → sound m ≡ true → (tick m.point ≤ last_tick) × (m.point.n ≤ last_microstep)
unfolding in_time
sound_time m is_sound =
    let facts = simp and-eq-true_iff at (sound_facts m is_sound).time in
    (leb-true (tick m.point) last_tick facts.0, leb-true m.point.n last_microstep facts.1)

-- the component i of a model's table is that of the part i
pub table_component : (m : Model) (i : ℕ) → component_at (table_of m).parts i ≡ (part_at m.parts i).component
unfolding table_of
table_component m i = get_or-map (λ (p : Part). p.component) m.parts i blank_part

module _ (m : Model) (is_sound : sound m ≡ true) (i : ℕ) (within : i < length m.parts) where
  -- the part i is one of the table's
  in_table : i < length (table_of m).parts
  unfolding table_of
  in_table = simp length-map within

  -- each component is one that loading accepts
  pub sound_component : ComponentFits (length (table_of m).parts) (part_at m.parts i).component
  sound_component =
      let components = (table_facts (table_of m) (sound_facts m is_sound).table).components in
      rw (table_component m i) at
      (all_at (ComponentFits (length (table_of m).parts)) (table_of m).parts blank_component i components in_table)

  -- each ratio is the one that the table gives
  pub sound_ratio_given : (part_at m.parts i).ratio ≡ component_ratio (table_of m) (part_at m.parts i).component
  unfolding ratios
  sound_ratio_given =
      sym (getD_map_in (λ (p : Part). p.ratio) m.parts i blank_part 0 within) ∙
      ap (λ l. get_or l i 0) (sound_facts m is_sound).ratios ∙
      getD_map_in (component_ratio (table_of m)) (table_of m).parts i blank_component 0 in_table ∙
      ap (component_ratio (table_of m)) (table_component m i)

  -- each state fits
  pub sound_state : StateFits (tick m.point) (part_at m.parts i)
  sound_state =
      all_at (StateFits (tick m.point)) m.parts blank_part i (sound_facts m is_sound).states within

  -- so each local count is floor(t / r)
  pub sound_local : (part_at m.parts i).state.local.0 ≡ tick m.point / (part_at m.parts i).ratio
  unfolding local_count
  sound_local = sound_state.local

  -- and each output a value in range, or absent
  pub sound_output : is_signal (part_at m.parts i).state.output ≡ true
  sound_output = sound_state.output
