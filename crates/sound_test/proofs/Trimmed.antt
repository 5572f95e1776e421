-- The test of a part, of a trimmed one: trimming changes places for spans alone, and keeps all that is tested after the
-- component. Assumes nothing.
use Rattle.std.specs.Prelude.{ℕ, ◌*◌, ◌≡◌, refl, ◌&&◌, eqb, leb}
use Rattle.machine.specs.declared.part.Part.{Part}
use Rattle.machine.specs.Model.{trimmed_component, trimmed_part}
use Rattle.machine.specs.Time.{last_tick, ratio_of}
use Rattle.machine.specs.Sound.{component_fits}
use Rattle.sound_test.specs.Parts.{part_fits, state_holds}

pub trimmed_fits : (n magnitude t : ℕ) (p : Part) →
    part_fits n magnitude t (trimmed_part p) ≡
    (component_fits n (trimmed_component p.component) &&
    eqb p.ratio (ratio_of magnitude p.component.preference) &&
    leb (p.component.p * ratio_of magnitude p.component.preference) last_tick &&
    state_holds t (ratio_of magnitude p.component.preference) p.component.kind p.state)
unfolding part_fits trimmed_part trimmed_component
trimmed_fits n magnitude t p = refl
