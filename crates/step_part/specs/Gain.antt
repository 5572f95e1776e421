-- The local ticks that a step adds, by the local count that it leads to. Assumes nothing.
use Rattle.std.specs.Prelude.{ℕ, ◌+◌, ◌-◌, ◌≡◌}
use Rattle.std.proofs.Common.{ap, ◌∙◌}
use Rattle.machine.specs.declared.time.LocalTicks.{LocalTicks}
use Rattle.machine.specs.declared.part.Part.{Part}
use Rattle.machine.specs.Time.{gained, local_count}
use Rattle.machine.specs.Step.{gain_of}

-- they are that count less the part's own
pub gain_to : (t h d : ℕ) (end : LocalTicks) (p : Part) → end ≡ local_count (t + h) p.ratio →
    d ≡ end.0 - p.state.local.0 → d ≡ gain_of t h p
unfolding gain_of gained
gain_to t h d end p leads is = is ∙ ap (λ (l : LocalTicks). l.0 - p.state.local.0) leads
