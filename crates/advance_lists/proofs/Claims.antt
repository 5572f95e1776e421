-- Document 01's third demand, of every chain of calls from a sound model: what `Retraced` says of the chain, and that
-- its last model is sound.
use Rattle.std.specs.Prelude.{◌≡◌, true, List}
use Rattle.std.proofs.Common.{ap, ◌∙◌}
use mathlib.Core.List.Memᴰ
use Rattle.machine.specs.declared.model.Model.{Model}
use Rattle.machine.specs.Time.{tick}
use Rattle.machine.specs.Model.{trimmed}
use Rattle.machine.specs.Step.{steps_made}
use Rattle.machine.specs.Sound.{sound}
use Rattle.machine.specs.Calls.{Call, Chain, last_model, committed, visited}
use Rattle.machine.specs.WholeList.{WholeList}
use Rattle.sound_laws.specs.SoundParts.{sound_local}
use Rattle.advance_lists.specs.StepsAlone.{steps_tick, steps_reached}
use Rattle.advance_lists.specs.Claims.{retraced, chain_sound}
use Rattle.advance_lists.proofs.StepsAlone.{steps_passed}

-- document 01's third demand
pub whole_list_from : (m : Model) (cs : List Call) → sound (trimmed m) ≡ true → Chain m cs → WholeList m cs
unfolding trimmed visited
whole_list_from m cs s ch =
    let list = retraced m cs ch in
    let hs = committed cs in
    let end : (last_model m cs).point ≡ (steps_made (trimmed m) hs).point = ap (λ (z : Model). z.point) list.model in
    record {
      same = list.model;
      ticks = ap tick end ∙ steps_tick (trimmed m) hs;
      locals = sound_local (trimmed (last_model m cs)) (chain_sound m cs s ch);
      reached = λ i k p e before past. rw list.points (Memᴰ.tail
          (steps_reached (trimmed m) hs i k p e list.accepted before (rw end at past)));
      passed = λ i k p e before past. rw list.points (Memᴰ.tail
          (steps_passed (trimmed m) hs i k p e list.accepted before (rw end at past)));
      calls = list.calls;
    }
