-- What one round, and one call, owe: the laws of acceptance are those that the search for a step asks of a round of a
-- sound model, and what the search then finds is what demand 3 says of each call. A call that is not barred has a sound
-- model. Assumes nothing.
use Rattle.std.specs.Prelude.{ℕ, ◌≡◌, true}
use Rattle.std.proofs.Common.{ap, sym, subst, ◌∙◌}
use Rattle.machine.specs.declared.model.Model.{Model}
use Rattle.machine.specs.declared.model.Answer.{Answer}
use Rattle.machine.specs.Model.{trimmed, trimmed_answer}
use Rattle.machine.specs.Sound.{sound}
use Rattle.machine.specs.Advance.{outcome}
use Rattle.machine.specs.Calls.{Advanced}
use Rattle.machine.specs.WholeList.{counts_of, OfCall}
use Rattle.ask_laws.specs.Rounds.{potential, round_within, round_accepted, round_most, round_drops}
use Rattle.ask_laws.proofs.Rounds.{potential_bound}
use Rattle.ask_laws.specs.Rounds.{potential_mono}
use Rattle.ask_laws.specs.FitParts.{sound_fit, sound_few, sound_detectors}
use Rattle.advance_laws.specs.SearchTurns.{RoundOwes}
use Rattle.advance_laws.specs.Outcomes.{not_barred, OutcomeFacts, advance_counts}
use Rattle.advance_laws.proofs.Outcomes.{outcome_facts}

-- what a round of a sound model owes
pub round_owes : (m : Model) → sound m ≡ true → RoundOwes m (potential m)
round_owes m is_sound =
    record {
      round_within = round_within m;
      round_accepted = round_accepted m (sound_fit m is_sound);
      round_most = round_most m (sound_fit m is_sound);
      round_drops = round_drops m;
      potential_bound = potential_bound m (sound_few m is_sound);
      potential_mono = potential_mono m;
      positive = sound_detectors m is_sound;
    }

-- the outcome of every call has what demand 3 says of it
pub every_outcome : (m : Model) (w : ℕ) → OutcomeFacts m (outcome m w)
every_outcome m w = outcome_facts m (potential m) w (λ e. round_owes m (not_barred m w e).is_sound)

-- so has every call that keeps what `advance` promises
pub of_call : (m : Model) (w : ℕ) (r : Answer) → Advanced m w r → OfCall (record { given = m; wanted = w; answer = r })
unfolding counts_of trimmed_answer
of_call m w r a =
    let counts : counts_of r ≡ outcome (trimmed m) w = ap counts_of a.machine ∙ advance_counts (trimmed m) w in
    let facts : OutcomeFacts (trimmed m) (counts_of r) =
    subst (OutcomeFacts (trimmed m)) (sym counts) (every_outcome (trimmed m) w) in
    record {
      machine = counts;
      rounds = facts.rounds;
      revisions = facts.revisions;
      within = facts.within;
      accepted = facts.accepted;
      longest = facts.longest;
      refused = facts.refused;
    }
