-- The claim about a whole list can be false: it refutes the calls of two imitations, each by one of its fields alone. A
-- master that commits one tick each time is refuted by the longest step, and one that moves in the first call and
-- repeats that answer by the sum of the steps. And that previews alter nothing can be false: it refutes a preview that
-- hands on the model that it moved. The model is the fresh one of a single constant, which accepts every step. Assumes
-- nothing.
use Rattle.std.specs.Prelude.{ℕ, zero, suc, ◌≤◌, ◌≡◌, refl, List, [], ◌∷◌, pos}
use Rattle.std.proofs.Common.{arith, ap, inr}
use Rattle.machine.specs.declared.part.Kind.TheVariants.{Constant}
use Rattle.machine.specs.declared.part.Source.TheVariants.{Unwired}
use Rattle.machine.specs.declared.model.Model.{Model}
use Rattle.machine.specs.declared.model.Answer.{Answer}
use Rattle.machine.specs.Time.{tick}
use Rattle.machine.specs.Model.{trimmed}
use Rattle.machine.specs.Step.{step_made}
use Rattle.machine.specs.Accept.{AcceptsAs, Accepts}
use Rattle.machine.specs.Calls.{Call}
use Rattle.machine.specs.Previews.{AnyCall, Advancing, Previewing, advances, Unaltered}
use Rattle.machine.specs.WholeList.{AllAccept, OfCall, sum, WholeList}
use Rattle.machine.specs.Played.{plain, fresh_of}
use Rattle.machine.proofs.Computing.{computing}

-- the fresh model of a single constant
abbrev pub alone : Model
alone = fresh_of 0 (plain Constant (pos 1) (pos 0) 0 Unwired ∷ [])

-- an answer that commits a step of h from the model m, the wanted step being 5
abbrev pub committing : Model → ℕ → Answer
committing m h = record { model = step_made m h; number = 0; step = h; rounds = 1; revisions = 0; ceiling = 5 }

-- a call with an answer, wanting 5
abbrev pub wanting_5 : Model → Answer → Call
wanting_5 m r = record { given = m; wanted = 5; answer = r }

-- the calls of a master that commits one tick each time
abbrev pub one_tick_call : Model → Call
one_tick_call m = wanting_5 m (committing m 1)

abbrev pub one_tick_calls : List Call
one_tick_calls = one_tick_call alone ∷ one_tick_call (step_made alone 1) ∷ []

-- the calls of a master that moves once, by 5, and repeats that answer
abbrev pub repeated_calls : List Call
repeated_calls = wanting_5 alone (committing alone 5) ∷ wanting_5 (step_made alone 5) (committing alone 5) ∷ []

-- the constant accepts 5
accepts_5 : AllAccept (trimmed alone) 5
unfolding computing AcceptsAs Accepts
accepts_5 zero p = inr (refl, tt)
accepts_5 (suc i) p = absurd (omega arith)

-- of the first call of one tick, what `OfCall` says of the longest step is false: 5 is accepted by all and within the
-- ceiling
pub one_tick_not_longest : ((j : ℕ) → j ≤ 5 → AllAccept (trimmed alone) j → j ≤ 1) → ⊥
one_tick_not_longest longest = let h = longest 5 (omega arith) accepts_5 in omega arith

-- so the claim's part on that call is false
pub one_tick_call_refuted : OfCall (one_tick_call alone) → ⊥
one_tick_call_refuted call = one_tick_not_longest (call.longest refl)

-- and so is the claim, of the calls of one tick each
pub one_tick_refuted : WholeList alone one_tick_calls → ⊥
one_tick_refuted claim = one_tick_call_refuted claim.calls.0

-- it is false of the repeated answer: the tick is 5, and the sum of the steps 10
pub repeated_refuted : WholeList alone repeated_calls → ⊥
unfolding computing sum
repeated_refuted claim = let h : ◌≡◌ {A = ℕ} 5 10 = claim.ticks in omega arith

-- a preview, wanting 5, that hands on the model with the step made, and an advance after it
abbrev pub moving_calls : List AnyCall
moving_calls =
    Previewing (record {
      given = alone;
      wanted = 5;
      returned = record { given = step_made alone 5; answer = committing alone 5 };
    }) ∷
    Advancing (wanting_5 (step_made alone 5) (committing (step_made alone 5) 5)) ∷ []

-- that it altered nothing is false: the advance, alone, would have been given the model at tick 0
pub moving_refuted : Unaltered alone moving_calls → ⊥
unfolding computing advances
moving_refuted claim = let h : ◌≡◌ {A = ℕ} 5 0 = ap (λ (m : Model). tick m.point) claim.chain.0 in omega arith
