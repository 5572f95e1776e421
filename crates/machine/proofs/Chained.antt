-- The machine's own calls, two of the example that is revised, form a chain, and so do a preview and an advance of it:
-- what `Chain` and `MixedChain` ask can be met. Assumes nothing.
use Prim.Native.Nat.{ℕ, zero, suc, ◌<◌}
use mathlib.Core.Path.{◌≡◌, refl}
use mathlib.Core.List.{[], ◌∷◌}
use native.Mathlib.Omega.{arith}
use Rattle.machine.specs.declared.model.Model.{Model}
use Rattle.machine.specs.Model.{spare_spans}
use Rattle.machine.specs.Advance.{advance}
use Rattle.machine.specs.Calls.{Advanced, Chain, machine_calls}
use Rattle.machine.specs.Previews.{Advancing, Previewing, MixedChain}
use Rattle.machine.specs.Played.{crossing}
use Rattle.machine.proofs.Computing.{computing}

-- the model after the first call
abbrev then_crossing : Model
then_crossing = (advance crossing 8).model

-- no part of the example has a place for a span
no_spares : (i : ℕ) → i < 3 → spare_spans then_crossing i ≡ spare_spans crossing i
unfolding computing
no_spares zero h = refl
no_spares (suc zero) h = refl
no_spares (suc (suc zero)) h = refl
no_spares (suc (suc (suc i))) h = absurd (omega arith)

no_spares_then : (i : ℕ) → i < 3 → spare_spans (advance then_crossing 8).model i ≡ spare_spans then_crossing i
unfolding computing
no_spares_then zero h = refl
no_spares_then (suc zero) h = refl
no_spares_then (suc (suc zero)) h = refl
no_spares_then (suc (suc (suc i))) h = absurd (omega arith)

-- the first call keeps what `advance` promises
first_call : Advanced crossing 8 (advance crossing 8)
unfolding computing
first_call =
    record {
      machine = refl;
      unchanged = λ bad. absurd (bad refl);
      unused = record { orders = refl; parts = refl; spans = no_spares };
    }

-- and so does the second, from the model of the first one's answer
second_call : Advanced then_crossing 8 (advance then_crossing 8)
unfolding computing
second_call =
    record {
      machine = refl;
      unchanged = λ bad. absurd (bad refl);
      unused = record { orders = refl; parts = refl; spans = no_spares_then };
    }

-- the two calls form a chain
pub chained : Chain crossing (machine_calls crossing (8 ∷ 8 ∷ []))
unfolding computing
chained = (refl, first_call, (refl, second_call, tt))

-- so do a preview and then the first call, which is given the model that the preview was given
pub previewed_chain : MixedChain crossing
    (Previewing (record {
      given = crossing;
      wanted = 8;
      returned = record { given = crossing; answer = advance crossing 8 };
    }) ∷
    Advancing (record { given = crossing; wanted = 8; answer = advance crossing 8 }) ∷ [])
previewed_chain = (refl, record { unchanged = refl; answer = first_call }, (refl, first_call, tt))
