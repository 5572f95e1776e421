-- Demand 3 of the calls of `advance` themselves. The contract of `advance` (src/lib.rt) promises `Advanced m w r` of
-- its answer r, for every model m and wanted step w, and asks for nothing; a chain of calls (`Chain`, machine's
-- specs/Calls.antt) asks of each answer that very promise, and that each call is given the model of the answer before
-- it. So what a caller gets who hands each answer's model to the next call is a chain, one call at a time, and
-- `whole_list` (advance_lists' proofs/Demand3.antt) speaks of it: `proofs/EveryList.antt`. Assumes nothing.
use Rattle.std.specs.Prelude.{ℕ, refl, List, [], ◌∷◌}
use Rattle.machine.specs.declared.model.Model.{Model}
use Rattle.machine.specs.declared.model.Answer.{Answer}
use Rattle.machine.specs.Calls.{Advanced, Call, Chain}

-- the call that is given the model m and the wanted step w, and answered r
abbrev pub call : Model → ℕ → Answer → Call
call m w r = record { given = m; wanted = w; answer = r }

-- an answer that keeps the contract, before a chain from the model that it holds
chain_step : (m : Model) (w : ℕ) (r : Answer) (cs : List Call) → Advanced m w r → Chain r.model cs →
    Chain m (call m w r ∷ cs)
chain_step m w r cs keeps rest = (refl, keeps, rest)

-- the answers rs to the wanted steps ws, one call for each: the first call is given the model m, each next one the
-- model of the answer before it. Nothing is asked of an answer but what the contract of `advance` promises
abbrev pub Answered : Model → List ℕ → List Answer → Type 0
Answered m [] [] = Unit {0}
Answered m [] (r ∷ rs) = ⊥
Answered m (w ∷ ws) [] = ⊥
Answered m (w ∷ ws) (r ∷ rs) = Advanced m w r × Answered r.model ws rs

-- the list of those calls
unfoldable pub calls : Model → List ℕ → List Answer → List Call
calls m [] rs = []
calls m (w ∷ ws) [] = []
calls m (w ∷ ws) (r ∷ rs) = call m w r ∷ calls r.model ws rs

-- it is a chain
pub answered_chain : (m : Model) (ws : List ℕ) (rs : List Answer) → Answered m ws rs → Chain m (calls m ws rs)
unfolding calls
answered_chain m [] rs all = tt
answered_chain m (w ∷ ws) [] all = absurd all
answered_chain m (w ∷ ws) (r ∷ rs) all =
    chain_step m w r (calls r.model ws rs) all.0 (answered_chain r.model ws rs all.1)
