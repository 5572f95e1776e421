-- Demand 3 of every list of calls of `advance` after a load: they are a chain.
use Rattle.std.specs.Prelude.{ℕ, ◌≡◌, List}
use Rattle.machine.specs.Answers.{Loaded}
use Rattle.machine.specs.declared.model.Answer.{Answer}
use Rattle.machine.specs.Model.{trimmed_loaded}
use Rattle.machine.specs.Load.{load}
use Rattle.machine.specs.WholeList.{WholeList}
use Rattle.advance_lists.proofs.Demand3.{whole_list}
use Rattle.advance_call.specs.EveryList.{Answered, answered_chain, calls}

-- demand 3: whatever bytes were loaded, and whatever steps were wanted then, the claim holds of the whole list of calls
pub every_list :
    (bs : List ℕ) (loaded : Loaded) → trimmed_loaded loaded ≡ load bs → loaded.number ≡ 0 →
    (ws : List ℕ) (rs : List Answer) → Answered loaded.model ws rs →
    WholeList loaded.model (calls loaded.model ws rs)
every_list bs loaded loads accepted ws rs all =
    whole_list bs loaded (calls loaded.model ws rs) loads accepted (answered_chain loaded.model ws rs all)
