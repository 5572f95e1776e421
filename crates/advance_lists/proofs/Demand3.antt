-- Document 01's third demand, of every stream that loads and every chain of calls from the model that it loads to, and
-- that the tick is the sum of the committed steps.
use Rattle.std.specs.Prelude.{ℕ, ◌≡◌, List}
use Rattle.std.proofs.Common.{arith, ap}
use Rattle.machine.specs.Answers.{Loaded}
use Rattle.machine.specs.Time.{tick}
use Rattle.machine.specs.Model.{trimmed_loaded}
use Rattle.machine.specs.Load.{load}
use Rattle.machine.specs.Calls.{Call, Chain, last_model, committed}
use Rattle.machine.specs.WholeList.{sum, WholeList}
use Rattle.advance_lists.proofs.Claims.{whole_list_from}
use Rattle.advance_lists.specs.Demand3.{just_loaded}

-- document 01's third demand
pub whole_list :
    (bs : List ℕ) (r : Loaded) (cs : List Call) → trimmed_loaded r ≡ load bs → r.number ≡ 0 → Chain r.model cs →
    WholeList r.model cs
whole_list bs r cs loads accepted = whole_list_from r.model cs (just_loaded bs r loads accepted).is_sound

-- "tick = their sum"
pub tick_is_sum :
    (bs : List ℕ) (r : Loaded) (cs : List Call) → trimmed_loaded r ≡ load bs → r.number ≡ 0 → Chain r.model cs →
    tick (last_model r.model cs).point ≡ sum (committed cs)
tick_is_sum bs r cs loads accepted chain =
    omega (arith, (whole_list bs r cs loads accepted chain).ticks, ap tick (just_loaded bs r loads accepted).at_start)
