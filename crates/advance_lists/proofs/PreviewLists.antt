-- Document 01's third demand, of the advances in every list of calls that has previews among them.
use Rattle.std.specs.Prelude.{ℕ, ◌≡◌, List}
use Rattle.machine.specs.Answers.{Loaded}
use Rattle.machine.specs.Model.{trimmed_loaded}
use Rattle.machine.specs.Load.{load}
use Rattle.machine.specs.Previews.{AnyCall, MixedChain, advances}
use Rattle.machine.specs.WholeList.{WholeList}
use Rattle.advance_lists.proofs.Demand3.{whole_list}
use Rattle.advance_lists.specs.PreviewLists.{previews_alter_nothing}

-- so document 01's third demand holds of the advances in every such list from a stream that loads
pub previewed_list :
    (bs : List ℕ) (r : Loaded) (cs : List AnyCall) → trimmed_loaded r ≡ load bs → r.number ≡ 0 →
    MixedChain r.model cs →
    WholeList r.model (advances cs)
previewed_list bs r cs loads accepted mixed =
    whole_list bs r (advances cs) loads accepted (previews_alter_nothing r.model cs mixed).chain
