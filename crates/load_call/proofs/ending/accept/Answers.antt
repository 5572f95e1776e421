-- `accept` fills the start point of the table's model, which is then the fresh model; it is at the position after End.
use Rattle.machine.specs.Load.{accepted}
use Rattle.machine.specs.Model.{trimmed_loaded}
use Rattle.load_call.proofs.ending.accept.Goals as goal

pub started-requires : goal.started-requires
started-requires c =
    let acceptable = c.requires in
    record { table = _; fits = acceptable.fits; is = c.unfilled_model.ensures }

pub returns : goal.returns
unfolding trimmed_loaded accepted
returns c = rw (c.started.ensures _ c.unfilled_model.ensures)
