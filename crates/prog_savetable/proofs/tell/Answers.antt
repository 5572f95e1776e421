-- `tell` writes the line of a refused load, and of an accepted one saves the model, which it puts into words first.
use Rattle.std.proofs.Common.{arith, refl, Err}
use Rattle.refusals.specs.Told.{some_number, wrote_ok}
use Rattle.write_bytes.specs.Fitting.{size_told}
use Rattle.load_call.specs.Accepting.{accepted_of, loaded_of}
use Rattle.load_call.specs.LoadOwed.{accepted_few}
use Rattle.prog_savetable.proofs.Tellings.{refusal_told, table_told, table_whole}
use Rattle.prog_savetable.proofs.tell.Goals as goal

pub unwrap-length-requires : goal.unwrap-length-requires
unwrap-length-requires c =
    let told = c.write_refused_at.ensures in
    wrote_ok c.write_refused_at.result told.written_as
    (omega (arith, told.length_bound, c.requires, size_told told.written_as))

pub returns-in-Err : goal.returns-in-Err
returns-in-Err c =
    let told = rw (c.unwrap-length.ensures, c.number-number.ensures) at c.write_refused_at.ensures in
    refusal_told _ _ _ (loaded_of (Err c.in-Err.refused)) _ c.in-Err.ensures (some_number c.in-Err.refused.refusal)
    c.requires told.written_as told.length_bound

pub put_fitting-requires : goal.put_fitting-requires
put_fitting-requires c =
    let few = accepted_few _ (accepted_of c.in-Ok.accepted) c.in-Ok.ensures refl in
    record { few_parts = few; table_there = omega arith; state_there = omega arith }

pub unwrap-length-requires-2 : goal.unwrap-length-requires-2
unwrap-length-requires-2 c =
    let put = c.put_fitting.ensures.model_put in
    let whole = table_whole _ _ _ (accepted_of c.in-Ok.accepted) c.in-Ok.ensures refl put in
    wrote_ok c.save.result (rw whole.0 at c.save.ensures) (omega (arith, whole.1, c.requires))

pub returns : goal.returns
returns c =
    table_told _ _ _ _ _ (accepted_of c.in-Ok.accepted) _ c.in-Ok.ensures refl c.requires
    c.put_fitting.ensures.model_put
    (rw c.unwrap-length-2.ensures at c.save.ensures)
