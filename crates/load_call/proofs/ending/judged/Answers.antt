-- `judged` makes the tests of the table's places, and the number is the definition's.
use Prim.Native.Nat.{◌≤◌}
use native.Mathlib.Omega.{arith}
use mathlib.Core.Path.{◌≡◌, sym}
use lib.ListN.{length}
use Rattle.machine.specs.Table.{magnitude_of}
use Rattle.load_table.specs.Concluded.{table_read}
use Rattle.load_call.specs.FirstPlaces.{components_read, table_in}
use Rattle.load_call.specs.EndRefusals.{magnitude_small, judged_number, judged_order, judged_places}
use Rattle.load_call.specs.EndRefusals.{refused_judged}
use Rattle.load_call.proofs.ending.judged.Goals as goal
use Rattle.load_call.proofs.ending.judged.Goals.{After-master_magnitude-magnitude}

-- the magnitude found is that of the table
magnitude_found : (c : After-master_magnitude-magnitude) →
    c.master_magnitude-magnitude.result ≡ magnitude_of (table_read c.args.read)
unfolding table_read table_in components_read
magnitude_found c = c.master_magnitude-magnitude.ensures

pub periods_fit-fit-requires : goal.periods_fit-fit-requires
periods_fit-fit-requires c =
    let read = c.args.read in
    let few : read.count ≤ length read.parts = omega (arith, c.requires.few) in
    let found = magnitude_found (goal.at.periods_fit-fit-requires c).After-master_magnitude-magnitude in
    record { few = c.requires.few; known = rw found (magnitude_small read few c.requires) }

pub returns-in_err-end_refusal : goal.returns-in_err-end_refusal
returns-in_err-end_refusal c =
    let read = c.args.read in
    let few : read.count ≤ length read.parts = omega (arith, c.requires.few) in
    let found = magnitude_found (goal.at.returns-in_err-end_refusal c).After-master_magnitude-magnitude in
    let place = c.place-placed in
    refused_judged read _ _ c.from_residual.ensures.1
    (judged_number read few _ c.periods_fit-fit.result place.result _ found c.periods_fit-fit.ensures place.ensures
    c.in_err-end_refusal.ensures)

pub returns : goal.returns
returns c =
    let read = c.args.read in
    let few : read.count ≤ length read.parts = omega (arith, c.requires.few) in
    let found = magnitude_found (goal.at.returns c).After-master_magnitude-magnitude in
    let place = c.place-placed in
    let none =
    judged_number read few _ c.periods_fit-fit.result place.result 0 found c.periods_fit-fit.ensures place.ensures
    c.in_ok-end_refusal.ensures in
    record {
      number = none;
      found = record {
        magnitude = found;
        order = judged_order read few place.result place.ensures (sym none);
        placed = judged_places read few place.result place.ensures;
      };
    }
