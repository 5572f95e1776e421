-- `dozhumek_sheet` prints the line, and then puts its two numbers in front of the answer's words.
use Rattle.refusals.specs.Unwritten.{written_of}
use Rattle.boundary.proofs.Laws.{printed_words}
use Rattle.boundary.proofs.dozhumek_sheet.Goals as goal

pub returns : goal.returns
returns c =
    let told = c.told-number.ensures in
    printed_words _ _ _ _ _ _ _ _ _ _ (written_of c.print_words.result) told.number told.length
    c.print_words.ensures c.put_found.ensures
