-- `dozhumek_save` makes the call on words, and then puts its two numbers in front of the answer's words.
use Rattle.refusals.specs.Unwritten.{written_of}
use Rattle.boundary.proofs.Laws.{told_words}
use Rattle.boundary.proofs.dozhumek_save.Goals as goal

pub returns : goal.returns
returns c =
    let told = c.told-answer.ensures in
    told_words _ _ _ c.save.new.out _ c.put_found.new.out (written_of c.save.result) told.number told.length
    c.save.ensures c.put_found.ensures
