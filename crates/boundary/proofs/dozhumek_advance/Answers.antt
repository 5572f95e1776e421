-- `dozhumek_advance` makes the call on words, and then puts its five numbers in front of the answer's words.
use Rattle.boundary.proofs.Laws.{advanced_words}
use Rattle.boundary.proofs.dozhumek_advance.Goals as goal

pub returns : goal.returns
returns c =
    advanced_words _ _ _ _ c.advance_into-ended.new.new _ c.put_counts.new.out
    c.advance_into-ended.result c.advance_into-ended.ensures c.put_counts.ensures
