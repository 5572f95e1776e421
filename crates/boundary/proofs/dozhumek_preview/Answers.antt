-- `dozhumek_preview` makes the preview on words, and then puts its five numbers in front of the answer's words.
use Rattle.boundary.proofs.Laws.{previewed_words}
use Rattle.boundary.proofs.dozhumek_preview.Goals as goal

pub returns : goal.returns
returns c =
    previewed_words _ _ _ _ c.preview_into-ended.new.new _ c.put_counts.new.out
    c.preview_into-ended.result c.preview_into-ended.ensures c.put_counts.ensures
