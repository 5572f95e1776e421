-- Both loops keep that the search from here comes to the outcome of the whole, that neither the rounds nor the
-- revisions, with h, are above w, that the words after the new state's are kept, and that after a round the parts that
-- are no drives accept h. The inner one also keeps that h is at most what it began with. The measure of both is h.
use Rattle.std.proofs.Common.{◌+◌, ◌<◌, ◌≤◌}
use Rattle.ask_laws.specs.Agreed.{Agreed}
use Rattle.words_store.specs.ModelIn.{part_count}
use Rattle.words_store.specs.Updated.{SameBehind}
use Rattle.advance_call.specs.Into.{lent_model}
use Rattle.advance_call.specs.Searching.{Left}
use Rattle.advance_call.proofs.search.searched_into.Given as goal

abbrev pub invariant-loop-h : goal.invariant-loop-h
invariant-loop-h l =
    Left (lent_model l.table l.old) l.w l.ceiling l.h l.rounds l.revisions × (l.rounds + l.h ≤ l.w) ×
    (l.revisions + l.h ≤ l.w) × (l.h ≤ l.initial.h) × SameBehind (part_count l.table) l.initial.new l.new ×
    (0 < l.rounds → Agreed (lent_model l.table l.old) l.h)

abbrev pub decreases-loop-h : goal.decreases-loop-h
decreases-loop-h l = l.h

abbrev pub invariant-ceilings : goal.invariant-ceilings
invariant-ceilings l =
    Left (lent_model l.table l.old) l.w l.ceiling l.h l.rounds l.revisions × (l.rounds + l.h ≤ l.w) ×
    (l.revisions + l.h ≤ l.w) × SameBehind (part_count l.table) l.initial.new l.new ×
    (0 < l.rounds → Agreed (lent_model l.table l.old) l.h)

abbrev pub decreases-ceilings : goal.decreases-ceilings
decreases-ceilings l = l.h
