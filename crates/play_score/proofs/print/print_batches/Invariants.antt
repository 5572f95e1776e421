use Prim.Native.Nat.{◌-◌}
use mathlib.Core.Path.{◌≡◌}
use lib.ListN.{length}
use Rattle.advance_call.specs.Into.{lent_model}
use Rattle.play_score.specs.Playing.{Playable, PrintedSoFar, stands_in}
use Rattle.play_score.proofs.print.print_batches.Given as goal

abbrev pub invariant-loop-format : goal.invariant-loop-format
invariant-loop-format l =
    (length l.first ≡ length l.initial.first) × (length l.second ≡ length l.initial.second) ×
    (length l.lines.bytes.now ≡ length l.initial.lines.bytes.now) ×
    PrintedSoFar l.stream l.format l.at (lent_model l.table (stands_in l.exchanged l.first l.second)) ×
    Playable l.table (stands_in l.exchanged l.first l.second) l.format

abbrev pub decreases-loop-format : goal.decreases-loop-format
decreases-loop-format l =
    length l.stream - l.at
