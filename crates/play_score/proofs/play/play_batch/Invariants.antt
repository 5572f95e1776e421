use Prim.Native.Nat.{◌-◌, ◌≤◌, ◌<◌}
use mathlib.Core.Path.{◌≡◌}
use mathlib.Core.List.{◌++◌}
use lib.ListN.{length}
use Rattle.advance_call.specs.Into.{lent_model}
use Rattle.play_score.specs.Held.{held_in, text_held, SameBuffer}
use Rattle.play_score.specs.Lines.{played_at}
use Rattle.play_score.specs.Playing.{stands_in, Playable}
use Rattle.play_score.proofs.play.play_batch.Given as goal

abbrev pub invariant-loop-format : goal.invariant-loop-format
invariant-loop-format l =
    (l.lines.used ≤ length l.lines.bytes.now) × (length l.lines.bytes.now ≡ length l.initial.lines.bytes.now) ×
    (length l.first ≡ length l.initial.first) × (length l.second ≡ length l.initial.second) ×
    (played_at l.stream l.from (lent_model l.table (stands_in l.exchanged l.initial.first l.initial.second)) l.format ≡
    text_held (held_in l.lines) ++ played_at l.stream l.at (lent_model l.table (stands_in l.turned l.first l.second))
    l.format) ×
    Playable l.table (stands_in l.turned l.first l.second) l.format × (l.from ≤ l.at) ×
    (0 < l.lines.used → (l.from < l.at) × (l.from < length l.stream)) × SameBuffer l.initial.lines l.lines

abbrev pub decreases-loop-format : goal.decreases-loop-format
decreases-loop-format l =
    length l.stream - l.at
