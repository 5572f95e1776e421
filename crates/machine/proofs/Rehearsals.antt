-- What `rehearse` prints of refused and of long streams: the streams given compute to their lines, and taking 65,536
-- bytes of no more is taking all. Assumes nothing.
use Prim.Native.Nat.{ℕ, ◌≤◌}
use native.Mathlib.Omega.{arith}
use mathlib.Core.Path.{◌≡◌, refl}
use mathlib.Core.List.{List, ◌++◌}
use lib.ListN.{length}
use lib.Seq.{take_all, take-append-le}
use Rattle.machine.specs.Load.{load}
use Rattle.machine.specs.Rehearse.{most_read, loaded_lines, rehearsed}
use Rattle.machine.specs.Rehearsals.{Rehearsals}
use Rattle.machine.proofs.Computing.{computing}

-- a stream of at most 65,536 bytes
all_read : (bs : List ℕ) → length bs ≤ 65536 → rehearsed bs ≡ loaded_lines bs (load bs)
unfolding rehearsed
all_read bs h =
    let fits : length bs ≤ most_read = omega arith in
    rw (take_all most_read bs fits)

-- a longer one
rest_unread : (bs more : List ℕ) → length bs ≡ 65536 → rehearsed (bs ++ more) ≡ rehearsed bs
unfolding rehearsed
rest_unread bs more h =
    let full : most_read ≤ length bs = omega arith in
    rw (take-append-le most_read bs more full)

pub rehearsals : Rehearsals
unfolding computing
rehearsals = record { cut = refl; twice = refl; stopped = refl; whole = all_read; unread = rest_unread }
