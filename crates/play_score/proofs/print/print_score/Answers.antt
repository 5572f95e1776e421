-- `print_score` writes what is said at the beginning, which lies within the buffer, and goes on where printing does,
-- with all lines to come.
use native.Mathlib.Omega.{arith}
use mathlib.Core.Path.{ap}
use lib.ListN.{length, length-take}
use Rattle.play_score.specs.Held.{Held}
use Rattle.play_score.proofs.Openings.{opened_goes_on}
use Rattle.play_score.proofs.print.print_score.Goals as goal

pub slice_bounds-write_all-end : goal.slice_bounds-write_all-end
slice_bounds-write_all-end c =
    let room = rw c.in-Err.is at c.open_score.ensures.room in simp length-take (omega (arith, room))

pub print_batches-requires : goal.print_batches-requires
print_batches-requires c =
    let on = opened_goes_on c.in-Ok.is c.open_score.ensures in
    record {
      playable = on.0;
      printed_so_far = on.1;
      first_room = omega arith;
      second_room = omega arith;
      line_room = omega (arith, ap (λ (h : Held). length h.bytes) c.new.ensures.empty);
    }
