-- The empty stream in plain lines: its beginning is the line `refused 1 at 0`, with which it ends. And of a score
-- that holds nothing two batches, one for which there is no room and one that ends it. What `WholeScore` asks can be
-- met. Assumes nothing.
use Prim.Native.Nat.{ℕ}
use native.Mathlib.Omega.{arith}
use mathlib.Core.Path.{refl}
use mathlib.Core.Bool.{false}
use Rattle.std.specs.Prelude.{Some, None, Err}
use mathlib.Core.List.{List, [], ◌∷◌}
use Rattle.machine.specs.Load.{read_turn, read_from, load}
use Rattle.machine.specs.Score.{score_at}
use Rattle.machine.specs.Rehearse.{refused_at_line, digits_before, decimal}
use Rattle.play_score.specs.declared.format.Format.TheVariants.{Plain}
use Rattle.play_score.specs.Held.{no_line}
use Rattle.play_score.specs.Lines.{played_from, played_at, loaded_printout}
use Rattle.play_score.specs.Playing.{lines_left}
use Rattle.play_score.specs.WholeScore.{Batch, ToEnd, InBatches}

-- no batch is needed
pub nothing_printed : InBatches [] Plain []
unfolding loaded_printout lines_left load read_from read_turn refused_at_line decimal digits_before
nothing_printed =
    record {
      table = [];
      state = [];
      buffer = refused_at_line 1 0;
      opening = Err (record { errors = false; used = 15 });
      opened = record { printed = refl; room = omega arith; ready = λ at goes. grind arith };
      to_end = tt;
    }

-- a batch without room, and one that ends
abbrev without_room : Batch
without_room = record { told = record { next = Some 0; moved = false }; state = []; held = no_line [] }

abbrev with_the_end : Batch
with_the_end = record { told = record { next = None; moved = false }; state = []; held = no_line [] }

pub nothing_played : (ts ss : List ℕ) → ToEnd [] ts Plain (Some 0) ss (without_room ∷ with_the_end ∷ [])
unfolding lines_left played_at played_from score_at
nothing_played ts ss = (
  record { lines = refl; room = omega arith; later = λ next goes room. absurd (omega arith) },
  (record { lines = refl; room = omega arith; later = λ next goes. grind arith }, tt),
)
