-- The rows of an advance: each side computes to the other; what a part does not accept leads to a false comparison; and
-- the bounds are fields of the claim. Assumes nothing.
use Prim.Native.Nat.{ℕ}
use native.Mathlib.Omega.{arith}
use mathlib.Core.Path.{refl, sym}
use mathlib.Core.Bool.{false≢true}
use mathlib.Core.List.Memᴰ
use mathlib.Core.List.{[], ◌∷◌, Memᴰ}
use mathlib.Core.Logic.{inl, inr}
use Rattle.machine.specs.declared.signal.Signal.TheVariants.{Absent}
use Rattle.machine.specs.Time.{point}
use Rattle.machine.specs.Accept.{Accepts, AcceptsAs}
use Rattle.machine.specs.Played.{ratio_10, square_4}
use Rattle.machine.specs.AdvanceRows.{only, AdvanceRows}
use Rattle.machine.proofs.Computing.{computing}

-- a square of P = 4 at t = 1 does not accept 4
past_multiple : Accepts (only square_4) (point 1 0) Absent 4 → ⊥
unfolding computing Accepts AcceptsAs
past_multiple (inl e) = omega (arith, e)
past_multiple (inr accepts) = omega (arith, accepts.1)

-- nor 1 where it is due
while_due : Accepts (only square_4) (point 4 0) Absent 1 → ⊥
unfolding computing Accepts AcceptsAs
while_due (inl e) = omega (arith, e)
while_due (inr accepts) = false≢true (sym accepts.0)

-- 1 is not among the spans
no_span : Memᴰ {A = ℕ} 1 (2 ∷ []) → ⊥
no_span (Memᴰ.head e) = omega (arith, e)
no_span (Memᴰ.tail m) = Memᴰ.not-nil m

-- the drive of ratio 10 with the span 2 does not accept 3 at t = 7, since d is 1
between_spans : Accepts (only ratio_10) (point 7 0) Absent 3 → ⊥
unfolding computing Accepts AcceptsAs
between_spans (inl e) = omega (arith, e)
between_spans (inr (free, inl e)) = omega (arith, e)
between_spans (inr (free, inr m)) = no_span m

pub advance_rows : AdvanceRows
unfolding computing Accepts AcceptsAs
advance_rows =
    record {
      tests = (refl, refl, refl);
      barred = (refl, refl, refl);
      wanted = (refl, refl, refl, refl);
      latest = (refl, refl);
      stuck = (refl, refl);
      last_microstep = (refl, refl, refl);
      onward = refl;
      due_waiting = (refl, refl, refl, refl);
      due_marked = (refl, refl, refl, refl, refl);
      longest_waiting = (refl, refl, refl, refl);
      longest_driving = (refl, refl, refl, refl, refl, refl, refl);
      accepting = (inr (refl, omega arith), past_multiple, inl refl, while_due);
      accepting_spans = (inr (refl, inl refl), between_spans, inr (refl, inr (Memᴰ.head refl)));
      last_part = (refl, refl);
      objecting = (refl, refl);
      halving = (refl, refl);
      most_revised = refl;
      bounds = (refl, refl, refl, refl);
      bounded = λ c claimed. (claimed.rounds, claimed.revisions);
    }
