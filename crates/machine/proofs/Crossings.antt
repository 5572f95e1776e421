-- Zeros leave no trace at a zero-crossing detector. Zero and an absent input keep the side, and a side that stays sets
-- no mark; so a run of them passes without a trace, by induction on the list, and what is after it is seen from the
-- side before it. Assumes nothing.
use Prim.Native.Nat.{ℕ, zero, suc}
use native.Mathlib.Omega.{arith}
use mathlib.Core.Path.{◌≡◌, refl, ap}
use mathlib.Core.Bool.{true, false, false≢true, and-eq-true_iff, not}
use mathlib.Core.List.{List, [], ◌∷◌, ◌++◌}
use lib.Dec.{eqb}
use lib.IntN.{pos, negsuc}
use borrow.Author.Tests.{ne_eqb}
use Rattle.machine.specs.declared.signal.Signal.{Signal}
use Rattle.machine.specs.declared.signal.Signal.TheVariants.{Absent, Value}
use Rattle.machine.specs.declared.part.Side.{Side}
use Rattle.machine.specs.declared.part.Side.TheVariants.{Negative, Positive}
use Rattle.machine.specs.declared.part.Mark.TheVariants.{Clear}
use Rattle.machine.specs.Lists.{All, every, selected}
use Rattle.machine.specs.Kind.{side_after, mark_after}
use Rattle.machine.specs.Step.{settled_as}
use Rattle.machine.specs.Crossings.{Crossings, Sighting, marks, zero_or_absent, sighted, sightings, unmarked}
use Rattle.machine.proofs.KindTable.{kept_unmarked}

-- what is above zero is not zero
above_zero : (n : ℕ) → eqb (suc n) 0 ≡ false
above_zero n = ne_eqb (suc n) 0 (λ e. omega arith)

-- zero and an absent input keep the side and set no mark
rested : (s : Side) (x : Signal) → zero_or_absent x ≡ true → ((sighted s x).after ≡ s) × ((sighted s x).mark ≡ Clear)
unfolding side_after mark_after
rested s Absent e = (refl, kept_unmarked s)
rested s (Value (pos zero)) e = (refl, kept_unmarked s)
rested s (Value (pos (suc n))) e = absurd (false≢true (rw (above_zero n) at e))
rested s (Value (negsuc n)) e = absurd (false≢true e)

-- at each point of a list
at_each : (s : Side) (xs : List Signal) →
    All (λ (e : Sighting). zero_or_absent e.input ≡ true → (e.after ≡ e.before) ×
    (e.mark ≡ Clear)) (sightings s xs)
unfolding sightings
at_each s [] = tt
at_each s (x ∷ xs) = (rested s x, at_each (side_after s x) xs)

-- left out, they change nothing at the others
without_zeros : (s : Side) (xs : List Signal) →
    selected (λ (e : Sighting). not (zero_or_absent e.input)) (sightings s xs) ≡
    sightings s (selected (λ (x : Signal). not (zero_or_absent x)) xs)
unfolding selected sightings side_after
without_zeros s [] = refl
without_zeros s (Absent ∷ xs) = without_zeros s xs
without_zeros s (Value (pos zero) ∷ xs) = without_zeros s xs
without_zeros s (Value (pos (suc n)) ∷ xs) =
    rw (above_zero n) (ap (λ es. sighted s (Value (pos (suc n))) ∷ es) (without_zeros Positive xs))
without_zeros s (Value (negsuc n) ∷ xs) = ap (λ es. sighted s (Value (negsuc n)) ∷ es) (without_zeros Negative xs)

-- after a run of them, what follows is seen from the side before it
behind : (s : Side) (rest later : List Signal) → every zero_or_absent rest ≡ true →
    marks s (rest ++ later) ≡ unmarked rest ++ marks s later
unfolding every marks sightings
behind s [] later e = refl
behind s (x ∷ rest) later e =
    let (first, others) = (and-eq-true_iff (zero_or_absent x) (every zero_or_absent rest)).0 e in
    rw ((rested s x first).0, (rested s x first).1) (ap (λ ms. Clear ∷ ms) (behind s rest later others))

-- the rows: by the laws above, and by computing what the first value after a run does
pub crossings : Crossings
unfolding marks sightings side_after mark_after settled_as
crossings =
    record {
      taken = λ x s. (refl, refl);
      untraced = without_zeros;
      at_rest = at_each;
      touch = λ n rest later e. (behind _ rest _ e, behind _ rest _ e);
      passage = λ n rest later e. (behind _ rest _ e, behind _ rest _ e);
      first_side = λ n rest later e. (behind _ rest _ e, behind _ rest _ e);
    }
