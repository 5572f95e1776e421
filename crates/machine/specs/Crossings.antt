-- Request 1, "The trade now counts zero as the side held before": what a zero-crossing detector makes of a whole list
-- of inputs, one a point. Zeros leave no trace, as absent inputs leave none. A single statement; each row has the words
-- above it that it says of every side and list. Assumes nothing.
use Rattle.std.specs.Prelude.{ℕ, suc, ◌≡◌, Bool, true, not, List, [], ◌∷◌, ◌++◌, map, pos, negsuc}
use Rattle.machine.specs.declared.signal.Signal.{Signal}
use Rattle.machine.specs.declared.signal.Signal.TheVariants.{Absent, Value}
use Rattle.machine.specs.declared.part.Kind.TheVariants.{Detector}
use Rattle.machine.specs.declared.part.Side.{Side}
use Rattle.machine.specs.declared.part.Side.TheVariants.{Unset, Negative, Positive}
use Rattle.machine.specs.declared.part.Mark.{Mark}
use Rattle.machine.specs.declared.part.Mark.TheVariants.{Clear, Rising, Falling}
use Rattle.machine.specs.declared.part.State.{State}
use Rattle.machine.specs.Lists.{All, every, selected}
use Rattle.machine.specs.Kind.{is_zero, side_after, mark_after}
use Rattle.machine.specs.Step.{settled_as}

-- one input at a detector: its side before it, and the side and the mark that it takes from it
pub record Sighting : Type 0 where
  pub before : Side
  pub input : Signal
  pub after : Side
  pub mark : Mark

-- the input x at a detector whose side is s
abbrev pub sighted : Side → Signal → Sighting
sighted s x = record { before = s; input = x; after = side_after s x; mark = mark_after s x }

-- a list of inputs at a detector whose first side is s, each after the side that the one before left
unfoldable pub sightings : Side → List Signal → List Sighting
sightings s [] = []
sightings s (x ∷ xs) = sighted s x ∷ sightings (side_after s x) xs

-- the marks that they set, one a point
unfoldable pub marks : Side → List Signal → List Mark
marks s xs = map (λ (e : Sighting). e.mark) (sightings s xs)

-- an input is zero or absent
abbrev pub zero_or_absent : Signal → Bool
zero_or_absent Absent = true
zero_or_absent (Value v) = is_zero v

-- no mark at any of these points
abbrev pub unmarked : List Signal → List Mark
unmarked xs = map (λ (x : Signal). Clear) xs

-- the statement
pub record Crossings : Type 0 where
  -- "detectors take mark and side": those of the input are what a detector's state takes as it settles, whatever else
  -- it holds
  pub taken :
      (x : Signal) (s : State) →
      ((settled_as Detector x s).side ≡ (sighted s.side x).after) ×
      ((settled_as Detector x s).mark ≡ (sighted s.side x).mark)
  -- zeros leave no trace: at the other inputs, sides before and after and marks are those of the list without its zeros
  -- and absent inputs
  pub untraced :
      (s : Side) (xs : List Signal) →
      selected (λ (e : Sighting). not (zero_or_absent e.input)) (sightings s xs) ≡
      sightings s (selected (λ (x : Signal). not (zero_or_absent x)) xs)
  -- and at each point left out there is no mark and the side stays, be it unset or not
  pub at_rest :
      (s : Side) (xs : List Signal) →
      All (λ (e : Sighting). zero_or_absent e.input ≡ true → (e.after ≡ e.before) ×
      (e.mark ≡ Clear)) (sightings s xs)
  -- a touch of zero from either side, however long the input rests there, sets no mark
  pub touch :
      (n : ℕ) (rest later : List Signal) → every zero_or_absent rest ≡ true →
      (marks Negative (rest ++ (Value (negsuc n) ∷ later)) ≡ unmarked rest ++ (Clear ∷ marks Negative later)) ×
      (marks Positive (rest ++ (Value (pos (suc n)) ∷ later)) ≡ unmarked rest ++ (Clear ∷ marks Positive later))
  -- a passage through zero sets exactly one, at the first value beyond it
  pub passage :
      (n : ℕ) (rest later : List Signal) → every zero_or_absent rest ≡ true →
      (marks Negative (rest ++ (Value (pos (suc n)) ∷ later)) ≡ unmarked rest ++ (Rising ∷ marks Positive later)) ×
      (marks Positive (rest ++ (Value (negsuc n) ∷ later)) ≡ unmarked rest ++ (Falling ∷ marks Negative later))
  -- "A detector whose side is unset stays unset at zero": the first value other than zero is the first that sets a
  -- side, and "sets no mark"
  pub first_side :
      (n : ℕ) (rest later : List Signal) → every zero_or_absent rest ≡ true →
      (marks Unset (rest ++ (Value (negsuc n) ∷ later)) ≡ unmarked rest ++ (Clear ∷ marks Negative later)) ×
      (marks Unset (rest ++ (Value (pos (suc n)) ∷ later)) ≡ unmarked rest ++ (Clear ∷ marks Positive later))
