-- Rounds after the first (document 01, "One advance"): a part that is no drive accepts every step up to the longest
-- that it accepts, so that after a round such parts accept all that is left, and a later round is the drives' alone.
-- The idea: a square or pulse accepts up to its next multiple, a due part 0 only, and the others all. Assumes nothing.
use Rattle.std.specs.Prelude.{ℕ, ◌≤◌, ◌<◌, min, ◌≡◌, refl, Bool, true, false, cond, List, ◌∷◌, length}
use Rattle.std.proofs.Common.{arith}
use Rattle.machine.specs.declared.time.Point.{Point}
use Rattle.machine.specs.declared.signal.Signal.{Signal}
use Rattle.machine.specs.declared.part.Part.{Part}
use Rattle.machine.specs.declared.model.Model.{Model}
use Rattle.machine.specs.Time.{tick}
use Rattle.machine.specs.Model.{part_at}
use Rattle.machine.specs.Accept.{Class, waiting, delaying, detecting, driving, free, class_of, due, due_as, longest_as}
use Rattle.machine.specs.Accept.{longest}
use Rattle.machine.specs.Advance.{least, round}
use Rattle.ask_laws.specs.Rounds.{longest_in, least_each}

-- the longest step of at most j, by a class that is not that of drives, is j where j is at most the longest step of at
-- most h
as_below : (c : Class) (p : Part) (t h j : ℕ) → (c ≡ driving → ⊥) → j ≤ longest_as c p t h → longest_as c p t j ≡ j
unfolding longest_as
as_below waiting p t h j other below = omega arith
as_below delaying p t h j other below = refl
as_below detecting p t h j other below = refl
as_below driving p t h j other below = absurd (other refl)
as_below free p t h j other below = refl

-- so it is for a part that is due, and for another
pub longest_below :
    (p : Part) (now : Point) (x : Signal) (h j : ℕ) → (class_of p ≡ driving → ⊥) → j ≤ longest p now x h →
    longest p now x j ≡ j
unfolding longest
longest_below p now x h j other below = by_test (due p now x) below
  where
    by_test :
        (b : Bool) → j ≤ cond b 0 (longest_as (class_of p) p (tick now) h) →
        cond b 0 (longest_as (class_of p) p (tick now) j) ≡ j
    by_test true below = omega arith
    by_test false below = as_below (class_of p) p (tick now) h j other below

-- a drive is never due, so that its longest step reads no input
drive_as : (c : Class) (p : Part) (now : Point) (x : Signal) (h : ℕ) → c ≡ driving →
    cond (due_as c p now x) 0 (longest_as c p (tick now) h) ≡ longest_as driving p (tick now) h
unfolding due_as
drive_as c p now x h e = rw e refl

pub longest_driven : (p : Part) (now : Point) (x : Signal) (h : ℕ) → class_of p ≡ driving →
    longest p now x h ≡ longest_as driving p (tick now) h
unfolding longest due
longest_driven p now x h e = drive_as (class_of p) p now x h e

-- every part that is no drive accepts h where the model is
abbrev pub Agreed : Model → ℕ → Type 0
Agreed m h = (i : ℕ) → i < length m.parts → (class_of (part_at m.parts i) ≡ driving → ⊥) →
    longest_in m h (part_at m.parts i) ≡ h

-- so they do what a round came to
pub round_agreed : (m : Model) (h : ℕ) → Agreed m (round m h)
unfolding round
round_agreed m h i within other =
    longest_below (part_at m.parts i) m.point _ h (least m h h m.parts) other
    (least_each m h h m.parts i within)

-- and every step below one that they accept
pub agreed_below : (m : Model) (h j : ℕ) → Agreed m h → j ≤ h → Agreed m j
agreed_below m h j agreed few i within other =
    longest_below (part_at m.parts i) m.point _ h j other (rw (agreed i within other) few)

-- such a part lowers nothing in a round at h
pub least_agreed : (m : Model) (h best : ℕ) (p : Part) (ps : List Part) → best ≤ h → longest_in m h p ≡ h →
    least m h best (p ∷ ps) ≡ least m h best ps
unfolding least
least_agreed m h best p ps few e =
    let same : min best h ≡ best = omega arith in
    rw (e, same) refl
