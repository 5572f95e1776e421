-- Document 01, "Which steps a part accepts" and "One advance", number by number: what bars a call, in which order, and
-- its counts; refusals 21 and 22; when a part is due; the longest step that it accepts; when a detector objects;
-- halving; and the bounds of a call. Assumes nothing.
use Rattle.std.specs.Prelude.{ℕ, ◌+◌, ◌*◌, ◌≤◌, ◌≡◌, true, false, List, [], ◌∷◌, length, pos, negsuc}
use Rattle.machine.specs.declared.signal.Signal.TheVariants.{Absent, Value}
use Rattle.machine.specs.declared.part.Kind.TheVariants.{Constant, Pulse, Integrator, Detector}
use Rattle.machine.specs.declared.part.Source.TheVariants.{Unwired, From}
use Rattle.machine.specs.declared.part.Side.TheVariants.{Negative}
use Rattle.machine.specs.declared.part.Mark.{Mark}
use Rattle.machine.specs.declared.part.Mark.TheVariants.{Clear, Rising, Falling}
use Rattle.machine.specs.declared.part.Component.{Component}
use Rattle.machine.specs.declared.part.Part.{Part}
use Rattle.machine.specs.declared.model.Model.{Model}
use Rattle.machine.specs.declared.model.Answer.{Answer}
use Rattle.machine.specs.Time.{point}
use Rattle.machine.specs.Model.{no_model, part_at, with_parts, trimmed}
use Rattle.machine.specs.Accept.{Accepts, due, longest}
use Rattle.machine.specs.Advance.{outcome, advance}
use Rattle.machine.specs.Calls.{Call}
use Rattle.machine.specs.WholeList.{most_rounds, most_revisions, OfCall}
use Rattle.machine.specs.Played.{plain, drive, constant, fresh_of, ratio_10, square_4, delayed, constant_at}
use Rattle.machine.specs.SoundRows.{kept, alone}

-- a model at another point of its first tick
abbrev pub at_microstep : ℕ → Model → Model
at_microstep n m = with_parts m (point 0 n) m.parts

-- an answer with no step and no revision
abbrev pub unmoved : Model → (number rounds ceiling : ℕ) → Answer
unmoved m number rounds ceiling =
    record { model = m; number = number; step = 0; rounds = rounds; revisions = 0; ceiling = ceiling }

-- a model with a microstep out of range, at the last tick
abbrev pub unsound_late : Model
unsound_late =
    alone 0 1_000_000_000_000_000_000 1000 1 (constant 255 (pos 0))
    (kept 1_000_000_000_000_000_000 (pos 0) (pos 0) Absent Absent Negative Clear)

-- a drive with the span 5
abbrev pub drive_5 : Model
drive_5 = fresh_of 0 (drive 255 1 (5 ∷ []) ∷ [])

-- a detector with tolerance p that prefers q and sees part 1
abbrev pub watching : (q p : ℕ) → Component
watching q p =
    record {
      kind = Detector;
      preference = q;
      a = pos 0;
      b = pos 0;
      p = p;
      span_count = 0;
      spans = [];
      port0 = From 1;
      port1 = Unwired;
    }

-- constant v into an integrator from −1 into a detector, and other parts after them
abbrev pub rising : (e v : ℕ) → Component → List Component → Model
rising e v detector more =
    fresh_of e
    (plain Constant (pos v) (pos 0) 0 Unwired ∷ plain Integrator (negsuc 0) (pos 0) 0 (From 0) ∷ detector ∷ more)

-- a detector of tolerance 3 at ratio 10, so that P is 30
abbrev pub tolerant : Model
tolerant = rising 1 2 (watching 0 3) []

-- one of tolerance 3, and a drive with these spans, so many
abbrev pub tolerant_drive : ℕ → List ℕ → Model
tolerant_drive n spans = rising 0 2 (watching 255 3) (drive 255 n spans ∷ [])

-- a constant, and a pulse with p = 4 as the last part
abbrev pub pulsed : Model
pulsed = fresh_of 0 (constant 255 (pos 1) ∷ plain Pulse (pos 1) (pos 0) 4 Unwired ∷ [])

-- the only part of a model; a delay; a detector with a mark
abbrev pub only : Model → Part
only m = part_at m.parts 0

abbrev pub delaying_part : Part
delaying_part = part_at delayed.parts 1

abbrev pub marked_part : Mark → Part
marked_part mark = only (alone 0 0 0 1 (watching 255 1) (kept 0 (pos 0) (pos 0) Absent Absent Negative mark))

-- the statement
pub record AdvanceRows : Type 0 where
  -- "Advancing tests 24, 20, 23": an unsound model and w = 0; one at the last tick; w = 10^9 + 1 at the last tick
  pub tests :
      ((advance no_model 0).number ≡ 24) × ((advance unsound_late 1).number ≡ 24) ×
      ((advance (constant_at 1_000_000_000_000_000_000) 1_000_000_001).number ≡ 20)
  -- "model unchanged, counts 0": 24, 20 and 23
  pub barred :
      (advance no_model 5 ≡ unmoved no_model 24 0 0) × (advance (constant_at 7) 0 ≡ unmoved (constant_at 7) 20 0 0) ×
      (advance (constant_at 1_000_000_000_000_000_000) 1 ≡ unmoved (constant_at 1_000_000_000_000_000_000) 23 0 0)
  -- "w is 0 or above 10^9"
  pub wanted :
      ((advance (constant_at 7) 0).number ≡ 20) × ((advance (constant_at 7) 1).number ≡ 0) ×
      ((advance (constant_at 7) 1_000_000_000).number ≡ 0) × ((advance (constant_at 7) 1_000_000_001).number ≡ 20)
  -- "t + w above 10^18"
  pub latest :
      ((advance (constant_at 999_999_999_999_999_998) 2).number ≡ 0) ×
      ((advance (constant_at 999_999_999_999_999_998) 3).number ≡ 23)
  -- "If h is then 0 and no part is due: refusal 22", also at n = 999; "model unchanged, counts made, step 0"
  pub stuck : (advance drive_5 3 ≡ unmoved drive_5 22 2 3) × ((advance (at_microstep 999 drive_5) 3).number ≡ 22)
  -- "If h is 0, one is due and n is 999: refusal 21", and at n = 998 it is none
  pub last_microstep :
      (advance (at_microstep 999 delayed) 1 ≡ unmoved (at_microstep 999 delayed) 21 2 1) ×
      ((advance (at_microstep 998 delayed) 1).number ≡ 0) ×
      ((advance (at_microstep 998 delayed) 1).model.point ≡ point 0 999)
  -- at n = 999 a step above 0 is made
  pub onward : (advance (at_microstep 999 (constant_at 0)) 4).model.point ≡ point 4 0
  -- "A part is due if it is a square or pulse at (k × P, 0), k ≥ 1 ..", P being 4
  pub due_waiting :
      (due (only square_4) (point 0 0) Absent ≡ false) × (due (only square_4) (point 4 0) Absent ≡ true) ×
      (due (only square_4) (point 4 1) Absent ≡ false) × (due (only square_4) (point 5 0) Absent ≡ false)
  -- ".. a delay with its input present; or a detector with a mark"
  pub due_marked :
      (due delaying_part (point 0 0) Absent ≡ false) × (due delaying_part (point 0 0) (Value (pos 0)) ≡ true) ×
      (due (marked_part Clear) (point 0 0) (Value (pos 0)) ≡ false) ×
      (due (marked_part Rising) (point 0 0) Absent ≡ true) × (due (marked_part Falling) (point 0 0) Absent ≡ true)
  -- "A due part accepts 0 only. Otherwise a square or pulse accepts up to the next multiple of P after t"
  pub longest_waiting :
      (longest (only square_4) (point 1 0) Absent 9 ≡ 3) × (longest (only square_4) (point 1 0) Absent 2 ≡ 2) ×
      (longest (only square_4) (point 4 0) Absent 9 ≡ 0) × (longest (only square_4) (point 4 1) Absent 9 ≡ 4)
  -- "A drive accepts h if d is 0 or one of its spans": ratio 10, span {2}, at t = 7
  pub longest_driving :
      (longest (only ratio_10) (point 7 0) Absent 1 ≡ 1) × (longest (only ratio_10) (point 7 0) Absent 2 ≡ 2) ×
      (longest (only ratio_10) (point 7 0) Absent 3 ≡ 2) × (longest (only ratio_10) (point 7 0) Absent 12 ≡ 2) ×
      (longest (only ratio_10) (point 7 0) Absent 13 ≡ 13) × (longest (only ratio_10) (point 7 0) Absent 22 ≡ 22) ×
      (longest (only ratio_10) (point 7 0) Absent 23 ≡ 22)
  -- the same as statements: "accepts up to the next multiple of P", at t = 1; a due part 0 alone; "d is 0 or one of its
  -- spans"
  pub accepting :
      Accepts (only square_4) (point 1 0) Absent 3 × (Accepts (only square_4) (point 1 0) Absent 4 → ⊥) ×
      Accepts (only square_4) (point 4 0) Absent 0 × (Accepts (only square_4) (point 4 0) Absent 1 → ⊥)
  pub accepting_spans :
      Accepts (only ratio_10) (point 7 0) Absent 2 × (Accepts (only ratio_10) (point 7 0) Absent 3 → ⊥) ×
      Accepts (only ratio_10) (point 7 0) Absent 13
  -- a part is due as the last one: the step to (4, 0), and then 0
  pub last_part :
      (outcome pulsed 9 ≡ record { number = 0; step = 4; rounds = 2; revisions = 0; ceiling = 9 }) ×
      (outcome (advance pulsed 9).model 9 ≡ record { number = 0; step = 0; rounds = 2; revisions = 0; ceiling = 9 })
  -- "If h > P for a detector that would set a mark, it objects": not at h = P, which is 30, but at 31; "floor(h / 2)"
  -- is 15
  pub objecting :
      (outcome tolerant 30 ≡ record { number = 0; step = 30; rounds = 1; revisions = 0; ceiling = 30 }) ×
      (outcome tolerant 31 ≡ record { number = 0; step = 15; rounds = 2; revisions = 1; ceiling = 15 })
  -- "the next ceiling and h are floor(h / 2)", of h and not of the ceiling: 35, 10, 5, 2; and where 2 is no span, 22
  -- with the counts made
  pub halving :
      (outcome (tolerant_drive 3 (2 ∷ 5 ∷ 10 ∷ [])) 35 ≡
      record { number = 0; step = 2; rounds = 4; revisions = 2; ceiling = 2 }) ×
      (outcome (tolerant_drive 2 (5 ∷ 10 ∷ [])) 35 ≡
      record { number = 22; step = 0; rounds = 5; revisions = 2; ceiling = 2 })
  -- 29 revisions are made, from w = 10^9 down to 1
  pub most_revised :
      outcome (rising 0 1_000_000_000 (watching 255 1) []) 1_000_000_000 ≡
      record { number = 0; step = 1; rounds = 30; revisions = 29; ceiling = 1 }
  -- "at most 9m + 30 rounds and 29 revisions a call", for 0, 1 and 32 parts
  pub bounds : (most_rounds 0 ≡ 30) × (most_rounds 1 ≡ 39) × (most_rounds 32 ≡ 318) × (most_revisions ≡ 29)
  -- the claim says them of each call
  pub bounded :
      (c : Call) → OfCall c →
      (c.answer.rounds ≤ 9 * length (trimmed c.given).parts + 30) × (c.answer.revisions ≤ 29)
