-- Document 02, request 5: what refuses a sheet line, in which order, and what a line shows of an answer. SheetExamples
-- has the lines themselves. Assumes nothing.
use Rattle.std.specs.Prelude.{ℕ, ◌≡◌, true, false, [], ◌∷◌, pos, negsuc}
use Rattle.machine.specs.declared.signal.Signal.TheVariants.{Absent, Value}
use Rattle.machine.specs.declared.model.Model.{Model}
use Rattle.machine.specs.declared.model.Answer.{Answer}
use Rattle.machine.specs.Model.{no_model}
use Rattle.machine.specs.Sheet.{ShownStep, ShownRefusal, shown, shown_fits, sheet_refusal}
use Rattle.machine.specs.Played.{constant, fresh_of}

-- constants 7, 8 and 9
abbrev pub three : Model
three = fresh_of 0 (constant 255 (pos 7) ∷ constant 255 (pos 8) ∷ constant 255 (pos 9) ∷ [])

-- an answer with this model, number and step, four rounds, five revisions and the last ceiling 6
abbrev pub answered : Model → (number step : ℕ) → Answer
answered m number step = record { model = m; number = number; step = step; rounds = 4; revisions = 5; ceiling = 6 }

-- the statement
pub record SheetRefusals : Type 0 where
  -- "26, if a chosen part doesn't exist": any of the three
  pub chosen :
      (sheet_refusal (answered three 0 3) 2 2 2 ≡ 0) ×
      (sheet_refusal (answered three 0 3) 3 0 0 ≡ 26) ×
      (sheet_refusal (answered three 0 3) 0 3 0 ≡ 26) ×
      (sheet_refusal (answered three 0 3) 0 0 3 ≡ 26)
  -- "or a committed answer handed in has a number wider than its field"; a refused one shows none
  pub wide :
      (sheet_refusal (answered three 0 9_999_999_999) 0 0 0 ≡ 0) ×
      (sheet_refusal (answered three 0 10_000_000_000) 0 0 0 ≡ 26) ×
      (sheet_refusal (answered three 22 10_000_000_000) 0 0 0 ≡ 0)
  -- "tested after 24 (the answer's model)"
  pub unsound : sheet_refusal (answered no_model 0 3) 0 0 0 ≡ 24
  -- "t, n, step, rounds, revisions, then three chosen outputs", in the order chosen; of a refused answer its number
  pub shows :
      (shown (answered three 0 3) 2 0 1 ≡ ShownStep 0 0 3 4 5 (Value (pos 9)) (Value (pos 7)) (Value (pos 8))) ×
      (shown (answered three 22 3) 2 0 1 ≡ ShownRefusal 22)
  -- "t in 19, n in 3 .. outputs in 11 each": one digit more is too wide
  pub wide_tick : shown_fits (ShownStep 10_000_000_000_000_000_000 0 1 1 0 Absent Absent Absent) ≡ false
  pub wide_microstep : shown_fits (ShownStep 0 1000 1 1 0 Absent Absent Absent) ≡ false
  pub wide_outputs :
      (shown_fits (ShownStep 0 0 1 1 0 (Value (pos 99_999_999_999)) Absent (Value (pos 99_999_999_999))) ≡ true) ×
      (shown_fits (ShownStep 0 0 1 1 0 (Value (pos 100_000_000_000)) Absent Absent) ≡ false) ×
      (shown_fits (ShownStep 0 0 1 1 0 Absent (Value (negsuc 9_999_999_999)) Absent) ≡ false) ×
      (shown_fits (ShownStep 0 0 1 1 0 Absent Absent (Value (pos 100_000_000_000))) ≡ false)
