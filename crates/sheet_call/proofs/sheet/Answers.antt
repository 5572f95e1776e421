-- `sheet` has the number of the tests that come first, then looks at the room, and puts the line, which has 79 bytes
-- whatever it shows.
use Rattle.std.proofs.Common.{Result, Ok, ap}
use Rattle.std.proofs.lemmas.Result.{err_from_is_err_and}
use Rattle.refusals.specs.declared.Refusal.{Refusal}
use Rattle.refusals.specs.Numbers.{refused_number}
use Rattle.refusals.specs.Told.{some_number}
use Prim.Native.Nat.{ℕ, ◌≤◌, ◌<◌}
use native.Mathlib.Omega.{arith}
use mathlib.Core.Path.{◌≡◌, sym, ◌∙◌}
use mathlib.Core.List.{List}
use lib.ListN.{length}
use Rattle.machine.specs.Sheet.{sheet_line}
use Rattle.machine.specs.Writing.{too_short}
use Rattle.write_bytes.specs.Put.{Put}
use Rattle.write_bytes.specs.Fitting.{left_out, put_in, nothing_written}
use Rattle.machine.specs.declared.model.Outcome.{Outcome}
use Rattle.sheet_call.specs.SheetInto.{SheetInto, outcome_answer, lent_sheet_refusal}
use Rattle.sheet_call.specs.LentSheet.{line_length}
use Rattle.sheet_call.proofs.sheet.Goals as goal

module _ (ts ss : List ℕ) (v : Outcome) (a b c : ℕ) (before : List ℕ) where
  -- a line that its tests refuse
  refused : (n : ℕ) → (n ≡ 0 → ⊥) → n ≡ lent_sheet_refusal ts ss v a b c →
      SheetInto ts ss v a b c before before (record { number = n; length = 0 })
  refused n some is = rw (← is) (nothing_written n (sheet_line (outcome_answer ts ss v) a b c) before some)

  module _ (small : v.number < 18446744073709551616) (free : lent_sheet_refusal ts ss v a b c ≡ 0) where
    -- one that has no room
    no_room : length before < 79 → SheetInto ts ss v a b c before before (record { number = too_short; length = 79 })
    no_room short =
        let size = line_length ts ss v a b c small free in
        rw (free, ← size) (left_out (sheet_line (outcome_answer ts ss v) a b c) before (omega (arith, size)))

    -- and one that was put
    put_line : {most r : ℕ} {after : List ℕ} → 79 ≤ length before →
        Put most (sheet_line (outcome_answer ts ss v) a b c) 0 before after r →
        SheetInto ts ss v a b c before after (record { number = 0; length = r })
    put_line room put = let size = line_length ts ss v a b c small free in rw free (put_in (omega (arith, size)) put)

-- where its tests refuse nothing, their number is 0
free : {x : Result (Unit {0}) Refusal} {u : Unit {0}} {n : ℕ} → refused_number x ≡ n → x ≡ Ok u → n ≡ 0
free number ok = sym number ∙ ap refused_number ok

pub returns-in_err-refusal_of : goal.returns-in_err-refusal_of
returns-in_err-refusal_of c =
    let told = err_from_is_err_and c.from_residual.result c.from_residual.ensures.1 in
    let number = sym (ap refused_number c.in_err-refusal_of.was) ∙ c.refusal_of.ensures in
    rw (told.1, told.2) (refused _ _ _ _ _ _ _ _ (some_number c.in_err-refusal_of.field-0.0) number)

pub returns-then-out-lt-LINE : goal.returns-then-out-lt-LINE
returns-then-out-lt-LINE c =
    no_room _ _ _ _ _ _ _ (omega (arith, c.well_formed)) (free c.refusal_of.ensures c.in_ok-refusal_of.was)
    c.if-out-lt-LINE.true

pub put_line-requires-clause-not_refused : goal.put_line-requires-clause-not_refused
put_line-requires-clause-not_refused c = free c.refusal_of.ensures c.in_ok-refusal_of.was

pub returns : goal.returns
returns c =
    put_line _ _ _ _ _ _ _ (omega (arith, c.well_formed)) (free c.refusal_of.ensures c.in_ok-refusal_of.was)
    c.if-out-lt-LINE.false c.put_line.ensures
