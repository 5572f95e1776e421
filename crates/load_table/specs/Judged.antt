-- Laws of a turn: that End is in place once Begin was read, and that its command is judged and sized. Assumes nothing.
use Rattle.std.specs.Prelude.{ℕ, ◌<◌, ◌≡◌, refl, Bool, true, false, List, Result, Option, Ok, Err, length}
use Rattle.std.specs.Result.{IsErrAnd}
use Rattle.std.proofs.Common.{arith, ◌∙◌, sym, ap, ne_eqb}
use Rattle.machine.specs.Load.{Reading, ended, refused, byte_at, known_command, command_width, whole_command}
use Rattle.machine.specs.Load.{begin_command, part_command, span_command, wire_command, read_turn}
use Rattle.refusals.specs.declared.Refusal.{Refusal}
use Rattle.refusals.specs.Numbers.{refusal_number}
use Rattle.refusals.specs.Told.{some_number}
use Rattle.load_operands.specs.Refusals.{command_number, in_its_place}
use Rattle.load_commands.specs.declared.progress.Progress.{Progress}
use Rattle.load_commands.specs.declared.table_command.Step.{Step}
use Rattle.load_commands.specs.Progress.{reading_of}
use Rattle.load_commands.specs.CommandSteps.{step_of, uncut}
use Rattle.load_table.specs.Turning.{sized_command}
use Rattle.load_table.specs.Turned.{TurnLeft, turn_of}
use Rattle.load_table.specs.Stands.{turn_judged}

-- End is known and in place once Begin was read
pub end_in_place : (begun spannable : Bool) (b : ℕ) → b ≡ 5 → begun ≡ true → command_number begun spannable b ≡ 0
unfolding command_number in_its_place known_command
end_in_place begun spannable b e t = rw (e, t)

-- and only then
pub end_begun : (begun spannable : Bool) (b : ℕ) → b ≡ 5 → command_number begun spannable b ≡ 0 → begun ≡ true
unfolding command_number in_its_place known_command
end_begun true spannable b e none = refl
end_begun false spannable b e none = absurd (omega (arith, rw e at none))

-- a command that is unknown or out of place is refused, as the refusal is passed on, and is not an End in place
pub judged_refused : (bs : List ℕ) (at : ℕ) (progress : Progress) (rows : List (List ℕ)) (r : Result (Option Step)
    Refusal) (e : Refusal) → at < length bs →
    refusal_number e ≡ command_number progress.begun progress.spannable (byte_at bs at) →
    IsErrAnd r (λ x. x ≡ e) →
    (read_turn bs at (reading_of progress rows) ≡ turn_of at progress rows r) × TurnLeft progress (byte_at bs at) r
unfolding reading_of
judged_refused bs at progress rows (Ok step) e here same is = absurd is
judged_refused bs at progress rows (Err x) e here same is = (
  turn_judged bs at (reading_of progress rows) here ∙
      rw (is, ← same, ne_eqb (refusal_number e) 0 (some_number e)),
  λ five begun.
      some_number e (same ∙ end_in_place progress.begun progress.spannable (byte_at bs at) five begun),
)

-- any other is as its width allows
pub judged_placed : (bs : List ℕ) (at : ℕ) (progress : Progress) (rows : List (List ℕ)) → at < length bs →
    command_number progress.begun progress.spannable (byte_at bs at) ≡ 0 →
    read_turn bs at (reading_of progress rows) ≡ sized_command bs at (reading_of progress rows) (byte_at bs at)
unfolding reading_of
judged_placed bs at progress rows here none = turn_judged bs at (reading_of progress rows) here ∙ rw none

module _ (bs : List ℕ) (at : ℕ) (rd : Reading) where
  -- the commands with their widths
  pub begin_sized : uncut bs at 2 (begin_command bs at) ≡ sized_command bs at rd 1
  unfolding sized_command command_width whole_command uncut
  begin_sized = refl

  pub part_sized : uncut bs at 15 (part_command bs at rd) ≡ sized_command bs at rd 2
  unfolding sized_command command_width whole_command uncut
  part_sized = refl

  pub span_sized : uncut bs at 5 (span_command bs at rd) ≡ sized_command bs at rd 3
  unfolding sized_command command_width whole_command uncut
  span_sized = refl

  pub wire_sized : uncut bs at 4 (wire_command bs at rd) ≡ sized_command bs at rd 4
  unfolding sized_command command_width whole_command uncut
  wire_sized = refl

-- a command that is refused, as the refusal is passed on
pub passed_on : (at : ℕ) (progress : Progress) (rows : List (List ℕ)) (r : Result (Option Step) Refusal) (e : Refusal) →
    IsErrAnd r (λ x. x ≡ e) →
    step_of progress rows at (Err e) ≡ turn_of at progress rows r
passed_on at progress rows (Ok step) e is = absurd is
passed_on at progress rows (Err x) e is = ap (λ y. ended (refused (refusal_number y) at)) (sym is)
