-- What a refusal where there is cause for it tells, and when a call that writes returned its length. Assumes nothing.
use Rattle.std.specs.Prelude.{ℕ, ◌≤◌, ◌≡◌, refl, Bool, true, false, cond, not, Result, Ok, Err, IsOk, List, length}
use Rattle.std.proofs.Common.{arith, sym, ap, ◌∙◌, le-leb}
use Rattle.std.proofs.lemmas.Bool.{not-false, not-true}
use Rattle.machine.specs.Answers.{Written}
use Rattle.machine.specs.Writing.{WrittenAs}
use Rattle.refusals.specs.declared.Refusal.{Refusal}
use Rattle.refusals.specs.declared.Refusal.TheVariants.{Cut, UnknownCommand, OutOfPlace, OutOfRange, TooMany}
use Rattle.refusals.specs.declared.Refusal.TheVariants.{NotThere, AlreadyWired, NoParts, PeriodTooLong, Loop}
use Rattle.refusals.specs.declared.Refusal.TheVariants.{SpanNotRising, WantedOutOfRange, DueAtLastMicrostep}
use Rattle.refusals.specs.declared.Refusal.TheVariants.{NoStepAccepted, PastLastTick, NotSound, TooShort}
use Rattle.refusals.specs.declared.Refusal.TheVariants.{NotPrintable}
use Rattle.refusals.specs.declared.Unwritten.{Unwritten}
use Rattle.refusals.specs.declared.Unwritten.TheVariants as unwritten
use Rattle.refusals.specs.Numbers.{refusal_number}
use Rattle.refusals.specs.Unwritten.{written_of}

-- a refusal where there is cause for it, and none
abbrev pub refused_when : Bool → Refusal → Result (Unit {0}) Refusal
refused_when cause r = cond cause (Err r) (Ok tt)

pub no_cause : (cause : Bool) (r : Refusal) {u : Unit {0}} → refused_when cause r ≡ Ok u → cause ≡ false
no_cause true r e = grind arith
no_cause false r e = refl

pub some_cause : (cause : Bool) (r : Refusal) {s : Refusal} → refused_when cause r ≡ Err s → (cause ≡ true) × (s ≡ r)
some_cause true r e = grind arith
some_cause false r e = grind arith

-- so a test held, where its refusal was not returned, and did not, where it was
pub passed : (test : Bool) (r : Refusal) {b : Bool} {x : Result (Unit {0}) Refusal} {u : Unit {0}} → b ≡ test →
    x ≡ refused_when (not b) r → x ≡ Ok u → test ≡ true
passed test r {b = b} tested told ok = sym tested ∙ not-false b (no_cause (not b) r (sym told ∙ ok))

pub failed : (test : Bool) (r : Refusal) {b : Bool} {x : Result (Unit {0}) Refusal} {s : Refusal} → b ≡ test →
    x ≡ refused_when (not b) r → x ≡ Err s → (test ≡ false) × (s ≡ r)
failed test r {b = b} tested told err =
    let cause = some_cause (not b) r (sym told ∙ err) in
    (sym tested ∙ not-true b cause.0, cause.1)

-- no refusal's number is 0
pub some_number : (r : Refusal) → refusal_number r ≡ 0 → ⊥
some_number Cut e = omega arith
some_number UnknownCommand e = omega arith
some_number OutOfPlace e = omega arith
some_number OutOfRange e = omega arith
some_number TooMany e = omega arith
some_number NotThere e = omega arith
some_number AlreadyWired e = omega arith
some_number NoParts e = omega arith
some_number PeriodTooLong e = omega arith
some_number Loop e = omega arith
some_number SpanNotRising e = omega arith
some_number WantedOutOfRange e = omega arith
some_number DueAtLastMicrostep e = omega arith
some_number NoStepAccepted e = omega arith
some_number PastLastTick e = omega arith
some_number NotSound e = omega arith
some_number TooShort e = omega arith
some_number NotPrintable e = omega arith

-- a writing call whose number is 0 returned its length
pub told_length : (r : Result ℕ Unwritten) → (written_of r).number ≡ 0 → r ≡ Ok (written_of r).length
told_length (Ok length) none = refl
told_length (Err (unwritten.Refused r)) none = absurd (some_number r none)
told_length (Err (unwritten.Short needed)) none = absurd (omega arith)

-- so does one that nothing refuses, where there is room for its bytes
pub wrote : {bytes before after : List ℕ} (r : Result ℕ Unwritten) → WrittenAs 0 bytes before after (written_of r) →
    length bytes ≤ length before → r ≡ Ok (length bytes)
wrote {bytes} {before} r written long =
    let number : (written_of r).number ≡ 0 = ap (λ (w : Written). w.number) written.answer ∙
    rw (le-leb (length bytes) (length before) long) refl in
    told_length r number ∙ ap Ok (ap (λ (w : Written). w.length) written.answer)

pub wrote_ok : {bytes before after : List ℕ} (r : Result ℕ Unwritten) → WrittenAs 0 bytes before after (written_of r) →
    length bytes ≤ length before → IsOk r
wrote_ok r written long = rw (wrote r written long) refl
