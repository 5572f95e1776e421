-- `try_from` finds the command at its byte; at any other byte a table refuses it, whatever was read before.
use Rattle.std.proofs.Common.{arith, refl, inl, inr, leb-true}
use Rattle.std.proofs.lemmas.Bool.{lt-leb}
use Rattle.std.specs.Prelude.{ℕ, ◌≤◌, ◌<◌, ◌≡◌, true, false, ◌⊎◌, leb}
use Rattle.machine.specs.Load.{known_command}
use Rattle.laws.specs.Bools.{either}
use Rattle.load_operands.specs.Refusals.{command_number, in_its_place}
use Rattle.load_operands.proofs.refusal.CommandTryFromU8.try_from.Goals as goal

-- a byte that is neither 0 nor one of the six is above them
outside : (b : ℕ) → (1 ≤ b → 6 < b) → known_command b ≡ false
unfolding known_command
outside b far = by_test (either (leb 1 b))
  where
    by_test : (leb 1 b ≡ true) ⊎ (leb 1 b ≡ false) → known_command b ≡ false
    by_test (inl e) = rw (e, lt-leb b 6 (far (leb-true 1 b e)))
    by_test (inr e) = rw e

pub returns-in-6 : goal.returns-in-6
unfolding command_number known_command in_its_place
returns-in-6 c = λ begun spannable. rw c.in-6.is refl

pub returns-in_default : goal.returns-in_default
unfolding command_number
returns-in_default c = λ begun spannable. rw (outside c.args.byte (λ low. omega arith))
