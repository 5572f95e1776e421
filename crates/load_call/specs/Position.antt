-- An accepted load stops within the stream: the position after End is at most the stream's length. Assumes nothing.
use Rattle.std.specs.Prelude.{ℕ, zero, suc, ◌≤◌, ◌≡◌, true, false, ◌⊎◌, List, length, ltb}
use Rattle.std.proofs.Common.{arith, inl, inr, ltb-true}
use Rattle.machine.specs.Load.{Reading, nothing_read, Read, onward, ended, accepted, read_turn, read_on, read_from}
use Rattle.machine.specs.Load.{load}
use Rattle.laws.specs.Bools.{either}
use Rattle.sound_laws.specs.ReadTurns.{turn_cases}

-- what a turn comes to stops within the stream, where it is accepted
abbrev Within : List ℕ → Read → Type 0
Within bs (onward at rd) = Unit {0}
Within bs (ended r) = r.number ≡ 0 → r.position ≤ length bs

-- each turn does
turn_within : (bs : List ℕ) (at : ℕ) (rd : Reading) → Within bs (read_turn bs at rd)
unfolding accepted read_turn
turn_within bs at rd = by_test (either (ltb at (length bs)))
  where
    -- End is a byte of the stream, or the stream is at its end and refused
    by_test : (ltb at (length bs) ≡ true) ⊎ (ltb at (length bs) ≡ false) → Within bs (read_turn bs at rd)
    by_test (inl e) =
        let here = ltb-true at (length bs) e in
        turn_cases (Within bs) bs at rd (λ number position some none. absurd (omega arith)) (λ h. tt) (λ h. tt)
        (λ s h. tt) (λ h. tt)
        (λ h none. omega arith)
    by_test (inr e) = rw e (λ none. absurd (omega arith))

-- so reading does
read_within : (n : ℕ) (bs : List ℕ) (at : ℕ) (rd : Reading) → (read_from n bs at rd).number ≡ 0 →
    (read_from n bs at rd).position ≤ length bs
unfolding read_from
read_within zero bs at rd none = absurd (omega arith)
read_within (suc n) bs at rd none = on_within (read_turn bs at rd) (turn_within bs at rd) (read_within n bs) none
  where
    -- the same of what follows a turn
    on_within :
        (r : Read) → Within bs r →
        ((at : ℕ) (rd : Reading) → (read_from n bs at rd).number ≡ 0 → (read_from n bs at rd).position ≤ length bs) →
        (read_on r (read_from n bs)).number ≡ 0 → (read_on r (read_from n bs)).position ≤ length bs
    on_within (onward at rd) w later none = later at rd none
    on_within (ended r) w later none = w none

-- and loading
pub load_within : (bs : List ℕ) → (load bs).number ≡ 0 → (load bs).position ≤ length bs
unfolding load
load_within bs none = read_within (suc (length bs)) bs 0 nothing_read none
