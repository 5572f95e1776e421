-- Reading never takes all its turns where it may take more of them than there are bytes left: each turn that goes on
-- raises the position. So the number of turns makes no difference, and reading is one turn and then reading. Assumes
-- nothing.
use Rattle.std.specs.Prelude.{ℕ, zero, suc, ◌+◌, ◌≤◌, ◌<◌, ◌≡◌, refl, List, length}
use Rattle.std.proofs.Common.{arith, sym, le-ltb}
use Rattle.machine.specs.Answers.{Loaded}
use Rattle.machine.specs.Load.{Reading, Read, onward, ended, refused, read_turn, read_on, read_from}
use Rattle.sound_laws.specs.ReadTurns.{turn_cases}

-- a turn goes on past the position, if it goes on
abbrev pub Later : ℕ → Read → Type 0
Later at (onward next rd) = at < next
Later at (ended r) = Unit {0}

-- each turn that goes on raises the position
pub turn_later : (bs : List ℕ) (at : ℕ) (rd : Reading) → Later at (read_turn bs at rd)
turn_later bs at rd =
    turn_cases (Later at) bs at rd (λ number position some. tt) (λ e. omega arith) (λ e. omega arith)
    (λ s e. omega arith) (λ e. omega arith)
    (λ e. tt)

-- past the last byte there is nothing to read
read_past : (n : ℕ) (bs : List ℕ) (at : ℕ) (rd : Reading) → length bs ≤ at →
    read_from n bs at rd ≡ refused 1 (length bs)
unfolding read_from read_turn
read_past zero bs at rd h = refl
read_past (suc n) bs at rd h = rw (le-ltb at (length bs) h)

-- what follows a turn is the same by any two ways of reading on that agree past the position
on_agrees :
    (at : ℕ) (r : Read) (f g : ℕ → Reading → Loaded) → Later at r →
    ((next : ℕ) (rd : Reading) → at < next → f next rd ≡ g next rd) →
    read_on r f ≡ read_on r g
on_agrees at (onward next rd) f g later h = h next rd later
on_agrees at (ended r) f g later h = refl

-- enough turns make no difference
pub read_enough :
    (n k : ℕ) (bs : List ℕ) (at : ℕ) (rd : Reading) → length bs < at + n → length bs < at + k →
    read_from n bs at rd ≡ read_from k bs at rd
unfolding read_from
read_enough zero k bs at rd p q = sym (read_past k bs at rd (omega arith))
read_enough (suc n) zero bs at rd p q = read_past (suc n) bs at rd (omega arith)
read_enough (suc n) (suc k) bs at rd p q =
    on_agrees at (read_turn bs at rd) (read_from n bs) (read_from k bs) (turn_later bs at rd)
    (λ next then more. read_enough n k bs next then (omega arith) (omega arith))

-- with enough turns, reading is a turn and then reading
pub read_unrolled :
    (n : ℕ) (bs : List ℕ) (at : ℕ) (rd : Reading) → length bs < at + n →
    read_from n bs at rd ≡ read_on (read_turn bs at rd) (read_from n bs)
unfolding read_from
read_unrolled n bs at rd p = read_enough n (suc n) bs at rd p (omega arith)
