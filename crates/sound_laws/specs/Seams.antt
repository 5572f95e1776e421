-- Reading at a seam: where the bytes from a position on are a command and then others, the turn reads that command, and
-- the others are after it. A position is told by what is from it on, `drop at bs`, so that no lengths are added up.
-- Assumes nothing.
use Prim.Native.Nat.{ℕ, suc, ◌+◌, ◌-◌, ◌≤◌, ◌<◌}
use Rattle.std.proofs.Common.{arith, add-zero, ◌∙◌, length-drop, get_or-drop, drop-drop}
use Rattle.std.specs.Prelude.{◌≡◌, refl, true, drop, ℤ, pos, negsuc}
use Rattle.std.proofs.Math.Path.{sym, ap}
use mathlib.Core.List.{List, ◌∷◌, ◌++◌}
use Rattle.std.proofs.Math.ListN.{length, get_or}
use borrow.Author.Tests.{leb-true, lt-ltb, le-leb, le-ltb}
use Rattle.machine.specs.declared.part.Kind.{Kind}
use Rattle.machine.specs.declared.part.Kind.TheVariants.{Constant, Gain, Adder, Square, Pulse, Delay, Integrator}
use Rattle.machine.specs.declared.part.Kind.TheVariants.{ResetIntegrator, Detector, Hold, Sampler, Drive, Clapper}
use Rattle.machine.specs.Answers.{Loaded}
use Rattle.machine.specs.Signal.{is_value, largest_value}
use Rattle.machine.specs.Kind.{kind_number, kind_known, kind_of}
use Rattle.machine.specs.Load.{known_command, command_width, byte_at, word_at, signed, Reading, in_place, Read}
use Rattle.machine.specs.Load.{whole_command, command_read, read_turn, read_on, read_from}
use Rattle.machine.specs.TableBytes.{operand_bytes, signed_operand}
use Rattle.sound_laws.specs.ReadFuel.{read_unrolled}

-- a kind is the one that its number was written for
pub kind_back : (k : Kind) → (kind_known (kind_number k) ≡ true) × (kind_of (kind_number k) ≡ k)
unfolding kind_known kind_of
kind_back Constant = (refl, refl)
kind_back Gain = (refl, refl)
kind_back Adder = (refl, refl)
kind_back Square = (refl, refl)
kind_back Pulse = (refl, refl)
kind_back Delay = (refl, refl)
kind_back Integrator = (refl, refl)
kind_back ResetIntegrator = (refl, refl)
kind_back Detector = (refl, refl)
kind_back Hold = (refl, refl)
kind_back Sampler = (refl, refl)
kind_back Drive = (refl, refl)
kind_back Clapper = (refl, refl)

-- a signed word is the number that it was written for
pub operand_back : (z : ℤ) → is_value z ≡ true → (signed_operand z < 4294967296) × (signed (signed_operand z) ≡ z)
unfolding is_value signed signed_operand
operand_back (pos n) h =
    let small = leb-true n largest_value h in
    (omega arith, rw (lt-ltb n 2147483648 (omega arith)))
operand_back (negsuc n) h =
    let small = leb-true (suc n) largest_value h in
    let back : 4294967296 - suc (4294967295 - n) ≡ n = omega arith in
    (omega arith, rw (le-ltb (4294967295 - n) 2147483648 (omega arith), back))

module _ (bs : List ℕ) where
  -- what is n bytes further on
  pub further : (at n : ℕ) (l : List ℕ) → drop at bs ≡ l → drop (at + n) bs ≡ drop n l
  further at n l e = sym (drop-drop n at bs) ∙ ap (drop n) e

  -- the byte n bytes further on
  pub byte_there : (at n : ℕ) (l : List ℕ) → drop at bs ≡ l → byte_at bs (at + n) ≡ get_or l n 0
  unfolding byte_at
  byte_there at n l e = sym (get_or-drop at bs n 0) ∙ ap (λ (k : List ℕ). get_or k n 0) e

  -- the byte at the position itself
  byte_here : (at : ℕ) (l : List ℕ) → drop at bs ≡ l → byte_at bs at ≡ get_or l 0 0
  byte_here at l e = rw add-zero at (byte_there at 0 l e)

  -- a word that was written is read
  pub word_there : (at v : ℕ) (rest : List ℕ) → drop at bs ≡ operand_bytes v ++ rest → v < 4294967296 →
      word_at bs at ≡ v
  unfolding word_at operand_bytes
  word_there at v rest e small =
      rw (
        byte_here at (operand_bytes v ++ rest) e,
        byte_there at 1 (operand_bytes v ++ rest) e,
        byte_there at 2 (operand_bytes v ++ rest) e,
        byte_there at 3 (operand_bytes v ++ rest) e,
      )
      (omega arith)

  -- a command that is known, in place and whole is read
  pub turn_there :
      (at b : ℕ) (tail : List ℕ) (rd : Reading) → drop at bs ≡ b ∷ tail → known_command b ≡ true →
      in_place rd b ≡ true →
      command_width b ≤ suc (length tail) → read_turn bs at rd ≡ whole_command bs at rd b
  unfolding read_turn command_read
  turn_there at b tail rd e known placed whole =
      let left : length bs - at ≡ suc (length tail) = sym (length-drop at bs) ∙ ap length e in
      rw (
        byte_here at (b ∷ tail) e,
        lt-ltb at (length bs) (omega arith),
        known,
        placed,
        le-leb (at + command_width b) (length bs) (omega arith),
      )

  -- all that is read from a position on
  abbrev pub read_all : ℕ → Reading → Loaded
  read_all = read_from (suc (length bs)) bs

  -- what a turn comes to is what all comes to
  pub after_turn : (at : ℕ) (rd : Reading) (r : Read) → read_turn bs at rd ≡ r → read_all at rd ≡ read_on r read_all
  after_turn at rd r e = read_unrolled (suc (length bs)) bs at rd (omega arith) ∙
      ap (λ (s : Read). read_on s read_all) e
