-- Where the reading of a stream is between two commands, and what a turn leads to. Assumes nothing.
use Rattle.std.specs.Prelude.{ℕ, suc, ◌+◌, ◌≤◌, ◌<◌, ◌≡◌, refl, Bool, true, false, cond, List, length, eqb}
use Rattle.std.proofs.Common.{arith, ap, ◌∙◌, lt-ltb, le-ltb}
use Rattle.machine.specs.Answers.{Loaded}
use Rattle.machine.specs.Load.{Reading, Read, onward, ended, refused, nothing_read, byte_at, known_command, in_place}
use Rattle.machine.specs.Load.{command_read, read_turn, read_on, read_from, load}
use Rattle.sound_laws.specs.Accepted.{Readable, Keeps, kept_nothing, kept_turn}
use Rattle.sound_laws.specs.ReadFuel.{Later, turn_later, read_unrolled}
use Rattle.load_operands.specs.Refusals.{command_number, in_its_place}
use Rattle.load_table.specs.Concluded.{Reached, at_start, turned_on}
use Rattle.load_table.specs.Turning.{sized_command}

-- loading is reading from here on, and turns from the start lead here
pub record Stands (bs : List ℕ) (at : ℕ) (rd : Reading) : Type 0 where
  pub same : load bs ≡ read_from (suc (length bs)) bs at rd
  pub kept : Readable rd
  pub reached : Reached bs at rd

-- at the start
pub stands_first : (bs : List ℕ) (rd : Reading) → rd ≡ nothing_read → Stands bs 0 rd
unfolding load
stands_first bs rd e = rw e (record { same = refl; kept = kept_nothing; reached = at_start })

-- a turn that ends is what loading comes to
pub stands_ended : (bs : List ℕ) (at : ℕ) (rd : Reading) (r : Loaded) → Stands bs at rd → read_turn bs at rd ≡ ended r →
    load bs ≡ r
stands_ended bs at rd r s e =
    let enough : length bs < at + suc (length bs) = omega arith in
    s.same ∙ read_unrolled (suc (length bs)) bs at rd enough ∙
    ap (λ (t : Read). read_on t (read_from (suc (length bs)) bs)) e

-- a turn that goes on is further
pub stands_on : (bs : List ℕ) (at next : ℕ) (rd then : Reading) → Stands bs at rd →
    read_turn bs at rd ≡ onward next then →
    Stands bs next then × (at < next)
stands_on bs at next rd then s e =
    let enough : length bs < at + suc (length bs) = omega arith in
    let kept : Keeps (onward next then) = rw e at (kept_turn bs at rd s.kept) in
    let later : Later at (onward next then) = rw e at (turn_later bs at rd) in (
      record {
        same = s.same ∙ read_unrolled (suc (length bs)) bs at rd enough ∙
            ap (λ (t : Read). read_on t (read_from (suc (length bs)) bs)) e;
        kept = kept;
        reached = turned_on at next rd then s.reached e;
      },
      later,
    )

-- past the last byte the stream is cut
pub turn_cut : (bs : List ℕ) (at : ℕ) (rd : Reading) → length bs ≤ at →
    read_turn bs at rd ≡ ended (refused 1 (length bs))
unfolding read_turn
turn_cut bs at rd past = rw (le-ltb at (length bs) past)

-- a command that is unknown or out of place is refused, and any other is as its width allows
pub turn_judged : (bs : List ℕ) (at : ℕ) (rd : Reading) → at < length bs →
    read_turn bs at rd ≡
    cond (eqb (command_number rd.begun rd.spannable (byte_at bs at)) 0) (sized_command bs at rd (byte_at bs at))
    (ended (refused (command_number rd.begun rd.spannable (byte_at bs at)) at))
unfolding read_turn command_read command_number in_its_place in_place sized_command
turn_judged bs at rd here =
    rw (lt-ltb at (length bs) here)
    (by_tests (known_command (byte_at bs at)) (in_place rd (byte_at bs at)) (sized_command bs at rd (byte_at bs at)))
  where
    by_tests : (known there : Bool) (on : Read) →
        cond known (cond there on (ended (refused 3 at))) (ended (refused 2 at)) ≡
        cond (eqb (cond known (cond there 0 3) 2) 0) on (ended (refused (cond known (cond there 0 3) 2) at))
    by_tests true true on = refl
    by_tests true false on = refl
    by_tests false there on = refl
