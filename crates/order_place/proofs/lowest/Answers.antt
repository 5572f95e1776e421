-- A turn looks at the first candidate: it is found if it is ready, and without it the same is found if it is not.
use Prim.Native.Nat.{ℕ, ◌*◌, ◌%◌, ◌^◌, ◌<◌}
use native.Mathlib.Omega.{arith}
use native.Mathlib.Nat.{zero-add}
use mathlib.Core.Path.{◌≡◌, sym, ◌∙◌}
use lib.ListN.{length}
use lib.Count.{count_trailing_zeros}
use Rattle.laws.specs.WordMarks.{Cleared, FirstMark, mark_cleared, first_mark, marks_of, no_marks, one_mark}
use Rattle.order_place.specs.Direct.{no_sources}
use Rattle.order_place.proofs.Candidates.{found, none_left, passed}
use Rattle.order_place.proofs.lowest.Goals as goal

-- the first candidate of a word, and what is left without it
record Candidate (w t : ℕ) : Type 0 where
  first : FirstMark (marks_of 32 w) t
  rest : Cleared 32 w t
  shifted : (1 * 2 ^ t) % 2 ^ 32 ≡ 2 ^ t

-- trailing zeros find it
candidate : (w : ℕ) → (w ≡ 0 → ⊥) → w < 2 ^ 32 → Candidate w (count_trailing_zeros 32 w)
candidate w left fits =
    let t = count_trailing_zeros 32 w in
    let first = first_mark 32 w (omega arith) fits in
    let rest = mark_cleared 32 w t first.marked in
    record { first = first; rest = rest; shifted = one_mark 32 t rest.below }

pub returns-then-ready : goal.returns-then-ready
returns-then-ready c =
    let w = c.loop-candidates.candidates in
    let t = count_trailing_zeros 32 w in
    let direct = c.args.direct.now in
    let it = candidate w c.loop-candidates-test.true (omega arith) in
    let below : t < length direct = omega (arith, it.rest.below) in
    rw (
      ← c.loop-candidates.invariant,
      found (marks_of 32 w) (marks_of 32 c.args.marks) 0 t t direct no_sources (zero-add t) below it.first
          (sym c.ready.ensures ∙ c.if-ready.true),
    )

pub overflow_sub-candidates : goal.overflow_sub-candidates
overflow_sub-candidates c =
    let it = candidate c.loop-candidates.candidates c.loop-candidates-test.true (omega arith) in
    rw it.shifted it.rest.fits

pub loop-candidates-preserved : goal.loop-candidates-preserved
loop-candidates-preserved c =
    let w = c.loop-candidates.candidates in
    let t = count_trailing_zeros 32 w in
    let it = candidate w c.loop-candidates-test.true (omega arith) in
    rw (it.shifted, it.rest.marks)
    (passed (marks_of 32 w) (marks_of 32 c.args.marks) 0 t c.args.direct.now no_sources
    (λ i at. let here : i ≡ t = omega arith in rw here (sym c.ready.ensures ∙ c.if-ready.false)) ∙
    c.loop-candidates.invariant)

pub returns : goal.returns
returns c =
    let direct = c.args.direct.now in
    let nothing = none_left (marks_of 32 0) (marks_of 32 c.args.marks) 0 direct (λ j p. no_marks 32 j) in
    rw (← c.loop-candidates.invariant, c.loop-candidates-test.false, nothing)
