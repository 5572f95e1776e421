-- When parts are placed: of each part, how many parts are placed once it is. By these numbers the direct sources of a
-- part are placed after p places exactly where the larger of their numbers is at most p. Assumes nothing.
use Rattle.std.specs.Prelude.{ℕ, suc, ◌≤◌, ◌<◌, max, ◌≡◌, true, cond, ◌⊎◌, List, get_or, set, replicate, take, eqb, ltb}
use Rattle.std.proofs.Common.{arith, eq-or-lt_of_le, ◌∙◌, inl, inr, ⊎_elim, get_or-set_same, get_or-set_other}
use Rattle.std.proofs.Math.Path.{sym, ap₂}
use Rattle.std.proofs.Math.Bool.{false, not, ◌&&◌}
use Rattle.std.proofs.Math.ListN.{length, get_or-eq_default}
use Rattle.std.proofs.lemmas.List.{get_or-replicate, length-replicate}
use Rattle.std.proofs.Math.Dec.{leb}
use borrow.Author.Tests.{eqb-true, eqb-false, leb-true, leb-false, le-leb, lt-ltb, le-ltb}
use Rattle.machine.specs.declared.part.Source.{Source}
use Rattle.machine.specs.declared.part.Source.TheVariants.{Unwired, From}
use Rattle.machine.specs.Model.{most_parts}
use Rattle.machine.specs.Table.{source_placed}
use Rattle.laws.specs.Bools.{either}
use Rattle.laws.specs.Marks.{cleared, clear_set, length_cleared}
use Rattle.laws.specs.Numbers.{not_ltb, and_leb}
use Rattle.order_place.specs.declared.Direct.{Direct}
use Rattle.order_place.specs.Direct.{both_placed}
use Rattle.order_test.specs.PlacesInTurn.{marks_at, marks_next}

-- how many of n parts are placed once a source is, by the numbers of the parts; a source that is no part's is placed
-- from the beginning
unfoldable pub source_after : List ℕ → ℕ → Source → ℕ
source_after after n Unwired = 0
source_after after n (From k) = cond (leb n k) 0 (get_or after k 0)

-- how many parts are placed once both direct sources are
unfoldable pub ready_after : List ℕ → ℕ → Direct → ℕ
ready_after after n d = max (source_after after n d.port0) (source_after after n d.port1)

-- the numbers of n parts, the first i places of the order ks being passed: they say which parts are marked after each
-- of these places, and a part that has no place yet has a number above the most parts
pub record PlacedAfter (n : ℕ) (ks after : List ℕ) (i : ℕ) : Type 0 where
  pub marked : (p k : ℕ) → p ≤ i → k < n → get_or (marks_at n ks p) k false ≡ ltb p (get_or after k 0)
  pub known : (k : ℕ) → k < n → (get_or after k 0 ≤ i) ⊎ (most_parts < get_or after k 0)

-- as many marks as parts
length_marks : (n : ℕ) (ks : List ℕ) (p : ℕ) → length (marks_at n ks p) ≡ n
unfolding marks_at
length_marks n ks p = length_cleared (replicate n true) (take p ks) ∙ length-replicate n true

module _ (n : ℕ) (ks after : List ℕ) (i : ℕ) (placed : PlacedAfter n ks after i) (p : ℕ) (passed : p ≤ i) where
  -- a source is placed after p places where its number is at most p
  source_by : (s : Source) → source_placed (marks_at n ks p) s ≡ leb (source_after after n s) p
  unfolding source_placed source_after
  source_by Unwired = sym (le-leb 0 p (omega arith))
  source_by (From k) = by_test (either (leb n k))
    where
      by_test : (leb n k ≡ true) ⊎ (leb n k ≡ false) →
          not (get_or (marks_at n ks p) k false) ≡ leb (cond (leb n k) 0 (get_or after k 0)) p
      by_test (inl t) =
          let behind : length (marks_at n ks p) ≤ k = omega (arith, length_marks n ks p, leb-true n k t) in
          rw (t, get_or-eq_default (marks_at n ks p) false {n = k} behind, le-leb 0 p (omega arith))
      by_test (inr t) = rw (t, placed.marked p k passed (leb-false n k t)) (not_ltb p (get_or after k 0))

  -- both direct sources are placed after p places where the larger number is at most p
  pub ready_by : (d : Direct) → both_placed (marks_at n ks p) d ≡ leb (ready_after after n d) p
  unfolding both_placed ready_after
  ready_by d =
      ap₂ ◌&&◌ (source_by d.port0) (source_by d.port1) ∙
      and_leb (source_after after n d.port0) (source_after after n d.port1) p

-- at first no part has a place
pub none_placed : (n : ℕ) (ks : List ℕ) → n ≤ most_parts → PlacedAfter n ks (replicate most_parts (suc most_parts)) 0
unfolding marks_at cleared
none_placed n ks few =
    let unplaced : ℕ = suc most_parts in
    let never : (k : ℕ) → k < n → get_or (replicate most_parts unplaced) k 0 ≡ unplaced =
    λ k h. get_or-replicate most_parts k unplaced 0 (omega arith) in
    record {
      marked =
          λ p k le h.
          let first : p ≡ 0 = omega arith in
          rw (
            first,
            get_or-replicate n k true false h,
            lt-ltb 0 (get_or (replicate most_parts unplaced) k 0) (omega (arith, never k h)),
          );
      known = λ k h. inr (omega (arith, never k h));
    }

-- the part at place i, which had no place, gets it
module _
    (n : ℕ)
    (ks after : List ℕ)
    (i : ℕ)
    (placed : PlacedAfter n ks after i)
    (room : i < most_parts)
    (there : i < length ks)
    (part : get_or ks i 0 < n)
    (numbered : get_or ks i 0 < length after)
    (new : i < get_or after (get_or ks i 0) 0) where
  -- its number said that it had none
  never_before : most_parts < get_or after (get_or ks i 0) 0
  never_before = ⊎_elim (λ le. omega arith) (λ lt. lt) (placed.known (get_or ks i 0) part)

  -- its own number, and those of the others
  own : get_or (set after (get_or ks i 0) (suc i)) (get_or ks i 0) 0 ≡ suc i
  own = get_or-set_same after (get_or ks i 0) (suc i) 0 numbered

  other : (k : ℕ) → (k ≡ get_or ks i 0 → ⊥) → get_or (set after (get_or ks i 0) (suc i)) k 0 ≡ get_or after k 0
  other k apart = get_or-set_other after (get_or ks i 0) k (suc i) 0 apart

  -- the marks after the places before
  marked_before : (p k : ℕ) → p ≤ i → k < n →
      get_or (marks_at n ks p) k false ≡ ltb p (get_or (set after (get_or ks i 0) (suc i)) k 0)
  marked_before p k le h = by_part (either (eqb k (get_or ks i 0)))
    where
      by_part : (eqb k (get_or ks i 0) ≡ true) ⊎ (eqb k (get_or ks i 0) ≡ false) →
          get_or (marks_at n ks p) k false ≡ ltb p (get_or (set after (get_or ks i 0) (suc i)) k 0)
      by_part (inl t) =
          rw (
            eqb-true k (get_or ks i 0) t,
            own,
            placed.marked p (get_or ks i 0) le part,
            lt-ltb p (suc i) (omega arith),
          )
          (lt-ltb p (get_or after (get_or ks i 0) 0) (omega (arith, never_before)))
      by_part (inr t) = rw (other k (eqb-false k (get_or ks i 0) t)) (placed.marked p k le h)

  -- the marks after place i
  marked_here : (k : ℕ) → k < n →
      get_or (marks_at n ks (suc i)) k false ≡ ltb (suc i) (get_or (set after (get_or ks i 0) (suc i)) k 0)
  marked_here k h = rw (marks_next n ks i there) (by_part (either (eqb k (get_or ks i 0))))
    where
      later : (get_or after k 0 ≤ i) ⊎ (most_parts < get_or after k 0) →
          ltb i (get_or after k 0) ≡ ltb (suc i) (get_or after k 0)
      later (inl le) = rw (le-ltb i (get_or after k 0) le, le-ltb (suc i) (get_or after k 0) (omega arith))
      later (inr lt) = rw (lt-ltb i (get_or after k 0) (omega arith), lt-ltb (suc i) (get_or after k 0) (omega arith))

      by_part : (eqb k (get_or ks i 0) ≡ true) ⊎ (eqb k (get_or ks i 0) ≡ false) →
          get_or (set (marks_at n ks i) (get_or ks i 0) false) k false ≡
          ltb (suc i) (get_or (set after (get_or ks i 0) (suc i)) k 0)
      by_part (inl t) =
          rw (
            eqb-true k (get_or ks i 0) t,
            own,
            clear_set (marks_at n ks i) (get_or ks i 0),
            le-ltb (suc i) (suc i) (omega arith),
          )
      by_part (inr t) =
          let apart = eqb-false k (get_or ks i 0) t in
          rw (other k apart, get_or-set_other (marks_at n ks i) (get_or ks i 0) k false false apart)
          (placed.marked i k (omega arith) h ∙ later (placed.known k h))

  -- each part has a number of at most i + 1, or no place yet
  known_here : (k : ℕ) → k < n → (get_or (set after (get_or ks i 0) (suc i)) k 0 ≤ suc i) ⊎
      (most_parts < get_or (set after (get_or ks i 0) (suc i)) k 0)
  known_here k h = by_part (either (eqb k (get_or ks i 0)))
    where
      by_part : (eqb k (get_or ks i 0) ≡ true) ⊎ (eqb k (get_or ks i 0) ≡ false) →
          (get_or (set after (get_or ks i 0) (suc i)) k 0 ≤ suc i) ⊎
          (most_parts < get_or (set after (get_or ks i 0) (suc i)) k 0)
      by_part (inl t) = inl (rw (eqb-true k (get_or ks i 0) t, own) (omega arith))
      by_part (inr t) =
          rw (other k (eqb-false k (get_or ks i 0) t))
          (⊎_elim (λ le. inl (omega arith)) (λ lt. inr lt) (placed.known k h))

  -- so the numbers are right for one place more
  pub one_placed : PlacedAfter n ks (set after (get_or ks i 0) (suc i)) (suc i)
  one_placed =
      record {
        marked =
            λ p k le h.
            ⊎_elim (λ e. rw e (marked_here k h)) (λ lt. marked_before p k (omega arith) h) (eq-or-lt_of_le le);
        known = known_here;
      }
