-- The order of parts partway, the marks of those still unplaced being those of the word w: what holds at the start,
-- after each part placed, and where no unplaced part is ready. The word has as many ones as parts are left, so the
-- first free place is the count less the ones. Assumes nothing.
use Prim.Native.Nat.{ℕ, zero, suc, ◌-◌, ◌^◌, ◌≤◌, ◌<◌}
use native.Mathlib.Omega.{arith}
use native.Mathlib.Nat.{sub_self}
use native.Mathlib.Numerals.{add-one}
use mathlib.Core.Path.{◌≡◌, refl, sym, ap, ◌∙◌}
use mathlib.Core.Bool.{Bool, false}
use mathlib.Core.List.{List, [], ◌∷◌, ◌++◌, append-nil, map}
use mathlib.Core.Option.{some, none}
use lib.ListN.{length, length-set, take, drop, set, replicate}
use lib.Seq.{append_snoc, drop-drop, drop-set-lt, length-take-le, take-suc-set}
use lib.Pow.{pow_pos}
use lib.Count.{ones, ones-le, ones-ones}
use Rattle.machine.specs.declared.part.Component.{Component}
use Rattle.machine.specs.Model.{most_parts}
use Rattle.order_place.specs.declared.Direct.{Direct}
use Rattle.laws.specs.WordMarks.{all_marks, mark_cleared, marks_of}
use Rattle.order_place.specs.Direct.{direct_of, lowest_among}
use Rattle.order_place.specs.OrderByMarks.{InOrder, order_by, order_direct, placed_by}
use Rattle.order_place.proofs.Candidates.{found_marked}

-- the parts placed first, and those that are placed from here on, are the order of all; 0 is after them
pub record Partway (count : ℕ) (ds : List Direct) (order : List ℕ) (w : ℕ) : Type 0 where
  pub fits : w < 2 ^ count
  pub full : length order ≡ most_parts
  pub so_far : take (count - ones w) order ++ placed_by (ones w) ds (marks_of count w) ≡ order_by ds
  pub rest : drop (count - ones w) order ≡ replicate (most_parts - (count - ones w)) 0

-- at the start all parts are marked, and none is placed
pub started : (count : ℕ) (ds : List Direct) → length ds ≡ count →
    Partway count ds (replicate most_parts 0) (2 ^ count - 1)
unfolding order_by
started count ds e =
    let some : 0 < 2 ^ count = pow_pos count in
    record {
      fits = omega arith;
      full = refl;
      so_far = rw (ones-ones count, sub_self count, all_marks count, e);
      rest = rw (ones-ones count, sub_self count);
    }

-- the parts that are placed from here on, where a part is found
one_more : (n : ℕ) (ds : List Direct) (marks : List Bool) (k : ℕ) → lowest_among marks marks 0 ds ≡ some k →
    placed_by (suc n) ds marks ≡ k ∷ placed_by n ds (set marks k false)
unfolding placed_by
one_more n ds marks k found = rw found

-- and where none is
no_more : (n : ℕ) (ds : List Direct) (marks : List Bool) → lowest_among marks marks 0 ds ≡ none →
    placed_by n ds marks ≡ []
unfolding placed_by
no_more zero ds marks found = refl
no_more (suc n) ds marks found = rw found

-- a part k stored in the first free place n
stored : (order : List ℕ) (n k : ℕ) (later : List ℕ) → n < length order →
    take (suc n) (set order n k) ++ later ≡ take n order ++ k ∷ later
stored order n k later p = rw (take-suc-set order n k p) (append_snoc (take n order) k later)

-- 0 is after it still
free_behind : (order : List ℕ) (n k : ℕ) → n < most_parts → drop n order ≡ replicate (most_parts - n) 0 →
    drop (suc n) (set order n k) ≡ replicate (most_parts - suc n) 0
free_behind order n k p free =
    let one_fewer : most_parts - n ≡ suc (most_parts - suc n) = omega arith in
    drop-set-lt (suc n) order n k (omega arith) ∙ rw (← add-one n, ← drop-drop 1 n order, free, one_fewer, add-one n)

-- the part k is found: it is stored, and its mark is cleared
pub turned : (count : ℕ) (ds : List Direct) (order : List ℕ) (w k : ℕ) → count ≤ most_parts → Partway count ds order w →
    lowest_among (marks_of count w) (marks_of count w) 0 ds ≡ some k →
    Partway count ds (set order (count - ones w) k) (w - 2 ^ k)
turned count ds order w k few partway found =
    let marks = marks_of count w in
    let rest = mark_cleared count w k (found_marked marks marks 0 k ds found) in
    let most : ones w ≤ count = ones-le count w partway.fits in
    let fewer : ones w ≡ suc (ones (w - 2 ^ k)) = rest.fewer in
    let next : count - ones (w - 2 ^ k) ≡ suc (count - ones w) = omega arith in
    record {
      fits = omega (arith, partway.fits);
      full = length-set order (count - ones w) k ∙ partway.full;
      so_far =
          rw (
            next,
            stored order (count - ones w) k (placed_by (ones (w - 2 ^ k)) ds (marks_of count (w - 2 ^ k)))
                (omega (arith, partway.full)),
            rest.marks,
            ← one_more (ones (w - 2 ^ k)) ds marks k found,
            ← fewer,
          )
          partway.so_far;
      rest = rw next (free_behind order (count - ones w) k (omega arith) partway.rest);
    }

-- nothing is found: what is placed is the order by direct sources
all_placed : (count : ℕ) (ds : List Direct) (order : List ℕ) (w : ℕ) → Partway count ds order w →
    lowest_among (marks_of count w) (marks_of count w) 0 ds ≡ none → take (count - ones w) order ≡ order_by ds
all_placed count ds order w partway found =
    sym (append-nil (take (count - ones w) order)) ∙
    ap (λ ks. take (count - ones w) order ++ ks) (sym (no_more (ones w) ds (marks_of count w) found)) ∙
    partway.so_far

-- .. and that is the part order
pub ended : (count : ℕ) (parts : List Component) (ds : List Direct) (order : List ℕ) (w : ℕ) → count ≤ most_parts →
    ds ≡ map direct_of (take count parts) → Partway count ds order w →
    lowest_among (marks_of count w) (marks_of count w) 0 ds ≡ none → InOrder parts count (record {
      order = order;
      count = count - ones w;
    })
ended count parts ds order w few of_parts partway found =
    let all = all_placed count ds order w partway found ∙ ap order_by of_parts ∙
    sym (order_direct (take count parts)) in
    record {
      is = all;
      counted = sym (length-take-le (count - ones w) order (omega (arith, partway.full))) ∙ ap length all;
      few = omega arith;
      rest = partway.rest;
    }
