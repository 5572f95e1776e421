-- Laws of the search for the lowest candidate that is ready: the first candidate is found if it is ready, and without
-- it the same is found if it is not; what is found is a candidate; parts without a mark do not matter. Each is by
-- induction on the parts from number k on. Assumes nothing.
use Prim.Native.Nat.{ℕ, zero, suc, ◌+◌, ◌^◌, ◌≤◌, ◌<◌}
use native.Mathlib.Omega.{arith}
use native.Mathlib.Nat.{add-zero}
use mathlib.Core.Path.{◌≡◌, refl, ap, ◌∙◌}
use mathlib.Core.Bool.{Bool, true, false, cond, not, ◌&&◌, and-false}
use mathlib.Core.Logic.{◌⊎◌, inl, inr}
use mathlib.Core.List.{List, [], ◌∷◌}
use mathlib.Core.Option.{Option, some, none, none-ne-some, some-injective}
use lib.ListN.{length, get_or, take, set}
use lib.Seq.{get_or-set_other}
use lib.Dec.{eqb}
use borrow.Author.Tests.{eqb-true, eqb-false}
use Rattle.machine.specs.declared.part.Source.{Source}
use Rattle.machine.specs.declared.part.Source.TheVariants.{Unwired, From}
use Rattle.machine.specs.Table.{source_placed}
use Rattle.laws.specs.Bools.{either, and_left}
use Rattle.order_place.specs.declared.Direct.{Direct}
use Rattle.std.specs.Prelude.{Some, None}
use Rattle.laws.specs.WordMarks.{FirstMark, marks_of, none_behind, wider}
use Rattle.order_place.specs.Direct.{both_placed, found_as, lowest_among}

-- no candidate from k on: nothing is found
pub none_left : (candidates marks : List Bool) (k : ℕ) (ds : List Direct) →
    ((j : ℕ) → k ≤ j → get_or candidates j false ≡ false) →
    lowest_among candidates marks k ds ≡ none
unfolding lowest_among
none_left candidates marks k [] clear = refl
none_left candidates marks k (d ∷ ds) clear =
    rw (clear k (omega arith)) (none_left candidates marks (suc k) ds (λ j p. clear j (omega arith)))

-- no candidate from k + n on: the parts from there on need not be looked at
cut : (candidates marks : List Bool) (k n : ℕ) (ds : List Direct) →
    ((j : ℕ) → k + n ≤ j → get_or candidates j false ≡ false) →
    lowest_among candidates marks k ds ≡ lowest_among candidates marks k (take n ds)
unfolding lowest_among
cut candidates marks k zero ds clear = none_left candidates marks k ds (λ j p. clear j (omega arith))
cut candidates marks k (suc n) [] clear = refl
cut candidates marks k (suc n) (d ∷ ds) clear =
    ap (cond (get_or candidates k false && both_placed marks d) (some k))
    (cut candidates marks (suc k) n ds (λ j p. clear j (omega arith)))

-- the first candidate, t, is ready: it is found. It is i places after k
pub found : (candidates marks : List Bool) (k i t : ℕ) (ds : List Direct) (d₀ : Direct) → k + i ≡ t → i < length ds →
    FirstMark candidates t →
    both_placed marks (get_or ds i d₀) ≡ true → lowest_among candidates marks k ds ≡ some t
unfolding lowest_among
found candidates marks k i t [] d₀ at p first is_ready = absurd (omega arith)
found candidates marks k zero t (d ∷ ds) d₀ at p first is_ready =
    let here : k ≡ t = omega arith in rw (here, first.marked, is_ready)
found candidates marks k (suc i) t (d ∷ ds) d₀ at p first is_ready =
    rw (first.before k (omega arith))
    (found candidates marks (suc k) i t ds d₀ (omega arith) (omega arith) first is_ready)

-- the candidate t is not ready: without it the same is found
pub passed : (candidates marks : List Bool) (k t : ℕ) (ds : List Direct) (d₀ : Direct) →
    ((i : ℕ) → k + i ≡ t → both_placed marks (get_or ds i d₀) ≡ false) →
    lowest_among (set candidates t false) marks k ds ≡ lowest_among candidates marks k ds
unfolding lowest_among
passed candidates marks k t [] d₀ not_ready = refl
passed candidates marks k t (d ∷ ds) d₀ not_ready =
    by_place (either (eqb k t)) (passed candidates marks (suc k) t ds d₀ (λ i e. not_ready (suc i) (omega arith)))
  where
    by_place : (eqb k t ≡ true) ⊎ (eqb k t ≡ false) →
        lowest_among (set candidates t false) marks (suc k) ds ≡ lowest_among candidates marks (suc k) ds →
        lowest_among (set candidates t false) marks k (d ∷ ds) ≡ lowest_among candidates marks k (d ∷ ds)
    by_place (inl e) rest =
        rw (
          not_ready 0 (add-zero k ∙ eqb-true k t e),
          and-false (get_or (set candidates t false) k false),
          and-false (get_or candidates k false),
        ) rest
    by_place (inr e) rest =
        rw (get_or-set_other candidates t k false false (eqb-false k t e), rest)

-- a source is placed by the marks that are set alone
same_placed : (marks marks' : List Bool) → ((j : ℕ) → get_or marks j false ≡ get_or marks' j false) → (s : Source) →
    source_placed marks s ≡ source_placed marks' s
unfolding source_placed
same_placed marks marks' same Unwired = refl
same_placed marks marks' same (From k) = ap not (same k)

-- the search goes by the marks that are set alone
same_lowest : (marks marks' : List Bool) → ((j : ℕ) → get_or marks j false ≡ get_or marks' j false) →
    (k : ℕ) (ds : List Direct) →
    lowest_among marks marks k ds ≡ lowest_among marks' marks' k ds
unfolding lowest_among both_placed
same_lowest marks marks' same k [] = refl
same_lowest marks marks' same k (d ∷ ds) =
    rw (
      same k,
      same_placed marks marks' same d.port0,
      same_placed marks marks' same d.port1,
      same_lowest marks marks' same (suc k) ds,
    )

-- what is found is a candidate
pub found_marked : (candidates marks : List Bool) (k t : ℕ) (ds : List Direct) →
    lowest_among candidates marks k ds ≡ some t →
    get_or candidates t false ≡ true
unfolding lowest_among
found_marked candidates marks k t [] e = absurd (none-ne-some t e)
found_marked candidates marks k t (d ∷ ds) e =
    by_test (either (get_or candidates k false && both_placed marks d)) (found_marked candidates marks (suc k) t ds)
  where
    by_test : (get_or candidates k false && both_placed marks d ≡ true) ⊎
        (get_or candidates k false && both_placed marks d ≡ false) →
        (lowest_among candidates marks (suc k) ds ≡ some t → get_or candidates t false ≡ true) →
        get_or candidates t false ≡ true
    by_test (inl h) later = rw (← some-injective k t (rw h at e))
        (and_left (get_or candidates k false) (both_placed marks d) h)
    by_test (inr h) later = later (rw h at e)

-- the code's answer says what is found: a part, or none
pub found_at : (o : Option ℕ) (k : ℕ) → found_as o ≡ Some k → o ≡ some k
found_at none k e = cc
found_at (some j) k e = cc

pub found_nothing : (o : Option ℕ) → found_as o ≡ None → o ≡ none
found_nothing none e = refl
found_nothing (some j) e = cc

-- the search by a word of 32 digits, of which the n lowest may be set, is the search among the first n parts
pub lowest_word : (n w : ℕ) (ds : List Direct) → n ≤ 32 → w < 2 ^ n →
    lowest_among (marks_of 32 w) (marks_of 32 w) 0 ds ≡ lowest_among (marks_of n w) (marks_of n w) 0 (take n ds)
lowest_word n w ds p fits =
    same_lowest (marks_of 32 w) (marks_of n w) (λ j. wider n 32 w j p fits) 0 ds ∙
    cut (marks_of n w) (marks_of n w) 0 n ds (λ j q. none_behind n w j (omega arith))
