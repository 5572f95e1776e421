-- Links between the places of an order: the link of a place leads back over parts that are no higher than the part
-- there. Assumes nothing.
use Rattle.std.specs.Prelude.{ℕ, suc, ◌-◌, ◌≤◌, ◌<◌, ◌≡◌, true, false, ◌⊎◌, List, length, get_or, set, leb}
use Rattle.std.proofs.Common.{arith, eq-or-lt_of_le, inl, inr, ⊎_elim, get_or-set_same, get_or-set_other, leb-true}
use Rattle.std.proofs.Common.{leb-false}
use Rattle.laws.specs.Bools.{either}

-- from place l up to place q the parts of the order ks are no higher than the part at q
pub record Link (ks : List ℕ) (q l : ℕ) : Type 0 where
  pub within : l ≤ q
  pub lower : (t : ℕ) → l ≤ t → t < q → get_or ks t 0 ≤ get_or ks q 0

-- the links of the places before i
abbrev pub Links : List ℕ → List ℕ → ℕ → Type 0
Links ks links i = (q : ℕ) → q < i → Link ks q (get_or links q 0)

-- where a walk back from place i ends: what it passed is no higher than the part at i, and where it ends after place
-- `ready` a higher part is before it
pub record WalkedBack (ks : List ℕ) (i ready l : ℕ) : Type 0 where
  pub link : Link ks i l
  pub higher : ready < l → get_or ks i 0 < get_or ks (l - 1) 0

-- at first nothing is passed
pub link_none : (ks : List ℕ) (i : ℕ) → Link ks i i
link_none ks i = record { within = omega arith; lower = λ t le lt. absurd (omega arith) }

-- the part at place q, before what is passed, is no higher either: it is passed, with what its link leads over
pub link_more : (ks : List ℕ) (i q l : ℕ) → Link ks i (suc q) → get_or ks q 0 ≤ get_or ks i 0 → Link ks q l →
    Link ks i l
link_more ks i q l walked le link =
    record {
      within = omega (arith, walked.within, link.within);
      lower =
          λ t from before. by_place t from before (either (leb (suc q) t));
    }
  where
    by_place : (t : ℕ) → l ≤ t → t < i → (leb (suc q) t ≡ true) ⊎ (leb (suc q) t ≡ false) →
        get_or ks t 0 ≤ get_or ks i 0
    by_place t from before (inl u) = walked.lower t (leb-true (suc q) t u) before
    by_place t from before (inr u) =
        let at_most : t ≤ q = omega (arith, leb-false (suc q) t u) in
        ⊎_elim (λ e. rw e le) (λ less. let lower : get_or ks t 0 ≤ get_or ks q 0 = link.lower t from less in
        omega arith) (eq-or-lt_of_le at_most)

-- the link of one place more
pub links_more : (ks links : List ℕ) (i l : ℕ) → i < length links → Links ks links i → Link ks i l →
    Links ks (set links i l) (suc i)
links_more ks links i l room linked link q h = by_place (eq-or-lt_of_le at_most)
  where
    at_most : q ≤ i
    at_most = omega arith

    by_place : (q ≡ i) ⊎ (q < i) → Link ks q (get_or (set links i l) q 0)
    by_place (inl e) = rw (e, get_or-set_same links i l 0 room) link
    by_place (inr less) =
        let apart : q ≡ i → ⊥ = λ e. omega arith in
        rw (get_or-set_other links i q l 0 apart) (linked q less)
