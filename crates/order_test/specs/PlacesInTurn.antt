-- The part order told place by place: an order of all parts is the part order exactly where each place is in turn. The
-- part there was unplaced, its direct sources were placed, and it was not ready at any earlier place that went to a
-- part above it. The last asks of a part, when its place comes, what the part order asks at each place of all lower
-- parts; every part has a place, so both come to the same. Assumes nothing.
use Prim.Native.Nat.{ℕ, zero, suc, ◌+◌, ◌-◌, ◌≤◌, ◌<◌}
use native.Mathlib.Omega.{arith}
use Rattle.std.proofs.Common.{eq-or-lt_of_le, sym, ◌∙◌, inl, inr, ⊎_elim, drop-cons, get_or-set_other, take-suc}
use Rattle.std.proofs.Common.{take-take, eqb-true, le-leb, leb-true, leb-false}
use Rattle.std.specs.Prelude.{◌≡◌, refl, Bool, true, false, ◌&&◌, ◌⊎◌, List, [], ◌∷◌, map, get_or, drop, set}
use Rattle.std.specs.Prelude.{replicate, leb, eqb}
use Rattle.std.proofs.Math.Path.{ap}
use Rattle.std.proofs.lemmas.Bool.{false≢true, eqb-false}
use Rattle.std.proofs.Math.Option.{Option, some, none}
use Rattle.std.proofs.Math.ListN.{length, take}
use Rattle.std.proofs.Math.Seq.{get_or-take, length-take-le, split_at}
use Rattle.machine.specs.declared.part.Component.{Component}
use Rattle.machine.specs.Lists.{same}
use Rattle.machine.specs.Model.{blank_component}
use Rattle.machine.specs.Table.{component_at, ready, lowest_ready, placed, part_order, ordered}
use Rattle.laws.specs.Bools.{either, and_left, and_right, and_intro}
use Rattle.laws.specs.ListLaws.{equal_same, getD_map_in, same_equal}
use Rattle.laws.specs.Marks.{cleared, cleared_added, left, left_replicate, left_set, marked_before, none_left}
use Rattle.order_laws.specs.Order.{LowestFound, Lowest, Placing, lowest_first, lowest_found}
use Rattle.order_place.specs.declared.Direct.{Direct}
use Rattle.order_place.specs.Direct.{both_placed, direct_of, no_sources}
use Rattle.order_place.specs.OrderByMarks.{ready_direct}

-- the marks of n parts once the parts in the first i places of an order are placed
unfoldable pub marks_at : ℕ → List ℕ → ℕ → List Bool
marks_at n ks i = cleared (replicate n true) (take i ks)

-- the place i of an order of n parts is in turn, ds being the direct sources of the parts
pub record InTurn (n : ℕ) (ds : List Direct) (ks : List ℕ) (i : ℕ) : Type 0 where
  pub below : get_or ks i 0 < n
  pub unplaced : get_or (marks_at n ks i) (get_or ks i 0) false ≡ true
  pub sources_placed : both_placed (marks_at n ks i) (get_or ds (get_or ks i 0) no_sources) ≡ true
  pub passed_by : (p : ℕ) → p < i → get_or ks i 0 < get_or ks p 0 →
      both_placed (marks_at n ks p) (get_or ds (get_or ks i 0) no_sources) ≡ false

-- the marks after one place more
pub marks_next : (n : ℕ) (ks : List ℕ) (i : ℕ) → i < length ks →
    marks_at n ks (suc i) ≡ set (marks_at n ks i) (get_or ks i 0) false
unfolding marks_at
marks_next n ks i h = rw (take-suc ks i 0 h) (cleared_added (replicate n true) (take i ks) (get_or ks i 0))

-- a part that is marked was marked d places earlier
marks_earlier : (n : ℕ) (ks : List ℕ) (d p j : ℕ) → p + d ≤ length ks → get_or (marks_at n ks (p + d)) j false ≡ true →
    get_or (marks_at n ks p) j false ≡ true
marks_earlier n ks zero p j h m = let here : p + 0 ≡ p = omega arith in rw here at m
marks_earlier n ks (suc d) p j h m =
    let next : p + suc d ≡ suc (p + d) = omega arith in
    marks_earlier n ks d p j (omega arith)
    (marked_before (marks_at n ks (p + d)) (get_or ks (p + d) 0) j
    (rw (next, marks_next n ks (p + d) (omega arith)) at m))

-- a part that is marked after p places and is not d places later is in one of those
cleared_at : (n : ℕ) (ks : List ℕ) (d p j : ℕ) → p + d ≤ length ks → get_or (marks_at n ks p) j false ≡ true →
    get_or (marks_at n ks (p + d)) j false ≡ false → (i : ℕ) × (p ≤ i) × (i < p + d) × (get_or ks i 0 ≡ j)
cleared_at n ks zero p j h m e = let here : p + 0 ≡ p = omega arith in absurd (false≢true (sym (rw here at e) ∙ m))
cleared_at n ks (suc d) p j h m e =
    by_mark (either (get_or (marks_at n ks (suc p)) j false)) (cleared_at n ks d (suc p) j (omega arith))
  where
    next : p + suc d ≡ suc p + d
    next = omega arith

    kept : (j ≡ get_or ks p 0 → ⊥) → get_or (marks_at n ks (suc p)) j false ≡ true
    kept other = rw (
      marks_next n ks p (omega arith),
      get_or-set_other (marks_at n ks p) (get_or ks p 0) j false false other,
    ) m

    here : (eqb j (get_or ks p 0) ≡ true) ⊎ (eqb j (get_or ks p 0) ≡ false) → get_or (marks_at n ks (suc p)) j false ≡
        false →
        get_or ks p 0 ≡ j
    here (inl t) f = sym (eqb-true j (get_or ks p 0) t)
    here (inr t) f = absurd (false≢true (sym f ∙ kept (eqb-false j (get_or ks p 0) t)))

    by_mark : (get_or (marks_at n ks (suc p)) j false ≡ true) ⊎ (get_or (marks_at n ks (suc p)) j false ≡ false) →
        (get_or (marks_at n ks (suc p)) j false ≡ true → get_or (marks_at n ks (suc p + d)) j false ≡ false →
        (i : ℕ) × (suc p ≤ i) × (i < suc p + d) × (get_or ks i 0 ≡ j)) →
        (i : ℕ) × (p ≤ i) × (i < p + suc d) × (get_or ks i 0 ≡ j)
    by_mark (inl t) later = let (i, le, lt, at) = later t (rw next at e) in (i, omega arith, omega arith, at)
    by_mark (inr t) later = (p, omega arith, omega arith, here (either (eqb j (get_or ks p 0))) t)

-- the search finds the lowest part that may go
found_lowest : (cs : List Component) (marks : List Bool) (k : ℕ) → Lowest cs marks k → (o : Option ℕ) →
    LowestFound cs marks 0 o → o ≡ some k
found_lowest cs marks k low none f =
    absurd (false≢true (sym (f k (omega arith) low.below) ∙ and_intro _ _ low.unplaced low.sources_placed))
found_lowest cs marks k low (some i) f = ap some (by_side (either (leb k i)) (either (leb i k)))
  where
    by_side : (leb k i ≡ true) ⊎ (leb k i ≡ false) → (leb i k ≡ true) ⊎ (leb i k ≡ false) → i ≡ k
    by_side (inr t) side =
        let less : i < k = leb-false k i t in
        let going = f.1 in
        let not_ready =
        low.lower_not_ready i less (and_left (get_or marks i false) (ready marks (component_at cs i)) going) in
        absurd (false≢true (sym not_ready ∙ and_right (get_or marks i false) (ready marks (component_at cs i)) going))
    by_side (inl t) (inr u) =
        absurd (false≢true (sym (f.2 k (omega arith) (leb-false i k u)) ∙
        and_intro _ _ low.unplaced low.sources_placed))
    by_side (inl t) (inl u) = omega (arith, leb-true k i t, leb-true i k u)

-- what is placed, one part after the other, is what placing gives
placing_placed : (cs : List Component) (ks : List ℕ) (marks : List Bool) → Placing cs marks ks →
    placed (length ks) cs marks ≡ ks
unfolding placed
placing_placed cs [] marks p = refl
placing_placed cs (k ∷ ks) marks p =
    rw (found_lowest cs marks k p.0 (lowest_ready marks 0 cs) (lowest_found cs marks (length cs) 0 (omega arith)))
    (ap (λ l. k ∷ l) (placing_placed cs ks (set marks k false) p.1))

module _ (cs : List Component) (ds : List Direct) (of_parts : take (length cs) ds ≡ map direct_of cs) (ks : List ℕ)
    (long : length cs ≤ length ks) where
  -- a part is ready where its direct sources are placed
  sources : (marks : List Bool) (k : ℕ) → k < length cs →
      ready marks (component_at cs k) ≡ both_placed marks (get_or ds k no_sources)
  sources marks k h =
      let same_sources : get_or ds k no_sources ≡ direct_of (component_at cs k) =
      sym (get_or-take (length cs) ds k no_sources h) ∙ ap (λ (l : List Direct). get_or l k no_sources) of_parts ∙
      getD_map_in direct_of cs k blank_component no_sources h in
      rw same_sources (ready_direct marks (component_at cs k))

  module _ (turns : (i : ℕ) → i < length cs → InTurn (length cs) ds ks i) where
    -- each place takes one mark
    left_at : (i : ℕ) → i ≤ length cs → left (marks_at (length cs) ks i) + i ≡ length cs
    unfolding marks_at cleared
    left_at zero h = omega (arith, left_replicate (length cs))
    left_at (suc i) h =
        rw (marks_next (length cs) ks i (omega arith))
        (omega (
          arith,
          left_at i (omega arith),
          left_set (marks_at (length cs) ks i) (get_or ks i 0) (turns i (omega arith)).unplaced,
        ))

    -- so every part has a place, and one that is marked after p places has it later
    placed_later : (p j : ℕ) → p ≤ length cs → get_or (marks_at (length cs) ks p) j false ≡ true →
        (i : ℕ) × (p ≤ i) × (i < length cs) × (get_or ks i 0 ≡ j)
    placed_later p j h m = by_mark (either (get_or (marks_at (length cs) ks (length cs)) j false))
      where
        whole : p + (length cs - p) ≡ length cs
        whole = omega arith

        empty : left (marks_at (length cs) ks (length cs)) ≡ 0
        empty = omega (arith, left_at (length cs) (omega arith))

        by_mark : (get_or (marks_at (length cs) ks (length cs)) j false ≡ true) ⊎
            (get_or (marks_at (length cs) ks (length cs)) j false ≡ false) →
            (i : ℕ) × (p ≤ i) × (i < length cs) × (get_or ks i 0 ≡ j)
        by_mark (inl t) = absurd (none_left (marks_at (length cs) ks (length cs)) j empty t)
        by_mark (inr t) =
            let (i, le, lt, at) = cleared_at (length cs) ks (length cs - p) p j (omega arith) m (rw whole t) in
            (i, le, omega arith, at)

    -- a lower part that has its place later was not ready
    lower_later : (p i : ℕ) → p ≤ i → i < length cs → get_or ks i 0 < get_or ks p 0 →
        ready (marks_at (length cs) ks p) (component_at cs (get_or ks i 0)) ≡ false
    lower_later p i le h lt =
        let t = turns i h in
        sources (marks_at (length cs) ks p) (get_or ks i 0) t.below ∙
        t.passed_by p (⊎_elim (λ e. absurd (let same : get_or ks p 0 ≡ get_or ks i 0 = rw e in omega arith))
        (λ less. less)
        (eq-or-lt_of_le le)) lt

    -- the part at each place is the lowest that may go
    lowest_at : (p : ℕ) → p < length cs → Lowest cs (marks_at (length cs) ks p) (get_or ks p 0)
    lowest_at p h =
        let t = turns p h in
        record {
          below = t.below;
          unplaced = t.unplaced;
          sources_placed = sources (marks_at (length cs) ks p) (get_or ks p 0) t.below ∙ t.sources_placed;
          lower_not_ready =
              λ j lt m.
              let (i, le, last, at) = placed_later p j (omega arith) m in
              rw (← at) (lower_later p i le last (rw at lt));
        }

    -- so from place i on the parts are placed as the part order places them
    placing_from : (m i : ℕ) → i + m ≡ length cs → Placing cs (marks_at (length cs) ks i) (take m (drop i ks))
    placing_from zero i e = tt
    placing_from (suc m) i e =
        rw (drop-cons ks i 0 (omega arith)) (
          lowest_at i (omega arith),
          rw (← marks_next (length cs) ks i (omega arith)) (placing_from m (suc i) (omega arith)),
        )

    -- where every place is in turn, the order is the part order
    turns_order : part_order cs ≡ take (length cs) ks
    unfolding part_order marks_at cleared
    turns_order =
        let all : length (take (length cs) ks) ≡ length cs = length-take-le (length cs) ks long in
        rw all at (placing_placed cs (take (length cs) ks) (replicate (length cs) true)
        (placing_from (length cs) 0 (omega arith)))

    -- and the test of it holds
    pub accepted : (ordered cs && same (take (length cs) ks) (part_order cs)) ≡ true
    unfolding ordered
    accepted =
        let all : length (part_order cs) ≡ length cs = ap length turns_order ∙ length-take-le (length cs) ks long in
        and_intro (leb (length cs) (length (part_order cs))) (same (take (length cs) ks) (part_order cs))
        (le-leb (length cs) (length (part_order cs)) (omega arith))
        (equal_same (take (length cs) ks) (part_order cs) (sym turns_order))

  module _ (is_order : part_order cs ≡ take (length cs) ks) where
    -- with the marks that the places before it left, the part at each place is the lowest that may go
    lowest_of : (i : ℕ) → i < length cs → Lowest cs (marks_at (length cs) ks i) (get_or ks i 0)
    unfolding marks_at
    lowest_of i h =
        let whole = take (length cs) ks in
        let within : i < length whole = omega (arith, length-take-le (length cs) ks long) in
        lowest_first cs (take i ks) (drop (suc i) whole) (get_or ks i 0)
        (is_order ∙ split_at whole i 0 within ∙
        rw (take-take i (length cs) ks (omega arith), get_or-take (length cs) ks i 0 h))

    -- the places of the part order are in turn
    order_turns : (i : ℕ) → i < length cs → InTurn (length cs) ds ks i
    order_turns i h =
        let low = lowest_of i h in
        record {
          below = low.below;
          unplaced = low.unplaced;
          sources_placed = sym (sources (marks_at (length cs) ks i) (get_or ks i 0) low.below) ∙ low.sources_placed;
          passed_by =
              λ p less lt.
              let whole : p + (i - p) ≡ i = omega arith in
              sym (sources (marks_at (length cs) ks p) (get_or ks i 0) low.below) ∙
              (lowest_of p (omega arith)).lower_not_ready (get_or ks i 0) lt
              (marks_earlier (length cs) ks (i - p) p (get_or ks i 0) (omega arith) (rw whole low.unplaced));
        }

  -- where a place is not in turn, the test of the order fails
  pub refused : (i : ℕ) → i < length cs → (InTurn (length cs) ds ks i → ⊥) →
      (ordered cs && same (take (length cs) ks) (part_order cs)) ≡ false
  refused i h never =
      let second = same (take (length cs) ks) (part_order cs) in
      ⊎_elim (λ t. absurd (never
      (order_turns (sym (same_equal (take (length cs) ks) (part_order cs) (and_right (ordered cs) second t))) i h)))
      (λ f. f) (either (ordered cs && second))
