-- Refusal 11 means a loop: the order lacks a part exactly where a loop exists. Where ordering ends early, some part is
-- unplaced, and every unplaced part has a direct source that is unplaced. Walking back along such sources, a part comes
-- again before the unplaced parts are used up, and the stretch between is a loop. In a complete order, on the other
-- hand, every part of a chain is before the chain's end. Assumes nothing.
use Rattle.std.specs.Prelude.{ℕ, zero, suc, ◌+◌, ◌≤◌, ◌<◌, ◌≡◌, refl, Bool, not, ◌||◌, get_or, set}
use native.Mathlib.Omega.{arith}
use Rattle.std.proofs.Common.{ap, ◌∙◌, true≢false, inl, inr, ⊎_elim}
use Rattle.std.proofs.Math.Bool.{true, false}
use Rattle.std.proofs.Math.Option.{Option, some, none}
use mathlib.Core.List.Memᴰ
use mathlib.Core.List.{List, [], ◌∷◌, ◌++◌, append_assoc, Memᴰ}
use Rattle.std.proofs.Math.ListN.{length, get_or-replicate, length-replicate}
use borrow.Author.Tests.{leb-false, not-false}
use Rattle.machine.specs.declared.part.Component.{Component}
use Rattle.machine.specs.declared.part.Source.{Source}
use Rattle.machine.specs.declared.part.Source.TheVariants.{Unwired, From}
use Rattle.machine.specs.Kind.{direct0, direct1}
use Rattle.machine.specs.Table.{component_at, source_placed, ready, lowest_ready, next_part, placed, part_order}
use Rattle.machine.specs.Table.{ordered, DirectWire, Chained, Loop}
use Rattle.laws.specs.Bools.{either, and_false_cases}
use Rattle.laws.specs.ListLaws.{split_in, in_or_not}
use Rattle.laws.specs.Marks.{marked_below, cleared, cleared_marked, left, left_replicate, one_left}
use Rattle.laws.specs.Once.{Once, once_apart, left_cleared}
use Rattle.order_laws.specs.Order.{may_go, LowestFound, lowest_found, all_marked, order_once, order_below}
use Rattle.order_laws.specs.Order.{order_all, order_after}

-- a port whose source is not placed: it is direct, and its source is marked
port_marked : (marks : List Bool) (direct : Bool) (s : Source) → not direct || source_placed marks s ≡ false →
    (i : ℕ) × (direct ≡ true) × (s ≡ From i) × (get_or marks i false ≡ true)
unfolding source_placed
port_marked marks false s h = absurd (true≢false h)
port_marked marks true Unwired h = absurd (true≢false h)
port_marked marks true (From i) h = (i, refl, refl, not-false (get_or marks i false) h)

-- a part that is not ready has a direct source that is unplaced
source_marked : (cs : List Component) (marks : List Bool) (k : ℕ) → k < length cs →
    ready marks (component_at cs k) ≡ false →
    (i : ℕ) × DirectWire cs i k × (get_or marks i false ≡ true)
unfolding ready
source_marked cs marks k h e =
    let c : Component = component_at cs k in
    let first : Bool = not (direct0 c.kind) || source_placed marks c.port0 in
    let second : Bool = not (direct1 c.kind) || source_placed marks c.port1 in
    ⊎_elim (λ f. let (i, d, from, m) = port_marked marks (direct0 c.kind) c.port0 f in (i, (h, inl (d, from)), m))
    (λ f. let (i, d, from, m) = port_marked marks (direct1 c.kind) c.port1 f in
    (i, (h, inr (d, from)), m)) (and_false_cases first second e)

-- no part may go
abbrev NoneMayGo : List Component → List Bool → Type 0
NoneMayGo cs marks = (k : ℕ) → k < length cs → may_go cs marks k ≡ false

-- it is so after a next part, or where none was found
ended_next : (n : ℕ) (cs : List Component) (marks : List Bool) (o : Option ℕ) (on : ℕ → List ℕ) →
    LowestFound cs marks 0 o →
    ((i : ℕ) → length (on i) < n → NoneMayGo cs (cleared (set marks i false) (on i))) →
    length (next_part o on) < suc n → NoneMayGo cs (cleared marks (next_part o on))
unfolding cleared
ended_next n cs marks none on f later h = λ k l. f k (omega arith) l
ended_next n cs marks (some i) on f later h = later i (omega arith)

-- where ordering ended early, no part may go with the marks that are left
ended : (n : ℕ) (cs : List Component) (marks : List Bool) → length (placed n cs marks) < n →
    NoneMayGo cs (cleared marks (placed n cs marks))
unfolding placed
ended zero cs marks h = absurd (omega arith)
ended (suc n) cs marks h =
    ended_next n cs marks (lowest_ready marks 0 cs) (λ i. placed n cs (set marks i false))
    (lowest_found cs marks (length cs) 0 (omega arith))
    (λ i. ended n cs (set marks i false)) h

-- a walk back along direct wires: it is at part k, and came from the parts of the list, the latest first
abbrev Walked : List Component → ℕ → List ℕ → Type 0
Walked cs k [] = Unit {0}
Walked cs k (j ∷ js) = DirectWire cs k j × Walked cs j js

-- a wire into where the walk is goes on as a chain to each part that the walk came by
walk_chain : (cs : List Component) (i j k : ℕ) (ks : List ℕ) → DirectWire cs j k → Walked cs k ks →
    Memᴰ i (k ∷ ks) →
    (js : List ℕ) × Chained cs j js i
walk_chain cs i j k ks wire walk (Memᴰ.head e) = ([], rw e wire)
walk_chain cs i j k [] wire walk (Memᴰ.tail m) = absurd (Memᴰ.not-nil m)
walk_chain cs i j k (l ∷ ks) wire walk (Memᴰ.tail m) =
    let (js, chain) = walk_chain cs i k l ks walk.0 walk.1 m in
    (k ∷ js, (wire, chain))

module _
    (cs : List Component)
    (marks : List Bool)
    (back : (k : ℕ) → get_or marks k false ≡ true → (i : ℕ) × DirectWire cs i k × (get_or marks i false ≡ true)) where
  -- where each marked part has a direct source that is marked, a walk by marked parts, none twice, comes to a loop: it
  -- has at most n steps to go
  walk_loop : (n k : ℕ) (ks : List ℕ) → Once (k ∷ ks) → ((j : ℕ) → Memᴰ j (k ∷ ks) → get_or marks j false ≡ true) →
      Walked cs k ks →
      left marks ≤ n + length ks → Loop cs
  walk_loop zero k ks once marked walk h =
      let room : length (k ∷ ks) + left (cleared marks (k ∷ ks)) ≡ left marks =
      left_cleared (k ∷ ks) marks once marked in
      absurd (omega arith)
  walk_loop (suc n) k ks once marked walk h =
      let (i, wire, m) = back k (marked k (Memᴰ.head refl)) in
      ⊎_elim (λ again. let (js, chain) = walk_chain cs i i k ks wire walk again in (i, js, chain))
      (λ new.
      walk_loop n i (k ∷ ks) (new, once) (λ j o. ⊎_elim (λ e. rw e m) (marked j) (Memᴰ.cases_cons o)) (wire, walk)
      (omega arith))
      (in_or_not i (k ∷ ks))

module _ (cs : List Component) where
  -- the marks that are left when ordering ends
  unplaced : List Bool
  unplaced = cleared (all_marked cs) (part_order cs)

  -- as many parts are unplaced as the order lacks
  unplaced_left : length (part_order cs) + left unplaced ≡ length cs
  unfolding unplaced
  unplaced_left =
      left_cleared (part_order cs) (all_marked cs) (order_once cs)
      (λ k m. get_or-replicate (length cs) k true false (order_below cs k m)) ∙ left_replicate (length cs)

  -- an unplaced part is there
  unplaced_below : (k : ℕ) → get_or unplaced k false ≡ true → k < length cs
  unfolding unplaced
  unplaced_below k m =
      omega (
        arith,
        marked_below (all_marked cs) k (cleared_marked (part_order cs) (all_marked cs) k m),
        length-replicate (length cs) true,
      )

  -- where the order lacks a part, each unplaced part has a direct source that is unplaced
  unplaced_source : length (part_order cs) < length cs → (k : ℕ) → get_or unplaced k false ≡ true →
      (i : ℕ) × DirectWire cs i k × (get_or unplaced i false ≡ true)
  unfolding unplaced part_order
  unplaced_source short k m =
      let below = unplaced_below k m in
      source_marked cs unplaced k below (rw m at (ended (length cs) cs (all_marked cs) short k below))

  -- where the order lacks a part, a loop exists
  pub stuck_loop : ordered cs ≡ false → Loop cs
  unfolding ordered
  stuck_loop h =
      let short : length (part_order cs) < length cs = leb-false (length cs) (length (part_order cs)) h in
      let some_left : 0 < left unplaced = omega (arith, unplaced_left) in
      let (k, m) = one_left unplaced some_left in
      walk_loop cs unplaced (unplaced_source short) (left unplaced) k [] (Memᴰ.not-nil, tt)
      (λ j n. rw (Memᴰ.eq_of_singleton n) m) tt (omega arith)

  -- a chain begins before its end, wherever that is in the order
  chain_before : (js : List ℕ) (i k : ℕ) (front back : List ℕ) → part_order cs ≡ front ++ k ∷ back → i < length cs →
      Chained cs i js k →
      Memᴰ i front
  chain_before [] i k front back e h wire = order_after cs front back i k e wire h
  chain_before (j ∷ js) i k front back e h chain =
      let (start, rest, split) = split_in (chain_before js j k front back e chain.0.0 chain.1) in
      let at_j = e ∙ (ap (λ l. l ++ k ∷ back) split ∙ append_assoc start (j ∷ rest) (k ∷ back)) in
      rw split (Memᴰ.append_left (j ∷ rest) (order_after cs start (rest ++ k ∷ back) i j at_j chain.0 h))

  -- a chain ends at a part that is there
  chain_end : (js : List ℕ) (i k : ℕ) → Chained cs i js k → k < length cs
  chain_end [] i k chain = chain.0
  chain_end (j ∷ js) i k chain = chain_end js j k chain.1

  -- where a loop exists, the order lacks a part
  pub loop_stuck : Loop cs → ordered cs ≡ false
  loop_stuck (i, js, chain) = ⊎_elim (λ full. absurd (never full)) (λ e. e) (either (ordered cs))
    where
      never : ordered cs ≡ true → ⊥
      never full =
          let there : i < length cs = chain_end js i i chain in
          let (front, back, e) = split_in (order_all cs full i there) in
          once_apart front (i ∷ back) i (rw e at (order_once cs)) (chain_before js i i front back e there chain)
          (Memᴰ.head refl)
