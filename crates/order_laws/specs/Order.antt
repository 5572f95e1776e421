-- The order of parts: where it has all parts it is complete, each part comes after its direct sources, and the lowest
-- part that may go goes next. All of it follows from one description of what `placed` gives (`Placing`), which is by
-- induction on the list. Assumes nothing.
use Rattle.std.specs.Prelude.{ℕ, zero, suc, ◌+◌, ◌≤◌, ◌<◌, ◌≡◌, Bool, true, false, not, cond, ◌&&◌, ◌||◌, ◌⊎◌, length}
use Rattle.std.specs.Prelude.{get_or, set, drop, replicate}
use native.Mathlib.Omega.{arith}
use Rattle.std.proofs.Common.{sym, subst, ◌∙◌, inl, inr, ⊎_elim, drop_of_length-le, drop-cons}
use Rattle.std.proofs.lemmas.Bool.{false≢true}
use Rattle.std.proofs.Math.Option.{Option, some, none}
use mathlib.Core.List.Memᴰ
use mathlib.Core.List.{List, [], ◌∷◌, ◌++◌, Memᴰ}
use Rattle.std.proofs.lemmas.List.{get_or-replicate}
use borrow.Author.Tests.{leb-true, not-true}
use Rattle.machine.specs.declared.part.Component.{Component}
use Rattle.machine.specs.declared.part.Source.{Source}
use Rattle.machine.specs.declared.part.Source.TheVariants.{From}
use Rattle.machine.specs.Kind.{direct0, direct1}
use Rattle.machine.specs.Model.{blank_component}
use Rattle.machine.specs.Table.{component_at, source_placed, ready, lowest_ready, next_part, placed, part_order}
use Rattle.machine.specs.Table.{ordered, DirectWire}
use Rattle.laws.specs.Bools.{either, and_left, and_right, fails_from}
use Rattle.laws.specs.ListLaws.{in_or_not}
use Rattle.laws.specs.Marks.{cleared, clear_set, marked_before, cleared_other}
use Rattle.laws.specs.Once.{Once, once_short, once_all}

-- part k may go next: it is unplaced, and its direct sources are placed
abbrev pub may_go : List Component → List Bool → ℕ → Bool
may_go cs marks k = get_or marks k false && ready marks (component_at cs k)

-- what the search from part k on found: no part that may go, or the lowest one
abbrev pub LowestFound : List Component → List Bool → ℕ → Option ℕ → Type 0
LowestFound cs marks k none = (j : ℕ) → k ≤ j → j < length cs → may_go cs marks j ≡ false
LowestFound cs marks k (some i) = (i < length cs) × (may_go cs marks i ≡ true) ×
    ((j : ℕ) → k ≤ j → j < i → may_go cs marks j ≡ false)

-- what was found from part k + 1 on, where part k may not go, is what is found from part k on
found_later : (cs : List Component) (marks : List Bool) (k : ℕ) (o : Option ℕ) → may_go cs marks k ≡ false →
    LowestFound cs marks (suc k) o →
    LowestFound cs marks k o
found_later cs marks k none e f = fails_from (may_go cs marks) (length cs) k e f
found_later cs marks k (some i) e f = (f.0, f.1, fails_from (may_go cs marks) i k e f.2)

-- `lowest_ready` finds the lowest part that may go; n is how many parts there are from part k on
pub lowest_found : (cs : List Component) (marks : List Bool) (n k : ℕ) → k + n ≡ length cs →
    LowestFound cs marks k (lowest_ready marks k (drop k cs))
unfolding lowest_ready
lowest_found cs marks zero k e = rw (drop_of_length-le cs {i = k} (omega arith)) (λ j h l. absurd (omega arith))
lowest_found cs marks (suc n) k e =
    rw (drop-cons cs k blank_component (omega arith))
    (by_test (either (may_go cs marks k)) (lowest_found cs marks n (suc k) (omega arith)))
  where
    by_test :
        (may_go cs marks k ≡ true) ⊎ (may_go cs marks k ≡ false) →
        LowestFound cs marks (suc k) (lowest_ready marks (suc k) (drop (suc k) cs)) →
        LowestFound cs marks k (cond (may_go cs marks k) (some k) (lowest_ready marks (suc k) (drop (suc k) cs)))
    by_test (inl t) later = rw t (omega arith, t, λ j h l. absurd (omega arith))
    by_test (inr t) later = rw t (found_later cs marks k (lowest_ready marks (suc k) (drop (suc k) cs)) t later)

-- "the lowest mark whose direct sources are placed": part k, of those that are marked
pub record Lowest (cs : List Component) (marks : List Bool) (k : ℕ) : Type 0 where
  pub below : k < length cs
  pub unplaced : get_or marks k false ≡ true
  pub sources_placed : ready marks (component_at cs k) ≡ true
  pub lower_not_ready : (j : ℕ) → j < k → get_or marks j false ≡ true → ready marks (component_at cs j) ≡ false

-- each part of the list is the lowest one when its turn comes
abbrev pub Placing : List Component → List Bool → List ℕ → Type 0
Placing cs marks [] = Unit {0}
Placing cs marks (k ∷ ks) = Lowest cs marks k × Placing cs (set marks k false) ks

-- what was found goes next, and the others after it
placing_next : (cs : List Component) (marks : List Bool) (o : Option ℕ) (on : ℕ → List ℕ) → LowestFound cs marks 0 o →
    ((k : ℕ) → Placing cs (set marks k false) (on k)) → Placing cs marks (next_part o on)
placing_next cs marks none on f later = tt
placing_next cs marks (some k) on f later = (
  record {
    below = f.0;
    unplaced = and_left (get_or marks k false) (ready marks (component_at cs k)) f.1;
    sources_placed = and_right (get_or marks k false) (ready marks (component_at cs k)) f.1;
    lower_not_ready = λ j h m. rw m at (f.2 j (omega arith) h);
  },
  later k,
)

-- `placed` places so
placing : (n : ℕ) (cs : List Component) (marks : List Bool) → Placing cs marks (placed n cs marks)
unfolding placed
placing zero cs marks = tt
placing (suc n) cs marks =
    placing_next cs marks (lowest_ready marks 0 cs) (λ k. placed n cs (set marks k false))
    (lowest_found cs marks (length cs) 0 (omega arith))
    (λ k. placing n cs (set marks k false))

-- where the source of a direct port is placed, its mark is clear
port_clear : (marks : List Bool) (direct : Bool) (s : Source) (i : ℕ) → not direct || source_placed marks s ≡ true →
    direct ≡ true →
    s ≡ From i → get_or marks i false ≡ false
unfolding source_placed
port_clear marks direct s i h d e = not-true (get_or marks i false) (rw (d, e) at h)

-- where a part is ready, the marks of its direct sources are clear
source_clear : (cs : List Component) (marks : List Bool) (i k : ℕ) → DirectWire cs i k →
    ready marks (component_at cs k) ≡ true →
    get_or marks i false ≡ false
unfolding ready
source_clear cs marks i k wire h =
    let c : Component = component_at cs k in
    let first : Bool = not (direct0 c.kind) || source_placed marks c.port0 in
    let second : Bool = not (direct1 c.kind) || source_placed marks c.port1 in
    ⊎_elim (λ w. port_clear marks (direct0 c.kind) c.port0 i (and_left first second h) w.0 w.1)
    (λ w. port_clear marks (direct1 c.kind) c.port1 i (and_right first second h) w.0 w.1) wire.1

-- all parts marked, as at first
abbrev pub all_marked : List Component → List Bool
all_marked cs = replicate (length cs) true

module _ (cs : List Component) where
  -- a part that gets its turn was marked from the beginning
  placing_marked : (ks : List ℕ) (marks : List Bool) → Placing cs marks ks → (j : ℕ) → Memᴰ j ks →
      get_or marks j false ≡ true
  placing_marked [] marks p j m = absurd (Memᴰ.not-nil m)
  placing_marked (k ∷ ks) marks p j (Memᴰ.head e) = rw e p.0.unplaced
  placing_marked (k ∷ ks) marks p j (Memᴰ.tail m) =
      marked_before marks k j (placing_marked ks (set marks k false) p.1 j m)

  -- no part gets its turn twice
  placing_once : (ks : List ℕ) (marks : List Bool) → Placing cs marks ks → Once ks
  placing_once [] marks p = tt
  placing_once (k ∷ ks) marks p = (
    λ m. false≢true (sym (clear_set marks k) ∙ placing_marked ks (set marks k false) p.1 k m),
    placing_once ks (set marks k false) p.1,
  )

  -- each part that gets its turn is there
  placing_below : (ks : List ℕ) (marks : List Bool) → Placing cs marks ks → (j : ℕ) → Memᴰ j ks → j < length cs
  placing_below [] marks p j m = absurd (Memᴰ.not-nil m)
  placing_below (k ∷ ks) marks p j (Memᴰ.head e) = rw e p.0.below
  placing_below (k ∷ ks) marks p j (Memᴰ.tail m) = placing_below ks (set marks k false) p.1 j m

  -- a part has its turn with the marks that those before it left
  placing_split : (front back : List ℕ) (k : ℕ) (marks : List Bool) → Placing cs marks (front ++ k ∷ back) →
      Lowest cs (cleared marks front) k
  unfolding cleared
  placing_split [] back k marks p = p.0
  placing_split (j ∷ front) back k marks p = placing_split front back k (set marks j false) p.1

  -- no number occurs twice in the part order
  pub order_once : Once (part_order cs)
  unfolding part_order
  order_once = placing_once (part_order cs) (all_marked cs) (placing (length cs) cs (all_marked cs))

  -- every number of the part order is a part's
  pub order_below : (k : ℕ) → Memᴰ k (part_order cs) → k < length cs
  unfolding part_order
  order_below = placing_below (part_order cs) (all_marked cs) (placing (length cs) cs (all_marked cs))

  -- lowest first: with the marks that the parts before it left, each part of the order is the lowest one
  pub lowest_first : (front back : List ℕ) (k : ℕ) → part_order cs ≡ front ++ k ∷ back →
      Lowest cs (cleared (all_marked cs) front) k
  unfolding part_order
  lowest_first front back k e =
      placing_split front back k (all_marked cs)
      (subst (Placing cs (all_marked cs)) e (placing (length cs) cs (all_marked cs)))

  -- where the order has all parts, it is as long as there are parts
  pub order_length : ordered cs ≡ true → length (part_order cs) ≡ length cs
  unfolding ordered
  order_length h = omega (
    arith,
    leb-true (length cs) (length (part_order cs)) h,
    once_short (part_order cs) (length cs) order_once order_below,
  )

  -- and every part occurs in it
  pub order_all : ordered cs ≡ true → (k : ℕ) → k < length cs → Memᴰ k (part_order cs)
  order_all h = once_all (part_order cs) (length cs) order_once order_below (order_length h)

  -- each part comes after its direct sources
  pub order_after : (front back : List ℕ) (i k : ℕ) → part_order cs ≡ front ++ k ∷ back → DirectWire cs i k →
      i < length cs → Memᴰ i front
  order_after front back i k e wire h =
      ⊎_elim (λ m. m) (λ out. absurd (false≢true (sym clear ∙ still_marked out))) (in_or_not i front)
    where
      clear : get_or (cleared (all_marked cs) front) i false ≡ false
      clear = source_clear cs (cleared (all_marked cs) front) i k wire (lowest_first front back k e).sources_placed

      still_marked : (Memᴰ i front → ⊥) → get_or (cleared (all_marked cs) front) i false ≡ true
      still_marked out = cleared_other front (all_marked cs) i out ∙ get_or-replicate (length cs) i true false h

-- an order in which a point's outputs can be filled: it has every part once, and each part after its direct sources
pub record CompleteOrder (cs : List Component) (ks : List ℕ) : Type 0 where
  pub below : (k : ℕ) → Memᴰ k ks → k < length cs
  pub once : Once ks
  pub all : (k : ℕ) → k < length cs → Memᴰ k ks
  pub after : (front back : List ℕ) (i k : ℕ) → ks ≡ front ++ k ∷ back → DirectWire cs i k → i < length cs →
      Memᴰ i front

-- the part order is one, where it has all parts
pub order_complete : (cs : List Component) → ordered cs ≡ true → CompleteOrder cs (part_order cs)
order_complete cs h = record {
  below = order_below cs;
  once = order_once cs;
  all = order_all cs h;
  after = order_after cs;
}
