-- The number of parts that `placed` may place is never too small: the part order is the same with any larger number.
-- The idea: each part placed takes a mark, and where no mark is left no part may go. Assumes nothing.
use Rattle.std.specs.Prelude.{ℕ, zero, suc, ◌+◌, ◌≤◌, ◌≡◌, refl, Bool, false, List, [], ◌∷◌, length, get_or, set}
use Rattle.std.proofs.Common.{arith, ap}
use Rattle.std.proofs.Math.Option.{Option, some, none}
use Rattle.machine.specs.declared.part.Component.{Component}
use Rattle.machine.specs.Table.{component_at, ready, lowest_ready, next_part, placed, part_order}
use Rattle.laws.specs.Bools.{and_left}
use Rattle.laws.specs.Marks.{left, left_set, left_replicate}
use Rattle.order_laws.specs.Order.{LowestFound, lowest_found, all_marked}

module _ (cs : List Component) (marks : List Bool) where
  -- a part that was found takes a mark
  found_left : (i : ℕ) → LowestFound cs marks 0 (some i) → suc (left (set marks i false)) ≡ left marks
  found_left i found = left_set marks i (and_left (get_or marks i false) (ready marks (component_at cs i)) found.1)

  -- where no mark is left nothing goes next
  none_next : (o : Option ℕ) (on : ℕ → List ℕ) → LowestFound cs marks 0 o → left marks ≤ 0 → next_part o on ≡ []
  none_next none on found few = refl
  none_next (some i) on found few = absurd (omega (arith, found_left i found))

  -- what goes next is the same, where what follows it is
  same_next :
      (o : Option ℕ) (on other : ℕ → List ℕ) → LowestFound cs marks 0 o →
      ((i : ℕ) → suc (left (set marks i false)) ≡ left marks → on i ≡ other i) → next_part o on ≡ next_part o other
  same_next none on other found later = refl
  same_next (some i) on other found later = ap (λ (ks : List ℕ). i ∷ ks) (later i (found_left i found))

  -- what the search from part 0 on finds
  found_first : LowestFound cs marks 0 (lowest_ready marks 0 cs)
  found_first = lowest_found cs marks (length cs) 0 (omega arith)

-- as many places as there are marks left are enough
placed_enough :
    (n k : ℕ) (cs : List Component) (marks : List Bool) → left marks ≤ n → left marks ≤ k →
    placed n cs marks ≡ placed k cs marks
unfolding placed
placed_enough zero zero cs marks few more = refl
placed_enough zero (suc k) cs marks few more =
    rw (none_next cs marks (lowest_ready marks 0 cs) _ (found_first cs marks) few)
placed_enough (suc n) zero cs marks few more =
    none_next cs marks (lowest_ready marks 0 cs) _ (found_first cs marks) more
placed_enough (suc n) (suc k) cs marks few more =
    same_next cs marks (lowest_ready marks 0 cs) _ _ (found_first cs marks)
    (λ i e. placed_enough n k cs (set marks i false) (omega arith) (omega arith))

-- so the part order needs no more than the number of parts
pub order_enough : (cs : List Component) (more : ℕ) → placed (length cs + more) cs (all_marked cs) ≡ part_order cs
unfolding part_order
order_enough cs more =
    let all : left (all_marked cs) ≡ length cs = left_replicate (length cs) in
    placed_enough (length cs + more) (length cs) cs (all_marked cs) (omega arith) (omega arith)
