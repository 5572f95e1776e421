-- `all_direct` maps every part to its direct sources: an array of a function's results has one at each place.
use Rattle.std.proofs.Common.{arith, rules, ◌≡◌, ◌<◌, ◌+◌, ℕ, zero, suc, List, length, get_or}
use Rattle.std.proofs.lemmas.List.{same_lists, length-map, get_or-map}
use Rattle.std.specs.Array.{IsFromFnResultFrom, IsElementAt}
use Rattle.std.specs.Fn.{Called}
use denote.Param.Members.{Mut}
use Rattle.machine.specs.Model.{blank_component}
use Rattle.order_place.specs.Direct.{direct_of}
use Rattle.order_place.proofs.all_direct.Goals as goal

-- the results of a function h that keeps its state, from index i on
results : {F B : Type 0} (g : Mut F (ℕ × Unit {0}) B) (f : F) (h : ℕ → B) →
    ((x : ℕ) (y : B) (q : F) → Called g f (x, tt) y q → (q ≡ f) × (y ≡ h x)) →
    (ys : List B) (n i k j : ℕ) → IsFromFnResultFrom g f ys i n → k < n → j ≡ i + k → IsElementAt ys j (h j)
results g f h kept ys zero i k j each below at = absurd (omega arith)
results g f h kept ys (suc n) i zero j (q, y, here, called, rest) below at =
    let (same, is) = kept i y q called in
    let first : j ≡ i = omega arith in
    rw (first, ← is) here
results g f h kept ys (suc n) i (suc k) j (q, y, here, called, rest) below at =
    let (same, is) = kept i y q called in
    results g f h kept ys n (i + 1) k j (rw same at rest) (omega arith) (omega arith)

pub returns : goal.returns
returns c =
    let parts = c.args.parts in
    let made = c.from_fn.result in
    let long : length made ≡ length parts = omega (arith, c.from_fn.ensures.items.long) in
    same_lists _ _ (rw (length-map parts direct_of) long) (λ k d h.
    let inside : k < length parts = omega arith in
    let here = results _ _ (λ i. direct_of (get_or parts i blank_component))
    (λ x y q called. (search rules, search rules)) made 32 0 k k c.from_fn.ensures.items.each
    (omega arith) (omega arith) in
    rw (get_or-map direct_of parts k blank_component d inside) (here.1 d))
