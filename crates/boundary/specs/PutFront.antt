-- An answer's words in front of those that a caller lends for it, as far as these have room. Assumes nothing.
use Rattle.std.specs.Prelude.{ℕ, suc, ◌≤◌, ◌≡◌, refl, List, [], ◌∷◌, ◌++◌, length, take, drop}
use Rattle.std.proofs.Common.{arith, ap}

-- the words ws in front of o: in their order, from the first on, those that o has room for; the words of o after them
-- are kept
unfoldable pub put_front : (ws o : List ℕ) → List ℕ
put_front [] o = o
put_front (w ∷ ws) [] = []
put_front (w ∷ ws) (x ∷ o) = w ∷ put_front ws o

-- there are as many words as before
pub front_length : (ws o : List ℕ) → length (put_front ws o) ≡ length o
unfolding put_front
front_length [] o = refl
front_length (w ∷ ws) [] = refl
front_length (w ∷ ws) (x ∷ o) = ap suc (front_length ws o)

-- where there is room for all of ws, it is those and then what was there
pub front_whole : (ws o : List ℕ) → length ws ≤ length o → put_front ws o ≡ ws ++ drop (length ws) o
unfolding put_front
front_whole [] o room = refl
front_whole (w ∷ ws) [] room = absurd (omega arith)
front_whole (w ∷ ws) (x ∷ o) room = ap (λ (l : List ℕ). w ∷ l) (front_whole ws o (omega arith))

-- where there is room for no more than ws, it is as many of those as there is room for
pub front_cut : (ws o : List ℕ) → length o ≤ length ws → put_front ws o ≡ take (length o) ws
unfolding put_front
front_cut [] [] short = refl
front_cut [] (x ∷ o) short = absurd (omega arith)
front_cut (w ∷ ws) [] short = refl
front_cut (w ∷ ws) (x ∷ o) short = ap (λ (l : List ℕ). w ∷ l) (front_cut ws o (omega arith))
