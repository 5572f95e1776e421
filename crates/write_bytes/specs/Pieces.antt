-- Laws of `Put`: nothing put, one byte put, a piece put after another, and a text by another name. Assumes nothing.
use Rattle.std.specs.Prelude.{ℕ, ◌+◌, ◌-◌, ◌≤◌, ◌<◌, ◌≡◌, refl, List, [], ◌∷◌, ◌++◌, length, take, drop, set}
use Rattle.std.proofs.Common.{add-one, arith, sym, ap₂, ◌∙◌, append_assoc, append-nil, length-append}
use Rattle.std.proofs.Common.{take-append-drop, take-suc-set, drop-set-lt, drop-drop}
use Rattle.write_bytes.specs.Put.{Put}

-- nothing
pub put_nothing : (at : ℕ) (l : List ℕ) → Put 0 [] at l l at
put_nothing at l = record {
  position = omega arith;
  line = sym (append-nil (take at l));
  behind = refl;
  short = omega arith;
}

-- one byte, stored at its place
pub put_one : (at : ℕ) (l : List ℕ) (b : ℕ) → at < length l → Put 1 (b ∷ []) at l (set l at b) (at + 1)
put_one at l b h =
    record {
      position = refl;
      line = rw (add-one, take-suc-set) refl;
      behind = drop-set-lt (at + 1) l at b (omega arith);
      short = omega arith;
    }

-- what is kept after a position is kept after a later one
pub drop_more : (p q : ℕ) (l₀ l₁ : List ℕ) → p ≤ q → drop p l₁ ≡ drop p l₀ → drop q l₁ ≡ drop q l₀
drop_more p q l₀ l₁ h e =
    let sum : q ≡ p + (q - p) = omega arith in
    rw (sum, ← drop-drop (q - p) p l₁, ← drop-drop (q - p) p l₀, e) refl

-- a piece after another
pub put_then : {a b : ℕ} {t u : List ℕ} {at p q : ℕ} {l₀ l₁ l₂ : List ℕ} → Put a t at l₀ l₁ p → Put b u p l₁ l₂ q →
    Put (a + b) (t ++ u) at l₀ l₂ q
put_then {t = t} {u = u} {p = p} {q = q} {l₀ = l₀} {l₁ = l₁} first second =
    record {
      position = simp length-append (omega arith);
      line = second.line ∙ simp (first.line, append_assoc);
      behind = second.behind ∙ drop_more p q l₀ l₁ (omega arith) first.behind;
      short = simp length-append (omega arith);
    }

-- the line after a piece, whole
pub put_whole : {a : ℕ} {t : List ℕ} {at p : ℕ} {l₀ l₁ : List ℕ} → Put a t at l₀ l₁ p →
    l₁ ≡ (take at l₀ ++ t) ++ drop p l₀
put_whole {p = p} {l₁ = l₁} put = sym (take-append-drop p l₁) ∙ ap₂ ◌++◌ put.line put.behind

-- an equal text, with another bound
pub put_as : {a b : ℕ} {t u : List ℕ} {at p : ℕ} {l₀ l₁ : List ℕ} → Put a t at l₀ l₁ p → t ≡ u → length u ≤ b →
    Put b u at l₀ l₁ p
put_as put e h =
    record { position = rw (← e) put.position; line = rw (← e) put.line; behind = put.behind; short = h }
