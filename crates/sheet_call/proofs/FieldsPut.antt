-- A text put into its field: blanks up to its width and the text are the text right-aligned, and the text and blanks
-- are the text filled up. Assumes nothing.
use Prim.Native.Nat.{ℕ, ◌-◌, ◌≤◌}
use native.Mathlib.Omega.{arith}
use mathlib.Core.Path.{◌≡◌, ap}
use mathlib.Core.List.{List, ◌++◌}
use lib.ListN.{length, replicate}
use Rattle.machine.specs.Rehearse.{blank}
use Rattle.machine.specs.Sheet.{right_aligned, filled_up}
use Rattle.write_laws.specs.SheetRows.{aligned_length, filled_length}
use Rattle.write_bytes.specs.Put.{Put}
use Rattle.write_bytes.specs.Pieces.{put_then, put_as}

-- blanks, and the text after them
pub field_put : {most blanks w : ℕ} {t : List ℕ} {at p q : ℕ} {l₀ l₁ l₂ : List ℕ} → length t ≤ w →
    blanks ≡ w - length t →
    Put blanks (replicate blanks blank) at l₀ l₁ p → Put most t p l₁ l₂ q → Put w (right_aligned w t) at l₀ l₂ q
unfolding right_aligned
field_put {w = w} {t = t} fits count front text =
    put_as (put_then front text) (ap (λ (k : ℕ). replicate k blank ++ t) count) (omega (arith, aligned_length w t fits))

-- a text at the front, and blanks after it up to a width
pub filled_put : {most w : ℕ} {t : List ℕ} {p q : ℕ} {l₀ l₁ l₂ : List ℕ} → length t ≤ w → Put most t 0 l₀ l₁ p →
    Put (w - p) (replicate (w - p) blank) p l₁ l₂ q → Put w (filled_up w t) 0 l₀ l₂ q
unfolding filled_up
filled_put {w = w} {t = t} {p = p} fits text rest =
    let end : w - p ≡ w - length t = omega (arith, text.position) in
    put_as (put_then text rest) (ap (λ (k : ℕ). t ++ replicate k blank) end) (omega (arith, filled_length w t fits))
