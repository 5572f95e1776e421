-- The search for a step spends no fuel that matters: h falls with each turn that goes on, so any fuel above h gives the
-- same outcome, and the search from h is one turn followed by the search from a smaller h. The idea: what follows a
-- turn calls the rest of the search below h alone. Assumes nothing.
use Prim.Native.Nat.{ℕ, zero, suc, ◌+◌, ◌/◌, ◌≤◌, ◌<◌}
use Rattle.std.proofs.Common.{arith}
use Rattle.std.specs.Prelude.{◌≡◌, refl}
use Rattle.machine.specs.Advance.{Turn, Lower, Halve, Commit, Refuse, followed, search_from}
use Rattle.machine.specs.declared.model.Outcome.{Outcome}

-- every turn that goes on goes on below h: a lower h, or half of an h that is at least 2
pub record Falls (turn : ℕ → Turn) : Type 0 where
  pub lower : (h l : ℕ) → turn h ≡ Lower l → l < h
  pub halve : (h : ℕ) → turn h ≡ Halve → 2 ≤ h

-- what follows a turn at h is the same for two continuations that agree below h
followed_same : (t : Turn) (on on' : ℕ → ℕ → ℕ → ℕ → Outcome) (c h n v : ℕ) →
    ((l : ℕ) → t ≡ Lower l → l < h) → (t ≡ Halve → 2 ≤ h) →
    ((c' k n' v' : ℕ) → k < h → on c' k n' v' ≡ on' c' k n' v') →
    followed t on c h n v ≡ followed t on' c h n v
followed_same (Lower l) on on' c h n v lower halve agree = agree c l (n + 1) v (lower l refl)
followed_same Halve on on' c h n v lower halve agree =
    let two : 2 ≤ h = halve refl in
    agree (h / 2) (h / 2) (n + 1) (v + 1) (omega arith)
followed_same Commit on on' c h n v lower halve agree = refl
followed_same (Refuse k) on on' c h n v lower halve agree = refl

module _ {turn : ℕ → Turn} (falls : Falls turn) where
  -- any two fuels above h give the same outcome
  pub same_fuel : (f g c h n v : ℕ) → h < f → h < g → search_from turn f c h n v ≡ search_from turn g c h n v
  unfolding search_from
  same_fuel zero g c h n v p q = absurd (omega arith)
  same_fuel (suc f) zero c h n v p q = absurd (omega arith)
  same_fuel (suc f) (suc g) c h n v p q =
      followed_same (turn h) (search_from turn f) (search_from turn g) c h n v (falls.lower h) (falls.halve h)
      (λ c' k n' v' below. same_fuel f g c' k n' v' (omega arith) (omega arith))

  -- the search from h is the turn at h, followed by the search from wherever it leads
  pub unrolled : (c h n v : ℕ) →
      search_from turn (suc h) c h n v ≡ followed (turn h) (λ (c k n v : ℕ). search_from turn (suc k) c k n v) c h n v
  unfolding search_from
  unrolled c h n v =
      followed_same (turn h) (search_from turn h) (λ (c k n v : ℕ). search_from turn (suc k) c k n v) c h n v
      (falls.lower h) (falls.halve h)
      (λ c' k n' v' below. same_fuel h (suc k) c' k n' v' below (omega arith))
