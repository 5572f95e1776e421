-- One round (document 01, "One advance"): it gives at most h; where it gives h, all parts accept h; every step of at
-- most h that all parts accept is at most what it gives; and where it lowers h, fewer of the parts' plateau ends lie
-- below, of which there are at most 9 a part (`proofs/Rounds.antt`): 0 and 8 spans. The idea: what a round gives is h,
-- or the longest step of some part, and that is h or an end. Assumes nothing.
use Prim.Native.Nat.{ℕ, zero, suc, ◌≤◌, ◌<◌, min}
use native.Mathlib.Omega.{arith}
use Rattle.std.proofs.Common.{◌∙◌}
use Rattle.std.specs.Prelude.{◌≡◌, ◌⊎◌, length}
use Rattle.std.proofs.Math.Path.{refl}
use Rattle.std.proofs.Math.Logic.{inl, inr, ⊎_elim, ⊎_map}
use mathlib.Core.List.Memᴰ
use mathlib.Core.List.{List, [], ◌∷◌, ◌++◌, flat_map, Memᴰ}
use Rattle.machine.specs.declared.part.Part.{Part}
use Rattle.machine.specs.declared.model.Model.{Model}
use Rattle.machine.specs.Time.{tick}
use Rattle.machine.specs.Model.{part_at, reading0}
use Rattle.machine.specs.Accept.{longest}
use Rattle.machine.specs.Advance.{least, round}
use Rattle.machine.specs.WholeList.{AllAccept}
use Rattle.laws.specs.Numbers.{min_one}
use Rattle.laws.specs.Below.{below, below_mono, below_drops}
use Rattle.ask_laws.specs.Longest.{Fit, longest_within, longest_accepted, longest_most}
use Rattle.ask_laws.specs.Ends.{ends, longest_drops}

-- every part of a model is in good order
abbrev pub AllFit : Model → Type 0
AllFit m = (i : ℕ) → i < length m.parts → Fit (tick m.point) (part_at m.parts i)

-- every part of a model has at most 8 spans
abbrev pub AllFew : Model → Type 0
AllFew m = (i : ℕ) → i < length m.parts → length (part_at m.parts i).component.spans ≤ 8

-- the longest step of at most h that a part accepts where the model m is
abbrev pub longest_in : Model → ℕ → Part → ℕ
longest_in m h p = longest p m.point (reading0 m.parts p) h

-- the part's ends there
abbrev pub ends_in : Model → Part → List ℕ
ends_in m p = ends p m.point (reading0 m.parts p)

module _ (m : Model) (h : ℕ) where
  -- the least of `best` and the parts' longest steps is at most `best`
  least_start : (best : ℕ) (ps : List Part) → least m h best ps ≤ best
  unfolding least
  least_start best [] = omega arith
  least_start best (p ∷ ps) = omega (arith, least_start (min best (longest_in m h p)) ps)

  -- and at most the longest step of each
  pub least_each : (best : ℕ) (ps : List Part) (i : ℕ) → i < length ps →
      least m h best ps ≤ longest_in m h (part_at ps i)
  unfolding least
  least_each best [] i within = absurd (omega arith)
  least_each best (p ∷ ps) zero within = omega (arith, least_start (min best (longest_in m h p)) ps)
  least_each best (p ∷ ps) (suc i) within = least_each (min best (longest_in m h p)) ps i (omega arith)

  -- what is at most `best` and all of these is at most the least
  least_most :
      (j best : ℕ) (ps : List Part) → j ≤ best → ((i : ℕ) → i < length ps → j ≤ longest_in m h (part_at ps i)) →
      j ≤ least m h best ps
  unfolding least
  least_most j best [] le each = le
  least_most j best (p ∷ ps) le each =
      let first : j ≤ longest_in m h p = each 0 (omega arith) in
      least_most j (min best (longest_in m h p)) ps (omega arith) (λ i within. each (suc i) (omega arith))

  -- the least is `best`, or h, or an end of a part
  least_drops :
      (best : ℕ) (ps : List Part) →
      (least m h best ps ≡ best) ⊎ (least m h best ps ≡ h) ⊎ Memᴰ (least m h best ps) (flat_map (ends_in m) ps)
  unfolding least flat_map
  least_drops best [] = inl refl
  least_drops best (p ∷ ps) =
      ⊎_elim at_first (λ later. inr (⊎_map (λ e. e) (Memᴰ.append_right (ends_in m p)) later))
      (least_drops (min best (longest_in m h p)) ps)
    where
      l : ℕ
      l = least m h (min best (longest_in m h p)) ps

      all : List ℕ
      all = ends_in m p ++ flat_map (ends_in m) ps

      at_first : l ≡ min best (longest_in m h p) → (l ≡ best) ⊎ (l ≡ h) ⊎ Memᴰ l all
      at_first e =
          ⊎_elim (λ b. inl (e ∙ b))
          (λ b.
          inr
          (⊎_map (λ d. e ∙ b ∙ d) (λ d. Memᴰ.append_left (flat_map (ends_in m) ps) (Memᴰ.cast (e ∙ b) d))
          (longest_drops p m.point (reading0 m.parts p) h)))
          (min_one best (longest_in m h p))

-- the potential at h, which each round that lowers h uses up some of: how many of the parts' ends lie below h
unfoldable pub potential : Model → ℕ → ℕ
potential m h = below h (flat_map (ends_in m) m.parts)

-- a round gives at most h
pub round_within : (m : Model) (h : ℕ) → round m h ≤ h
unfolding round
round_within m h = least_start m h h m.parts

-- where a round changes nothing, all parts accept h
pub round_accepted : (m : Model) → AllFit m → (h : ℕ) → round m h ≡ h → AllAccept m h
unfolding round
round_accepted m fit h same i within =
    let p = part_at m.parts i in
    let x = reading0 m.parts p in
    let least_here : least m h h m.parts ≤ longest p m.point x h = least_each m h h m.parts i within in
    let whole : longest p m.point x h ≡ h = omega (arith, longest_within p m.point x h (fit i within)) in
    rw whole at (longest_accepted p m.point x h (fit i within))

-- a step of at most h that all parts accept is at most what a round gives
pub round_most : (m : Model) → AllFit m → (h j : ℕ) → j ≤ h → AllAccept m j → j ≤ round m h
unfolding round
round_most m fit h j few accepted =
    least_most m h j h m.parts few
    (λ i within.
    let p = part_at m.parts i in
    longest_most p m.point (reading0 m.parts p) h (fit i within) j few (accepted i within))

-- no fewer lie below a larger h
pub potential_mono : (m : Model) (j h : ℕ) → j ≤ h → potential m j ≤ potential m h
unfolding potential
potential_mono m j h le = below_mono j h (flat_map (ends_in m) m.parts) le

-- where a round lowers h, fewer ends lie below
pub round_drops : (m : Model) (h : ℕ) → (round m h ≡ h → ⊥) → potential m (round m h) < potential m h
unfolding potential round
round_drops m h lowered =
    ⊎_elim (λ e. absurd (lowered e))
    (⊎_elim (λ e. absurd (lowered e)) (λ end. below_drops (round m h) h end (omega (arith, round_within m h))))
    (least_drops m h h m.parts)
