-- The search finds what `Found` says where each turn is fair. The idea: an induction on fuel that carries what holds of
-- the search so far, h being below 2 ^ suc b at the ceiling that leaves b revisions.
use Prim.Native.Nat.{ℕ, zero, suc, ◌+◌, ◌/◌, ◌^◌, ◌≤◌, ◌<◌}
use Rattle.std.proofs.Common.{arith, inl, inr, ⊎_elim}
use Rattle.std.specs.Prelude.{◌≡◌}
use Rattle.std.proofs.Math.Path.{refl}
use Rattle.machine.specs.Advance.{Turn, Lower, Halve, Commit, Refuse, followed, search_from, longest_wanted}
use Rattle.machine.specs.declared.model.Outcome.{Outcome}
use Rattle.advance_laws.specs.Fair.{Fair}
use Rattle.advance_laws.specs.Found.{Found}

-- what holds of a search so far, at h under the ceiling c after n rounds and v revisions, with b revisions left
record SoFar (ok : ℕ → Type 0) (potential : ℕ → ℕ) (most w c h n v b : ℕ) : Type 0 where
  within : h ≤ c
  ceiling : c ≤ w
  longest : (j : ℕ) → j ≤ c → ok j → j ≤ h
  small : h < 2 ^ suc b
  rounds : n + potential h + suc b ≤ most + 30
  revisions : v + b ≤ 29

-- half of an h that is at least 2 leaves one revision less
halved : (h b : ℕ) → 2 ≤ h → h < 2 ^ suc b → (b' : ℕ) × (b ≡ suc b') × (h / 2 < 2 ^ suc b')
halved h zero two small = absurd (omega arith)
halved h (suc b) two small = (b, refl, omega arith)

module _ {turn : ℕ → Turn} {ok : ℕ → Type 0} {potential : ℕ → ℕ} {most : ℕ} (fair : Fair turn ok potential most)
    (w : ℕ) where
  -- what holds so far holds still after a lower h, and after a halving
  lowered : (c h l n v b : ℕ) → SoFar ok potential most w c h n v b → turn h ≡ Lower l →
      SoFar ok potential most w c l (n + 1) v b
  lowered c h l n v b so_far e =
      let fewer : potential l < potential h = fair.drops h l e in
      let less : l < h = fair.lower h l e in
      record {
        within = omega arith;
        ceiling = so_far.ceiling;
        longest = λ j p is_ok. fair.keeps h l e j (so_far.longest j p is_ok) is_ok;
        small = omega arith;
        rounds = omega arith;
        revisions = so_far.revisions;
      }

  revised : (c h n v b : ℕ) → SoFar ok potential most w c h n v b → turn h ≡ Halve →
      (b' : ℕ) × SoFar ok potential most w (h / 2) (h / 2) (n + 1) (v + 1) b'
  revised c h n v b so_far e =
      let (b', left, small) = halved h b (fair.halve h e) so_far.small in
      let fewer : potential (h / 2) ≤ potential h = fair.mono (h / 2) h (omega arith) in (
        b',
        record {
          within = omega arith;
          ceiling = omega arith;
          longest = λ j p is_ok. p;
          small = small;
          rounds = omega arith;
          revisions = omega arith;
        },
      )

  -- what follows a turn is found, if what goes on from a search so far is
  followed_found : (t : Turn) (on : ℕ → ℕ → ℕ → ℕ → Outcome) (c h n v b : ℕ) → turn h ≡ t →
      SoFar ok potential most w c h n v b →
      ((c' k n' v' b' : ℕ) → k < h → SoFar ok potential most w c' k n' v' b' → Found turn ok most w (on c' k n' v')) →
      Found turn ok most w (followed t on c h n v)
  followed_found (Lower l) on c h n v b e so_far later =
      later c l (n + 1) v b (fair.lower h l e) (lowered c h l n v b so_far e)
  followed_found Halve on c h n v b e so_far later =
      let two : 2 ≤ h = fair.halve h e in
      let (b', next) = revised c h n v b so_far e in
      later (h / 2) (h / 2) (n + 1) (v + 1) b' (omega arith) next
  followed_found Commit on c h n v b e so_far later =
      record {
        number = inl refl;
        committed = λ z. fair.commit h e;
        ended = λ z. e;
        step_zero = λ z. absurd (z refl);
        refused = λ z. absurd (z refl);
        within = so_far.within;
        ceiling = so_far.ceiling;
        longest = so_far.longest;
        rounds = omega arith;
        revisions = omega arith;
      }
  followed_found (Refuse k) on c h n v b e so_far later =
      let (at_zero, which) = fair.refuse h k e in
      let other : k ≡ 0 → ⊥ = λ z. ⊎_elim (λ n. omega arith) (λ n. omega arith) which in
      record {
        number = inr which;
        committed = λ z. absurd (other z);
        ended = λ z. absurd (other z);
        step_zero = λ z. refl;
        refused = λ z. rw at_zero at e;
        within = omega arith;
        ceiling = so_far.ceiling;
        longest = λ j p is_ok. rw (← at_zero) (so_far.longest j p is_ok);
        rounds = omega arith;
        revisions = omega arith;
      }

  -- a search that goes on from a search so far finds what is asked
  found_from : (f c h n v b : ℕ) → h < f → SoFar ok potential most w c h n v b →
      Found turn ok most w (search_from turn f c h n v)
  unfolding search_from
  found_from zero c h n v b p so_far = absurd (omega arith)
  found_from (suc f) c h n v b p so_far =
      followed_found (turn h) (search_from turn f) c h n v b refl so_far
      (λ c' k n' v' b' below next. found_from f c' k n' v' b' (omega arith) next)

  -- the search from w, which is below 2 ^ 30, finds what is asked
  pub found : w ≤ longest_wanted → Found turn ok most w (search_from turn (suc w) w w 0 0)
  found p =
      let few : potential w ≤ most = fair.bound w in
      found_from (suc w) w w 0 0 29 (omega arith)
      (record {
        within = omega arith;
        ceiling = omega arith;
        longest = λ j q is_ok. q;
        small = omega arith;
        rounds = omega arith;
        revisions = omega arith;
      })
