-- The master's magnitude: of a list of preferences, taken one at a time as a loop does; and of a table, where it is a
-- magnitude if the default is and all components fit, and only if the default is. Assumes nothing.
use Rattle.std.specs.Prelude.{ℕ, ◌+◌, ◌≤◌, ◌<◌, max, ◌≡◌, true, List, [], ◌∷◌, map, length, get_or, drop, eqb, leb}
use Rattle.std.proofs.Common.{arith, add-one, sym, ◌∙◌, ⊎_elim, drop_of_length-le, drop-cons, leb-true, le-leb}
use Rattle.std.proofs.lemmas.Bool.{false≢true}
use Rattle.std.proofs.Math.Bool.{and-eq-true_iff}
use Rattle.machine.specs.declared.part.Component.{Component}
use Rattle.machine.specs.Lists.{every}
use Rattle.machine.specs.Time.{last_magnitude, no_preference, magnitude_known, larger, master_magnitude}
use Rattle.machine.specs.Table.{Table, magnitude_of}
use Rattle.machine.specs.Load.{preference_known}
use Rattle.machine.specs.Sound.{component_fits}
use Rattle.laws.specs.Bools.{or_cases, cond_cases}
use Rattle.sound_laws.specs.Facts.{component_facts}

-- with the preferences from i on, the magnitude e takes the preference i and then those after it
pub magnitude_on :
    (e : ℕ) (l : List ℕ) (i : ℕ) → i < length l →
    master_magnitude e (drop i l) ≡ master_magnitude (larger e (get_or l i 0)) (drop (i + 1) l)
unfolding master_magnitude
magnitude_on e l i h = rw (drop-cons l i 0 h, add-one)

-- after the last preference it stays
pub magnitude_end : (e : ℕ) (l : List ℕ) (i : ℕ) → length l ≤ i → master_magnitude e (drop i l) ≡ e
unfolding master_magnitude
magnitude_end e l i h = rw (drop_of_length-le l h)

-- the larger of a magnitude and a known preference is a magnitude ..
larger_small : (e q : ℕ) → e ≤ last_magnitude → preference_known q ≡ true → larger e q ≤ last_magnitude
unfolding larger preference_known magnitude_known
larger_small e q h known =
    cond_cases (λ (n : ℕ). n ≤ last_magnitude) (eqb q no_preference) e (max e q) (λ none. h)
    (λ some.
    ⊎_elim (λ small. omega (arith, leb-true q last_magnitude small)) (λ none. absurd (false≢true (sym some ∙ none)))
    (or_cases (leb q last_magnitude) (eqb q no_preference) known))

-- .. and not below the first
larger_above : (e q : ℕ) → e ≤ larger e q
unfolding larger
larger_above e q = cond_cases (λ (n : ℕ). e ≤ n) (eqb q no_preference) e (max e q) (λ none. omega arith)
    (λ some. omega arith)

-- so is the master's magnitude, by components that fit ..
master_small :
    (n e : ℕ) (cs : List Component) → e ≤ last_magnitude → every (component_fits n) cs ≡ true →
    master_magnitude e (map (λ (c : Component). c.preference) cs) ≤ last_magnitude
unfolding master_magnitude every
master_small n e [] h fit = h
master_small n e (c ∷ cs) h fit =
    let (first, others) = (and-eq-true_iff (component_fits n c) (every (component_fits n) cs)).0 fit in
    master_small n (larger e c.preference) cs
    (larger_small e c.preference h (component_facts n c first).preference) others

-- .. and not below the default
master_above : (e : ℕ) (qs : List ℕ) → e ≤ master_magnitude e qs
unfolding master_magnitude
master_above e [] = omega arith
master_above e (q ∷ qs) =
    let first = larger_above e q in
    let others = master_above (larger e q) qs in
    omega arith

-- the master's magnitude of a table is known where the default is and all components fit ..
pub known_there :
    (n : ℕ) (t : Table) → magnitude_known t.magnitude ≡ true → every (component_fits n) t.parts ≡ true →
    magnitude_known (magnitude_of t) ≡ true
unfolding magnitude_known magnitude_of
known_there n t known components =
    le-leb _ last_magnitude (master_small n t.magnitude t.parts
    (leb-true t.magnitude last_magnitude known) components)

-- .. and only where the default is
pub known_back : (t : Table) → magnitude_known (magnitude_of t) ≡ true → magnitude_known t.magnitude ≡ true
unfolding magnitude_known magnitude_of
known_back t known =
    let qs = map (λ (c : Component). c.preference) t.parts in
    let small = leb-true (master_magnitude t.magnitude qs) last_magnitude known in
    let above = master_above t.magnitude qs in
    le-leb t.magnitude last_magnitude (omega (arith, small, above))
