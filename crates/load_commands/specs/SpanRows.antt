-- Laws of components with their rows of spans: how many they are, which is where, one more, and one replaced. Assumes
-- nothing.
use Rattle.std.specs.Prelude.{ℕ, zero, suc, ◌<◌, ◌≤◌, ◌≡◌, refl, List, [], ◌∷◌, ◌++◌, length, get_or, take, set}
use Rattle.std.proofs.Common.{arith, ap, ◌∙◌, length-take, get_or-take}
use Rattle.machine.specs.declared.part.Component.{Component}
use Rattle.machine.specs.Model.{blank_component}
use Rattle.machine.specs.Table.{component_at}
use Rattle.load_commands.specs.declared.progress.Progress.{Progress}
use Rattle.load_commands.specs.Progress.{with_row, joined, reading_of}

-- as many as the components
pub length_joined : (cs : List Component) (rows : List (List ℕ)) → length (joined cs rows) ≡ length cs
unfolding joined
length_joined [] rows = refl
length_joined (c ∷ cs) [] = ap suc (length_joined cs [])
length_joined (c ∷ cs) (row ∷ rows) = ap suc (length_joined cs rows)

-- the parts read are as many as the progress counts
pub length_reading : (progress : Progress) (rows : List (List ℕ)) → progress.count ≤ length progress.parts →
    length (reading_of progress rows).table.parts ≡ progress.count
unfolding reading_of
length_reading progress rows few = rw (length_joined, length-take) (omega arith)

-- the component k has the row k
joined_at : (cs : List Component) (rows : List (List ℕ)) (k : ℕ) → k < length cs →
    component_at (joined cs rows) k ≡ with_row (component_at cs k) (get_or rows k [])
unfolding joined
joined_at [] rows k here = absurd (omega arith)
joined_at (c ∷ cs) [] zero here = refl
joined_at (c ∷ cs) [] (suc k) here = joined_at cs [] k (omega arith)
joined_at (c ∷ cs) (row ∷ rows) zero here = refl
joined_at (c ∷ cs) (row ∷ rows) (suc k) here = joined_at cs rows k (omega arith)

-- the part k of the reading is the progress's own, with its row
pub reading_at : (progress : Progress) (rows : List (List ℕ)) (k : ℕ) → k < progress.count →
    progress.count ≤ length progress.parts →
    component_at (reading_of progress rows).table.parts k ≡
    with_row (component_at progress.parts k) (get_or rows k [])
unfolding reading_of
reading_at progress rows k here few =
    let front = take progress.count progress.parts in
    let inside : k < length front = rw length-take (omega arith) in
    joined_at front rows k inside ∙
    ap (λ c. with_row c (get_or rows k [])) (get_or-take progress.count progress.parts k blank_component here)

-- one component more
pub joined_added : (cs : List Component) (c : Component) (rows : List (List ℕ)) →
    joined (cs ++ (c ∷ [])) rows ≡ joined cs rows ++ (with_row c (get_or rows (length cs) []) ∷ [])
unfolding joined
joined_added [] c [] = refl
joined_added [] c (row ∷ rows) = refl
joined_added (x ∷ xs) c [] = ap (λ l. with_row x [] ∷ l) (joined_added xs c [])
joined_added (x ∷ xs) c (row ∷ rows) = ap (λ l. with_row x row ∷ l) (joined_added xs c rows)

-- a component replaced
pub joined_set : (cs : List Component) (rows : List (List ℕ)) (k : ℕ) (c : Component) →
    joined (set cs k c) rows ≡ set (joined cs rows) k (with_row c (get_or rows k []))
unfolding joined
joined_set [] rows k c = refl
joined_set (x ∷ xs) [] zero c = refl
joined_set (x ∷ xs) [] (suc k) c = ap (λ l. with_row x [] ∷ l) (joined_set xs [] k c)
joined_set (x ∷ xs) (row ∷ rows) zero c = refl
joined_set (x ∷ xs) (row ∷ rows) (suc k) c = ap (λ l. with_row x row ∷ l) (joined_set xs rows k c)

-- a component replaced with its row
pub joined_set_row : (cs : List Component) (rows : List (List ℕ)) (k : ℕ) (c : Component) (row : List ℕ) →
    k < length rows →
    joined (set cs k c) (set rows k row) ≡ set (joined cs rows) k (with_row c row)
unfolding joined
joined_set_row [] rows k c row here = refl
joined_set_row (x ∷ xs) [] k c row here = absurd (omega arith)
joined_set_row (x ∷ xs) (first ∷ rows) zero c row here = refl
joined_set_row (x ∷ xs) (first ∷ rows) (suc k) c row here =
    ap (λ l. with_row x first ∷ l) (joined_set_row xs rows k c row (omega arith))
