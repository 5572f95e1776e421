-- Components and their rows of spans, put together from the first on: the first i have theirs. Assumes nothing.
use Prim.Native.Nat.{ℕ, zero, suc, ◌≤◌, ◌<◌}
use native.Mathlib.Omega.{arith}
use mathlib.Core.Path.{◌≡◌, refl, ap}
use mathlib.Core.List.{List, [], ◌∷◌, map}
use lib.ListN.{length, get_or, set, take}
use Rattle.machine.specs.declared.part.Component.{Component}
use Rattle.machine.specs.Model.{trimmed_component}
use Rattle.load_commands.specs.Progress.{with_row, joined}

-- a component with a whole row
abbrev pub with_spans : Component → List ℕ → Component
with_spans c row =
    record {
      kind = c.kind;
      preference = c.preference;
      a = c.a;
      b = c.b;
      p = c.p;
      span_count = c.span_count;
      spans = row;
      port0 = c.port0;
      port1 = c.port1;
    }

-- the first i components have their rows
unfoldable pub rowed : ℕ → List Component → List (List ℕ) → List Component
rowed zero cs rows = cs
rowed (suc i) [] rows = []
rowed (suc i) (c ∷ cs) [] = c ∷ cs
rowed (suc i) (c ∷ cs) (row ∷ rows) = with_spans c row ∷ rowed i cs rows

-- one more
pub rowed_next : (i : ℕ) (cs : List Component) (rows : List (List ℕ)) (d : Component) → i < length cs →
    i < length rows →
    set (rowed i cs rows) i (with_spans (get_or (rowed i cs rows) i d) (get_or rows i [])) ≡ rowed (suc i) cs rows
unfolding rowed
rowed_next i [] rows d here there = absurd (omega arith)
rowed_next i (c ∷ cs) [] d here there = absurd (omega arith)
rowed_next zero (c ∷ cs) (row ∷ rows) d here there = refl
rowed_next (suc i) (c ∷ cs) (row ∷ rows) d here there =
    ap (λ l. with_spans c row ∷ l) (rowed_next i cs rows d (omega arith) (omega arith))

-- all of them, trimmed
pub rowed_all : (n : ℕ) (cs : List Component) (rows : List (List ℕ)) (count : ℕ) → length cs ≤ n →
    length cs ≤ length rows →
    map trimmed_component (take count (rowed n cs rows)) ≡ joined (take count cs) rows
unfolding rowed joined with_row trimmed_component
rowed_all zero [] rows zero few there = refl
rowed_all zero [] rows (suc count) few there = refl
rowed_all zero (c ∷ cs) rows count few there = absurd (omega arith)
rowed_all (suc n) [] rows zero few there = refl
rowed_all (suc n) [] rows (suc count) few there = refl
rowed_all (suc n) (c ∷ cs) [] count few there = absurd (omega arith)
rowed_all (suc n) (c ∷ cs) (row ∷ rows) zero few there = refl
rowed_all (suc n) (c ∷ cs) (row ∷ rows) (suc count) few there =
    ap (λ l. with_row c row ∷ l) (rowed_all n cs rows count (omega arith) (omega arith))
