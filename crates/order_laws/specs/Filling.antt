-- What filling a point's outputs means, without an order: every stored output is the row of its part's kind, for the
-- outputs that are stored (`Filling`). Filling in a complete order gives such parts, since a part's direct sources are
-- filled before it and no output is written twice; and there are no others, by induction along the order. Assumes
-- nothing.
use Rattle.std.specs.Prelude.{ℕ, ◌<◌, ◌≡◌, length, set}
use Rattle.std.proofs.Common.{arith, ap₂, sym, ◌∙◌, ⊎_elim, ext_get_or}
use Rattle.std.proofs.Math.Path.{refl, ap}
use mathlib.Core.List.{List, [], ◌∷◌, ◌++◌, map, map-map, Memᴰ}
use Rattle.std.proofs.Math.ListN.{get_or-eq_default}
use Rattle.std.proofs.Math.Seq.{get_or-set_same, get_or-set_other, map-set_same}
use Rattle.machine.specs.declared.time.Point.{Point}
use Rattle.machine.specs.declared.part.Part.{Part}
use Rattle.machine.specs.Model.{blank_part, part_at}
use Rattle.machine.specs.Table.{DirectWire}
use Rattle.machine.specs.Step.{with_output, shown, filled}
use Rattle.laws.specs.Alls.{length_same_map, same_at}
use Rattle.laws.specs.ListLaws.{split_in, in_or_not, along}
use Rattle.laws.specs.Once.{Once, once_apart, once_rest}
use Rattle.order_laws.specs.Order.{CompleteOrder}
use Rattle.order_laws.specs.Row.{unshown, row, stored, row_kept, components, components_length, row_at}

-- the parts qs are the parts ps with their outputs filled at the point now: nothing else is changed, and every stored
-- output is its row
pub record Filling (old : List Part) (now : Point) (ps qs : List Part) : Type 0 where
  pub kept : map unshown qs ≡ map unshown ps
  pub rows : (i : ℕ) → i < length ps → stored qs i ≡ row old now qs (part_at ps i)

-- where all but stored outputs is kept, the parts are as many
kept_length : (ps qs : List Part) → map unshown qs ≡ map unshown ps → length qs ≡ length ps
kept_length ps qs e = length_same_map unshown qs ps e

-- each of them is kept
kept_at : (ps qs : List Part) → map unshown qs ≡ map unshown ps → (i : ℕ) →
    unshown (part_at qs i) ≡ unshown (part_at ps i)
kept_at ps qs e i = same_at unshown qs ps i blank_part e

-- and so are the components
kept_components : (ps qs : List Part) → map unshown qs ≡ map unshown ps → components qs ≡ components ps
kept_components ps qs e =
    sym (map-map (λ (p : Part). p.component) unshown qs) ∙
    (ap components e ∙ map-map (λ (p : Part). p.component) unshown ps)

module _ (old : List Part) (now : Point) where
  -- filling in an order changes nothing but stored outputs
  filled_kept : (ks : List ℕ) (ps : List Part) → map unshown (filled old now ks ps) ≡ map unshown ps
  unfolding filled shown
  filled_kept [] ps = refl
  filled_kept (k ∷ ks) ps =
      filled_kept ks (set ps k (shown old now ps (part_at ps k))) ∙
      map-set_same unshown ps k (shown old now ps (part_at ps k)) blank_part refl

  -- a part that is not in the order is not changed
  filled_other : (ks : List ℕ) (ps : List Part) (i : ℕ) → (Memᴰ i ks → ⊥) →
      part_at (filled old now ks ps) i ≡ part_at ps i
  unfolding filled
  filled_other [] ps i out = refl
  filled_other (k ∷ ks) ps i out =
      filled_other ks (set ps k (shown old now ps (part_at ps k))) i (λ m. out (mathlib.Core.List.Memᴰ.tail m)) ∙
      get_or-set_other ps k i (shown old now ps (part_at ps k)) blank_part (λ e. out (mathlib.Core.List.Memᴰ.head e))

  -- filling goes on from what was filled
  pub filled_append : (front ks : List ℕ) (ps : List Part) →
      filled old now (front ++ ks) ps ≡ filled old now ks (filled old now front ps)
  unfolding filled
  filled_append [] ks ps = refl
  filled_append (k ∷ front) ks ps = filled_append front ks (set ps k (shown old now ps (part_at ps k)))

  -- where the first of the order occurs in it no more, its output is its row, for the outputs as they are then
  filled_first : (k : ℕ) (ks : List ℕ) (ps : List Part) → k < length ps → (Memᴰ k ks → ⊥) →
      stored (filled old now (k ∷ ks) ps) k ≡ row old now ps (part_at ps k)
  unfolding filled shown
  filled_first k ks ps h out =
      ap (λ (p : Part). p.state.output)
      (filled_other ks (set ps k (shown old now ps (part_at ps k))) k out ∙
      get_or-set_same ps k (shown old now ps (part_at ps k)) blank_part h)

  module _ (ps : List Part) (ks : List ℕ) (complete : CompleteOrder (components ps) ks) where
    -- what a direct source of a part stores when the part's turn comes it stores at the end: it was filled before, and
    -- no output is written twice
    pub source_filled : (front back : List ℕ) (i j : ℕ) → ks ≡ front ++ i ∷ back → DirectWire (components ps) j i →
        stored (filled old now front ps) j ≡ stored (filled old now ks ps) j
    source_filled front back i j e wire =
        rw (e, filled_append front (i ∷ back) ps)
        (ap (λ (p : Part). p.state.output) (sym (filled_other (i ∷ back) (filled old now front ps) j unwritten)))
      where
        unwritten : Memᴰ j (i ∷ back) → ⊥
        unwritten m =
            let there : j < length (components ps) =
            complete.below j (rw e (mathlib.Core.List.Memᴰ.append_right front m)) in
            once_apart front (i ∷ back) j (rw e at complete.once) (complete.after front back j i e wire there) m

    -- a part's output is its row for the outputs that are stored at the end
    filled_row : (front back : List ℕ) (i : ℕ) → ks ≡ front ++ i ∷ back → i < length ps →
        stored (filled old now ks ps) i ≡ row old now (filled old now ks ps) (part_at ps i)
    filled_row front back i e h =
        ap (λ (qs : List Part). stored qs i) (ap (λ (l : List ℕ). filled old now l ps) e ∙
        filled_append front (i ∷ back) ps) ∙
        (filled_first i back half (omega (arith, kept_length ps half (filled_kept front ps)))
        (once_rest front (i ∷ back) once).0 ∙
        (ap (row old now half) (filled_other front ps i
        (λ m. once_apart front (i ∷ back) i once m (mathlib.Core.List.Memᴰ.head refl))) ∙
        row_at old now ps half (filled old now ks ps) i h (λ j wire. source_filled front back i j e wire)))
      where
        half : List Part
        half = filled old now front ps

        once : Once (front ++ i ∷ back)
        once = rw e at complete.once

    -- filling in a complete order is a filling
    pub filled_filling : Filling old now ps (filled old now ks ps)
    filled_filling =
        record {
          kept = filled_kept ks ps;
          rows = λ i h.
              let (front, back, e) = split_in (complete.all i (omega (arith, components_length ps))) in
              filled_row front back i e h;
        }

    -- a number that is not in the order is no part's
    beyond : (rs : List Part) → map unshown rs ≡ map unshown ps → (j : ℕ) → (Memᴰ j ks → ⊥) →
        part_at rs j ≡ blank_part
    beyond rs e j out =
        let none : j < length (components ps) → ⊥ = λ h. out (complete.all j h) in
        get_or-eq_default rs blank_part (omega (arith, kept_length ps rs e, components_length ps))

    -- in two fillings each part shows the same, since its direct sources do
    filling_same : (qs qs' : List Part) → Filling old now ps qs → Filling old now ps qs' → (i : ℕ) → Memᴰ i ks →
        stored qs i ≡ stored qs' i
    filling_same qs qs' f f' = along ks (λ i. stored qs i ≡ stored qs' i) step
      where
        step : (front back : List ℕ) (k : ℕ) → ks ≡ front ++ k ∷ back →
            ((i : ℕ) → Memᴰ i front → stored qs i ≡ stored qs' i) →
            stored qs k ≡ stored qs' k
        step front back k e before =
            let among : Memᴰ k ks = rw e (mathlib.Core.List.Memᴰ.append_right front
            (mathlib.Core.List.Memᴰ.head refl)) in
            let there : k < length ps = omega (arith, complete.below k among, components_length ps) in
            f.rows k there ∙
            (row_at old now ps qs qs' k there
            (λ j wire.
            ⊎_elim (λ m. before j (complete.after front back j k e wire (complete.below j m)))
            (λ out. ap (λ (p : Part). p.state.output) (beyond qs f.kept j out ∙ sym (beyond qs' f'.kept j out)))
            (in_or_not j ks)) ∙
            sym (f'.rows k there))

    -- so a filling is the only one
    pub only_filling : (qs qs' : List Part) → Filling old now ps qs → Filling old now ps qs' → qs ≡ qs'
    only_filling qs qs' f f' =
        ext_get_or blank_part qs qs' (kept_length ps qs f.kept ∙ sym (kept_length ps qs' f'.kept))
        (λ i h.
        let there : i < length (components ps) = omega (arith, kept_length ps qs f.kept, components_length ps) in
        ap₂ with_output (kept_at ps qs f.kept i ∙ sym (kept_at ps qs' f'.kept i))
        (filling_same qs qs' f f' i (complete.all i there)))

  -- a filling of parts is one of parts that agree with them but for their stored outputs
  filling_anyway : (ps ps' qs : List Part) → map unshown ps' ≡ map unshown ps → Filling old now ps' qs →
      Filling old now ps qs
  filling_anyway ps ps' qs e f =
      record {
        kept = f.kept ∙ e;
        rows = λ i h.
            let there : i < length ps' = omega (arith, kept_length ps ps' e) in
            f.rows i there ∙ row_kept old now qs (part_at ps' i) (part_at ps i) (kept_at ps ps' e i);
      }

  -- so filling gives the same whatever outputs were stored before
  pub filled_anyway : (ps ps' : List Part) (ks : List ℕ) → CompleteOrder (components ps) ks →
      map unshown ps' ≡ map unshown ps →
      filled old now ks ps' ≡ filled old now ks ps
  filled_anyway ps ps' ks complete e =
      only_filling ps ks complete (filled old now ks ps') (filled old now ks ps)
      (filling_anyway ps ps' (filled old now ks ps') e
      (filled_filling ps' ks (rw (kept_components ps ps' e) complete))) (filled_filling ps ks complete)
