-- Request 6, "Each call keeps its answers, whatever outputs those records held before": what filling the outputs of a
-- model comes to, whatever outputs the model has stored, and that a part's turn hears signals through its direct ports
-- all the same. The idea: parts that agree but for their stored outputs are filled alike, so that what filling shows is
-- what it shows from parts that store none; and when a part's turn comes its direct sources have been filled. Assumes
-- nothing.
use Rattle.std.specs.Prelude.{ℕ, ◌<◌, ◌≡◌, true, List, ◌∷◌, ◌++◌, map, length}
use Rattle.std.proofs.Common.{sym, subst}
use Rattle.std.proofs.lemmas.Simd.{map-map}
use Rattle.machine.specs.declared.time.Point.{Point}
use Rattle.machine.specs.declared.part.Source.{Source}
use Rattle.machine.specs.declared.part.Source.TheVariants.{From}
use Rattle.machine.specs.declared.part.Part.{Part}
use Rattle.machine.specs.declared.model.Model.{Model}
use Rattle.machine.specs.Lists.{All}
use Rattle.machine.specs.Signal.{is_signal}
use Rattle.machine.specs.Model.{part_at, reading, trimmed}
use Rattle.machine.specs.Step.{filled}
use Rattle.laws.specs.Alls.{all_map}
use Rattle.sound_laws.specs.RangesKept.{InRange, reading_signal, filled_in_range}
use Rattle.order_laws.specs.Order.{CompleteOrder}
use Rattle.order_laws.specs.Row.{unshown, Feeds, components, reading_same, feeds_wire}
use Rattle.order_laws.specs.Filling.{source_filled, filled_anyway}
use Rattle.step_parts.specs.Trimmed.{Changed}
use Rattle.step_parts.specs.Fillable.{Fillable, InRangeUnshown}

-- the model r is `new` with its outputs filled, `old` standing at the point before: with the definition's outputs for
-- any parts that agree with those of `new` but for the stored outputs
abbrev pub FilledAnyway : Model → Model → Model → Type 0
FilledAnyway old new r =
    (ps : List Part) → map unshown ps ≡ map unshown (trimmed new).parts →
    Changed new (filled (trimmed old).parts new.point (trimmed new).order ps) r

-- where it has the definition's outputs for the parts of `new` themselves, it has them for all of these
pub filled_whatever :
    (old new r : Model) → Fillable (trimmed old) (trimmed new) →
    Changed new (filled (trimmed old).parts new.point (trimmed new).order (trimmed new).parts) r →
    FilledAnyway old new r
unfolding trimmed
filled_whatever old new r fit fills ps e =
    subst (λ (qs : List Part). Changed new qs r)
    (sym (filled_anyway (trimmed old).parts new.point (trimmed new).parts ps (trimmed new).order
    fit.complete e)) fills

module _
    (old : List Part)
    (now : Point)
    (ps : List Part)
    (ks : List ℕ)
    (complete : CompleteOrder (components ps) ks)
    (before : All InRange old)
    (ranges : All InRangeUnshown ps) where
  -- every output that is filled is a signal
  filled_signals : All InRange (filled old now ks ps)
  filled_signals =
      subst (All InRange) (filled_anyway old now ps (map unshown ps) ks complete (map-map unshown unshown ps))
      (filled_in_range old now before ks (map unshown ps) (all_map unshown InRangeUnshown InRange ps (λ p r. r) ranges))

  -- so a direct port of a part reads a signal when the part's turn comes
  pub direct_signal :
      (front back : List ℕ) (k : ℕ) (s : Source) → ks ≡ front ++ k ∷ back → k < length ps →
      ((j : ℕ) → s ≡ From j → Feeds j (part_at ps k).component) →
      is_signal (reading (filled old now front ps) s) ≡ true
  direct_signal front back k s e there feeds =
      rw (reading_same (filled old now front ps) (filled old now ks ps) s
      (λ j from. source_filled old now ps ks complete front back k j e (feeds_wire ps k j there (feeds j from))))
      (reading_signal (filled old now ks ps) s filled_signals)
