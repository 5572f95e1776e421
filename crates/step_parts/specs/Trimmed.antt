-- Models once the places in no use are cut away, and what changing one place in use does to them: moving, filling and
-- settling change one place after the other, so that what they come to is told of the trimmed parts alone. Assumes
-- nothing.
use Rattle.std.specs.Prelude.{ℕ, ◌<◌, ◌≡◌, refl, List, map, set, take}
use Rattle.std.proofs.Common.{ap, ◌∙◌}
use Rattle.std.proofs.Math.Seq.{take-set-lt}
use Rattle.machine.specs.declared.part.Part.{Part}
use Rattle.machine.specs.declared.model.Model.{Model}
use Rattle.machine.specs.Model.{with_parts, trimmed_part, trimmed}
use Rattle.laws.specs.ListLaws.{map_set}

-- the model r is m with the parts ps, in the places in use
pub record Changed (m : Model) (ps : List Part) (r : Model) : Type 0 where
  pub is : trimmed r ≡ with_parts (trimmed m) m.point ps

-- a model is itself with its own parts
pub none_changed : (m : Model) → Changed m (trimmed m).parts m
unfolding trimmed
none_changed m = record { is = refl }

-- a changed model has the count of the model before
pub changed_count : (m : Model) (ps : List Part) (r : Model) → Changed m ps r → r.count ≡ m.count
unfolding trimmed
changed_count m ps r c = ap (λ (x : Model). x.count) c.is

-- the part v put into the place k in use: the trimmed parts change there alone
pub changed_more :
    (m : Model) (ps : List Part) (next : Model) (k : ℕ) (v : Part) → Changed m ps next → k < next.count →
    Changed m (set ps k (trimmed_part v)) (with_parts next next.point (set next.parts k v))
unfolding trimmed
changed_more m ps next k v c below =
    let n = next.count in
    let parts : map trimmed_part (take n (set next.parts k v)) ≡
    set (map trimmed_part (take n next.parts)) k (trimmed_part v) =
    ap (map trimmed_part) (take-set-lt n next.parts k v below) ∙ map_set trimmed_part (take n next.parts) k v in
    record {
      is =
          ap (with_parts (trimmed next) next.point) parts ∙
          ap (λ (x : Model). with_parts x x.point (set x.parts k (trimmed_part v))) c.is;
    }
