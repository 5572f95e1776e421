-- What the survey of a table's words promises. Assumes nothing.
use Rattle.std.specs.Prelude.{ℕ, ◌≡◌, List, map, take}
use Rattle.machine.specs.declared.part.Part.{Part}
use Rattle.machine.specs.Model.{trimmed}
use Rattle.machine.specs.Table.{magnitude_of, table_of}
use Rattle.order_place.specs.Direct.{direct_of}
use Rattle.words_store.specs.ModelIn.{model_in, part_count}
use Rattle.sound_test.specs.declared.survey.Survey.{Survey}

-- whatever state the table is in: the master's magnitude, the direct sources and the part order of the model that
-- the words mean
pub record LentSurveyed (ts : List ℕ) (r : Survey) : Type 0 where
  pub magnitude : (ss : List ℕ) → r.magnitude ≡ magnitude_of (table_of (trimmed (model_in ts ss)))
  pub direct : (ss : List ℕ) →
      take (part_count ts) r.direct ≡ map (λ (p : Part). direct_of p.component) (model_in ts ss).parts
  pub order : (ss : List ℕ) → take (part_count ts) r.order ≡ (model_in ts ss).order
