-- Document 02, request 4, "Save the table": the bytes of a model, what refuses a save, and what is claimed of the bytes
-- of every sound model. Assumes nothing.
use Rattle.std.specs.Prelude.{ℕ, ◌+◌, ◌*◌, ◌≤◌, ◌<◌, ◌≡◌, true, cond, List, ◌↔◌, length}
use Rattle.machine.specs.declared.model.Model.{Model}
use Rattle.machine.specs.Lists.{All}
use Rattle.machine.specs.Model.{most_parts}
use Rattle.machine.specs.Table.{table_of}
use Rattle.machine.specs.Fresh.{fresh}
use Rattle.machine.specs.Load.{load}
use Rattle.machine.specs.Sound.{sound}
use Rattle.machine.specs.TableBytes.{table_bytes}

-- "the bytes of a model": those of the table that it keeps
unfoldable pub saved_bytes : Model → List ℕ
saved_bytes m = table_bytes (table_of m)

-- what refuses a save before 25 is tested: 24, if the model is not sound
unfoldable pub save_refusal : Model → ℕ
save_refusal m = cond (sound m) 0 24

-- how many bytes the longest table has: Begin and End 3, and each part 59, which is a drive with eight spans and a wire
abbrev pub longest_table : ℕ
longest_table = 59 * most_parts + 3

-- the claims of a sound model m
pub record SavedModel (m : Model) : Type 0 where
  -- its bytes are bytes, and a buffer of 1,891 has room for them
  pub octets : All (λ (b : ℕ). b < 256) (saved_bytes m)
  pub short : length (saved_bytes m) ≤ longest_table
  -- "Loading those bytes yields the fresh model of the same table": they are accepted, up to their end
  pub loads : load (saved_bytes m) ≡ record {
    number = 0;
    position = length (saved_bytes m);
    model = fresh (table_of m);
  }
  -- "Two sound models have equal bytes exactly when their tables are equal": so nothing but the table counts, neither
  -- the point nor what the parts keep
  pub apart : (other : Model) → sound other ≡ true → (saved_bytes m ≡ saved_bytes other) ↔ (table_of m ≡ table_of other)
  -- the model that they load to is sound, and has the same bytes
  pub again : sound (load (saved_bytes m)).model ≡ true
  pub same : saved_bytes (load (saved_bytes m)).model ≡ saved_bytes m
