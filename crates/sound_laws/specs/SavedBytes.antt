-- Request 4 of every sound model: the bytes of its table load to the fresh model of that table, and tell the table. The
-- idea: the fresh model keeps its table, so that bytes which load alike are those of one table. Assumes nothing.
use Rattle.std.specs.Prelude.{◌+◌, ◌-◌, ◌≡◌, refl, true, length}
use Rattle.std.proofs.Common.{arith, sym, ap, ◌∙◌}
use Rattle.machine.specs.declared.model.Model.{Model}
use Rattle.machine.specs.Answers.{Loaded}
use Rattle.machine.specs.Table.{Table, table_of}
use Rattle.machine.specs.Fresh.{fresh}
use Rattle.machine.specs.Load.{accepted, load}
use Rattle.machine.specs.Sound.{table_fits, sound}
use Rattle.machine.specs.TableBytes.{table_bytes}
use Rattle.machine.specs.Save.{saved_bytes, SavedModel}
use Rattle.sound_laws.specs.Facts.{sound_facts}
use Rattle.sound_laws.specs.FreshSound.{fresh_table, fresh_apart, fresh_sound}
use Rattle.sound_laws.specs.Octets.{table_octets}
use Rattle.sound_laws.specs.Bytes.{loads_back}
use Rattle.sound_laws.specs.ByteLengths.{table_short}

-- the bytes of a table that fits load up to their end
pub loads_whole : (t : Table) → table_fits t ≡ true → load (table_bytes t) ≡ record {
  number = 0;
  position = length (table_bytes t);
  model = fresh t;
}
unfolding accepted table_bytes
loads_whole t fits = loads_back t fits ∙ rw last refl
  where
    last : (length (table_bytes t) - 1) + 1 ≡ length (table_bytes t)
    last = omega arith

-- equal bytes of tables that fit are those of one table
pub one_table : (t u : Table) → table_fits t ≡ true → table_fits u ≡ true → table_bytes t ≡ table_bytes u → t ≡ u
one_table t u fits others equal =
    fresh_apart t u (ap (λ (r : Loaded). r.model) (sym (loads_whole t fits) ∙ ap load equal ∙ loads_whole u others))

-- the claims, of every sound model
pub every_saved_model : (m : Model) → sound m ≡ true → SavedModel m
unfolding saved_bytes
every_saved_model m is_sound =
    let t = table_of m in
    let fits = (sound_facts m is_sound).table in
    let loads = loads_whole t fits in
    let model : (load (table_bytes t)).model ≡ fresh t = ap (λ (r : Loaded). r.model) loads in
    record {
      octets = table_octets t fits;
      short = table_short t fits;
      loads = loads;
      apart = λ other sounds. (one_table t (table_of other) fits (sound_facts other sounds).table, ap table_bytes);
      again = rw model (fresh_sound t fits);
      same = ap (λ (n : Model). table_bytes (table_of n)) model ∙ ap table_bytes (fresh_table t);
    }
