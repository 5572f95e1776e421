-- What follows for a caller of `load` from its promise, that its answer to a stream bs is the machine's, as the number,
-- position and model r that `loaded_of` makes of it: `trimmed_loaded r ≡ load bs`. A stream is accepted exactly where
-- it is that of a table that fits: then the model is the table's fresh model, which is sound. So no loader that refuses
-- every table, or that yields one model for all, keeps the promise. Assumes nothing.
use Rattle.std.specs.Prelude.{ℕ, ◌≤◌, ◌≡◌, true, List, length}
use Rattle.std.proofs.Common.{sym, ap, ◌∙◌}
use Rattle.machine.specs.Answers.{Loaded}
use Rattle.machine.specs.Lists.{All}
use Rattle.machine.specs.Model.{most_parts, no_model, trimmed, trimmed_loaded}
use Rattle.machine.specs.Table.{Table}
use Rattle.machine.specs.Fresh.{fresh}
use Rattle.machine.specs.Load.{load}
use Rattle.machine.specs.Sound.{table_fits, sound}
use Rattle.machine.specs.TableBytes.{table_bytes}
use Rattle.sound_laws.specs.Facts.{sound_few}
use Rattle.sound_laws.specs.Octets.{Octet, table_octets}
use Rattle.sound_laws.specs.Accepted.{load_fits}
use Rattle.sound_laws.specs.FreshSound.{fresh_apart, fresh_sound}
use Rattle.sound_laws.specs.SavedBytes.{loads_whole}
use Rattle.load_call.specs.Blank.{blank_model, blank_trimmed}

-- an accepted load is that of a table
pub record LoadedTable (r : Loaded) (t : Table) : Type 0 where
  pub number : r.number ≡ 0
  pub fits : table_fits t ≡ true
  pub model : trimmed r.model ≡ fresh t
  pub sound : sound (trimmed r.model) ≡ true

-- where the number is 0, the stream was that of a table that fits
pub accepted_is_a_table : (bs : List ℕ) (r : Loaded) → trimmed_loaded r ≡ load bs → r.number ≡ 0 → (t : Table) ×
    LoadedTable r t
unfolding trimmed_loaded
accepted_is_a_table bs r is none =
    let (t, fits, model) = load_fits bs (ap (λ (l : Loaded). l.number) (sym is) ∙ none) in
    let same : trimmed r.model ≡ fresh t = ap (λ (l : Loaded). l.model) is ∙ model in
    (t, record { number = none; fits = fits; model = same; sound = rw same (fresh_sound t fits) })

-- and its model has at most 32 parts
pub accepted_few : (bs : List ℕ) (r : Loaded) → trimmed_loaded r ≡ load bs → r.number ≡ 0 →
    r.model.count ≤ most_parts
unfolding trimmed
accepted_few bs r is none = sound_few (trimmed r.model) (accepted_is_a_table bs r is none).1.sound

-- the bytes of every table that fits are accepted, with that table's model, and the position after them
pub every_table_is_accepted :
    (t : Table) (r : Loaded) → table_fits t ≡ true → trimmed_loaded r ≡ load (table_bytes t) →
    All Octet (table_bytes t) × LoadedTable r t × (r.position ≡ length (table_bytes t))
unfolding trimmed_loaded
every_table_is_accepted t r fits is =
    let back = is ∙ loads_whole t fits in
    let same : trimmed r.model ≡ fresh t = ap (λ (l : Loaded). l.model) back in (
      table_octets t fits,
      record {
        number = ap (λ (l : Loaded). l.number) back;
        fits = fits;
        model = same;
        sound = rw same (fresh_sound t fits);
      },
      ap (λ (l : Loaded). l.position) back,
    )

-- tables whose models agree are one
pub models_tell_tables_apart :
    (t u : Table) (r s : Loaded) → LoadedTable r t → LoadedTable s u → trimmed r.model ≡ trimmed s.model → t ≡ u
models_tell_tables_apart t u r s a b same =
    fresh_apart t u (sym a.model ∙ same ∙ b.model)

-- a refused load has no model: the struct with all of it 0
pub refused_has_no_model : (r : Loaded) → ((r.number ≡ 0 → ⊥) → r.model ≡ blank_model) → (r.number ≡ 0 → ⊥) →
    trimmed r.model ≡ no_model
refused_has_no_model r blank some = ap trimmed (blank some) ∙ blank_trimmed
