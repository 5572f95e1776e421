-- The table that words mean, whatever the state's words are, and its bytes part by part. Assumes nothing.
use Rattle.std.specs.Prelude.{ℕ, ◌%◌, ◌<◌, ◌≡◌, List, ◌++◌, map, take}
use Rattle.std.proofs.Common.{arith, ap, ◌∙◌, take_all}
use Rattle.machine.specs.declared.part.Source.{Source}
use Rattle.machine.specs.declared.part.Source.TheVariants.{Unwired, From}
use Rattle.machine.specs.declared.part.Component.{Component}
use Rattle.machine.specs.declared.part.Part.{Part}
use Rattle.machine.specs.Model.{trimmed_component, trimmed_part, trimmed}
use Rattle.machine.specs.Table.{Table, table_of}
use Rattle.machine.specs.TableBytes.{part_bytes, spans_bytes, port_bytes}
use Rattle.words_codec.specs.Words.{tabulate}
use Rattle.words_codec.specs.Tables.{length_table, map_table}
use Rattle.words_store.specs.ModelIn.{slot, part_count, stored_component, stored_part, model_in}

-- the component of part i, without the places that no span is in
unfoldable pub lent_component : List ℕ → ℕ → Component
lent_component ts i = trimmed_component (stored_component ts i)

-- the table
unfoldable pub lent_table : List ℕ → Table
lent_table ts = record { magnitude = slot ts 0 % 256; parts = tabulate (lent_component ts) (part_count ts) }

-- it is that of the model that the words mean, with whatever state
pub lent_table_is : (ts ss : List ℕ) → table_of (trimmed (model_in ts ss)) ≡ lent_table ts
unfolding table_of trimmed model_in lent_table lent_component stored_part trimmed_part
lent_table_is ts ss =
    let n = part_count ts in
    let f = stored_part ts ss in
    let parts : map (λ (p : Part). p.component) (map trimmed_part (take n (tabulate f n))) ≡
    tabulate (lent_component ts) n =
    ap (λ (l : List Part). map (λ (p : Part). p.component) (map trimmed_part l))
    (take_all n (tabulate f n) (omega (arith, length_table f n))) ∙
    ap (map (λ (p : Part). p.component)) (map_table trimmed_part f n) ∙
    map_table (λ (p : Part). p.component) (λ (i : ℕ). trimmed_part (f i)) n in
    ap (λ (cs : List Component). record { magnitude = slot ts 0 % 256; parts = cs }) parts

-- a source whose number fits a byte
abbrev pub SourceInByte : Source → Type 0
SourceInByte Unwired = Unit {0}
SourceInByte (From k) = k < 256

-- a part with its spans, and the wires into part i
unfoldable pub part_text : Component → List ℕ
part_text c = part_bytes c ++ spans_bytes c.spans

unfoldable pub wires_text : ℕ → Component → List ℕ
wires_text i c = port_bytes i 0 c.port0 ++ port_bytes i 1 c.port1
