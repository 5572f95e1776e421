-- What is read of a part in words, in the model that they mean: the part and its kind, where its ports are wired to,
-- and what a port reads, of the words of its source. The idea: the model has the parts of the words, and trimming
-- keeps what a port of a part in use reads. So the model need only be wired to its own parts. A sound model is, and a
-- trial too. Assumes nothing.
use Rattle.std.specs.Prelude.{ℕ, ◌+◌, ◌≤◌, ◌<◌, ◌≡◌, List, length}
use Rattle.std.proofs.Common.{arith, sym, ap, ◌∙◌}
use Rattle.std.proofs.Math.Path.{subst}
use Rattle.machine.specs.declared.signal.Signal.{Signal}
use Rattle.machine.specs.declared.part.Source.{Source}
use Rattle.machine.specs.declared.part.Part.{Part}
use Rattle.machine.specs.Model.{part_at, reading, reading0, trimmed, trimmed_part, trimmed_component}
use Rattle.laws.specs.Partway.{mapped_length}
use Rattle.words_store.specs.ModelIn.{WordsThere, state_words, part_count, model_in}
use Rattle.words_store.specs.ModelIn.{stored_component, stored_part, stored_state}
use Rattle.words_store.specs.StoreFrame.{held_many, held_part}
use Rattle.step_parts.specs.Reading.{WiredBelow, source_index, heard, heard_reading, index_below, part_trimmed}
use Rattle.step_parts.specs.Fillable.{Wired, wired_at, reading_in_use}

-- the parts that words mean, trimmed: as many as the table says, each that of its words
pub lent_many : (ts ss : List ℕ) → length (trimmed (model_in ts ss)).parts ≡ part_count ts
unfolding trimmed model_in
lent_many ts ss = mapped_length trimmed_part (part_count ts) (model_in ts ss).parts
    (rw (held_many ts ss) (omega arith))

pub lent_part : (ts ss : List ℕ) (i : ℕ) → i < part_count ts →
    part_at (trimmed (model_in ts ss)).parts i ≡ trimmed_part (stored_part ts ss i)
unfolding trimmed model_in
lent_part ts ss i low =
    part_trimmed (part_count ts) (model_in ts ss).parts i low (rw (held_many ts ss) (omega arith)) ∙
    ap trimmed_part (held_part ts ss i low)

-- and of the kind that the table says
pub lent_kind : (ts ss : List ℕ) (i : ℕ) → i < part_count ts →
    (part_at (trimmed (model_in ts ss)).parts i).component.kind ≡ (stored_component ts i).kind
unfolding stored_part trimmed_part trimmed_component
lent_kind ts ss i low = ap (λ (p : Part). p.component.kind) (lent_part ts ss i low)

-- what a port reads in the words of a state: the output of its source
unfoldable pub heard_in : List ℕ → Source → Signal
heard_in ss s = heard s (stored_state ss (source_index s)).output

-- it is what the port reads in the model that the words mean
pub lent_heard :
    (ts ss : List ℕ) (s : Source) → source_index s < part_count ts → heard_in ss s ≡ reading (model_in ts ss).parts s
unfolding heard_in stored_part
lent_heard ts ss s low =
    let output_of : Part → Signal = λ q. q.state.output in
    ap (heard s) (sym (ap output_of (held_part ts ss (source_index s) low))) ∙ heard_reading (model_in ts ss).parts s

-- where the model that words mean is wired to its own parts
module _ (ts ss : List ℕ) (wired : Wired (trimmed (model_in ts ss))) (i : ℕ) (low : i < part_count ts) where
  -- both ports of part i are wired to parts of the table
  pub lent_wired : WiredBelow (part_count ts) (stored_component ts i)
  unfolding model_in stored_part
  lent_wired =
      subst (λ (p : Part). WiredBelow (part_count ts) p.component) (held_part ts ss i low)
      (wired_at (model_in ts ss) wired i low)

  -- so the source of port 0 is one of them, whatever states are read with the table
  lent_source :
      (now : List ℕ) (p : Part) → p ≡ stored_part ts now i → source_index p.component.port0 < part_count ts
  unfolding stored_part
  lent_source now p is =
      rw is (index_below (part_count ts) (stored_component ts i).port0 (omega arith) lent_wired.port0)

  -- its words are there
  pub source_room :
      (now : List ℕ) (p : Part) → p ≡ stored_part ts now i → WordsThere ts now →
      state_words (source_index p.component.port0 + 1) ≤ length now
  source_room now p is room =
      let below = lent_source now p is in
      omega (arith, below, room.state)

  -- and what port 0 is heard to read is its reading
  pub lent_reading :
      (p : Part) (x : Signal) → p ≡ stored_part ts ss i → x ≡ heard_in ss p.component.port0 →
      x ≡ reading0 (trimmed (model_in ts ss)).parts p
  unfolding reading0 model_in stored_part
  lent_reading p x is hears =
      let s = p.component.port0 in
      hears ∙ lent_heard ts ss s (lent_source ss p is) ∙
      reading_in_use (model_in ts ss) wired s (rw is lent_wired.port0)
