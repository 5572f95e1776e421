-- What a round of all parts asks of the words of a table and of a state. Assumes nothing.
use Rattle.std.specs.Prelude.{ℕ, ◌+◌, ◌≤◌, ◌≡◌, true, List}
use Rattle.machine.specs.Time.{last_tick, tick}
use Rattle.machine.specs.Model.{trimmed}
use Rattle.machine.specs.Sound.{sound}
use Rattle.words_store.specs.ModelIn.{WordsThere, model_in}

-- the words are there and mean a sound model, and a step of h ends within the time
pub record Askable (table state : List ℕ) (h : ℕ) : Type 0 where
  pub there : WordsThere table state
  pub sounds : sound (trimmed (model_in table state)) ≡ true
  pub in_time : tick (model_in table state).point + h ≤ last_tick
