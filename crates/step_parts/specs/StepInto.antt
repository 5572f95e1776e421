-- What the functions that make a step in words ask of the words lent, and what they promise of those of the new state.
-- Of these, ₀ is the list before the call and ₁ after it. Assumes nothing.
use Rattle.std.specs.Prelude.{ℕ, ◌+◌, ◌≤◌, ◌<◌, ◌≡◌, true, List}
use Rattle.machine.specs.Time.{last_tick, tick}
use Rattle.machine.specs.Model.{trimmed}
use Rattle.machine.specs.Sound.{sound}
use Rattle.machine.specs.Step.{all_moved, all_settled}
use Rattle.machine.specs.Advance.{longest_wanted}
use Rattle.words_store.specs.ModelIn.{WordsThere, part_count, model_in}
use Rattle.words_store.specs.Clean.{CleanAfter, SignalsKept}
use Rattle.words_store.specs.Updated.{SameBehind, state_spelled}
use Rattle.step_parts.specs.Trimmed.{Changed}
use Rattle.step_parts.specs.Anyway.{FilledAnyway}
use Rattle.step_parts.specs.StepShown.{step_shown}

-- every state of a table's parts is within its limits
abbrev pub StatesSpelled : (table state : List ℕ) → Type 0
StatesSpelled table state = (j : ℕ) → j < part_count table → state_spelled state j ≡ true

-- What a step of at most h asks: the words are there, the old ones spell a sound model, and the step ends within the
-- time.
pub record Steppable (table old new : List ℕ) (h : ℕ) : Type 0 where
  pub old_there : WordsThere table old
  pub new_there : WordsThere table new
  pub sounds : sound (trimmed (model_in table old)) ≡ true
  pub short : h ≤ longest_wanted
  pub in_time : tick (model_in table old).point + h ≤ last_tick
  pub spelled : StatesSpelled table old

-- The parts of the old state moved by h: the new words mean them at the old point, and every signal is clean or has its
-- words from the old state.
pub record MovedInto (table old : List ℕ) (h : ℕ) (new₀ new₁ : List ℕ) : Type 0 where
  pub moved :
      let before = model_in table old in
      Changed before (all_moved (tick before.point) h (trimmed before).parts) (model_in table new₁)
  pub form : StatesSpelled table new₁
  pub behind : SameBehind (part_count table) new₀ new₁
  pub signals : (j : ℕ) → j < part_count table → SignalsKept old new₁ j

-- The outputs of the new state filled at its point, the old state being that of the point before.
pub record FilledInto (table old new₀ new₁ : List ℕ) : Type 0 where
  pub filled : FilledAnyway (model_in table old) (model_in table new₀) (model_in table new₁)
  pub behind : SameBehind (part_count table) new₀ new₁
  pub clean : CleanAfter (part_count table) new₀ new₁

-- The parts of the new state settled.
pub record SettledInto (table new₀ new₁ : List ℕ) : Type 0 where
  pub settled :
      let before = model_in table new₀ in
      Changed before (all_settled (trimmed before).parts) (model_in table new₁)
  pub behind : SameBehind (part_count table) new₀ new₁
  pub signals : (j : ℕ) → SignalsKept new₀ new₁ j

-- The step of h made up to its settling: the new words mean it.
pub record TrialInto (table old : List ℕ) (h : ℕ) (new₀ new₁ : List ℕ) : Type 0 where
  pub shown : trimmed (model_in table new₁) ≡ step_shown (trimmed (model_in table old)) h
  pub form : StatesSpelled table new₁
  pub behind : SameBehind (part_count table) new₀ new₁
  pub clean : CleanAfter (part_count table) old new₁
