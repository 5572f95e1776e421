-- What a call on lent words promises: how it ends, by the machine's own definition and for every argument, and what the
-- words lent for the new state hold then. Of these, new₀ is the list before the call and new₁ after it. Assumes
-- nothing.
use Rattle.std.specs.Prelude.{ℕ, ◌<◌, ◌≡◌, Bool, true, cond, not, ◌&&◌, List, eqb, leb, length}
use Rattle.machine.specs.declared.model.Model.{Model}
use Rattle.machine.specs.Time.{in_time, last_microstep, led_to}
use Rattle.machine.specs.Model.{trimmed}
use Rattle.machine.specs.Sound.{sound}
use Rattle.machine.specs.Advance.{searched, barred, barred_outcome, outcome, answer_with}
use Rattle.machine.specs.declared.model.Outcome.{Outcome}
use Rattle.words_store.specs.ModelIn.{model_in, part_count, state_words, stored_point}
use Rattle.words_store.specs.Form.{spelled}
use Rattle.words_store.specs.Clean.{CleanAfter, SameState}
use Rattle.words_store.specs.Updated.{SameBehind}
use Rattle.step_parts.specs.StepInto.{StatesSpelled}
use Rattle.advance_call.specs.Searching.{last_past}

-- the model that the words of a table and of a state mean, which the machine is asked of
abbrev pub lent_model : List ℕ → List ℕ → Model
lent_model ts ss = trimmed (model_in ts ss)

-- What the search for a step of at most w promises of the words of the new state and of how it ends: as the machine's
-- search, after a round. The new words then spell the model of the machine's answer, the step made or the model handed
-- in, and the words after the model's are kept. Where a step is committed the outputs are clean, and each held signal
-- is or has its words from the old state; where the call is refused the new state has the old one's words.
pub record SearchedInto (table old : List ℕ) (w : ℕ) (new₀ new₁ : List ℕ) (r : Outcome) : Type 0 where
  pub ends : r ≡ searched (lent_model table old) w
  pub asked : 0 < r.rounds
  pub next :
      let m = lent_model table old in
      lent_model table new₁ ≡ (answer_with m (searched m w)).model
  pub form : StatesSpelled table new₁
  pub behind : SameBehind (part_count table) new₀ new₁
  pub clean : r.number ≡ 0 → CleanAfter (part_count table) old new₁
  pub same : (r.number ≡ 0 → ⊥) → SameState (part_count table) old new₁

-- 25 where nothing else bars the call and the words lent for the new state are too few
unfoldable pub unless_short : Bool → Model → ℕ → Outcome
unless_short enough m w = cond (eqb (barred m w) 0 && not enough) (barred_outcome 25) (outcome m w)

-- the number of what bars such a call before its search: 20 or 23, and then 25; 0 where nothing does
abbrev pub number_with : List ℕ → List ℕ → ℕ → ℕ → ℕ
number_with ts os w room =
    let number = barred (lent_model ts os) w in
    cond (eqb number 0) (cond (leb (state_words (part_count ts)) room) 0 25) number

-- how a call ends whose words spell a model, with `room` words lent for the new state
unfoldable pub outcome_with : List ℕ → List ℕ → ℕ → ℕ → Outcome
outcome_with ts os w room = unless_short (leb (state_words (part_count ts)) room) (lent_model ts os) w

-- how a call ends, whatever its words are: 24 where they spell no model
unfoldable pub outcome_into : List ℕ → List ℕ → ℕ → ℕ → Outcome
outcome_into ts os w room = cond (spelled ts os) (outcome_with ts os w room) (barred_outcome 24)

-- What a call promises of the words of the new state and of how it ends, o being the outcome. A call that is barred
-- makes no round and writes no word; one that commits a step made a round. After a round the new words spell the model
-- of the machine's answer: the step made, or where it is refused the model handed in. The words after the model's are
-- kept. Of its free words: where a step is committed the outputs are clean, and each held signal is or has its words
-- from the old state; where the call is refused after a round, the new state has the old one's words.
pub record CalledInto (o : Outcome) (table old new₀ new₁ : List ℕ) (r : Outcome) : Type 0 where
  pub ends : r ≡ o
  pub barred : r.rounds ≡ 0 → new₁ ≡ new₀
  pub asked : r.number ≡ 0 → 0 < r.rounds
  pub next : 0 < r.rounds → lent_model table new₁ ≡ (answer_with (lent_model table old) o).model
  pub form : 0 < r.rounds → spelled table new₁ ≡ true
  pub behind : SameBehind (part_count table) new₀ new₁
  pub clean : r.number ≡ 0 → CleanAfter (part_count table) old new₁
  pub same : 0 < r.rounds → (r.number ≡ 0 → ⊥) → SameState (part_count table) old new₁

-- an advance by at most w, whatever the words are
abbrev pub AdvancedInto : (table old : List ℕ) → ℕ → (new₀ new₁ : List ℕ) → Outcome → Type 0
AdvancedInto table old w new₀ new₁ r = CalledInto (outcome_into table old w (length new₀)) table old new₀ new₁ r

-- and one of words that spell a model
abbrev pub AdvancedSound : (table old : List ℕ) → ℕ → (new₀ new₁ : List ℕ) → Outcome → Type 0
AdvancedSound table old w new₀ new₁ r = CalledInto (outcome_with table old w (length new₀)) table old new₀ new₁ r

-- where the words mean a sound model, a step of 0 from the point read there leads past the time at the last microstep
pub last_lent : (ts ss : List ℕ) → sound (lent_model ts ss) ≡ true →
    not (in_time (led_to (stored_point ss) 0)) ≡ eqb (lent_model ts ss).point.n last_microstep
unfolding trimmed model_in
last_lent ts ss is_sound = last_past (lent_model ts ss) is_sound
