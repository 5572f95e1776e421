-- From the machine's answer to what a call on lent words promises: an answer of the search, told of the model that the
-- words mean, is what the search in words owes; a call that is barred writes nothing; and where nothing bars it the
-- search's promise is the call's. What the words lent for the new state held before does not count. Assumes nothing.
use Rattle.std.specs.Prelude.{ℕ, ◌≤◌, ◌<◌, ◌≡◌, refl, Bool, true, false, not, ◌&&◌, ◌⊎◌, List, eqb, leb, length}
use Rattle.std.proofs.Common.{arith, sym, ap, subst, ◌∙◌, inl, inr}
use Rattle.std.proofs.Common.{eq-eqb, ne_eqb, le-leb, eqb-true, leb-true, leb-false}
use Rattle.std.proofs.lemmas.Bool.{eqb-false, lt-leb}
use Rattle.machine.specs.declared.time.Point.{Point}
use Rattle.machine.specs.declared.model.Answer.{Answer}
use Rattle.machine.specs.Time.{tick}
use Rattle.machine.specs.Model.{most_parts, trimmed, trimmed_answer}
use Rattle.machine.specs.Sound.{sound}
use Rattle.machine.specs.Advance.{searched, barred, barred_outcome, outcome, answer_with}
use Rattle.machine.specs.declared.model.Outcome.{Outcome}
use Rattle.laws.specs.Bools.{and_false_cases, either}
use Rattle.advance_laws.specs.Outcomes.{outcome_barred, outcome_searched}
use Rattle.words_store.specs.ModelIn.{slot, part_count, state_words, stored_point, model_in}
use Rattle.words_store.specs.Form.{any_word, spelled}
use Rattle.words_store.specs.Spelling.{spelled_few, spelled_room}
use Rattle.words_store.specs.Clean.{CleanAfter, SameState}
use Rattle.words_store.specs.Updated.{SameBehind}
use Rattle.step_parts.specs.StepInto.{StatesSpelled}
use Rattle.words_store.specs.StoreFrame.{behind_none}
use Rattle.words_store.specs.Respelled.{respelled}
use Rattle.words_store.specs.Free.{SameButFree, same_count, same_meant, same_spelled}
use Rattle.advance_call.specs.Searching.{Searched}
use Rattle.advance_call.specs.Barring.{barred_by, barred_trimmed}
use Rattle.advance_call.specs.Into.{lent_model, SearchedInto, CalledInto, AdvancedInto, AdvancedSound}
use Rattle.advance_call.specs.Into.{unless_short, number_with, outcome_with, outcome_into}

-- an answer without its model
abbrev pub ended : Answer → Outcome
ended r = record {
  number = r.number;
  step = r.step;
  rounds = r.rounds;
  revisions = r.revisions;
  ceiling = r.ceiling;
}

-- an answer of the search whose model is the one that the new words mean
pub searched_words :
    (ts os new₀ new₁ : List ℕ) (w : ℕ) (r : Answer) → Searched (model_in ts os) w r → 0 < r.rounds →
    trimmed r.model ≡ lent_model ts new₁ → StatesSpelled ts new₁ → SameBehind (part_count ts) new₀ new₁ →
    (r.number ≡ 0 → CleanAfter (part_count ts) os new₁) → ((r.number ≡ 0 → ⊥) → SameState (part_count ts) os new₁) →
    SearchedInto ts os w new₀ new₁ (ended r)
unfolding answer_with trimmed_answer
searched_words ts os new₀ new₁ w r found asked holds form behind clean same =
    record {
      ends = ap ended found.machine;
      asked = asked;
      next = sym holds ∙ ap (λ (x : Answer). x.model) found.machine;
      form = form;
      behind = behind;
      clean = clean;
      same = same;
    }

-- how a call ends that something bars, one whose words for the new state are too few, and one that is searched
pub with_barred : (ts os : List ℕ) (w room k : ℕ) → k ≡ barred (lent_model ts os) w → (k ≡ 0 → ⊥) →
    outcome_with ts os w room ≡ barred_outcome k
unfolding outcome_with unless_short
with_barred ts os w room k e other =
    let m = lent_model ts os in
    let bars : barred m w ≡ 0 → ⊥ = λ z. other (e ∙ z) in
    rw (ne_eqb (barred m w) 0 bars) (outcome_barred m w bars ∙ ap barred_outcome (sym e))

pub with_short : (ts os : List ℕ) (w room : ℕ) → barred (lent_model ts os) w ≡ 0 → room < state_words (part_count ts) →
    outcome_with ts os w room ≡ barred_outcome 25
unfolding outcome_with unless_short
with_short ts os w room none short =
    rw (eq-eqb (barred (lent_model ts os) w) 0 none, lt-leb (state_words (part_count ts)) room short) refl

with_searched : (ts os : List ℕ) (w room : ℕ) → barred (lent_model ts os) w ≡ 0 → state_words (part_count ts) ≤ room →
    outcome_with ts os w room ≡ searched (lent_model ts os) w
unfolding outcome_with unless_short
with_searched ts os w room none enough =
    rw (eq-eqb (barred (lent_model ts os) w) 0 none, le-leb (state_words (part_count ts)) room enough)
    (outcome_searched (lent_model ts os) w none)

-- a call that is barred writes nothing
called_barred :
    (o : Outcome) (ts os new₀ : List ℕ) (k : ℕ) → o ≡ barred_outcome k → (k ≡ 0 → ⊥) →
    CalledInto o ts os new₀ new₀ (barred_outcome k)
called_barred o ts os new₀ k e other =
    record {
      ends = (sym e);
      barred = λ none. refl;
      asked = λ zero_number. absurd (other zero_number);
      next = λ some. absurd (omega arith);
      form = λ some. absurd (omega arith);
      behind = behind_none (part_count ts) new₀;
      clean = λ zero_number. absurd (other zero_number);
      same = λ some. absurd (omega arith);
    }

pub barred_call : (ts os new₀ : List ℕ) (w k : ℕ) → k ≡ barred (lent_model ts os) w → (k ≡ 0 → ⊥) →
    AdvancedSound ts os w new₀ new₀ (barred_outcome k)
barred_call ts os new₀ w k e other =
    called_barred (outcome_with ts os w (length new₀)) ts os new₀ k (with_barred ts os w (length new₀) k e other) other

pub short_call :
    (ts os new₀ : List ℕ) (w : ℕ) → barred (lent_model ts os) w ≡ 0 → length new₀ < state_words (part_count ts) →
    AdvancedSound ts os w new₀ new₀ (barred_outcome 25)
short_call ts os new₀ w none short =
    called_barred (outcome_with ts os w (length new₀)) ts os new₀ 25 (with_short ts os w (length new₀) none short)
    (λ z. omega arith)

-- a call that is refused before its search, and one that is not: the machine bars it not, and enough words are lent
refused_with : (ts os new₀ : List ℕ) (w k : ℕ) → (eqb (barred (lent_model ts os) w) 0 ≡ true) ⊎
    (eqb (barred (lent_model ts os) w) 0 ≡ false) →
    (leb (state_words (part_count ts)) (length new₀) ≡ true) ⊎
    (leb (state_words (part_count ts)) (length new₀) ≡ false) →
    k ≡ number_with ts os w (length new₀) → (k ≡ 0 → ⊥) → AdvancedSound ts os w new₀ new₀ (barred_outcome k)
refused_with ts os new₀ w k (inl free) (inl enough) e other = absurd (other (rw (free, enough) at e))
refused_with ts os new₀ w k (inl free) (inr short) e other =
    rw (rw (free, short) at e)
    (short_call ts os new₀ w (eqb-true (barred (lent_model ts os) w) 0 free)
    (leb-false (state_words (part_count ts)) (length new₀) short))
refused_with ts os new₀ w k (inr bars) enough e other = barred_call ts os new₀ w k (rw bars at e) other

pub refused_call : (ts os new₀ : List ℕ) (w k : ℕ) → k ≡ number_with ts os w (length new₀) → (k ≡ 0 → ⊥) →
    AdvancedSound ts os w new₀ new₀ (barred_outcome k)
refused_call ts os new₀ w k =
    refused_with ts os new₀ w k (either (eqb (barred (lent_model ts os) w) 0))
    (either (leb (state_words (part_count ts)) (length new₀)))

asked_with : (ts os : List ℕ) (w room : ℕ) → (eqb (barred (lent_model ts os) w) 0 ≡ true) ⊎
    (eqb (barred (lent_model ts os) w) 0 ≡ false) →
    (leb (state_words (part_count ts)) room ≡ true) ⊎ (leb (state_words (part_count ts)) room ≡ false) →
    0 ≡ number_with ts os w room → (barred (lent_model ts os) w ≡ 0) × (state_words (part_count ts) ≤ room)
asked_with ts os w room (inl free) (inl enough) e =
    (eqb-true (barred (lent_model ts os) w) 0 free, leb-true (state_words (part_count ts)) room enough)
asked_with ts os w room (inl free) (inr short) e =
    let none : ◌≡◌ {A = ℕ} 0 25 = rw (free, short) at e in omega arith
asked_with ts os w room (inr bars) enough e =
    absurd (eqb-false (barred (lent_model ts os) w) 0 bars (sym (rw bars at e)))

pub asked_call : (ts os : List ℕ) (w room : ℕ) → 0 ≡ number_with ts os w room →
    (barred (lent_model ts os) w ≡ 0) × (state_words (part_count ts) ≤ room)
asked_call ts os w room =
    asked_with ts os w room (either (eqb (barred (lent_model ts os) w) 0))
    (either (leb (state_words (part_count ts)) room))

-- a call that nothing bars is the search
pub searched_call :
    (ts os new₀ new₁ : List ℕ) (w : ℕ) (r : Outcome) → spelled ts os ≡ true → barred (lent_model ts os) w ≡ 0 →
    state_words (part_count ts) ≤ length new₀ → SearchedInto ts os w new₀ new₁ r → AdvancedSound ts os w new₀ new₁ r
searched_call ts os new₀ new₁ w r spells none enough found =
    let same = with_searched ts os w (length new₀) none enough in
    record {
      ends = found.ends ∙ (sym same);
      barred = λ no_round. absurd (omega (arith, found.asked));
      asked = λ zero_number. found.asked;
      next = λ some. found.next ∙ ap (λ (o : Outcome). (answer_with (lent_model ts os) o).model) (sym same);
      form = λ some. respelled ts os new₁ spells (omega (arith, enough, found.behind.size)) found.form;
      behind = found.behind;
      clean = found.clean;
      same = λ some. found.same;
    }

-- a call whose words are found to spell a sound model, and one whose words are not
pub spelled_call :
    (ts os new₀ new₁ : List ℕ) (w : ℕ) (r : Outcome) → spelled ts os ≡ true → AdvancedSound ts os w new₀ new₁ r →
    AdvancedInto ts os w new₀ new₁ r
unfolding outcome_into
spelled_call ts os new₀ new₁ w r spells called = rw spells called

unsound_outcome : (ts os : List ℕ) (w room : ℕ) → (spelled ts os ≡ false) ⊎ (sound (lent_model ts os) ≡ false) →
    (spelled ts os ≡ true) ⊎ (spelled ts os ≡ false) →
    outcome_into ts os w room ≡ barred_outcome 24
unfolding outcome_into barred
unsound_outcome ts os w room (inl none) known = rw none refl
unsound_outcome ts os w room (inr unsound) (inl spells) =
    rw spells (with_barred ts os w room 24 (rw unsound refl) (λ z. omega arith))
unsound_outcome ts os w room (inr unsound) (inr none) = rw none refl

pub unsound_call : (ts os new₀ : List ℕ) (w : ℕ) → spelled ts os && sound (lent_model ts os) ≡ false →
    AdvancedInto ts os w new₀ new₀ (barred_outcome 24)
unsound_call ts os new₀ w fails =
    called_barred (outcome_into ts os w (length new₀)) ts os new₀ 24
    (unsound_outcome ts os w (length new₀) (and_false_cases (spelled ts os) (sound (lent_model ts os)) fails)
    (either (spelled ts os)))
    (λ z. omega arith)

-- words that spell a model are there, and as many as a model may have parts
pub spelled_there : (ts os : List ℕ) → spelled ts os ≡ true →
    (2 ≤ length ts) × (2 ≤ length os) × (part_count ts ≤ most_parts)
spelled_there ts os spells =
    let had = spelled_room ts os spells in
    (omega (arith, had.table), omega (arith, had.state), spelled_few ts os spells)

-- the number that bars a call of a sound model, by the point that was read
pub bars_lent : (ts os : List ℕ) (now : Point) (w k : ℕ) → sound (lent_model ts os) ≡ true → now ≡ stored_point os →
    k ≡ barred_by true (tick now) w →
    k ≡ barred (lent_model ts os) w
unfolding model_in
bars_lent ts os now w k is_sound at e =
    barred_trimmed (model_in ts os) w k true (sym is_sound) (e ∙ ap (λ (p : Point). barred_by true (tick p) w) at)

-- where the words spell a model and enough are lent, a call ends as the machine's
and_not_true : (b : Bool) → b && not true ≡ false
and_not_true true = refl
and_not_true false = refl

pub into_machine : (ts os : List ℕ) (w room : ℕ) → spelled ts os ≡ true → state_words (part_count ts) ≤ room →
    outcome_into ts os w room ≡ outcome (lent_model ts os) w
unfolding outcome_into outcome_with unless_short
into_machine ts os w room spells enough =
    rw (spells, le-leb (state_words (part_count ts)) room enough, and_not_true (eqb (barred (lent_model ts os) w) 0))
    refl

-- request 6, "Each call keeps its answers, whatever outputs those records held before": two calls on the same words,
-- with as many lent for the new state, end alike whatever those held, and where a round was made the new states mean
-- the same model
pub called_anyway :
    (ts os : List ℕ) (w : ℕ) (new₀ new₁ new₀' new₁' : List ℕ) (r r' : Outcome) → length new₀ ≡ length new₀' →
    AdvancedInto ts os w new₀ new₁ r → AdvancedInto ts os w new₀' new₁' r' →
    (r ≡ r') × (0 < r.rounds → lent_model ts new₁ ≡ lent_model ts new₁')
called_anyway ts os w new₀ new₁ new₀' new₁' r r' e one other =
    let o : ℕ → Outcome = outcome_into ts os w in
    let ends : r ≡ r' = one.ends ∙ ap (λ (n : ℕ). (o n)) e ∙ sym other.ends in (
      ends,
      λ asked.
          one.next asked ∙ ap (λ (n : ℕ). (answer_with (lent_model ts os) (o n)).model) e ∙
          sym (other.next (subst (λ (v : Outcome). 0 < v.rounds) ends asked)),
    )

-- no answer depends on free words: calls on words that differ in free places alone end alike
pub called_free : (ts us os vs : List ℕ) (w room : ℕ) → SameButFree ts us os vs → ((x : ℕ) → slot os x ≤ any_word) →
    ((x : ℕ) → slot vs x ≤ any_word) → outcome_into us vs w room ≡ outcome_into ts os w room
unfolding outcome_into outcome_with
called_free ts us os vs w room same small small' =
    rw (
      same_spelled ts us os vs same small small',
      same_meant ts us os vs same,
      same_count ts us os vs same,
    )
    refl
