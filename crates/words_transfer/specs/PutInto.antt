-- A model by value, put into words whatever they are: the number of that, and what the words hold then. Assumes
-- nothing.
use Rattle.std.specs.Prelude.{ℕ, ◌≤◌, ◌<◌, ◌≡◌, refl, cond, ◌&&◌, List, leb, length}
use Rattle.std.proofs.Common.{arith, le-leb}
use Rattle.std.proofs.lemmas.Bool.{lt-leb}
use Rattle.machine.specs.declared.model.Model.{Model}
use Rattle.machine.specs.Model.{most_parts}
use Rattle.words_store.specs.ModelIn.{table_words, state_words}
use Rattle.words_transfer.specs.ModelPut.{KeptBehind, ModelPut}

-- the number of putting a model of so many parts into so many words of a table and of a state: 24 where it counts more
-- parts than a model may have, else 25 where the words of either are too few
unfoldable pub put_number : (count table state : ℕ) → ℕ
put_number count table state =
    cond (leb count most_parts) (cond (leb (table_words count) table && leb (state_words count) state) 0 25) 24

-- a model, the words of a table before and after it was put, a and b, and of a state, s and t: where the number is 0
-- the words hold the model, and those after it are kept; where it is not, all words are kept
pub record PutInto (m : Model) (a b s t : List ℕ) (number : ℕ) : Type 0 where
  pub is : number ≡ put_number m.count (length a) (length s)
  pub put : number ≡ 0 → ModelPut m b t
  pub behind : number ≡ 0 → KeptBehind m.count a b s t
  pub kept : (number ≡ 0 → ⊥) → (b ≡ a) × (t ≡ s)

-- a call that is refused with a number keeps all words
refused_put : (m : Model) (a s : List ℕ) (number : ℕ) → (number ≡ 0 → ⊥) →
    number ≡ put_number m.count (length a) (length s) →
    PutInto m a a s s number
refused_put m a s number some is =
    record {
      is = is;
      put = λ none. absurd (some none);
      behind = λ none. absurd (some none);
      kept = λ other. (refl, refl);
    }

-- so does one of too many parts, one with too few words of a table, and one with too few of a state
pub too_many_put : (m : Model) (a s : List ℕ) → most_parts < m.count → PutInto m a a s s 24
unfolding put_number
too_many_put m a s many = refused_put m a s 24 (λ none. omega arith) (rw (lt-leb m.count most_parts many) refl)

pub table_short_put : (m : Model) (a s : List ℕ) → m.count ≤ most_parts → length a < table_words m.count →
    PutInto m a a s s 25
unfolding put_number
table_short_put m a s few short =
    refused_put m a s 25 (λ none. omega arith)
    (rw (le-leb m.count most_parts few, lt-leb (table_words m.count) (length a) short) refl)

pub state_short_put : (m : Model) (a s : List ℕ) → m.count ≤ most_parts → table_words m.count ≤ length a →
    length s < state_words m.count → PutInto m a a s s 25
unfolding put_number
state_short_put m a s few room short =
    refused_put m a s 25 (λ none. omega arith)
    (rw (
      le-leb m.count most_parts few,
      le-leb (table_words m.count) (length a) room,
      lt-leb (state_words m.count) (length s) short,
    )
    refl)

-- and where there is room the model is put
pub whole_put : (m : Model) (a b s t : List ℕ) → m.count ≤ most_parts → table_words m.count ≤ length a →
    state_words m.count ≤ length s → ModelPut m b t → KeptBehind m.count a b s t → PutInto m a b s t 0
unfolding put_number
whole_put m a b s t few room spare put behind =
    record {
      is =
          rw (
            le-leb m.count most_parts few,
            le-leb (table_words m.count) (length a) room,
            le-leb (state_words m.count) (length s) spare,
          )
          refl;
      put = λ none. put;
      behind = λ none. behind;
      kept = λ other. absurd (other refl);
    }
