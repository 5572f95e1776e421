-- What a save on lent words promises, for every argument, and what follows for a caller. Assumes nothing.
use Rattle.std.specs.Prelude.{ℕ, ◌≡◌, refl, true, false, cond, ◌&&◌, List}
use Rattle.machine.specs.Answers.{Written}
use Rattle.machine.specs.Model.{trimmed}
use Rattle.machine.specs.Sound.{sound}
use Rattle.machine.specs.Writing.{WrittenAs}
use Rattle.machine.specs.Save.{saved_bytes, save_refusal}
use Rattle.laws.specs.Bools.{cond_either}
use Rattle.words_store.specs.ModelIn.{model_in}
use Rattle.words_store.specs.Form.{spelled}

-- what refuses a save of words before 25 is tested: 24, if they spell no model, or one that is not sound
unfoldable pub lent_refusal : List ℕ → List ℕ → ℕ
lent_refusal ts ss = cond (spelled ts ss) (save_refusal (trimmed (model_in ts ss))) 24

-- the words of a table and of a state, a buffer before and after a save of them, and its answer
abbrev pub SavedInto : (ts ss before after : List ℕ) → Written → Type 0
SavedInto ts ss before after w = WrittenAs (lent_refusal ts ss) (saved_bytes (trimmed (model_in ts ss))) before after w

-- words of a sound model are not refused, and others are
pub sound_saved : (ts ss : List ℕ) → spelled ts ss ≡ true → sound (trimmed (model_in ts ss)) ≡ true →
    lent_refusal ts ss ≡ 0
unfolding lent_refusal save_refusal
sound_saved ts ss spells sounds = rw (spells, sounds) refl

pub unsound_refused : (ts ss : List ℕ) → (spelled ts ss && sound (trimmed (model_in ts ss))) ≡ false →
    lent_refusal ts ss ≡ 24
unfolding lent_refusal save_refusal
unsound_refused ts ss none = cond_either (spelled ts ss) (sound (trimmed (model_in ts ss))) 0 24 none
