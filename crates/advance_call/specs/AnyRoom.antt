-- Demand 3 of every list of calls on lent words, however many words each was lent. `LentChain` (EveryLent.antt) asks
-- enough words of each call. Here a call may be lent too few: it is refused, writes no word, and hands on its state.
-- So the calls that had room are a `LentChain` which leads to the same state, and demand 3 holds of them
-- (`proofs/AnyRoom.antt`). Assumes nothing.
use Rattle.std.specs.Prelude.{ℕ, ◌≡◌, Bool, false, cond, eqb, leb, length}
use mathlib.Core.List.{List, [], ◌∷◌}
use Rattle.machine.specs.declared.model.Model.{Model}
use Rattle.machine.specs.Lists.{All, selected}
use Rattle.machine.specs.Advance.{barred, barred_outcome}
use Rattle.machine.specs.WholeList.{WholeList}
use Rattle.words_store.specs.ModelIn.{part_count, state_words, model_in}
use Rattle.advance_call.specs.Into.{lent_model, AdvancedInto}
use Rattle.advance_call.specs.EveryLent.{LentCall, next_state, LentChain, machine_calls_of}

-- a call keeps what a call on the words of the table ts promises
abbrev pub Promised : List ℕ → LentCall → Type 0
Promised ts c = AdvancedInto ts c.state c.wanted c.before c.after c.result

-- a chain of calls on the table ts from the state s, with however many words lent for each new state
abbrev pub AnyRoomChain : List ℕ → List ℕ → List LentCall → Type 0
AnyRoomChain ts s [] = Unit {0}
AnyRoomChain ts s (c ∷ cs) =
    (c.state ≡ s) × Promised ts c × AnyRoomChain ts (next_state c) cs

-- the state that a list hands on at its end, s where there is no call
unfoldable pub last_state : List ℕ → List LentCall → List ℕ
last_state s [] = s
last_state s (c ∷ cs) = last_state (next_state c) cs

-- whether a call was lent enough words for a state of the table, and the calls that were
unfoldable pub has_room : List ℕ → LentCall → Bool
has_room ts c = leb (state_words (part_count ts)) (length c.before)

abbrev pub with_room : List ℕ → List LentCall → List LentCall
with_room ts cs = selected (has_room ts) cs

-- the number of a call that was not: 24, 20 or 23 where one of them bars it, else 25
unfoldable pub short_number : Model → ℕ → ℕ
short_number m w = cond (eqb (barred m w) 0) 25 (barred m w)

-- how such a call ends: with that number, step 0 and counts of 0; no word is written, and the next call is given its
-- state
pub record ShortCall (ts : List ℕ) (c : LentCall) : Type 0 where
  pub ends : c.result ≡ (barred_outcome (short_number (lent_model ts c.state) c.wanted))
  pub kept : c.after ≡ c.before
  pub handed : next_state c ≡ c.state

-- what is claimed of a list from the state s: the calls that had room are a chain, and lead to the state that the list
-- leads to, word for word; and each call that had none ended as above
pub record RoomAlone (ts s : List ℕ) (cs : List LentCall) : Type 0 where
  pub chain : LentChain ts s (with_room ts cs)
  pub last : last_state s (with_room ts cs) ≡ last_state s cs
  pub short : All (λ (c : LentCall). has_room ts c ≡ false → ShortCall ts c) cs

-- demand 3 of the whole list: it holds of the calls that had room, they lead to the list's last state, and the others
-- were refused and wrote nothing
pub record WholeLentList (ts s : List ℕ) (cs : List LentCall) : Type 0 where
  pub whole : WholeList (model_in ts s) (machine_calls_of ts (with_room ts cs))
  pub alone : RoomAlone ts s cs
