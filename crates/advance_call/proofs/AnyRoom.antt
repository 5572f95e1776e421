-- Demand 3 of every list of calls on lent words, however many words each was lent. The idea: a call that was lent too
-- few is refused, writes no word, and hands on its state, so the calls that had room are a chain.
use Rattle.std.specs.Prelude.{ℕ, ◌≤◌, ◌<◌, ◌≡◌, refl, true, false, ◌⊎◌, eqb, length}
use Rattle.std.proofs.Common.{arith, sym, ◌∙◌, true≢false, inl, inr, eq-eqb, ne_eqb, leb-true, leb-false}
use Rattle.std.proofs.Math.Decide.{ℕ_discrete}
use Rattle.std.proofs.Math.Path.{ap, subst}
use mathlib.Core.List.{List, [], ◌∷◌}
use Rattle.machine.specs.declared.model.Model.{Model}
use Rattle.machine.specs.Lists.{selected}
use Rattle.machine.specs.Load.{load}
use Rattle.machine.specs.Advance.{barred, barred_outcome}
use Rattle.machine.specs.declared.model.Outcome.{Outcome}
use Rattle.laws.specs.Bools.{either, cond_true, cond_false}
use Rattle.words_store.specs.ModelIn.{part_count, state_words}
use Rattle.words_store.specs.Form.{spelled}
use Rattle.advance_call.specs.Into.{lent_model, outcome_into}
use Rattle.advance_call.specs.IntoLaws.{with_barred, with_short}
use Rattle.advance_call.specs.EveryLent.{LentCall, next_state, LentChain, spells_on}
use Rattle.advance_call.specs.EveryLent.{every_lent_list}
use Rattle.advance_call.specs.AnyRoom.{Promised, AnyRoomChain, last_state, has_room, with_room, short_number}
use Rattle.advance_call.specs.AnyRoom.{ShortCall, RoomAlone, WholeLentList}

-- how a call ends that was lent too few words
short_outcome : (ts os : List ℕ) (w room : ℕ) → spelled ts os ≡ true → room < state_words (part_count ts) →
    Dec (barred (lent_model ts os) w ≡ 0) →
    outcome_into ts os w room ≡ barred_outcome (short_number (lent_model ts os) w)
unfolding outcome_into short_number
short_outcome ts os w room spells short (yes free) =
    rw (spells, eq-eqb (barred (lent_model ts os) w) 0 free) (with_short ts os w room free short)
short_outcome ts os w room spells short (no other) =
    rw (spells, ne_eqb (barred (lent_model ts os) w) 0 other)
    (with_barred ts os w room (barred (lent_model ts os) w) refl other)

-- its number is not 0
short_refused : (m : Model) (w : ℕ) → Dec (barred m w ≡ 0) → short_number m w ≡ 0 → ⊥
unfolding short_number
short_refused m w (yes free) e = let h : ◌≡◌ {A = ℕ} 25 0 = rw (eq-eqb (barred m w) 0 free) at e in omega arith
short_refused m w (no other) e = other (rw (ne_eqb (barred m w) 0 other) at e)

-- so it is refused, and writes nothing
short_ends : (ts : List ℕ) (c : LentCall) → spelled ts c.state ≡ true → has_room ts c ≡ false → Promised ts c →
    ShortCall ts c
unfolding has_room next_state
short_ends ts c spells none called =
    let m = lent_model ts c.state in
    let bars = ℕ_discrete (barred m c.wanted) 0 in
    let few = leb-false (state_words (part_count ts)) (length c.before) none in
    let ends =
    called.ends ∙ (short_outcome ts c.state c.wanted (length c.before) spells few bars) in
    let number = ap (λ (v : Outcome). v.number) ends in
    let other : eqb c.result.number 0 ≡ false =
    ne_eqb c.result.number 0 (λ e. short_refused m c.wanted bars (sym number ∙ e)) in
    record {
      ends = ends;
      kept = called.barred (ap (λ (v : Outcome). v.rounds) ends);
      handed = cond_false (eqb c.result.number 0) c.after c.state other;
    }

-- enough words were lent to a call that had room
enough_words : (ts : List ℕ) (c : LentCall) → has_room ts c ≡ true → state_words (part_count ts) ≤ length c.before
unfolding has_room
enough_words ts c room = leb-true (state_words (part_count ts)) (length c.before) room

-- the first call of a list, by whether it had room, with what is claimed of those that follow
module _
    (ts s : List ℕ)
    (c : LentCall)
    (cs : List LentCall)
    (spells : spelled ts c.state ≡ true)
    (given : c.state ≡ s)
    (called : Promised ts c)
    (rest : spelled ts (next_state c) ≡ true → RoomAlone ts (next_state c) cs) where
  roomy_first : has_room ts c ≡ true → RoomAlone ts s (c ∷ cs)
  unfolding selected last_state
  roomy_first room =
      let alone = cond_true (has_room ts c) (c ∷ with_room ts cs) (with_room ts cs) room in
      let enough = enough_words ts c room in
      let later = rest (spells_on ts c spells enough called (either (eqb c.result.number 0))) in
      record {
        chain = subst (LentChain ts s) (sym alone) (given, enough, called, later.chain);
        last = ap (last_state s) alone ∙ later.last;
        short = (λ none. absurd (true≢false (sym room ∙ none)), later.short);
      }

  short_first : has_room ts c ≡ false → RoomAlone ts s (c ∷ cs)
  unfolding selected last_state
  short_first none =
      let alone = cond_false (has_room ts c) (c ∷ with_room ts cs) (with_room ts cs) none in
      let ended = short_ends ts c spells none called in
      let same : next_state c ≡ s = ended.handed ∙ given in
      let later = rest (ap (spelled ts) ended.handed ∙ spells) in
      let chain : LentChain ts s (with_room ts cs) =
      subst (λ (z : List ℕ). LentChain ts z (with_room ts cs)) same later.chain in
      record {
        chain = subst (LentChain ts s) (sym alone) chain;
        last = ap (last_state s) alone ∙ ap (λ (z : List ℕ). last_state z (with_room ts cs)) (sym same) ∙ later.last;
        short = (λ again. ended, later.short);
      }

  pub room_first : (has_room ts c ≡ true) ⊎ (has_room ts c ≡ false) → RoomAlone ts s (c ∷ cs)
  room_first (inl room) = roomy_first room
  room_first (inr none) = short_first none

-- the claim holds of every list of calls from words that spell a model
pub room_alone : (ts s : List ℕ) (cs : List LentCall) → spelled ts s ≡ true → AnyRoomChain ts s cs → RoomAlone ts s cs
unfolding selected last_state
room_alone ts s [] spells chain = record { chain = tt; last = refl; short = tt }
room_alone ts s (c ∷ cs) spells chain =
    room_first ts s c cs (ap (spelled ts) chain.0 ∙ spells) chain.0 chain.1
    (λ there. room_alone ts (next_state c) cs there chain.2) (either (has_room ts c))

-- whatever bytes were loaded into words, whatever steps were wanted then, and however many words were lent for each
pub every_room_list :
    (bs ts s : List ℕ) → (load bs).number ≡ 0 → lent_model ts s ≡ (load bs).model → spelled ts s ≡ true →
    (cs : List LentCall) → AnyRoomChain ts s cs → WholeLentList ts s cs
every_room_list bs ts s accepted is spells cs chain =
    let alone = room_alone ts s cs spells chain in
    record { whole = every_lent_list bs ts s accepted is spells (with_room ts cs) alone.chain; alone = alone }
