-- Four calls on lent words that form a chain, computed: a square of 4 ticks is loaded, and three of the calls want 9
-- of it. The first commits a step of 4, the last one of 0, where the output changes; between them a wanted step of 0
-- is refused with 20, and a call with too few words with 25. So what `AnyRoomChain` and `LentChain` ask can be met,
-- and what demand 3 asks of the words loaded. Assumes nothing.
use Prim.Native.Nat.{ℕ, zero, suc, ◌+◌, ◌-◌, ◌≤◌, ◌<◌}
use native.Mathlib.Omega.{arith}
use mathlib.Core.Path.{◌≡◌, refl, sym, subst, ◌∙◌}
use mathlib.Core.Bool.{true}
use mathlib.Core.Logic.{inl}
use mathlib.Core.List.{List, [], ◌∷◌, ◌++◌}
use lib.ListN.{replicate}
use lib.Seq.{get_or-drop}
use Rattle.machine.proofs.Computing.{computing}
use Rattle.machine.specs.Load.{load}
use Rattle.machine.specs.Advance.{barred}
use Rattle.words_codec.specs.Words.{tabulate, decode_signed}
use Rattle.words_codec.specs.Decoded.{decode_source, decode_side, decode_mark, decode_signal}
use Rattle.words_store.specs.Layout.{in_state, signal_field, signal_value_field}
use Rattle.words_store.specs.ModelIn.{slot, stored_spans, stored_component, stored_ratio, ordered_part, stored_state}
use Rattle.words_store.specs.ModelIn.{stored_part, stored_point, model_in}
use Rattle.words_store.specs.Form.{words_within, component_spelled, part_spelled, parts_spelled, spelled}
use Rattle.words_store.specs.Clean.{CleanOutput, CleanOrKept, CleanAfter}
use Rattle.words_store.specs.Updated.{state_spelled, SameBehind}
use Rattle.words_store.specs.StoreFrame.{behind_copied}
use Rattle.machine.specs.declared.model.Outcome.{Outcome}
use Rattle.advance_call.specs.Into.{lent_model, SearchedInto, AdvancedInto}
use Rattle.advance_call.specs.IntoLaws.{barred_call, short_call, searched_call, spelled_call}
use Rattle.advance_call.specs.EveryLent.{LentCall, next_state, LentChain}
use Rattle.advance_call.specs.AnyRoom.{Promised, AnyRoomChain, WholeLentList, with_room}
use Rattle.advance_call.proofs.AnyRoom.{room_alone, every_room_list}

-- the bytes of the table, and its words
abbrev pub square_bytes : List ℕ
square_bytes = 0x01 ∷ 0x00 ∷ 0x02 ∷ 0x03 ∷ 0xFF ∷ 5 ∷ 0 ∷ 0 ∷ 0 ∷ 6 ∷ 0 ∷ 0 ∷ 0 ∷ 4 ∷ 0 ∷ 0 ∷ 0 ∷ 0x05 ∷ []

abbrev pub square_words : List ℕ
square_words = 0 ∷ 1 ∷ 3 ∷ 255 ∷ 5 ∷ 6 ∷ 4 ∷ 0 ∷ replicate 8 0 ++ (0 ∷ 0 ∷ 1 ∷ 0 ∷ [])

-- the words of a state at the point (t, n) with the output v, and those that follow them
abbrev pub state_with : ℕ → ℕ → ℕ → List ℕ → List ℕ
state_with t n v rest = t ∷ n ∷ t ∷ 0 ∷ 0 ∷ 0 ∷ 0 ∷ 1 ∷ v ∷ 0 ∷ 0 ∷ rest

-- the states: as loaded, after the first call, and after the last; and the words lent for a new one, in which a word
-- follows
abbrev pub at_start : List ℕ
at_start = state_with 0 0 5 []

abbrev pub at_the_edge : List ℕ
at_the_edge = state_with 4 0 5 (7 ∷ [])

abbrev pub after_the_edge : List ℕ
after_the_edge = state_with 4 1 6 (7 ∷ [])

abbrev pub any_words : List ℕ
any_words = replicate 11 9 ++ (7 ∷ [])

-- the four calls
abbrev pub stepped_call : LentCall
stepped_call =
    record {
      state = at_start;
      wanted = 9;
      before = any_words;
      after = at_the_edge;
      result = record { number = 0; step = 4; rounds = 2; revisions = 0; ceiling = 9 };
    }

abbrev pub unwanted_call : LentCall
unwanted_call =
    record {
      state = at_the_edge;
      wanted = 0;
      before = any_words;
      after = any_words;
      result = record { number = 20; step = 0; rounds = 0; revisions = 0; ceiling = 0 };
    }

abbrev pub cramped_call : LentCall
cramped_call =
    record {
      state = at_the_edge;
      wanted = 9;
      before = replicate 10 9;
      after = replicate 10 9;
      result = record { number = 25; step = 0; rounds = 0; revisions = 0; ceiling = 0 };
    }

abbrev pub turned_call : LentCall
turned_call =
    record {
      state = at_the_edge;
      wanted = 9;
      before = any_words;
      after = after_the_edge;
      result = record { number = 0; step = 0; rounds = 2; revisions = 0; ceiling = 9 };
    }

-- what computes of the words: codes, fields, and the tests of their form
unfoldable codes_computing : Unit {0}
unfolding tabulate decode_signed decode_source decode_side decode_mark decode_signal
codes_computing = tt

unfoldable form_computing : Unit {0}
unfolding words_within component_spelled part_spelled parts_spelled spelled
form_computing = tt

unfoldable fields_computing : Unit {0}
unfolding stored_spans stored_component stored_ratio ordered_part stored_state stored_part stored_point model_in
fields_computing = tt

unfoldable words_computing : Unit {0}
unfolding computing codes_computing form_computing fields_computing
words_computing = tt

-- the bytes load, the words of the table and the first state mean the model loaded, and both states spell a model
pub square_loads : (load square_bytes).number ≡ 0
unfolding words_computing
square_loads = refl

pub square_meant : lent_model square_words at_start ≡ (load square_bytes).model
unfolding words_computing
square_meant = refl

pub start_spelled : spelled square_words at_start ≡ true
unfolding words_computing
start_spelled = refl

edge_spelled : spelled square_words at_the_edge ≡ true
unfolding words_computing
edge_spelled = refl

-- a new state in the words lent: the word that follows it is kept
past_state : (t n v x : ℕ) → 11 ≤ x → slot (state_with t n v (7 ∷ [])) x ≡ slot any_words x
past_state t n v x far =
    let b = state_with t n v (7 ∷ []) in
    let same : 11 + (x - 11) ≡ x = omega arith in
    subst (λ (z : ℕ). slot b z ≡ slot any_words z) same
    (sym (get_or-drop 11 b (x - 11) 0) ∙ get_or-drop 11 any_words (x - 11) 0)

kept_after : (t n v : ℕ) → ((j : ℕ) → j < 1 → state_spelled (state_with t n v (7 ∷ [])) j ≡ true) →
    SameBehind 1 any_words (state_with t n v (7 ∷ []))
kept_after t n v form =
    let b = state_with t n v (7 ∷ []) in
    behind_copied 1 b any_words b (record { size = refl; front = λ x low. refl; behind = past_state t n v }) form

-- the two states that are written are within their limits
edge_form : (j : ℕ) → j < 1 → state_spelled at_the_edge j ≡ true
unfolding words_computing
edge_form zero low = refl
edge_form (suc j) low = absurd (omega arith)

turned_form : (j : ℕ) → j < 1 → state_spelled after_the_edge j ≡ true
unfolding words_computing
turned_form zero low = refl
turned_form (suc j) low = absurd (omega arith)

-- their free words are 0: the held signal is absent with the value 0, and the output is there
held_clean : (t n v : ℕ) (os : List ℕ) (j : ℕ) → j < 1 →
    CleanOrKept os (state_with t n v (7 ∷ [])) (in_state j signal_field) (in_state j signal_value_field)
held_clean t n v os zero low = inl (λ absent. refl)
held_clean t n v os (suc j) low = absurd (omega arith)

output_clean : (t n v j : ℕ) → j < 1 → CleanOutput (state_with t n v (7 ∷ [])) j
output_clean t n v zero low = λ absent. absurd (absent refl)
output_clean t n v (suc j) low = absurd (omega arith)

written_clean : (t n v : ℕ) (os : List ℕ) → CleanAfter 1 os (state_with t n v (7 ∷ []))
written_clean t n v os = record { signals = held_clean t n v os; outputs = output_clean t n v }

-- what the search promises of a call on the table that wants 9, by the new words that it left
abbrev FoundIn : List ℕ → List ℕ → Outcome → Type 0
FoundIn os new v = SearchedInto square_words os 9 any_words new v

stepped_search : FoundIn at_start at_the_edge stepped_call.result
unfolding words_computing
stepped_search =
    record {
      ends = refl;
      asked = omega arith;
      next = refl;
      form = edge_form;
      behind = kept_after 4 0 5 edge_form;
      clean = λ none. written_clean 4 0 5 at_start;
      same = λ some. absurd (some refl);
    }

turned_search : FoundIn at_the_edge after_the_edge turned_call.result
unfolding words_computing
turned_search =
    record {
      ends = refl;
      asked = omega arith;
      next = refl;
      form = turned_form;
      behind = kept_after 4 1 6 turned_form;
      clean = λ none. written_clean 4 1 6 at_the_edge;
      same = λ some. absurd (some refl);
    }

-- nothing bars the calls that want 9, and 20 bars the one that wants 0
start_free : barred (lent_model square_words at_start) 9 ≡ 0
unfolding words_computing
start_free = refl

edge_free : barred (lent_model square_words at_the_edge) 9 ≡ 0
unfolding words_computing
edge_free = refl

unwanted_barred : 20 ≡ barred (lent_model square_words at_the_edge) 0
unfolding words_computing
unwanted_barred = refl

-- each call keeps what a call on words promises; one that commits does, where the search does
committed_kept :
    (os new : List ℕ) (v : Outcome) → spelled square_words os ≡ true → barred (lent_model square_words os) 9 ≡ 0 →
    FoundIn os new v → AdvancedInto square_words os 9 any_words new v
committed_kept os new v spells free found =
    spelled_call square_words os any_words new 9 v spells
    (searched_call square_words os any_words new 9 v spells free (omega arith) found)

pub stepped_kept : Promised square_words stepped_call
stepped_kept = committed_kept at_start at_the_edge _ start_spelled start_free stepped_search

unwanted_kept : Promised square_words unwanted_call
unwanted_kept =
    spelled_call square_words at_the_edge any_words any_words 0 _ edge_spelled
    (barred_call square_words at_the_edge any_words 0 20 unwanted_barred (λ e. omega arith))

cramped_kept : Promised square_words cramped_call
cramped_kept =
    spelled_call square_words at_the_edge (replicate 10 9) (replicate 10 9) 9 _ edge_spelled
    (short_call square_words at_the_edge (replicate 10 9) 9 edge_free (omega arith))

turned_kept : Promised square_words turned_call
turned_kept = committed_kept at_the_edge after_the_edge _ edge_spelled edge_free turned_search

-- the calls form a chain of any room
abbrev pub square_calls : List LentCall
square_calls = stepped_call ∷ unwanted_call ∷ cramped_call ∷ turned_call ∷ []

pub chained_words : AnyRoomChain square_words at_start square_calls
unfolding next_state
chained_words =
    (refl, stepped_kept, (refl, unwanted_kept, (refl, cramped_kept, (refl, turned_kept, tt))))

-- and those of them that had room a chain
pub chained_with_room : LentChain square_words at_start (with_room square_words square_calls)
chained_with_room = (room_alone square_words at_start square_calls start_spelled chained_words).chain

-- so demand 3 holds of them
pub square_whole : WholeLentList square_words at_start square_calls
square_whole =
    every_room_list square_bytes square_words at_start square_loads square_meant start_spelled square_calls
    chained_words
