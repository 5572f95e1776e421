-- The words of a table and of a state, and the model that they mean, whatever words they are. A table's header is the
-- magnitude and the count of parts. A part's record in it has what the table fixes of the part, its ratio, and the
-- number at its place of the part order. A state's header is t and n. `specs/Layout.antt` has the places.
--
-- A word that is not there is 0, a number is taken modulo its field's width, and a code that no case has means the
-- first case. Words of which that is so spell no model, which `specs/Form.antt` tests. Assumes nothing.
use Rattle.std.specs.Prelude.{ℕ, ◌+◌, ◌*◌, ◌%◌, ◌≤◌, List, length, get_or}
use Rattle.machine.specs.declared.time.Point.{Point}
use Rattle.machine.specs.declared.part.Component.{Component}
use Rattle.machine.specs.declared.part.State.{State}
use Rattle.machine.specs.declared.part.Part.{Part}
use Rattle.machine.specs.declared.model.Model.{Model}
use Rattle.machine.specs.Kind.{kind_of}
use Rattle.machine.specs.Model.{most_spans}
use Rattle.words_codec.specs.Words.{tabulate, decode_signed}
use Rattle.words_codec.specs.Decoded.{decode_source, decode_side, decode_mark, decode_signal}
use Rattle.words_store.specs.Layout.{header, table_record, state_record, in_table, in_state}
use Rattle.words_store.specs.Layout.{kind_field, preference_field, a_field, b_field, p_field, span_count_field}
use Rattle.words_store.specs.Layout.{spans_field, port0_field, port1_field, ratio_field, order_field}
use Rattle.words_store.specs.Layout.{local_field, held_field, speed_field, signal_field, signal_value_field}
use Rattle.words_store.specs.Layout.{output_field, output_value_field, side_field, mark_field}

-- the word with the number k, 0 where there is none
abbrev pub slot : List ℕ → ℕ → ℕ
slot ws k = get_or ws k 0

-- how many parts a table has, and how many words it and a state of it have then
abbrev pub part_count : List ℕ → ℕ
part_count ts = slot ts 1

abbrev pub table_words : ℕ → ℕ
table_words n = table_record * n + header

abbrev pub state_words : ℕ → ℕ
state_words n = state_record * n + header

-- the eight places for spans of part i
unfoldable pub stored_spans : List ℕ → ℕ → List ℕ
stored_spans ts i = tabulate (λ j. slot ts (in_table i spans_field + j) % 4294967296) most_spans

-- what the table fixes of part i
unfoldable pub stored_component : List ℕ → ℕ → Component
stored_component ts i =
    record {
      kind = kind_of (slot ts (in_table i kind_field));
      preference = slot ts (in_table i preference_field) % 256;
      a = decode_signed (slot ts (in_table i a_field));
      b = decode_signed (slot ts (in_table i b_field));
      p = slot ts (in_table i p_field) % 4294967296;
      span_count = slot ts (in_table i span_count_field);
      spans = stored_spans ts i;
      port0 = decode_source (slot ts (in_table i port0_field));
      port1 = decode_source (slot ts (in_table i port1_field));
    }

-- its ratio, and the number at place i of the part order
unfoldable pub stored_ratio : List ℕ → ℕ → ℕ
stored_ratio ts i = slot ts (in_table i ratio_field)

unfoldable pub ordered_part : List ℕ → ℕ → ℕ
ordered_part ts i = slot ts (in_table i order_field) % 65536

-- the state of part i
unfoldable pub stored_state : List ℕ → ℕ → State
stored_state ss i =
    record {
      local = record { 0 = slot ss (in_state i local_field) };
      held = decode_signed (slot ss (in_state i held_field));
      speed = decode_signed (slot ss (in_state i speed_field));
      signal = decode_signal (slot ss (in_state i signal_field)) (slot ss (in_state i signal_value_field));
      output = decode_signal (slot ss (in_state i output_field)) (slot ss (in_state i output_value_field));
      side = decode_side (slot ss (in_state i side_field));
      mark = decode_mark (slot ss (in_state i mark_field));
    }

-- the part i
unfoldable pub stored_part : List ℕ → List ℕ → ℕ → Part
stored_part ts ss i = record { component = stored_component ts i; ratio = stored_ratio ts i; state = stored_state ss i }

-- the point
unfoldable pub stored_point : List ℕ → Point
stored_point ss = record { t = record { 0 = slot ss 0 }; n = slot ss 1 }

-- the model, with as many places as it has parts
unfoldable pub model_in : List ℕ → List ℕ → Model
model_in ts ss =
    record {
      magnitude = slot ts 0 % 256;
      count = part_count ts;
      order = tabulate (ordered_part ts) (part_count ts);
      point = stored_point ss;
      parts = tabulate (stored_part ts ss) (part_count ts);
    }

-- all words of the table and of the state are there
pub record WordsThere (ts ss : List ℕ) : Type 0 where
  pub table : table_words (part_count ts) ≤ length ts
  pub state : state_words (part_count ts) ≤ length ss
