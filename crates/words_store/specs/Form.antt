-- Whether words spell a model: the table's and the state's words are all there, each code is one that a case has, and
-- each number fits its field. Free are the words after the model's, the value's word of an absent signal, and the span
-- words after a part's count of spans; `specs/Free.antt` names them. Assumes nothing.
use Rattle.std.specs.Prelude.{ℕ, zero, suc, ◌+◌, min, Bool, true, ◌&&◌, List, [], ◌∷◌, length, replicate, leb}
use Rattle.machine.specs.Model.{most_parts, most_spans}
use Rattle.words_store.specs.Layout.{in_table, span_count_field, spans_field, port0_field}
use Rattle.words_store.specs.ModelIn.{slot, part_count, table_words, state_words}

-- the largest word, and the largest number of 32 bits
abbrev pub any_word : ℕ
any_word = 18446744073709551615

abbrev pub any_32 : ℕ
any_32 = 4294967295

-- the largest numbers in the first words of a part: its kind, preference, a, b, p and count of spans
abbrev pub operand_limits : List ℕ
operand_limits = 12 ∷ 255 ∷ any_word ∷ any_word ∷ any_32 ∷ any_word ∷ []

-- how many of its span words are in use, by that count: never more than there are places (a model that counts more is
-- not sound)
abbrev pub spans_used : ℕ → ℕ
spans_used count = min count most_spans

-- in the span words, of which only those in use are bounded
abbrev pub span_limits : ℕ → List ℕ
span_limits count = replicate (spans_used count) any_32

-- and in the last ones: ports, ratio and place of the order
abbrev pub wire_limits : List ℕ
wire_limits = 65536 ∷ 65536 ∷ any_word ∷ 65535 ∷ []

-- and in those of its state: local count, held number and speed; the held signal and the output, each a code and a
-- value; side and mark
abbrev pub state_limits : List ℕ
state_limits = any_word ∷ any_word ∷ any_word ∷ 1 ∷ any_word ∷ 1 ∷ any_word ∷ 2 ∷ 2 ∷ []

-- the words from k on are at most the limits
unfoldable pub words_within : List ℕ → ℕ → List ℕ → Bool
words_within ws k [] = true
words_within ws k (l ∷ ls) = leb (slot ws k) l && words_within ws (k + 1) ls

-- the span words of part i that are in use
abbrev pub spans_spelled : List ℕ → ℕ → Bool
spans_spelled ts i = words_within ts (in_table i spans_field) (span_limits (slot ts (in_table i span_count_field)))

-- the record of part i in the table
unfoldable pub component_spelled : List ℕ → ℕ → Bool
component_spelled ts i =
    words_within ts (table_words i) operand_limits && spans_spelled ts i &&
    words_within ts (in_table i port0_field) wire_limits

-- both records of part i
unfoldable pub part_spelled : List ℕ → List ℕ → ℕ → Bool
part_spelled ts ss i = component_spelled ts i && words_within ss (state_words i) state_limits

-- those of the first n parts
unfoldable pub parts_spelled : List ℕ → List ℕ → ℕ → Bool
parts_spelled ts ss zero = true
parts_spelled ts ss (suc n) = parts_spelled ts ss n && part_spelled ts ss n

-- the words spell a model
unfoldable pub spelled : List ℕ → List ℕ → Bool
spelled ts ss =
    leb 2 (length ts) && leb (slot ts 0) 255 && leb (part_count ts) most_parts &&
    leb (table_words (part_count ts)) (length ts) &&
    leb (state_words (part_count ts)) (length ss) &&
    parts_spelled ts ss (part_count ts)
