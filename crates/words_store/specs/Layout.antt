-- Where each word of a table and of a state is. Both have a header of two words, then a record for each part. A field
-- is numbered from the header on, so that the first field of a record has the number 2. Assumes nothing.
use Rattle.std.specs.Prelude.{ℕ, ◌+◌, ◌*◌}

-- how many words come before the records, and how many words a record has in a table and in a state
abbrev pub header : ℕ
header = 2

abbrev pub table_record : ℕ
table_record = 18

abbrev pub state_record : ℕ
state_record = 9

-- the place of field f of part i in a table, and in a state
abbrev pub in_table : ℕ → ℕ → ℕ
in_table i f = table_record * i + f

abbrev pub in_state : ℕ → ℕ → ℕ
in_state i f = state_record * i + f

-- the fields of a record in a table: what the table fixes of the part,
abbrev pub kind_field : ℕ
kind_field = 2

abbrev pub preference_field : ℕ
preference_field = 3

abbrev pub a_field : ℕ
a_field = 4

abbrev pub b_field : ℕ
b_field = 5

abbrev pub p_field : ℕ
p_field = 6

abbrev pub span_count_field : ℕ
span_count_field = 7

-- the first of eight spans,
abbrev pub spans_field : ℕ
spans_field = 8

abbrev pub port0_field : ℕ
port0_field = 16

abbrev pub port1_field : ℕ
port1_field = 17

-- its ratio, and the number at its place of the part order
abbrev pub ratio_field : ℕ
ratio_field = 18

abbrev pub order_field : ℕ
order_field = 19

-- the fields of a record in a state; a signal has a code and a value
abbrev pub local_field : ℕ
local_field = 2

abbrev pub held_field : ℕ
held_field = 3

abbrev pub speed_field : ℕ
speed_field = 4

abbrev pub signal_field : ℕ
signal_field = 5

abbrev pub signal_value_field : ℕ
signal_value_field = 6

abbrev pub output_field : ℕ
output_field = 7

abbrev pub output_value_field : ℕ
output_value_field = 8

abbrev pub side_field : ℕ
side_field = 9

abbrev pub mark_field : ℕ
mark_field = 10
