-- Document 01, "The table's bytes", refusal by refusal: each number with a small stream and its position, each
-- operand's range at both ends, and the order of the refusals where a command has two faults. Played and Rehearsals
-- have the empty stream, a loop of one part and the second Begin. Assumes nothing.
use Rattle.std.specs.Prelude.{ℕ, zero, suc, ◌≡◌, List, [], ◌∷◌, ◌++◌, map, take, pos, negsuc}
use Rattle.machine.specs.declared.part.Kind.TheVariants.{Square, Drive}
use Rattle.machine.specs.declared.part.Source.TheVariants.{Unwired, From}
use Rattle.machine.specs.Table.{table_of}
use Rattle.machine.specs.Load.{load, refused}

-- operands of four bytes: 0, 1, 10^9 and one above it, −10^9 and one below it
abbrev pub bytes_0 : List ℕ
bytes_0 = 0x00 ∷ 0x00 ∷ 0x00 ∷ 0x00 ∷ []

abbrev pub bytes_1 : List ℕ
bytes_1 = 0x01 ∷ 0x00 ∷ 0x00 ∷ 0x00 ∷ []

abbrev pub bytes_highest : List ℕ
bytes_highest = 0x00 ∷ 0xCA ∷ 0x9A ∷ 0x3B ∷ []

abbrev pub bytes_above : List ℕ
bytes_above = 0x01 ∷ 0xCA ∷ 0x9A ∷ 0x3B ∷ []

abbrev pub bytes_lowest : List ℕ
bytes_lowest = 0x00 ∷ 0x36 ∷ 0x65 ∷ 0xC4 ∷ []

abbrev pub bytes_below : List ℕ
bytes_below = 0xFF ∷ 0x35 ∷ 0x65 ∷ 0xC4 ∷ []

-- the operands at the ends of the values, and of 1 to 10^9, with one beyond each
abbrev pub value_ends : List (List ℕ)
value_ends = bytes_highest ∷ bytes_above ∷ bytes_lowest ∷ bytes_below ∷ []

abbrev pub count_ends : List (List ℕ)
count_ends = bytes_0 ∷ bytes_1 ∷ bytes_highest ∷ bytes_above ∷ []

-- 10^8 and one above it
abbrev pub bytes_tenth : List ℕ
bytes_tenth = 0x00 ∷ 0xE1 ∷ 0xF5 ∷ 0x05 ∷ []

abbrev pub bytes_above_tenth : List ℕ
bytes_above_tenth = 0x01 ∷ 0xE1 ∷ 0xF5 ∷ 0x05 ∷ []

-- 02h Part
abbrev pub part_with : (kind preference : ℕ) → (a b p : List ℕ) → List ℕ
part_with kind preference a b p = 0x02 ∷ kind ∷ preference ∷ (a ++ (b ++ p))

-- a part without preference whose operands are 0
abbrev pub bare : ℕ → List ℕ
bare kind = part_with kind 0xFF bytes_0 bytes_0 bytes_0

-- so many of them
abbrev pub bares : ℕ → ℕ → List ℕ
bares zero kind = []
bares (suc n) kind = bare kind ++ bares n kind

-- 03h Span, for each of these numbers below 256
abbrev pub spanned : List ℕ → List ℕ
spanned [] = []
spanned (v ∷ vs) = 0x03 ∷ v ∷ 0x00 ∷ 0x00 ∷ 0x00 ∷ spanned vs

-- 04h Wire
abbrev pub wire : (source receiver port : ℕ) → List ℕ
wire source receiver port = 0x04 ∷ source ∷ receiver ∷ port ∷ []

-- these commands after Begin with magnitude 0, and with End after them too
abbrev pub after_begin : List ℕ → List ℕ
after_begin bs = 0x01 ∷ 0x00 ∷ bs

abbrev pub enclosed : List ℕ → List ℕ
enclosed bs = after_begin (bs ++ (0x05 ∷ []))

-- a pulse that prefers q, in a table of magnitude 15, so that its ratio is 10^(15 − q)
abbrev pub fine_pulse : (q : ℕ) → (p : List ℕ) → List ℕ
fine_pulse q p = 0x01 ∷ 0x0F ∷ (part_with 4 q bytes_0 bytes_0 p ++ (0x05 ∷ []))

-- the numbers that loading gives these streams
abbrev pub judged : List (List ℕ) → List ℕ
judged ss = map (λ (s : List ℕ). (load s).number) ss

-- the eight spans 1 to 8
abbrev pub eight : List ℕ
eight = 1 ∷ 2 ∷ 3 ∷ 4 ∷ 5 ∷ 6 ∷ 7 ∷ 8 ∷ []

-- the statement
pub record LoadRows : Type 0 where
  -- 1, "inside a command": each command without its last byte, at "position of the command"
  pub cut :
      (load (0x01 ∷ []) ≡ refused 1 0) × (load (take 16 (after_begin (bare 0))) ≡ refused 1 2) ×
      (load (take 21 (after_begin (bare 11 ++ spanned (1 ∷ [])))) ≡ refused 1 17) ×
      (load (take 20 (after_begin (bare 6 ++ wire 0 0 0))) ≡ refused 1 17)
  -- 1, "stream ends before End": "stream length if none follows"
  pub unended : (load (after_begin []) ≡ refused 1 2) × (load (after_begin (bare 0)) ≡ refused 1 17)
  -- 2, "command byte not 01h to 06h"
  pub unknown :
      (load (after_begin (0x00 ∷ [])) ≡ refused 2 2) × (load (after_begin (0x07 ∷ [])) ≡ refused 2 2) ×
      (load (after_begin (0xFF ∷ [])) ≡ refused 2 2)
  -- 3, "Begin .. stands first": Part, Span, Wire, End and 06h before it
  pub first :
      judged (bare 0 ∷ spanned (1 ∷ []) ∷ wire 0 0 0 ∷ (0x05 ∷ []) ∷ (0x06 ∷ bytes_1) ∷ []) ≡ 3 ∷ 3 ∷ 3 ∷ 3 ∷ 3 ∷ []
  -- 3, a Span "follows a drive or that drive's earlier span": not Begin, a constant, a clapper or a wire; and "06h
  -- before End"
  pub misplaced :
      (load (after_begin (spanned (1 ∷ []))) ≡ refused 3 2) ×
      (load (after_begin (bare 0 ++ spanned (1 ∷ []))) ≡ refused 3 17) ×
      (load (after_begin (bare 12 ++ spanned (1 ∷ []))) ≡ refused 3 17) ×
      (load (after_begin (bare 11 ++ (wire 0 0 0 ++ spanned (1 ∷ [])))) ≡ refused 3 21) ×
      (load (after_begin (bare 0 ++ (0x06 ∷ bytes_1))) ≡ refused 3 17)
  -- 5, "a default magnitude e (0 to 15 ..)"
  pub magnitudes :
      judged (map (λ (e : ℕ). 0x01 ∷ e ∷ (bare 0 ++ (0x05 ∷ []))) (0 ∷ 15 ∷ 16 ∷ 255 ∷ [])) ≡ 0 ∷ 0 ∷ 5 ∷ 5 ∷ []
  -- 5, "A part may prefer one, 0 to 15; FFh means none"
  pub preferences :
      judged (map (λ (q : ℕ). enclosed (part_with 0 q bytes_0 bytes_0 bytes_0)) (0 ∷ 15 ∷ 16 ∷ 254 ∷ 255 ∷ [])) ≡
      0 ∷ 0 ∷ 5 ∷ 5 ∷ 0 ∷ []
  -- 5, "kind .. unknown"
  pub kinds : judged (map (λ (k : ℕ). enclosed (bare k)) (0 ∷ 11 ∷ 12 ∷ 13 ∷ 255 ∷ [])) ≡ 0 ∷ 0 ∷ 0 ∷ 5 ∷ 5 ∷ []
  -- 5, "a and b are values": a constant's a, and a square's b, at both ends and one beyond each
  pub a_values :
      judged (map (λ (a : List ℕ). enclosed (part_with 0 0xFF a bytes_0 bytes_0)) value_ends) ≡ 0 ∷ 5 ∷ 0 ∷ 5 ∷ []
  pub b_values :
      judged (map (λ (b : List ℕ). enclosed (part_with 3 0xFF bytes_0 b bytes_1)) value_ends) ≡ 0 ∷ 5 ∷ 0 ∷ 5 ∷ []
  -- 5, "p, where named, is 1 to 10^9"
  pub p_values :
      judged (map (λ (p : List ℕ). enclosed (part_with 3 0xFF bytes_0 bytes_0 p)) count_ends) ≡ 5 ∷ 0 ∷ 0 ∷ 5 ∷ []
  -- 5, "An operand that a kind doesn't name must be 0": an adder's a, a constant's b and p
  pub unnamed :
      judged
      (enclosed (part_with 2 0xFF bytes_1 bytes_0 bytes_0) ∷ enclosed (part_with 0 0xFF bytes_0 bytes_1 bytes_0) ∷
      enclosed (part_with 0 0xFF bytes_0 bytes_0 bytes_1) ∷ []) ≡
      5 ∷ 5 ∷ 5 ∷ []
  -- 5, a span is "4 bytes, 1 to 10^9"
  pub spans :
      judged (map (λ (v : List ℕ). enclosed (bare 11 ++ (0x03 ∷ v))) count_ends) ≡ 5 ∷ 0 ∷ 0 ∷ 5 ∷ []
  -- 5 is at the command's position
  pub out_of_range :
      (load (0x01 ∷ 0x10 ∷ []) ≡ refused 5 0) × (load (after_begin (bare 13)) ≡ refused 5 2) ×
      (load (after_begin (bare 11 ++ spanned (0 ∷ []))) ≡ refused 5 17)
  -- 6, "ninth span": eight are accepted
  pub ninth :
      ((load (enclosed (bare 11 ++ spanned eight))).number ≡ 0) ×
      (load (after_begin (bare 11 ++ (spanned eight ++ spanned (9 ∷ [])))) ≡ refused 6 57)
  -- 12, "span not above the one before": equal, lower, and between the two before; and one above
  pub not_above :
      (load (after_begin (bare 11 ++ spanned (3 ∷ 3 ∷ []))) ≡ refused 12 22) ×
      (load (after_begin (bare 11 ++ spanned (3 ∷ 2 ∷ []))) ≡ refused 12 22) ×
      (load (after_begin (bare 11 ++ spanned (3 ∷ 5 ∷ 4 ∷ []))) ≡ refused 12 27) ×
      ((load (enclosed (bare 11 ++ spanned (3 ∷ 4 ∷ [])))).number ≡ 0)
  -- 6, "33rd part": 32 are accepted; and it comes before its unknown kind, 5
  pub thirty_third :
      ((load (enclosed (bares 32 0))).number ≡ 0) × (load (after_begin (bares 33 0)) ≡ refused 6 482) ×
      (load (after_begin (bares 32 0 ++ bare 13)) ≡ refused 6 482)
  -- 7, "wire names an unknown part or port": the source, the receiver, the port of a gain, and a part that comes later
  pub unknown_wires :
      (load (after_begin (bare 1 ++ wire 1 0 0)) ≡ refused 7 17) ×
      (load (after_begin (bare 1 ++ wire 0 1 0)) ≡ refused 7 17) ×
      (load (after_begin (bare 1 ++ wire 0 0 1)) ≡ refused 7 17) ×
      (load (after_begin (bare 1 ++ (wire 1 0 0 ++ bare 0))) ≡ refused 7 17)
  -- 8, "port already wired", of each port; an adder's two ports are wired once each
  pub wired_twice :
      (load (after_begin (bare 2 ++ (wire 0 0 0 ++ wire 0 0 0))) ≡ refused 8 21) ×
      (load (after_begin (bare 2 ++ (wire 0 0 1 ++ wire 0 0 1))) ≡ refused 8 21) ×
      ((load (enclosed (bare 0 ++ (bare 2 ++ (wire 0 1 0 ++ wire 0 1 1))))).number ≡ 0)
  -- 9, "no parts", at "End's position"
  pub no_parts : load (enclosed []) ≡ refused 9 2
  -- 10, "some P above 10^18": p = 10^9 at ratio 10^9 and p = 10^8 at ratio 10^10 come to it; p = 10^8 + 1 exceeds it
  pub long_periods :
      ((load (fine_pulse 6 bytes_highest)).number ≡ 0) × ((load (fine_pulse 5 bytes_tenth)).number ≡ 0) ×
      (load (fine_pulse 5 bytes_above_tenth) ≡ refused 10 17) × (load (fine_pulse 5 bytes_highest) ≡ refused 10 17)
  -- 11, "a loop exists": two gains in a circle; with a delay in place of one it is none
  pub circles :
      (load (enclosed (bare 1 ++ (bare 1 ++ (wire 1 0 0 ++ wire 0 1 0)))) ≡ refused 11 40) ×
      ((load (enclosed (bare 1 ++ (bare 5 ++ (wire 1 0 0 ++ wire 0 1 0))))).number ≡ 0)
  -- "within one the order is 2, 3, 1 ..": an unknown byte before Begin; a cut Part before Begin
  pub place_first : (load (0x07 ∷ []) ≡ refused 2 0) × (load (0x02 ∷ []) ≡ refused 3 0)
  -- ".. 1, 6, 5 ..": a ninth span that is cut; one that is 0; and a cut part of an unknown kind
  pub cut_first :
      (load (take 61 (after_begin (bare 11 ++ (spanned eight ++ spanned (9 ∷ []))))) ≡ refused 1 57) ×
      (load (after_begin (bare 11 ++ (spanned eight ++ spanned (0 ∷ [])))) ≡ refused 6 57) ×
      (load (take 16 (after_begin (bare 13))) ≡ refused 1 2)
  -- ".. 6 .. 12": a ninth span that is not above the eighth; ".. 5, 12 ..": a span 0 after another
  pub range_first :
      (load (after_begin (bare 11 ++ (spanned eight ++ spanned (8 ∷ [])))) ≡ refused 6 57) ×
      (load (after_begin (bare 11 ++ spanned (3 ∷ 0 ∷ []))) ≡ refused 5 22)
  -- ".. 7, 8": an unknown source for a port that is wired; a cut wire is 1 before it
  pub name_first :
      (load (after_begin (bare 1 ++ (wire 0 0 0 ++ wire 9 0 0))) ≡ refused 7 21) ×
      (load (take 20 (after_begin (bare 1 ++ wire 9 9 9))) ≡ refused 1 17)
  -- "Then 9, 10, 11": a gain wired to itself, and a pulse whose P is too large
  pub period_first :
      load (0x01 ∷ 0x0F ∷ (part_with 4 5 bytes_0 bytes_0 bytes_highest ++ (bare 1 ++ (wire 1 1 0 ++ (0x05 ∷ []))))) ≡
      refused 10 36
  -- "Commands are read in turn": the fault of the first command counts
  pub in_turn : load (after_begin (bare 13 ++ (0x00 ∷ []))) ≡ refused 5 2
  -- "An accepted load also returns the position after it. Later bytes are the score, which loading doesn't judge"
  pub position :
      ((load (enclosed (bare 0) ++ (0x00 ∷ 0x01 ∷ []))).number ≡ 0) ×
      ((load (enclosed (bare 0) ++ (0x00 ∷ 0x01 ∷ []))).position ≡ 18)
  -- "operands are little-endian", a and b "signed 32-bit": a square with a = 67,305,985, b = −2 and p = 258; and a
  -- drive's spans and wire
  pub read :
      table_of
      (load
      (0x01 ∷ 0x03 ∷
      (part_with 3 0x02 (0x01 ∷ 0x02 ∷ 0x03 ∷ 0x04 ∷ []) (0xFE ∷ 0xFF ∷ 0xFF ∷ 0xFF ∷ [])
      (0x02 ∷ 0x01 ∷ 0x00 ∷ 0x00 ∷ []) ++
      (bare 11 ++ (spanned (2 ∷ 5 ∷ []) ++ (wire 0 1 0 ++ (0x05 ∷ []))))))).model ≡
      record {
        magnitude = 3;
        parts =
            record {
              kind = Square;
              preference = 2;
              a = pos 67_305_985;
              b = negsuc 1;
              p = 258;
              span_count = 0;
              spans = [];
              port0 = Unwired;
              port1 = Unwired;
            } ∷
            record {
              kind = Drive;
              preference = 255;
              a = pos 0;
              b = pos 0;
              p = 0;
              span_count = 2;
              spans = 2 ∷ 5 ∷ [];
              port0 = From 0;
              port1 = Unwired;
            } ∷ [];
      }
  -- "the lowest mark whose direct sources are placed goes next": a gain waits for its source, and comes before a higher
  -- part
  pub placing :
      ((load (enclosed (bare 1 ++ (bare 0 ++ (bare 0 ++ wire 2 0 0))))).model.order ≡ 1 ∷ 2 ∷ 0 ∷ []) ×
      ((load (enclosed (bare 1 ++ (bare 0 ++ (bare 0 ++ wire 1 0 0))))).model.order ≡ 1 ∷ 0 ∷ 2 ∷ [])
  -- a reset integrator waits for the source of port 1, which is direct, and not for that of port 0
  pub placing_direct :
      ((load (enclosed (bare 7 ++ (bare 0 ++ wire 1 0 1)))).model.order ≡ 1 ∷ 0 ∷ []) ×
      ((load (enclosed (bare 7 ++ (bare 0 ++ wire 1 0 0)))).model.order ≡ 0 ∷ 1 ∷ [])
