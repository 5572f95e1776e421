-- One turn of reading, by what it comes to: whatever holds of every refusal, and of what each command leaves that is
-- not refused, holds of the turn. Assumes nothing.
use Rattle.std.specs.Prelude.{ℕ, ◌+◌, ◌<◌, ◌≡◌, true, false, cond, List, length, eqb, leb, ltb}
use Rattle.std.proofs.Common.{arith, eqb-true}
use Rattle.std.proofs.lemmas.Bool.{eqb-false}
use Rattle.machine.specs.declared.part.Component.{Component}
use Rattle.machine.specs.Table.{component_at}
use Rattle.machine.specs.Load.{begin_byte, part_byte, span_byte, wire_byte, known_command, command_width, byte_at}
use Rattle.machine.specs.Load.{word_at, Reading, in_place, Read, onward, ended, refused, begin_refusal, begun_with}
use Rattle.machine.specs.Load.{part_read, part_refusal, with_part, last_part, with_span, span_refusal, with_component}
use Rattle.machine.specs.Load.{with_wire, wire_refusal, end_refusal, accepted, begin_command, part_command}
use Rattle.machine.specs.Load.{span_command, wire_command, end_command, whole_command, command_read, read_turn}
use Rattle.laws.specs.Bools.{and_right, cond_cases}

-- the component that a span is added to: the last one read
abbrev pub open_component : Reading → Component
open_component rd = component_at rd.table.parts (last_part rd.table.parts)

-- what a Begin leaves that is not refused
abbrev pub after_begin : List ℕ → ℕ → Read
after_begin bs at = onward (at + 2) (begun_with (byte_at bs (at + 1)))

-- what a Part leaves that is not refused
abbrev pub after_part : List ℕ → ℕ → Reading → Read
after_part bs at rd = onward (at + 15) (with_part rd (part_read bs at))

-- what a Span leaves that is not refused
abbrev pub after_span : List ℕ → ℕ → Reading → Read
after_span bs at rd =
    onward (at + 5)
    (with_component rd true (last_part rd.table.parts) (with_span (open_component rd) (word_at bs (at + 1))))

-- what a Wire leaves that is not refused
abbrev pub after_wire : List ℕ → ℕ → Reading → Read
after_wire bs at rd =
    onward (at + 4)
    (with_component rd false (byte_at bs (at + 2))
    (with_wire (component_at rd.table.parts (byte_at bs (at + 2))) (byte_at bs (at + 3)) (byte_at bs (at + 1))))

-- what P owes to hold of a turn: it holds of every refusal, and of what each command leaves that is not refused
module _
    (P : Read → Type 0) (bs : List ℕ) (at : ℕ) (rd : Reading) (refusal : (number position : ℕ) → 0 < number →
    P (ended (refused number position)))
    (begin : begin_refusal (byte_at bs (at + 1)) ≡ 0 → P (after_begin bs at))
    (part : part_refusal rd.table.parts (byte_at bs (at + 1)) (part_read bs at) ≡ 0 → P (after_part bs at rd))
    (span : rd.spannable ≡ true → span_refusal (open_component rd) (word_at bs (at + 1)) ≡ 0 → P (after_span bs at rd))
    (wire : wire_refusal rd.table.parts (byte_at bs (at + 1)) (byte_at bs (at + 2)) (byte_at bs (at + 3)) ≡ 0 →
    P (after_wire bs at rd))
    (end : end_refusal rd.table ≡ 0 → P (ended (accepted at rd.table)))
  where
    -- P holds of a command that its refusal number stops, or does not
    stopped : (number : ℕ) (on : Read) → (number ≡ 0 → P on) → P (cond (eqb number 0) on (ended (refused number at)))
    stopped number on h =
        cond_cases P (eqb number 0) on (ended (refused number at)) (λ e. h (eqb-true number 0 e))
        (λ e. let some = eqb-false number 0 e in refusal number at (omega arith))

    -- P holds of a command that is known, in place and whole
    whole_cases : (b : ℕ) → in_place rd b ≡ true → P (whole_command bs at rd b)
    unfolding whole_command begin_command part_command span_command wire_command end_command in_place
    whole_cases b placed =
        cond_cases P (eqb b begin_byte) _ _
        (λ e. stopped (begin_refusal (byte_at bs (at + 1))) (after_begin bs at) begin)
        (λ e. cond_cases P (eqb b part_byte) _ _
        (λ e. stopped (part_refusal rd.table.parts (byte_at bs (at + 1)) (part_read bs at))
        (after_part bs at rd) part)
        (λ e. cond_cases P (eqb b span_byte) _ _
        (λ e. stopped (span_refusal (open_component rd) (word_at bs (at + 1))) (after_span bs at rd)
        (span (and_right rd.begun rd.spannable (rw (eqb-true b span_byte e) at placed))))
        (λ e. cond_cases P (eqb b wire_byte) _ _
        (λ e. stopped (wire_refusal rd.table.parts (byte_at bs (at + 1)) (byte_at bs (at + 2))
        (byte_at bs (at + 3)))
        (after_wire bs at rd) wire)
        (λ e. stopped (end_refusal rd.table) (ended (accepted at rd.table)) end))))

    -- P holds of the turn
    pub turn_cases : P (read_turn bs at rd)
    unfolding read_turn command_read
    turn_cases =
        let b = byte_at bs at in
        cond_cases P (ltb at (length bs)) (command_read bs at rd b) (ended (refused 1 (length bs)))
        (λ e. cond_cases P (known_command b) _ (ended (refused 2 at))
        (λ e. cond_cases P (in_place rd b) _ (ended (refused 3 at))
        (λ placed. cond_cases P (leb (at + command_width b) (length bs)) (whole_command bs at rd b)
        (ended (refused 1 at))
        (λ e. whole_cases b placed) (λ e. refusal 1 at (omega arith)))
        (λ e. refusal 3 at (omega arith)))
        (λ e. refusal 2 at (omega arith)))
        (λ e. refusal 1 (length bs) (omega arith))
