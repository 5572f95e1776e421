-- Each command of a table that fits, read at a seam: what reading knows after it. Assumes nothing.
use Rattle.std.specs.Prelude.{ℕ, ◌+◌, ◌-◌, ◌≤◌, ◌<◌, ◌≡◌, Bool, get_or, drop}
use native.Mathlib.Omega.{arith}
use Rattle.std.proofs.Math.Path.{refl, sym, ap}
use Rattle.std.proofs.Common.{◌∙◌, length-drop}
use Rattle.std.proofs.Math.Bool.{true, false}
use mathlib.Core.List.{List, [], ◌∷◌, ◌++◌}
use Rattle.std.proofs.Math.ListN.{length, length-append}
use Rattle.std.proofs.Math.Seq.{get_or-append_seam, set-append_seam}
use borrow.Author.Tests.{lt-ltb, lt-leb, le-leb}
use Rattle.machine.specs.declared.part.Source.{Source}
use Rattle.machine.specs.declared.part.Source.TheVariants.{Unwired}
use Rattle.machine.specs.declared.part.Component.{Component}
use Rattle.machine.specs.Time.{magnitude_known}
use Rattle.machine.specs.Kind.{ports, is_positive, operands_fit}
use Rattle.machine.specs.Model.{most_parts, most_spans, blank_component}
use Rattle.machine.specs.Table.{Table}
use Rattle.machine.specs.Load.{begin_byte, part_byte, span_byte, wire_byte, end_byte, known_command, command_width}
use Rattle.machine.specs.Load.{preference_known, is_drive, Reading, nothing_read, in_place, onward, ended}
use Rattle.machine.specs.Load.{begin_refusal, begun_with, part_read, part_refusal, with_part, last_part, last_span}
use Rattle.machine.specs.Load.{with_span, span_refusal, with_component, source_of, wired, with_wire, wire_refusal}
use Rattle.machine.specs.Load.{end_refusal, accepted, begin_command, part_command, span_command, wire_command}
use Rattle.machine.specs.Load.{end_command, whole_command}
use Rattle.machine.specs.TableBytes.{operand_bytes, signed_operand, part_bytes}
use Rattle.laws.specs.Last.{length_added, last_of_added, set_last_of_added}
use Rattle.sound_laws.specs.Facts.{operand_values, operand_small}
use Rattle.sound_laws.specs.Seams.{kind_back, operand_back, further, byte_there, word_there, turn_there, read_all}
use Rattle.sound_laws.specs.Seams.{after_turn}

-- the reading of a table once begun, with the components given
abbrev pub so_far : Bool → ℕ → List Component → Reading
so_far spannable e cs = record { begun = true; spannable = spannable; table = record { magnitude = e; parts = cs } }

-- a component with other spans and sources
abbrev pub shaped : Component → List ℕ → Source → Source → Component
shaped c spans port0 port1 =
    record {
      kind = c.kind;
      preference = c.preference;
      a = c.a;
      b = c.b;
      p = c.p;
      span_count = length spans;
      spans = spans;
      port0 = port0;
      port1 = port1;
    }

module _ (bs : List ℕ) where
  -- a Begin is read
  pub reads_begin :
      (at e : ℕ) (rest : List ℕ) → drop at bs ≡ begin_byte ∷ e ∷ rest → magnitude_known e ≡ true →
      read_all bs at nothing_read ≡ read_all bs (at + 2) (so_far false e [])
  unfolding in_place known_command command_width whole_command begin_command begin_refusal begun_with
  reads_begin at e rest h known =
      after_turn bs at nothing_read (onward (at + 2) (so_far false e []))
      (turn_there bs at begin_byte (e ∷ rest) nothing_read h refl refl (omega arith) ∙
      rw (byte_there bs at 1 (begin_byte ∷ e ∷ rest) h, known))

  -- the operands of a part are those that were written
  part_back :
      (at : ℕ) (c : Component) (rest : List ℕ) → drop at bs ≡ part_bytes c ++ rest →
      operands_fit c.kind c.a c.b c.p ≡ true →
      part_read bs at ≡ shaped c [] Unwired Unwired
  unfolding part_read part_bytes operand_bytes
  part_back at c rest h fit =
      let l = part_bytes c ++ rest in
      let (a, b) = operand_values c.kind c.a c.b c.p fit in
      let small = operand_small c.kind c.a c.b c.p fit in
      let (a_small, a_back) = operand_back c.a a in
      let (b_small, b_back) = operand_back c.b b in
      rw (
        byte_there bs at 1 l h,
        byte_there bs at 2 l h,
        word_there bs (at + 3) (signed_operand c.a) (operand_bytes (signed_operand c.b) ++
            (operand_bytes c.p ++ rest)) (further bs at 3 l h) a_small,
        word_there bs (at + 7) (signed_operand c.b) (operand_bytes c.p ++ rest) (further bs at 7 l h) b_small,
        word_there bs (at + 11) c.p rest (further bs at 11 l h) (omega arith),
        (kind_back c.kind).1,
        a_back,
        b_back,
      )

  -- a Part is read, after the components cs
  pub reads_part :
      (at : ℕ) (c : Component) (rest : List ℕ) (spannable : Bool) (e : ℕ) (cs : List Component) →
      drop at bs ≡ part_bytes c ++ rest →
      preference_known c.preference ≡ true → operands_fit c.kind c.a c.b c.p ≡ true →
      length cs < most_parts →
      read_all bs at (so_far spannable e cs) ≡
      read_all bs (at + 15) (so_far (is_drive c.kind) e (cs ++ (shaped c [] Unwired Unwired ∷ [])))
  unfolding in_place known_command command_width whole_command part_command part_refusal with_part part_bytes
      operand_bytes
  reads_part at c rest spannable e cs h preference fit room =
      after_turn bs at (so_far spannable e cs)
      (onward (at + 15) (so_far (is_drive c.kind) e (cs ++ (shaped c [] Unwired Unwired ∷ []))))
      (turn_there bs at part_byte (drop 1 (part_bytes c ++ rest)) (so_far spannable e cs) h refl refl (omega arith) ∙
      rw (
        part_back at c rest h fit,
        byte_there bs at 1 (part_bytes c ++ rest) h,
        lt-leb most_parts (length cs) room,
        (kind_back c.kind).0,
        preference,
        fit,
      ))

  -- a Span is read, after a part that was read with the spans vs
  pub reads_span :
      (at v : ℕ) (rest : List ℕ) (e : ℕ) (cs : List Component) (c : Component) (vs : List ℕ) →
      drop at bs ≡ span_byte ∷ (operand_bytes v ++ rest) →
      length vs < most_spans → get_or vs (length vs - 1) 0 < v → v ≤ 1_000_000_000 →
      read_all bs at (so_far true e (cs ++ (shaped c vs Unwired Unwired ∷ []))) ≡
      read_all bs (at + 5) (so_far true e (cs ++ (shaped c (vs ++ (v ∷ [])) Unwired Unwired ∷ [])))
  unfolding in_place known_command command_width whole_command span_command span_refusal last_part last_span with_span
      with_component is_positive
      operand_bytes
  reads_span at v rest e cs c vs h room above most =
      let x = shaped c vs Unwired Unwired in
      let l = cs ++ (x ∷ []) in
      let count : length vs + 1 ≡ length (vs ++ (v ∷ [])) = omega (arith, length_added vs v) in
      after_turn bs at (so_far true e l)
      (onward (at + 5) (so_far true e (cs ++ (shaped c (vs ++ (v ∷ [])) Unwired Unwired ∷ []))))
      (turn_there bs at span_byte (operand_bytes v ++ rest) (so_far true e l) h refl refl (omega arith) ∙
      rw (
        last_of_added cs x blank_component,
        word_there bs (at + 1) v rest (further bs at 1 (span_byte ∷ (operand_bytes v ++ rest)) h) (omega arith),
        lt-leb most_spans (length vs) room,
        le-leb 1 v (omega arith),
        le-leb v 1_000_000_000 most,
        lt-ltb (get_or vs (length vs - 1) 0) v above,
        set_last_of_added cs x (with_span x v),
        count,
      ))

  -- a Wire is read, to the part after the components cs
  pub reads_wire :
      (at source port : ℕ) (rest : List ℕ) (spannable : Bool) (e : ℕ) (cs : List Component) (c : Component)
      (ds : List Component) →
      drop at bs ≡ wire_byte ∷ source ∷ length cs ∷ port ∷ rest → source < length (cs ++ (c ∷ ds)) →
      port < ports c.kind →
      wired (source_of c port) ≡ false →
      read_all bs at (so_far spannable e (cs ++ (c ∷ ds))) ≡
      read_all bs (at + 4) (so_far false e (cs ++ (with_wire c port source ∷ ds)))
  unfolding in_place known_command command_width whole_command wire_command wire_refusal with_component
  reads_wire at source port rest spannable e cs c ds h there known free =
      let l = wire_byte ∷ source ∷ length cs ∷ port ∷ rest in
      after_turn bs at (so_far spannable e (cs ++ (c ∷ ds)))
      (onward (at + 4) (so_far false e (cs ++ (with_wire c port source ∷ ds))))
      (turn_there bs at wire_byte (source ∷ length cs ∷ port ∷ rest) (so_far spannable e (cs ++ (c ∷ ds))) h refl refl
      (omega arith) ∙
      rw (
        byte_there bs at 1 l h,
        byte_there bs at 2 l h,
        byte_there bs at 3 l h,
        get_or-append_seam cs c ds blank_component,
        lt-ltb source (length (cs ++ (c ∷ ds))) there,
        lt-ltb (length cs) (length (cs ++ (c ∷ ds))) (omega (arith, length-append cs (c ∷ ds))),
        lt-ltb port (ports c.kind) known,
        free,
        set-append_seam cs c ds (with_wire c port source),
      ))

  -- an End is read, as the last byte
  pub reads_end :
      (at : ℕ) (spannable : Bool) (t : Table) → drop at bs ≡ end_byte ∷ [] → end_refusal t ≡ 0 →
      read_all bs at (so_far spannable t.magnitude t.parts) ≡ accepted (length bs - 1) t
  unfolding in_place known_command command_width whole_command end_command
  reads_end at spannable t h none =
      let left : length bs - at ≡ 1 = sym (length-drop at bs) ∙ ap length h in
      let last : at ≡ length bs - 1 = omega arith in
      after_turn bs at (so_far spannable t.magnitude t.parts) (ended (accepted (length bs - 1) t))
      (turn_there bs at end_byte [] (so_far spannable t.magnitude t.parts) h refl refl (omega arith) ∙
      rw (none, last))
