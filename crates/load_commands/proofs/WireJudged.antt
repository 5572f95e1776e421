-- A law of the refusal of a Wire, test by test: of the two parts, and of the receiver's ports. Assumes nothing.
use Rattle.std.specs.Prelude.{ℕ, ◌≤◌, ◌≡◌, refl, Bool, true, false, cond, not, ◌&&◌, List, length, leb, ltb, eqb}
use Rattle.std.proofs.Common.{leb-false}
use Rattle.machine.specs.Kind.{ports}
use Rattle.machine.specs.Table.{component_at}
use Rattle.machine.specs.Load.{source_of, wire_refusal, wired}
use Rattle.refusals.specs.FirstRefusal.{above}
use Rattle.load_operands.specs.Refusals.{port_number}
use Rattle.load_commands.specs.declared.progress.Progress.{Progress}
use Rattle.load_commands.specs.Progress.{with_row, reading_of}
use Rattle.load_commands.specs.SpanRows.{length_reading, reading_at}

-- the three tests one after the other
in_turn : (source receiver port : Bool) (number : ℕ) →
    cond (not source && not receiver && port) number 7 ≡ cond source 7 (cond receiver 7 (cond port number 7))
in_turn true receiver port number = refl
in_turn false true port number = refl
in_turn false false port number = refl

-- the parts of a Wire are those that a progress counts, and the ports are those of the part in its place
pub wire_judged : (progress : Progress) (source receiver port : ℕ) (rows : List (List ℕ)) →
    progress.count ≤ length progress.parts →
    let c = component_at progress.parts receiver in
    wire_refusal (reading_of progress rows).table.parts source receiver port ≡
    cond (leb progress.count source) 7
    (cond (leb progress.count receiver) 7 (port_number c.kind c.port0 c.port1 port))
unfolding wire_refusal source_of port_number with_row
wire_judged progress source receiver port rows few =
    rw (length_reading progress rows few, above source progress.count, above receiver progress.count)
    (by_test (leb progress.count receiver) refl)
  where
    by_test :
        (b : Bool) → leb progress.count receiver ≡ b →
        let d = component_at (reading_of progress rows).table.parts receiver in
        let c = component_at progress.parts receiver in
        ◌≡◌ {A = ℕ}
        (cond (not (leb progress.count source) && not (leb progress.count receiver) && ltb port (ports d.kind))
        (cond (wired (cond (eqb port 0) d.port0 d.port1)) 8 0) 7)
        (cond (leb progress.count source) 7
        (cond (leb progress.count receiver) 7
        (cond (ltb port (ports c.kind)) (cond (wired (cond (eqb port 0) c.port0 c.port1)) 8 0) 7)))
    by_test true e = rw e (in_turn (leb progress.count source) true _ _)
    by_test false e =
        rw (e, reading_at progress rows receiver (leb-false progress.count receiver e) few)
        (in_turn (leb progress.count source) false _ _)
