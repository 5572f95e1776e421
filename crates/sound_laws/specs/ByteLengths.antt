-- How long the bytes of a table are: those of each command, and of a table that fits at most 1,891, which is 59 for
-- each part and 3. The idea: a kind has spans or a second port, and none has both. Assumes nothing.
use Rattle.std.specs.Prelude.{ℕ, suc, ◌+◌, ◌*◌, ◌≤◌, ◌<◌, ◌≡◌, refl, Bool, true, false, cond, ◌&&◌, List, [], ◌∷◌}
use Rattle.std.specs.Prelude.{◌++◌, length, ltb}
use Rattle.std.proofs.Common.{arith, length-append, ltb-true}
use Rattle.std.proofs.Math.Bool.{and-eq-true_iff}
use Rattle.machine.specs.declared.part.Kind.{Kind}
use Rattle.machine.specs.declared.part.Kind.TheVariants.{Constant, Gain, Adder, Square, Pulse, Delay, Integrator}
use Rattle.machine.specs.declared.part.Kind.TheVariants.{ResetIntegrator, Detector, Hold, Sampler, Drive, Clapper}
use Rattle.machine.specs.declared.part.Source.{Source}
use Rattle.machine.specs.declared.part.Source.TheVariants.{Unwired, From}
use Rattle.machine.specs.declared.part.Component.{Component}
use Rattle.machine.specs.Lists.{All}
use Rattle.machine.specs.Kind.{ports}
use Rattle.machine.specs.Model.{most_spans}
use Rattle.machine.specs.Table.{Table}
use Rattle.machine.specs.Load.{end_byte, is_drive}
use Rattle.machine.specs.Save.{longest_table}
use Rattle.machine.specs.Sound.{source_fits, table_fits}
use Rattle.machine.specs.TableBytes.{operand_bytes, part_bytes, spans_bytes, parts_bytes, port_bytes, wires_bytes}
use Rattle.machine.specs.TableBytes.{table_bytes}
use Rattle.sound_laws.specs.Facts.{ComponentFits, table_facts}

-- five bytes for each span, fifteen for a part without them, and four at most for a port
pub spans_length : (vs : List ℕ) → length (spans_bytes vs) ≡ 5 * length vs
unfolding spans_bytes operand_bytes
spans_length [] = refl
spans_length (v ∷ vs) = omega (arith, spans_length vs)

pub part_length : (c : Component) → length (part_bytes c) ≡ 15
unfolding part_bytes operand_bytes
part_length c = refl

pub port_short : (receiver port : ℕ) (s : Source) → length (port_bytes receiver port s) ≤ 4
unfolding port_bytes
port_short receiver port Unwired = omega arith
port_short receiver port (From k) = omega arith

-- a component that fits has at most eight spans
pub few_spans : (n : ℕ) (c : Component) → ComponentFits n c → length c.spans ≤ most_spans
few_spans n c fits = cases (is_drive c.kind) fits.places
  where
    cases : (b : Bool) → length c.spans ≤ cond b most_spans 0 → length c.spans ≤ most_spans
    cases true h = h
    cases false h = omega arith

-- so many parts and their wires
parts_short : (n : ℕ) (cs : List Component) → All (ComponentFits n) cs → length (parts_bytes cs) ≤ 55 * length cs
unfolding parts_bytes
parts_short n [] fit = omega arith
parts_short n (c ∷ cs) fit =
    omega (
      arith,
      length-append (part_bytes c) (spans_bytes c.spans ++ parts_bytes cs),
      length-append (spans_bytes c.spans) (parts_bytes cs),
      part_length c,
      spans_length c.spans,
      few_spans n c fit.0,
      parts_short n cs fit.1,
    )

wires_short : (k : ℕ) (cs : List Component) → length (wires_bytes k cs) ≤ 8 * length cs
unfolding wires_bytes
wires_short k [] = omega arith
wires_short k (c ∷ cs) =
    omega (
      arith,
      length-append (port_bytes k 0 c.port0) (port_bytes k 1 c.port1 ++ wires_bytes (suc k) cs),
      length-append (port_bytes k 1 c.port1) (wires_bytes (suc k) cs),
      port_short k 0 c.port0,
      port_short k 1 c.port1,
      wires_short (suc k) cs,
    )

-- a port that is wired is one that the kind has
port_counted : (n m port k : ℕ) → (ltb port m && ltb k n) ≡ true → port < m
port_counted n m port k h = ltb-true port m ((and-eq-true_iff (ltb port m) (ltb k n)).0 h).0

-- the wires of both ports, four bytes for each port that the kind has
ports_short : (n m k : ℕ) (s t : Source) → source_fits n m 0 s ≡ true → source_fits n m 1 t ≡ true →
    length (port_bytes k 0 s) + length (port_bytes k 1 t) ≤ 4 * m
unfolding port_bytes source_fits
ports_short n m k Unwired Unwired f g = omega arith
ports_short n m k (From i) Unwired f g = omega (arith, port_counted n m 0 i f)
ports_short n m k Unwired (From j) f g = omega (arith, port_counted n m 1 j g)
ports_short n m k (From i) (From j) f g = omega (arith, port_counted n m 1 j g)

-- the spans and wires that a kind can have: eight spans and one port of a drive are the most
kind_short : (k : Kind) → 5 * cond (is_drive k) most_spans 0 + 4 * ports k ≤ 44
unfolding is_drive
kind_short Constant = omega arith
kind_short Gain = omega arith
kind_short Adder = omega arith
kind_short Square = omega arith
kind_short Pulse = omega arith
kind_short Delay = omega arith
kind_short Integrator = omega arith
kind_short ResetIntegrator = omega arith
kind_short Detector = omega arith
kind_short Hold = omega arith
kind_short Sampler = omega arith
kind_short Drive = omega arith
kind_short Clapper = omega arith

-- so many parts with their spans and wires
parts_and_wires : (n k : ℕ) (cs : List Component) → All (ComponentFits n) cs →
    length (parts_bytes cs) + length (wires_bytes k cs) ≤ 59 * length cs
unfolding parts_bytes wires_bytes
parts_and_wires n k [] fit = omega arith
parts_and_wires n k (c ∷ cs) fit =
    omega (
      arith,
      length-append (part_bytes c) (spans_bytes c.spans ++ parts_bytes cs),
      length-append (spans_bytes c.spans) (parts_bytes cs),
      length-append (port_bytes k 0 c.port0) (port_bytes k 1 c.port1 ++ wires_bytes (suc k) cs),
      length-append (port_bytes k 1 c.port1) (wires_bytes (suc k) cs),
      part_length c,
      spans_length c.spans,
      fit.0.places,
      kind_short c.kind,
      ports_short n (ports c.kind) k c.port0 c.port1 fit.0.port0 fit.0.port1,
      parts_and_wires n (suc k) cs fit.1,
    )

-- the whole table
pub table_length : (t : Table) →
    length (table_bytes t) ≡ length (parts_bytes t.parts) + 2 + length (wires_bytes 0 t.parts) + 1
unfolding table_bytes
table_length t =
    let parts = parts_bytes t.parts in
    let wires = wires_bytes 0 t.parts in
    omega (arith, length-append parts (wires ++ (end_byte ∷ [])), length-append wires (end_byte ∷ []))

pub sweeps_short : (t : Table) → table_fits t ≡ true → (length (parts_bytes t.parts) ≤ 1760) ×
    (length (wires_bytes 0 t.parts) ≤ 256)
sweeps_short t fits =
    let f = table_facts t fits in
    let few = f.few in (
      omega (arith, few, parts_short (length t.parts) t.parts f.components),
      omega (arith, few, wires_short 0 t.parts),
    )

pub table_short : (t : Table) → table_fits t ≡ true → length (table_bytes t) ≤ longest_table
table_short t fits =
    let f = table_facts t fits in
    omega (arith, table_length t, f.few, parts_and_wires (length t.parts) 0 t.parts f.components)
