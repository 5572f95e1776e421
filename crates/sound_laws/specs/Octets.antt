-- The bytes of a table that fits are bytes: each is below 256. Assumes nothing.
use Rattle.std.specs.Prelude.{ℕ, suc, ◌+◌, ◌≤◌, ◌<◌, ◌≡◌, true, List, [], ◌∷◌, ◌++◌, length, eqb, ltb}
use Rattle.std.proofs.Common.{arith, ⊎_elim, eqb-true, leb-true, ltb-true}
use Rattle.machine.specs.declared.part.Kind.{Kind}
use Rattle.machine.specs.declared.part.Source.{Source}
use Rattle.machine.specs.declared.part.Source.TheVariants.{Unwired, From}
use Rattle.machine.specs.declared.part.Component.{Component}
use Rattle.machine.specs.Lists.{All}
use Rattle.machine.specs.Time.{last_magnitude, no_preference, magnitude_known}
use Rattle.machine.specs.Kind.{kind_number, kind_known, ports}
use Rattle.machine.specs.Model.{most_parts}
use Rattle.machine.specs.Table.{Table}
use Rattle.machine.specs.Load.{end_byte, preference_known}
use Rattle.machine.specs.Sound.{source_fits, table_fits}
use Rattle.machine.specs.TableBytes.{operand_bytes, signed_operand, part_bytes, spans_bytes, parts_bytes, port_bytes}
use Rattle.machine.specs.TableBytes.{wires_bytes, table_bytes}
use Rattle.laws.specs.Bools.{and_right, or_cases}
use Rattle.laws.specs.Alls.{all_append}
use Rattle.sound_laws.specs.Facts.{ComponentFits, table_facts}
use Rattle.sound_laws.specs.Seams.{kind_back}

-- a number that fits a byte
abbrev pub Octet : ℕ → Type 0
Octet b = b < 256

-- the four bytes of a number
word_octets : (v : ℕ) → All Octet (operand_bytes v)
unfolding operand_bytes
word_octets v = (omega arith, (omega arith, (omega arith, (omega arith, tt))))

-- the number of a kind
kind_octet : (k : Kind) → Octet (kind_number k)
unfolding kind_known
kind_octet k = omega (arith, ltb-true (kind_number k) 13 (kind_back k).0)

-- a magnitude, and a preference
magnitude_octet : (e : ℕ) → magnitude_known e ≡ true → Octet e
unfolding magnitude_known
magnitude_octet e h = omega (arith, leb-true e last_magnitude h)

preference_octet : (q : ℕ) → preference_known q ≡ true → Octet q
unfolding preference_known
preference_octet q h =
    ⊎_elim (magnitude_octet q) (λ none. omega (arith, eqb-true q no_preference none))
    (or_cases (magnitude_known q) (eqb q no_preference) h)

-- a part without its spans, the spans, and the parts with them
part_octets : (n : ℕ) (c : Component) → ComponentFits n c → All Octet (part_bytes c)
unfolding part_bytes
part_octets n c fits =
    let a = operand_bytes (signed_operand c.a) in
    let b = operand_bytes (signed_operand c.b) in
    let operands =
    all_append Octet a (b ++ operand_bytes c.p) (word_octets (signed_operand c.a))
    (all_append Octet b (operand_bytes c.p) (word_octets (signed_operand c.b)) (word_octets c.p)) in
    (omega arith, (kind_octet c.kind, (preference_octet c.preference fits.preference, operands)))

spans_octets : (vs : List ℕ) → All Octet (spans_bytes vs)
unfolding spans_bytes
spans_octets [] = tt
spans_octets (v ∷ vs) = (
  omega arith,
  all_append Octet (operand_bytes v) (spans_bytes vs) (word_octets v)
      (spans_octets vs),
)

parts_octets : (n : ℕ) (cs : List Component) → All (ComponentFits n) cs → All Octet (parts_bytes cs)
unfolding parts_bytes
parts_octets n [] fit = tt
parts_octets n (c ∷ cs) fit =
    all_append Octet (part_bytes c) (spans_bytes c.spans ++ parts_bytes cs) (part_octets n c fit.0)
    (all_append Octet (spans_bytes c.spans) (parts_bytes cs) (spans_octets c.spans) (parts_octets n cs fit.1))

-- a wire into a port of a part in a table of at most 32 parts
port_octets : (n many receiver port : ℕ) (s : Source) → n ≤ most_parts → receiver < n → port < 2 →
    source_fits n many port s ≡ true →
    All Octet (port_bytes receiver port s)
unfolding port_bytes source_fits
port_octets n many receiver port Unwired few here low fits = tt
port_octets n many receiver port (From k) few here low fits =
    let there : k < n = ltb-true k n (and_right (ltb port many) (ltb k n) fits) in
    (omega arith, (omega arith, (omega arith, (omega arith, tt))))

-- the wires of the components from part number k on
wires_octets : (n k : ℕ) (cs : List Component) → n ≤ most_parts → k + length cs ≤ n → All (ComponentFits n) cs →
    All Octet (wires_bytes k cs)
unfolding wires_bytes
wires_octets n k [] few low fit = tt
wires_octets n k (c ∷ cs) few low fit =
    let here : k < n = omega arith in
    all_append Octet (port_bytes k 0 c.port0) (port_bytes k 1 c.port1 ++ wires_bytes (suc k) cs)
    (port_octets n (ports c.kind) k 0 c.port0 few here (omega arith) fit.0.port0)
    (all_append Octet (port_bytes k 1 c.port1) (wires_bytes (suc k) cs)
    (port_octets n (ports c.kind) k 1 c.port1 few here (omega arith) fit.0.port1)
    (wires_octets n (suc k) cs few (omega arith) fit.1))

-- the whole table
pub table_octets : (t : Table) → table_fits t ≡ true → All Octet (table_bytes t)
unfolding table_bytes
table_octets t h =
    let fits = table_facts t h in
    let n = length t.parts in
    let parts = parts_bytes t.parts in
    let wires = wires_bytes 0 t.parts in
    let ending = all_append Octet wires (end_byte ∷ [])
    (wires_octets n 0 t.parts fits.few (omega arith) fits.components) (omega arith, tt) in
    let body = all_append Octet parts (wires ++ (end_byte ∷ []))
    (parts_octets n t.parts fits.components) ending in
    (omega arith, (magnitude_octet t.magnitude fits.magnitude, body))
