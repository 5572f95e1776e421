-- What the commands show that are not refused, and the components that they leave: these fit. Assumes nothing.
use Rattle.std.specs.Prelude.{ℕ, suc, ◌-◌, ◌≤◌, ◌<◌, ◌≡◌, refl, Bool, true, false, cond, ◌&&◌, List, [], ◌∷◌, ◌++◌}
use Rattle.std.specs.Prelude.{length, get_or, eqb, leb, ltb}
use Rattle.std.proofs.Common.{arith, ltb-true, leb-true, leb-false, lt-ltb, le-leb}
use Rattle.std.proofs.Math.Bool.{and-eq-true_iff}
use Rattle.std.proofs.lemmas.Bool.{eqb-false}
use Rattle.machine.specs.declared.part.Source.{Source}
use Rattle.machine.specs.declared.part.Source.TheVariants.{Unwired, From}
use Rattle.machine.specs.declared.part.Component.{Component}
use Rattle.machine.specs.Time.{magnitude_known}
use Rattle.machine.specs.Kind.{ports, is_positive, operands_fit, kind_known}
use Rattle.machine.specs.Model.{most_parts, most_spans}
use Rattle.machine.specs.Table.{Table, component_at, periods_fit, ordered}
use Rattle.machine.specs.Load.{preference_known, is_drive, begin_refusal, part_read, part_refusal, last_span, with_span}
use Rattle.machine.specs.Load.{span_refusal, source_of, wired, with_wire, wire_refusal, end_refusal}
use Rattle.machine.specs.Sound.{source_fits, spans_rise}
use Rattle.laws.specs.Last.{length_added, last_of_tail}
use Rattle.laws.specs.Bools.{cond_cases}
use Rattle.sound_laws.specs.Facts.{ComponentFits}

-- where the number picked is 0 and the first is above 0, it is not the first
not_first : (b : Bool) (n m : ℕ) → cond b (suc n) m ≡ 0 → (b ≡ false) × (m ≡ 0)
not_first true n m h = absurd (omega arith)
not_first false n m h = (refl, h)

-- the same of the second
not_second : (b : Bool) (n m : ℕ) → cond b m (suc n) ≡ 0 → (b ≡ true) × (m ≡ 0)
not_second true n m h = (refl, h)
not_second false n m h = absurd (omega arith)

-- what a Begin shows that is not refused
pub begin_passed : (e : ℕ) → begin_refusal e ≡ 0 → magnitude_known e ≡ true
unfolding begin_refusal
begin_passed e h = (not_second (magnitude_known e) 4 0 h).0

-- what a Part shows that is not refused
pub part_passed :
    (cs : List Component) (kind : ℕ) (c : Component) → part_refusal cs kind c ≡ 0 →
    (length cs < most_parts) × (preference_known c.preference ≡ true) ×
    (operands_fit c.kind c.a c.b c.p ≡ true)
unfolding part_refusal
part_passed cs kind c h =
    let fit = kind_known kind && preference_known c.preference && operands_fit c.kind c.a c.b c.p in
    let (room, rest) = not_first (leb most_parts (length cs)) 5 (cond fit 0 5) h in
    let f = simp and-eq-true_iff at (not_second fit 4 0 rest).0 in
    (leb-false most_parts (length cs) room, f.0.1, f.1)

-- what a Span shows that is not refused
span_passed :
    (c : Component) (v : ℕ) → span_refusal c v ≡ 0 → (length c.spans < most_spans) × (v ≤ 1_000_000_000) ×
    (last_span c < v)
unfolding span_refusal is_positive
span_passed c v h =
    let (room, rest) = not_first (leb most_spans (length c.spans)) 5
    (cond (is_positive v) (cond (ltb (last_span c) v) 0 12) 5) h in
    let (positive, rest) = not_second (is_positive v) 4 (cond (ltb (last_span c) v) 0 12) rest in
    let f = simp and-eq-true_iff at positive in (
      leb-false most_spans (length c.spans) room,
      leb-true v 1_000_000_000 f.1,
      ltb-true (last_span c) v (not_second (ltb (last_span c) v) 11 0 rest).0,
    )

-- what a Wire shows that is not refused
pub wire_passed :
    (cs : List Component) (source receiver port : ℕ) → wire_refusal cs source receiver port ≡ 0 →
    (source < length cs) × (receiver < length cs) × (port < ports (component_at cs receiver).kind)
unfolding wire_refusal
wire_passed cs source receiver port h =
    let m = ports (component_at cs receiver).kind in
    let known = ltb source (length cs) && ltb receiver (length cs) && ltb port m in
    let f = simp and-eq-true_iff
    at (not_second known 6 (cond (wired (source_of (component_at cs receiver) port)) 8 0) h).0 in
    (ltb-true source (length cs) f.0.0, ltb-true receiver (length cs) f.0.1, ltb-true port m f.1)

-- what an End shows that is not refused
pub end_passed : (t : Table) → end_refusal t ≡ 0 → (1 ≤ length t.parts) × (periods_fit t ≡ true) ×
    (ordered t.parts ≡ true)
unfolding end_refusal
end_passed t h =
    let (some, rest) = not_first (eqb (length t.parts) 0) 8
    (cond (periods_fit t) (cond (ordered t.parts) 0 11) 10) h in
    let (periods, rest) = not_second (periods_fit t) 9 (cond (ordered t.parts) 0 11) rest in
    let none = eqb-false (length t.parts) 0 some in
    (omega arith, periods, (not_second (ordered t.parts) 10 0 rest).0)

-- a source that fits a table fits one of more parts
source_more : (n m port : ℕ) (s : Source) → source_fits n m port s ≡ true → source_fits (suc n) m port s ≡ true
unfolding source_fits
source_more n m port Unwired h = refl
source_more n m port (From k) h =
    let f = simp and-eq-true_iff at h in
    let below = ltb-true k n f.1 in
    simp and-eq-true_iff (f.0, lt-ltb k (suc n) (omega arith))

-- so does a component
pub component_more : (n : ℕ) (c : Component) → ComponentFits n c → ComponentFits (suc n) c
component_more n c f =
    record {
      preference = f.preference;
      operands = f.operands;
      counted = f.counted;
      places = f.places;
      rise = f.rise;
      port0 = source_more n (ports c.kind) 0 c.port0 f.port0;
      port1 = source_more n (ports c.kind) 1 c.port1 f.port1;
    }

-- a span above the last keeps the spans rising
rise_more : (u v : ℕ) (ss : List ℕ) → spans_rise u ss ≡ true → get_or ss (length ss - 1) u < v → v ≤ 1_000_000_000 →
    spans_rise u (ss ++ (v ∷ [])) ≡ true
unfolding spans_rise
rise_more u v [] h above most = simp and-eq-true_iff ((lt-ltb u v above, le-leb v 1_000_000_000 most), refl)
rise_more u v (s ∷ ss) h above most =
    let ((low, high), rest) = simp and-eq-true_iff at h in
    simp and-eq-true_iff ((low, high), rise_more s v ss rest (rw (last_of_tail u s ss) at above) most)

-- a part that was read fits, whatever the number of parts
pub part_read_fits :
    (n : ℕ) (bs : List ℕ) (at : ℕ) → preference_known (part_read bs at).preference ≡ true →
    operands_fit (part_read bs at).kind (part_read bs at).a (part_read bs at).b (part_read bs at).p ≡ true →
    ComponentFits n (part_read bs at)
unfolding part_read spans_rise source_fits
part_read_fits n bs at preference operands =
    record {
      preference = preference;
      operands = operands;
      counted = refl;
      places = omega arith;
      rise = refl;
      port0 = refl;
      port1 = refl;
    }

-- a drive with a span more that is not refused fits
pub span_fits : (n : ℕ) (c : Component) (v : ℕ) → ComponentFits n c → is_drive c.kind ≡ true → span_refusal c v ≡ 0 →
    ComponentFits n (with_span c v)
unfolding with_span last_span
span_fits n c v f drive h =
    let (room, most, above) = span_passed c v h in
    let counted = f.counted in
    let count = length_added c.spans v in
    record {
      preference = f.preference;
      operands = f.operands;
      counted = omega arith;
      places = rw drive (omega arith);
      rise = rise_more 0 v c.spans f.rise above most;
      port0 = f.port0;
      port1 = f.port1;
    }

-- a component with a wire more that is not refused fits
pub wire_fits :
    (n : ℕ) (c : Component) (source port : ℕ) → ComponentFits n c → source < n → port < ports c.kind →
    ComponentFits n (with_wire c port source)
unfolding with_wire source_fits
wire_fits n c source port f there known =
    record {
      preference = f.preference;
      operands = f.operands;
      counted = f.counted;
      places = f.places;
      rise = f.rise;
      port0 =
          cond_cases (λ (s : Source). source_fits n (ports c.kind) 0 s ≡ true) (eqb port 0) (From source) c.port0
          (λ e. simp and-eq-true_iff (lt-ltb 0 (ports c.kind) (omega arith), lt-ltb source n there)) (λ e. f.port0);
      port1 =
          cond_cases (λ (s : Source). source_fits n (ports c.kind) 1 s ≡ true) (eqb port 0) c.port1 (From source)
          (λ e. f.port1)
          (λ e.
          let other = eqb-false port 0 e in
          simp and-eq-true_iff (lt-ltb 1 (ports c.kind) (omega arith), lt-ltb source n there));
    }
