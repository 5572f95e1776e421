-- What an output depends on: the readings of direct ports, and of the part itself all but its stored output. Kind by
-- kind, then for the row of a part among others, which reads what they store. Assumes nothing.
use Rattle.std.specs.Prelude.{ℕ, ◌<◌, ◌≡◌, refl, true, ◌⊎◌, List, map, length}
use Rattle.std.proofs.Common.{arith, ap, ap₂, sym, subst, ◌∙◌, inl, inr}
use Rattle.std.proofs.lemmas.List.{length-map}
use Rattle.std.proofs.Math.ListN.{get_or-map}
use Rattle.machine.specs.declared.time.Point.{Point}
use Rattle.machine.specs.declared.signal.Signal.{Signal}
use Rattle.machine.specs.declared.signal.Signal.TheVariants.{Absent}
use Rattle.machine.specs.declared.part.Kind.{Kind}
use Rattle.machine.specs.declared.part.Kind.TheVariants.{Constant, Gain, Adder, Square, Pulse, Delay, Integrator}
use Rattle.machine.specs.declared.part.Kind.TheVariants.{ResetIntegrator, Detector, Hold, Sampler, Drive, Clapper}
use Rattle.machine.specs.declared.part.Source.{Source}
use Rattle.machine.specs.declared.part.Source.TheVariants.{Unwired, From}
use Rattle.machine.specs.declared.part.Component.{Component}
use Rattle.machine.specs.declared.part.Part.{Part}
use Rattle.machine.specs.Signal.{product, total, sampled}
use Rattle.machine.specs.Kind.{direct0, direct1, output_as, output}
use Rattle.machine.specs.Model.{blank_part, part_at, reading, reading0, reading1}
use Rattle.machine.specs.Table.{DirectWire}
use Rattle.machine.specs.Step.{with_output}

-- by the kind, an output reads x only through a direct port 0, and y only through a direct port 1
output_as_direct : (k : Kind) (p : Part) (now : Point) (x x' y y' before : Signal) → (direct0 k ≡ true → x ≡ x') →
    (direct1 k ≡ true → y ≡ y') →
    output_as k p now x y before ≡ output_as k p now x' y' before
unfolding output_as
output_as_direct Constant p now x x' y y' before ex ey = refl
output_as_direct Gain p now x x' y y' before ex ey = ap (product p.component.a) (ex refl)
output_as_direct Adder p now x x' y y' before ex ey = ap₂ total (ex refl) (ey refl)
output_as_direct Square p now x x' y y' before ex ey = refl
output_as_direct Pulse p now x x' y y' before ex ey = refl
output_as_direct Delay p now x x' y y' before ex ey = refl
output_as_direct Integrator p now x x' y y' before ex ey = refl
output_as_direct ResetIntegrator p now x x' y y' before ex ey = rw (ey refl)
output_as_direct Detector p now x x' y y' before ex ey = refl
output_as_direct Hold p now x x' y y' before ex ey = rw (ex refl)
output_as_direct Sampler p now x x' y y' before ex ey = ap₂ sampled (ex refl) (ey refl)
output_as_direct Drive p now x x' y y' before ex ey = refl
output_as_direct Clapper p now x x' y y' before ex ey = refl

-- so a part's output depends on the reading of a port only where that port is direct
pub output_direct : (p : Part) (now : Point) (x x' y y' before : Signal) →
    (direct0 p.component.kind ≡ true → x ≡ x') → (direct1 p.component.kind ≡ true → y ≡ y') →
    output p now x y before ≡ output p now x' y' before
unfolding output
output_direct p = output_as_direct p.component.kind p

-- a part without its stored output
abbrev pub unshown : Part → Part
unshown p = with_output p Absent

-- an output does not read the part's stored output
output_as_unshown : (k : Kind) (p : Part) (now : Point) (x y before : Signal) →
    output_as k p now x y before ≡ output_as k (unshown p) now x y before
unfolding output_as
output_as_unshown Constant p now x y before = refl
output_as_unshown Gain p now x y before = refl
output_as_unshown Adder p now x y before = refl
output_as_unshown Square p now x y before = refl
output_as_unshown Pulse p now x y before = refl
output_as_unshown Delay p now x y before = refl
output_as_unshown Integrator p now x y before = refl
output_as_unshown ResetIntegrator p now x y before = refl
output_as_unshown Detector p now x y before = refl
output_as_unshown Hold p now x y before = refl
output_as_unshown Sampler p now x y before = refl
output_as_unshown Drive p now x y before = refl
output_as_unshown Clapper p now x y before = refl

-- the row of a part's kind, at the point now, for the stored outputs of qs: the part's output; the parts `old` are at
-- the point before
abbrev pub row : List Part → Point → List Part → Part → Signal
row old now qs p = output p now (reading0 qs p) (reading1 qs p) (reading0 old p)

-- nor does a row
row_unshown : (old : List Part) (now : Point) (qs : List Part) (p : Part) →
    row old now qs p ≡ row old now qs (unshown p)
unfolding output reading0 reading1
row_unshown old now qs p = output_as_unshown p.component.kind p now (reading0 qs p) (reading1 qs p) (reading0 old p)

-- so parts that agree but for their stored outputs have the same row
pub row_kept : (old : List Part) (now : Point) (qs : List Part) (p p' : Part) → unshown p ≡ unshown p' →
    row old now qs p ≡ row old now qs p'
row_kept old now qs p p' e = row_unshown old now qs p ∙ (ap (row old now qs) e ∙ sym (row_unshown old now qs p'))

-- the stored output of part i
abbrev pub stored : List Part → ℕ → Signal
stored qs i = (part_at qs i).state.output

-- a port reads the same in two lists where its source shows the same
pub reading_same : (qs rs : List Part) (s : Source) → ((i : ℕ) → s ≡ From i → stored qs i ≡ stored rs i) →
    reading qs s ≡ reading rs s
unfolding reading
reading_same qs rs Unwired h = refl
reading_same qs rs (From i) h = h i refl

-- part i feeds a direct port of a component
abbrev pub Feeds : ℕ → Component → Type 0
Feeds i c = ((direct0 c.kind ≡ true) × (c.port0 ≡ From i)) ⊎ ((direct1 c.kind ≡ true) × (c.port1 ≡ From i))

-- a part's row is the same for two lists in which what feeds its direct ports shows the same
pub row_direct : (old : List Part) (now : Point) (qs rs : List Part) (p : Part) →
    ((i : ℕ) → Feeds i p.component → stored qs i ≡ stored rs i) →
    row old now qs p ≡ row old now rs p
unfolding reading0 reading1
row_direct old now qs rs p same =
    output_direct p now (reading0 qs p) (reading0 rs p) (reading1 qs p) (reading1 rs p) (reading0 old p)
    (λ d. reading_same qs rs p.component.port0 (λ i s. same i (inl (d, s))))
    (λ d. reading_same qs rs p.component.port1 (λ i s. same i (inr (d, s))))

-- the components of parts, by number
abbrev pub components : List Part → List Component
components ps = map (λ (p : Part). p.component) ps

-- there are as many as parts
pub components_length : (ps : List Part) → length (components ps) ≡ length ps
components_length ps = length-map ps (λ (p : Part). p.component)

-- what feeds a direct port of part k of a list is wired to it, among its components
pub feeds_wire : (ps : List Part) (k i : ℕ) → k < length ps → Feeds i (part_at ps k).component →
    DirectWire (components ps) i k
feeds_wire ps k i h feeds = (
  omega (arith, components_length ps),
  subst (Feeds i) (sym (get_or-map (λ (p : Part). p.component) ps k blank_part)) feeds,
)

-- so a row of part k is the same where the sources of its direct wires show the same
pub row_at : (old : List Part) (now : Point) (ps qs rs : List Part) (k : ℕ) → k < length ps →
    ((i : ℕ) → DirectWire (components ps) i k → stored qs i ≡ stored rs i) →
    row old now qs (part_at ps k) ≡ row old now rs (part_at ps k)
row_at old now ps qs rs k h same =
    row_direct old now qs rs (part_at ps k) (λ i feeds. same i (feeds_wire ps k i h feeds))
