-- Filling a point's outputs in the part order: it changes stored outputs alone, and showing a part reads nothing that
-- trimming cuts away. Assumes nothing.
use Rattle.std.specs.Prelude.{ℕ, ◌+◌, ◌<◌, ◌≡◌, refl, List, [], ◌∷◌, length, get_or, set, take}
use Rattle.std.proofs.Common.{add-one, sym, ap, take-suc}
use Rattle.machine.specs.declared.time.Point.{Point}
use Rattle.machine.specs.declared.signal.Signal.{Signal}
use Rattle.machine.specs.declared.part.Kind.{Kind}
use Rattle.machine.specs.declared.part.Kind.TheVariants.{Constant, Gain, Adder, Square, Pulse, Delay, Integrator}
use Rattle.machine.specs.declared.part.Kind.TheVariants.{ResetIntegrator, Detector, Hold, Sampler, Drive, Clapper}
use Rattle.machine.specs.declared.part.Part.{Part}
use Rattle.machine.specs.declared.model.Model.{Model}
use Rattle.machine.specs.Kind.{output_as, output}
use Rattle.machine.specs.Model.{part_at, reading0, reading1, trimmed, trimmed_part, trimmed_component}
use Rattle.machine.specs.Step.{with_output, shown, filled}
use Rattle.laws.specs.Partway.{mapped_places}
use Rattle.order_laws.specs.Filling.{filled_append}
use Rattle.step_parts.specs.Reading.{SourceBelow, WiredBelow, reading_trimmed}
use Rattle.step_parts.specs.Fillable.{Wired, reading_in_use}

-- the output reads nothing that trimming cuts away
output_as_trimmed :
    (k : Kind) (p : Part) (now : Point) (x y before : Signal) →
    output_as k (trimmed_part p) now x y before ≡ output_as k p now x y before
unfolding output_as trimmed_part trimmed_component
output_as_trimmed Constant p now x y before = refl
output_as_trimmed Gain p now x y before = refl
output_as_trimmed Adder p now x y before = refl
output_as_trimmed Square p now x y before = refl
output_as_trimmed Pulse p now x y before = refl
output_as_trimmed Delay p now x y before = refl
output_as_trimmed Integrator p now x y before = refl
output_as_trimmed ResetIntegrator p now x y before = refl
output_as_trimmed Detector p now x y before = refl
output_as_trimmed Hold p now x y before = refl
output_as_trimmed Sampler p now x y before = refl
output_as_trimmed Drive p now x y before = refl
output_as_trimmed Clapper p now x y before = refl

-- filling the output of the next number in the order; the parts `old` are at the point before
pub filled_next :
    (old : List Part) (now : Point) (order : List ℕ) (i : ℕ) (ps : List Part) → i < length order →
    set (filled old now (take i order) ps) (get_or order i 0)
    (shown old now (filled old now (take i order) ps) (part_at (filled old now (take i order) ps) (get_or order i 0))) ≡
    filled old now (take (i + 1) order) ps
unfolding filled
filled_next old now order i ps h =
    rw (add-one, take-suc order i 0) (sym (filled_append old now (take i order) (get_or order i 0 ∷ []) ps))

-- showing a part of the model `next`, trimmed, `old` standing at the point before
pub shown_trimmed :
    (old next : Model) (now : Point) (p : Part) → Wired (trimmed next) → old.count ≡ next.count →
    old.count ≡ length (trimmed old).parts →
    WiredBelow next.count p.component →
    trimmed_part (shown old.parts now next.parts p) ≡
    shown (trimmed old).parts now (trimmed next).parts (trimmed_part p)
unfolding trimmed shown output reading0 reading1 trimmed_part trimmed_component
shown_trimmed old next now p wired same counted below =
    let before : SourceBelow old.count p.component.port0 = rw same below.port0 in
    rw (
      ← reading_in_use next wired p.component.port0 below.port0,
      ← reading_in_use next wired p.component.port1 below.port1,
      reading_trimmed old.count old.parts p.component.port0 before
          (mapped_places trimmed_part old.count old.parts counted),
    )
    (ap (with_output (trimmed_part p))
    (sym (output_as_trimmed p.component.kind p now (reading0 next.parts p) (reading1 next.parts p)
    (reading0 old.parts p))))
