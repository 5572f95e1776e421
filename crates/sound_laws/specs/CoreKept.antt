-- What showing and settling keep of a part, whatever the order of showing: its component, its ratio and its local
-- count, here called its core. With the ranges that they keep too, the states of parts shown and settled fit. Assumes
-- nothing.
use Rattle.std.specs.Prelude.{ℕ, ◌≡◌, refl, List, [], ◌∷◌, map, set}
use Rattle.std.proofs.Common.{sym, ap, ◌∙◌}
use Rattle.std.proofs.lemmas.Simd.{map-map}
use Rattle.std.proofs.Math.Seq.{map-set_same}
use Rattle.machine.specs.declared.time.LocalTicks.{LocalTicks}
use Rattle.machine.specs.declared.time.Point.{Point}
use Rattle.machine.specs.declared.signal.Signal.{Signal}
use Rattle.machine.specs.declared.part.Kind.{Kind}
use Rattle.machine.specs.declared.part.Kind.TheVariants.{Constant, Gain, Adder, Square, Pulse, Delay, Integrator}
use Rattle.machine.specs.declared.part.Kind.TheVariants.{ResetIntegrator, Detector, Hold, Sampler, Drive, Clapper}
use Rattle.machine.specs.declared.part.Component.{Component}
use Rattle.machine.specs.declared.part.Part.{Part}
use Rattle.machine.specs.Lists.{All}
use Rattle.machine.specs.Time.{local_count}
use Rattle.machine.specs.Model.{blank_part, part_at, with_state, reading0}
use Rattle.machine.specs.Step.{with_output, shown, filled, settled_as, settled, all_settled}
use Rattle.laws.specs.Alls.{map_kept, all_same_map}
use Rattle.sound_laws.specs.Facts.{StateFits}
use Rattle.sound_laws.specs.RangesKept.{InRange, filled_in_range, all_settled_in_range}

-- the core of a part
pub record Core : Type 0 where
  pub component : Component
  pub ratio : ℕ
  pub local : LocalTicks

-- of each part
abbrev pub core : Part → Core
core p = record { component = p.component; ratio = p.ratio; local = p.state.local }

-- showing keeps whatever does not depend on the stored output
pub filled_kept :
    {B : Type 0} (g : Part → B) → ((p : Part) (out : Signal) → g (with_output p out) ≡ g p) →
    (old : List Part) (now : Point) (ks : List ℕ) (ps : List Part) → map g (filled old now ks ps) ≡ map g ps
unfolding filled shown
filled_kept g keeps old now [] ps = refl
filled_kept g keeps old now (k ∷ ks) ps =
    filled_kept g keeps old now ks (set ps k (shown old now ps (part_at ps k))) ∙
    map-set_same g ps k (shown old now ps (part_at ps k)) blank_part (keeps (part_at ps k) _)

-- settling keeps the core
settled_core : (k : Kind) (x : Signal) (p : Part) → core (with_state p (settled_as k x p.state)) ≡ core p
unfolding settled_as
settled_core Constant x p = refl
settled_core Gain x p = refl
settled_core Adder x p = refl
settled_core Square x p = refl
settled_core Pulse x p = refl
settled_core Delay x p = refl
settled_core Integrator x p = refl
settled_core ResetIntegrator x p = refl
settled_core Detector x p = refl
settled_core Hold x p = refl
settled_core Sampler x p = refl
settled_core Drive x p = refl
settled_core Clapper x p = refl

-- the parts shown at a point and settled
abbrev pub finished : List Part → Point → List ℕ → List Part → List Part
finished old now ks ps = all_settled (filled old now ks ps)

-- showing and settling keep the cores
pub finished_core : (old : List Part) (now : Point) (ks : List ℕ) (ps : List Part) →
    map core (finished old now ks ps) ≡ map core ps
unfolding all_settled settled
finished_core old now ks ps =
    map_kept core (λ (p : Part). settled (reading0 (filled old now ks ps) p) p) (filled old now ks ps)
    (λ p. settled_core p.component.kind (reading0 (filled old now ks ps) p) p) ∙
    filled_kept core (λ p out. refl) old now ks ps

-- so they keep whatever is read from the cores
pub finished_kept {ℓ} :
    {B : Type ℓ} (f : Core → B) (old : List Part) (now : Point) (ks : List ℕ) (ps : List Part) →
    map (λ (p : Part). f (core p)) (finished old now ks ps) ≡ map (λ (p : Part). f (core p)) ps
finished_kept f old now ks ps =
    sym (map-map f core (finished old now ks ps)) ∙ ap (map f) (finished_core old now ks ps) ∙ map-map f core ps

-- the local count of a core is floor(t / r)
abbrev pub Counted : ℕ → Core → Type 0
Counted t c = c.local.0 ≡ (local_count t c.ratio).0

-- states fit where all is in range and the local counts are floor(t / r)
states_fit : (t : ℕ) (ps : List Part) → All InRange ps → All (λ p. Counted t (core p)) ps → All (StateFits t) ps
states_fit t [] r c = tt
states_fit t (p ∷ ps) r c = (
  record { local = c.0; held = r.0.held; speed = r.0.speed; signal = r.0.signal; output = r.0.output },
  states_fit t ps r.1 c.1,
)

-- so the states of parts shown and settled fit where the parts and those of the point before are in range and the local
-- counts are floor(t / r)
pub finished_states :
    (old : List Part) (now : Point) (ks : List ℕ) (ps : List Part) (t : ℕ) → All InRange old → All InRange ps →
    All (λ p. Counted t (core p)) ps →
    All (StateFits t) (finished old now ks ps)
finished_states old now ks ps t before r c =
    states_fit t (finished old now ks ps)
    (all_settled_in_range (filled old now ks ps) (filled_in_range old now before ks ps r))
    (all_same_map core (Counted t) (finished old now ks ps) ps (finished_core old now ks ps) c)
