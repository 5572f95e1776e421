-- What a model is that was just loaded, whatever is in its unused places: it is the fresh one of a table that fits, so
-- it is sound, and it is at the start point. So document 01's third demand holds of every stream that loads and every
-- chain of calls from the model that it loads to (`proofs/Demand3.antt`). That the calls of `advance` form such chains
-- is in `advance_call`'s EveryList.antt, above the crate that has the call. Assumes nothing.
use Rattle.std.specs.Prelude.{ℕ, ◌≡◌, true, List}
use Rattle.std.proofs.Common.{ap, sym, subst, ◌∙◌}
use Rattle.machine.specs.declared.model.Model.{Model}
use Rattle.machine.specs.Answers.{Loaded}
use Rattle.machine.specs.Time.{start}
use Rattle.machine.specs.Model.{part_at, trimmed, trimmed_loaded}
use Rattle.machine.specs.Fresh.{fresh}
use Rattle.machine.specs.Load.{load}
use Rattle.machine.specs.Sound.{sound}
use Rattle.sound_laws.specs.Accepted.{load_fits}
use Rattle.sound_laws.specs.FreshSound.{fresh_start, fresh_local, fresh_sound}

-- what a model is that was just loaded: sound, at the start point, with local counts 0
pub record JustLoaded (m : Model) : Type 0 where
  pub is_sound : sound (trimmed m) ≡ true
  pub at_start : m.point ≡ start
  pub locals : (i : ℕ) → (part_at (trimmed m).parts i).state.local.0 ≡ 0

-- the model of a stream that loads is one
pub just_loaded : (bs : List ℕ) (r : Loaded) → trimmed_loaded r ≡ load bs → r.number ≡ 0 → JustLoaded r.model
unfolding trimmed trimmed_loaded
just_loaded bs r loads accepted =
    let (t, fits, is_fresh) = load_fits bs (sym (ap (λ (l : Loaded). l.number) loads) ∙ accepted) in
    let same : trimmed r.model ≡ fresh t = ap (λ (l : Loaded). l.model) loads ∙ is_fresh in
    record {
      is_sound = subst (λ (m : Model). sound m ≡ true) (sym same) (fresh_sound t fits);
      at_start = ap (λ (m : Model). m.point) same ∙ fresh_start t;
      locals = λ i. subst (λ (m : Model). (part_at m.parts i).state.local.0 ≡ 0) (sym same) (fresh_local t i);
    }
