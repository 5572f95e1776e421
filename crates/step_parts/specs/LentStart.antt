-- The start point in words: what filling and settling ask of the words of a model before its start point is filled, and
-- what the model comes to that takes their state. The idea: the new state's words are those of the old one, copied
-- whole, so that the model in words means the one at the point before too. Assumes nothing.
use Rattle.std.specs.Prelude.{ℕ, ◌≤◌, ◌≡◌, refl, List}
use Rattle.std.proofs.Common.{sym, ap, subst, ◌∙◌}
use Rattle.machine.specs.declared.model.Model.{Model}
use Rattle.machine.specs.Model.{most_parts, trimmed}
use Rattle.machine.specs.Table.{Table}
use Rattle.machine.specs.Step.{filled, all_settled}
use Rattle.machine.specs.Fresh.{fresh}
use Rattle.words_store.specs.ModelIn.{WordsThere, model_in}
use Rattle.words_store.specs.Spelling.{spelled_room}
use Rattle.words_transfer.specs.ModelPut.{ModelPut}
use Rattle.words_transfer.specs.Recalled.{Recalled}
use Rattle.step_parts.specs.Trimmed.{Changed}
use Rattle.step_parts.specs.Fillable.{Wired, Fillable}
use Rattle.step_parts.specs.Anyway.{FilledAnyway}
use Rattle.step_parts.specs.StepMade.{filled_settled, filled_settleable}
use Rattle.step_parts.specs.Start.{Unfilled, unfilled, unfilled_fillable, started_is}

-- a model before its start point is filled has no more parts than a model may have
pub unfilled_few : (m : Model) → Unfilled m → m.count ≤ most_parts
unfolding trimmed
unfilled_few m u = rw (← ap (λ (x : Model). x.count) u.is) at (unfilled_fillable u.table u.fits).wired.few

-- such a model in words, and the words ns of its state, copied
module _ (m : Model) (u : Unfilled m) (ts os ns : List ℕ) (put : ModelPut m ts os) (copied : ns ≡ os) where
  -- all of the words are there
  pub start_room : WordsThere ts ns
  start_room = subst (WordsThere ts) (sym copied) (spelled_room ts os put.form)

  -- what filling asks
  pub start_fillable : Fillable (trimmed (model_in ts os)) (trimmed (model_in ts ns))
  start_fillable = rw (copied, put.is, u.is) (unfilled_fillable u.table u.fits)

  -- the words fs, the outputs filled
  module _ (fs : List ℕ) (fills : FilledAnyway (model_in ts os) (model_in ts ns) (model_in ts fs)) where
    -- what settling asks
    pub start_settleable : Wired (trimmed (model_in ts fs))
    start_settleable =
        filled_settleable (trimmed (model_in ts os)).parts (model_in ts ns) (model_in ts fs) start_fillable.wired
        (fills (trimmed (model_in ts ns)).parts refl)

    -- the words ss, the parts settled: the model that takes their state is the fresh one
    pub start_is :
        (ss : List ℕ) (r : Model) →
        Changed (model_in ts fs) (all_settled (trimmed (model_in ts fs)).parts) (model_in ts ss) →
        Recalled m ss r →
        (t : Table) → trimmed m ≡ unfilled t → trimmed r ≡ fresh t
    start_is ss r settles back t e =
        let old = (trimmed (model_in ts os)).parts in
        back.is ts os put.is ∙
        started_is (model_in ts os) (model_in ts ss)
        (subst
        (λ (ws : List ℕ). Changed (model_in ts ws)
        (all_settled (filled old (model_in ts ws).point (trimmed (model_in ts ws)).order
        (trimmed (model_in ts ws)).parts)) (model_in ts ss))
        copied (filled_settled old (model_in ts ns) (model_in ts fs) (model_in ts ss)
        (fills (trimmed (model_in ts ns)).parts refl) settles))
        t (put.is ∙ e)
