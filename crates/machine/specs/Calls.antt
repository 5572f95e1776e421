-- Calls of advance, and chains of them: what `advance` promises, and what a list of calls is of which document 01's
-- third demand speaks. Assumes nothing.
use Rattle.std.specs.Prelude.{ℕ, ◌≡◌, cond, List, [], ◌∷◌, eqb}
use Rattle.machine.specs.declared.time.Point.{Point}
use Rattle.machine.specs.declared.model.Model.{Model}
use Rattle.machine.specs.declared.model.Answer.{Answer}
use Rattle.machine.specs.Time.{led_to}
use Rattle.machine.specs.Model.{trimmed, trimmed_answer, SameUnused}
use Rattle.machine.specs.Advance.{advance}

-- what the call `advance` promises of its answer r, for every model m and wanted step w: the machine's answer, trimmed;
-- the very model handed in where it is refused; and where it is committed, the same bytes in unused places
pub record Advanced (m : Model) (w : ℕ) (r : Answer) : Type 0 where
  pub machine : trimmed_answer r ≡ advance (trimmed m) w
  pub unchanged : (r.number ≡ 0 → ⊥) → r.model ≡ m
  pub unused : SameUnused m r.model

-- a call: the model that it was given, the wanted step, and the answer
pub record Call : Type 0 where
  pub given : Model
  pub wanted : ℕ
  pub answer : Answer

-- a chain of calls from m: "The first call gets the fresh model, and nothing else writes the model between two calls"
abbrev pub Chain : Model → List Call → Type 0
Chain m [] = Unit {0}
Chain m (c ∷ cs) = (c.given ≡ m) × Advanced c.given c.wanted c.answer × Chain c.answer.model cs

-- the model that the last answer of a list holds, m where there is no call
unfoldable pub last_model : Model → List Call → Model
last_model m [] = m
last_model m (c ∷ cs) = last_model c.answer.model cs

-- "in order, the step of each answer with number 0; a refused call feeds nothing"
unfoldable pub committed : List Call → List ℕ
committed [] = []
committed (c ∷ cs) = cond (eqb c.answer.number 0) (c.answer.step ∷ committed cs) (committed cs)

-- the points that committed steps led to
unfoldable pub points_led_to : List Call → List Point
points_led_to [] = []
points_led_to (c ∷ cs) =
    cond (eqb c.answer.number 0) (led_to c.given.point c.answer.step ∷ points_led_to cs) (points_led_to cs)

-- "Visited are the start point and each point that a committed step of the list led to"
unfoldable pub visited : Model → List Call → List Point
visited m cs = m.point ∷ points_led_to cs

-- the machine's own calls from a model, one for each wanted step
unfoldable pub machine_calls : Model → List ℕ → List Call
machine_calls m [] = []
machine_calls m (w ∷ ws) =
    record { given = m; wanted = w; answer = advance m w } ∷ machine_calls (advance m w).model ws
