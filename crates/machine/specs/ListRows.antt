-- Document 01's paragraph on demand 3, of worked lists: which steps are committed, which points are visited, and what
-- the claim says of a list, in the paper's numbers. Assumes nothing.
use Rattle.std.specs.Prelude.{ℕ, ◌+◌, ◌*◌, ◌/◌, ◌≤◌, ◌<◌, ◌≡◌, length, replicate}
use mathlib.Core.List.{List, [], ◌∷◌, Memᴰ}
use Rattle.machine.specs.declared.part.Kind.TheVariants.{Pulse}
use Rattle.machine.specs.declared.model.Model.{Model}
use Rattle.machine.specs.Time.{point, tick}
use Rattle.machine.specs.Model.{part_at, trimmed}
use Rattle.machine.specs.Step.{steps_made}
use Rattle.machine.specs.Advance.{advance, outcome}
use Rattle.machine.specs.Calls.{Call, last_model, committed, visited, machine_calls}
use Rattle.machine.specs.WholeList.{AllAccept, counts_of, sum, OfCall, WholeList}
use Rattle.machine.specs.Played.{crossing}
use Rattle.machine.specs.AdvanceRows.{drive_5}

-- four calls of the example that is revised; and three of a drive with the span 5, of which the first and the last are
-- refused
abbrev pub revised_calls : List Call
revised_calls = machine_calls crossing (replicate 4 8)

abbrev pub driven_calls : List Call
driven_calls = machine_calls drive_5 (3 ∷ 7 ∷ 0 ∷ [])

-- "P means p × r", of part i of a model
abbrev pub pulse_period : Model → ℕ → ℕ
pulse_period m i = (part_at (trimmed m).parts i).component.p * (part_at (trimmed m).parts i).ratio

-- the statement
pub record ListRows : Type 0 where
  -- "Fed are the fresh model and, in order, the step of each answer with number 0; a refused call feeds nothing"
  pub fed : (committed driven_calls ≡ 5 ∷ []) × (committed revised_calls ≡ 2 ∷ 1 ∷ 1 ∷ 0 ∷ [])
  -- "Visited are the start point and each point that a committed step of the list led to"
  pub points :
      (visited crossing revised_calls ≡ point 0 0 ∷ point 2 0 ∷ point 3 0 ∷ point 4 0 ∷ point 4 1 ∷ []) ×
      (visited drive_5 driven_calls ≡ point 0 0 ∷ point 5 0 ∷ [])
  -- the steps' sum, and the model that they lead to: "the list's committed steps are made again"
  pub made :
      (sum (2 ∷ 1 ∷ 1 ∷ 0 ∷ []) ≡ 4) ×
      (steps_made crossing (2 ∷ 1 ∷ []) ≡ last_model crossing (machine_calls crossing (8 ∷ 8 ∷ [])))
  -- "numbers, steps, rounds, revisions and last ceilings": those of an answer are its outcome's
  pub counts : counts_of (advance crossing 8) ≡ outcome crossing 8
  -- the claim of a list: its tick is the sum of the steps, and a local count "tick / ratio rounded down"
  pub ticks :
      (m : Model) (cs : List Call) → WholeList m cs →
      tick (last_model m cs).point ≡ tick m.point + sum (committed cs)
  pub locals :
      (m : Model) (cs : List Call) → WholeList m cs → (i : ℕ) → i < length (trimmed (last_model m cs)).parts →
      (part_at (trimmed (last_model m cs)).parts i).state.local.0 ≡
      tick (last_model m cs).point / (part_at (trimmed (last_model m cs)).parts i).ratio
  -- the claim of a pulse: (k × P, 0) is visited once the tick k × P is reached, and (k × P, 1) once the list ends at a
  -- later tick
  pub pulses :
      (m : Model) (cs : List Call) → WholeList m cs → (i k : ℕ) → i < length (trimmed m).parts →
      (part_at (trimmed m).parts i).component.kind ≡ Pulse → tick m.point < k * pulse_period m i →
      let tick_k = k * pulse_period m i in
      (tick_k ≤ tick (last_model m cs).point → Memᴰ (point tick_k 0) (visited m cs)) ×
      (tick_k < tick (last_model m cs).point → Memᴰ (point tick_k 1) (visited m cs))
  -- the claim of a committed call: no longer step within the last ceiling is accepted by all
  pub longest :
      (c : Call) → OfCall c → c.answer.number ≡ 0 →
      (j : ℕ) → j ≤ c.answer.ceiling → AllAccept (trimmed c.given) j → j ≤ c.answer.step
  -- its own step is accepted by all, within the last ceiling; and of a refused call no step above 0 is
  pub accepted :
      (c : Call) → OfCall c → c.answer.number ≡ 0 →
      (c.answer.step ≤ c.answer.ceiling) × AllAccept (trimmed c.given) c.answer.step
  pub none :
      (c : Call) → OfCall c → (c.answer.number ≡ 0 → ⊥) →
      (j : ℕ) → j ≤ c.answer.ceiling → AllAccept (trimmed c.given) j → j ≡ 0
  -- "final model = committed steps alone"
  pub final :
      (m : Model) (cs : List Call) → WholeList m cs → trimmed (last_model m cs) ≡ steps_made (trimmed m) (committed cs)
