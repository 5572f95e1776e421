-- Document 01, "One advance", the paragraph "Demand 3 is a single claim about the whole list": the claim, as one
-- statement about a list of calls from a model. Words in quotation marks that are not document 01's are the third
-- demand's own. It speaks of any list, so that it can be false of one. Assumes nothing.
use Rattle.std.specs.Prelude.{ℕ, ◌+◌, ◌*◌, ◌/◌, ◌≤◌, ◌<◌, ◌≡◌, length}
use mathlib.Core.List.{List, [], ◌∷◌, Memᴰ}
use Rattle.std.specs.declared.cmp.Ordering.TheVariants.{Less}
use Rattle.machine.specs.declared.part.Kind.TheVariants.{Pulse}
use Rattle.machine.specs.declared.model.Model.{Model}
use Rattle.machine.specs.declared.model.Answer.{Answer}
use Rattle.machine.specs.Lists.{All}
use Rattle.machine.specs.Time.{point, tick, compared}
use Rattle.machine.specs.Kind.{period}
use Rattle.machine.specs.Model.{part_at, reading0, trimmed}
use Rattle.machine.specs.Step.{steps_made}
use Rattle.machine.specs.Accept.{Accepts}
use Rattle.machine.specs.Advance.{outcome}
use Rattle.machine.specs.declared.model.Outcome.{Outcome}
use Rattle.machine.specs.Calls.{Call, last_model, committed, visited}

-- all parts accept a step of h, where the model m is
abbrev pub AllAccept : Model → ℕ → Type 0
AllAccept m h = (i : ℕ) → i < length m.parts →
    Accepts (part_at m.parts i) m.point (reading0 m.parts (part_at m.parts i)) h

-- the number, step, rounds, revisions and last ceiling of an answer
unfoldable pub counts_of : Answer → Outcome
counts_of r =
    record { number = r.number; step = r.step; rounds = r.rounds; revisions = r.revisions; ceiling = r.ceiling }

-- "at most 9m + 30 rounds and 29 revisions a call", m being the number of parts
abbrev pub most_rounds : ℕ → ℕ
most_rounds m = 9 * m + 30

abbrev pub most_revisions : ℕ
most_revisions = 29

-- what the claim says of each call. "What a part accepts where a call began is read from the model that the call was
-- given"
pub record OfCall (c : Call) : Type 0 where
  -- "the numbers, steps, rounds, revisions and last ceilings of the list's answers are those that the machine above
  -- gives"
  pub machine : counts_of c.answer ≡ outcome (trimmed c.given) c.wanted
  pub rounds : c.answer.rounds ≤ most_rounds (length (trimmed c.given).parts)
  pub revisions : c.answer.revisions ≤ most_revisions
  -- "each committed step is the longest within the last ceiling that all parts accept where the call began"
  pub within : c.answer.number ≡ 0 → c.answer.step ≤ c.answer.ceiling
  pub accepted : c.answer.number ≡ 0 → AllAccept (trimmed c.given) c.answer.step
  pub longest : c.answer.number ≡ 0 → (j : ℕ) → j ≤ c.answer.ceiling → AllAccept (trimmed c.given) j →
      j ≤ c.answer.step
  -- "and a refused call has none above 0"
  pub refused : (c.answer.number ≡ 0 → ⊥) → (j : ℕ) → j ≤ c.answer.ceiling → AllAccept (trimmed c.given) j →
      j ≡ 0

-- the sum of a list of steps
unfoldable pub sum : List ℕ → ℕ
sum [] = 0
sum (h ∷ hs) = h + sum hs

-- "ONE claim about the whole list" of calls from the model m
pub record WholeList (m : Model) (cs : List Call) : Type 0 where
  -- "final model = committed steps alone"
  pub same : trimmed (last_model m cs) ≡ steps_made (trimmed m) (committed cs)
  -- "tick = their sum", counted from the tick that the list began at
  pub ticks : tick (last_model m cs).point ≡ tick m.point + sum (committed cs)
  -- "local counts = tick / ratio rounded down"
  pub locals :
      (i : ℕ) → i < length (trimmed (last_model m cs)).parts →
      (part_at (trimmed (last_model m cs)).parts i).state.local.0 ≡
      tick (last_model m cs).point / (part_at (trimmed (last_model m cs)).parts i).ratio
  -- "pulses' points (kP, 0) and (kP, 1) visited": the first once the tick kP is reached, the second once the list has
  -- passed the first: it ends at a later tick, or at the tick kP with a microstep above 0
  pub reached :
      (i k : ℕ) → i < length (trimmed m).parts → (part_at (trimmed m).parts i).component.kind ≡ Pulse →
      tick m.point < k * period (part_at (trimmed m).parts i) →
      k * period (part_at (trimmed m).parts i) ≤ tick (last_model m cs).point →
      Memᴰ (point (k * period (part_at (trimmed m).parts i)) 0) (visited m cs)
  pub passed :
      (i k : ℕ) → i < length (trimmed m).parts → (part_at (trimmed m).parts i).component.kind ≡ Pulse →
      tick m.point < k * period (part_at (trimmed m).parts i) →
      compared (point (k * period (part_at (trimmed m).parts i)) 0) (last_model m cs).point ≡ Less →
      Memᴰ (point (k * period (part_at (trimmed m).parts i)) 1) (visited m cs)
  pub calls : All OfCall cs
