-- Document 01, "One advance": rounds, ceilings, trials, objections, refusals and counts. A ceiling bounds the step; a
-- round asks every part once; a revision is a trial dropped. Assumes nothing.
use Rattle.std.specs.Prelude.{ℕ, zero, suc, ◌+◌, ◌/◌, min, Bool, false, cond, not, ◌&&◌, List, [], ◌∷◌, eqb, leb, ltb}
use Rattle.machine.specs.declared.part.Part.{Part}
use Rattle.machine.specs.declared.model.Model.{Model}
use Rattle.machine.specs.declared.model.Answer.{Answer}
use Rattle.machine.specs.declared.model.Outcome.{Outcome}
use Rattle.machine.specs.Lists.{any}
use Rattle.machine.specs.Time.{last_tick, last_microstep, tick}
use Rattle.machine.specs.Kind.{period, marked}
use Rattle.machine.specs.Model.{reading0}
use Rattle.machine.specs.Step.{step_made}
use Rattle.machine.specs.Sound.{sound}
use Rattle.machine.specs.Accept.{class_of, Class, waiting, delaying, detecting, driving, free, due, longest}

-- the least of `best` and, over the parts given, of the longest step of at most h that each accepts, where the model m
-- is
unfoldable pub least : Model → ℕ → ℕ → List Part → ℕ
least m h best [] = best
least m h best (p ∷ ps) = least m h (min best (longest p m.point (reading0 m.parts p) h)) ps

-- "A round replaces h by the least, over all parts, of the longest step of at most h that the part accepts"
unfoldable pub round : Model → ℕ → ℕ
round m h = least m h h m.parts

-- some part is due
unfoldable pub any_due : Model → Bool
any_due m = any (λ (p : Part). due p m.point (reading0 m.parts p)) m.parts

-- whether a part of the trial is a detector with a mark set, and h exceeds its P: "If h > P for a detector that would
-- set a mark, it objects"
unfoldable pub objects_as : Class → ℕ → Part → Bool
objects_as waiting h p = false
objects_as delaying h p = false
objects_as detecting h p = marked p.state.mark && ltb (period p) h
objects_as driving h p = false
objects_as free h p = false

-- the part objects to a step of h, by its class
unfoldable pub objects : ℕ → Part → Bool
objects h p = objects_as (class_of p) h p

-- some part of the trial objects
unfoldable pub any_objects : ℕ → Model → Bool
any_objects h trial = any (objects h) trial.parts

-- what a round at h comes to: a lower h, or where it changed nothing a revision to half of h, the step committed, or a
-- refusal with its number
pub data Turn : Type 0 where
  Lower : ℕ → Turn
  Halve : Turn
  Commit : Turn
  Refuse : ℕ → Turn

-- "If h is then 0 and no part is due: refusal 22. If h is 0, one is due and n is 999: refusal 21. Otherwise the step is
-- made on trial"
unfoldable pub tried : Model → ℕ → Turn
tried m h =
    cond (eqb h 0 && not (any_due m)) (Refuse 22)
    (cond (eqb h 0 && any_due m && eqb m.point.n last_microstep) (Refuse 21)
    (cond (any_objects h (step_made m h)) Halve Commit))

-- a round at h, and what follows where it changed nothing
unfoldable pub turn : Model → ℕ → Turn
turn m h = cond (eqb (round m h) h) (tried m h) (Lower (round m h))

-- what a turn at h leads to, after n rounds and v revisions before it, under the ceiling c: rounds go on at a lower h;
-- "the next ceiling and h are floor(h / 2)" and revisions grow by one; or the call ends. The round that changed nothing
-- counts too
abbrev pub followed : Turn → (ℕ → ℕ → ℕ → ℕ → Outcome) → (c h n v : ℕ) → Outcome
followed (Lower l) on c h n v = on c l (n + 1) v
followed Halve on c h n v = on (h / 2) (h / 2) (n + 1) (v + 1)
followed Commit on c h n v = record { number = 0; step = h; rounds = n + 1; revisions = v; ceiling = c }
followed (Refuse k) on c h n v = record { number = k; step = 0; rounds = n + 1; revisions = v; ceiling = c }

-- the turns from h on, at most f of them; h falls with each but the last, so that h + 1 turns are never all taken
-- without an end
unfoldable pub search_from : (ℕ → Turn) → ℕ → (c h n v : ℕ) → Outcome
search_from turn zero c h n v = record { number = 22; step = 0; rounds = n; revisions = v; ceiling = c }
search_from turn (suc f) c h n v = followed (turn h) (search_from turn f) c h n v

-- "The first ceiling is w, and h starts there"
unfoldable pub searched : Model → ℕ → Outcome
searched m w = search_from (turn m) (suc w) w w 0 0

-- the longest step that can be wanted
abbrev pub longest_wanted : ℕ
longest_wanted = 1_000_000_000

-- "Advancing tests 24, 20, 23, then runs": what bars a call before any round, the model not sound 24, "w is 0 or above
-- 10^9" 20, "t + w above 10^18" 23; 0 where nothing does
unfoldable pub barred : Model → ℕ → ℕ
barred m w =
    cond (sound m)
    (cond (leb 1 w && leb w longest_wanted) (cond (leb (tick m.point + w) last_tick) 0 23) 20)
    24

-- a call that is barred has "counts 0"
abbrev pub barred_outcome : ℕ → Outcome
barred_outcome number = record { number = number; step = 0; rounds = 0; revisions = 0; ceiling = 0 }

-- how a call ends: barred, or as its search ends
unfoldable pub outcome : Model → ℕ → Outcome
outcome m w = cond (eqb (barred m w) 0) (searched m w) (barred_outcome (barred m w))

-- "The answer holds the model, number (0 if committed), step, rounds, revisions and last ceiling": the model with the
-- step made where it is committed, else the model handed in
unfoldable pub answer_with : Model → Outcome → Answer
answer_with m o =
    record {
      model = cond (eqb o.number 0) (step_made m o.step) m;
      number = o.number;
      step = o.step;
      rounds = o.rounds;
      revisions = o.revisions;
      ceiling = o.ceiling;
    }

-- one advance
unfoldable pub advance : Model → ℕ → Answer
advance m w = answer_with m (outcome m w)
