-- What loading's answer means: document 01's number, position and model of each of its cases; of a refusal the model is
-- that of no parts with all else 0. Assumes nothing.
use Rattle.std.specs.Prelude.{◌≡◌, refl, Result, Ok, Err}
use Rattle.std.specs.Result.{IsErrAnd}
use Rattle.machine.specs.Answers.{Loaded}
use Rattle.machine.specs.Load.{refused}
use Rattle.machine.specs.Model.{trimmed_loaded}
use Rattle.refusals.specs.declared.RefusedAt.{RefusedAt}
use Rattle.refusals.specs.Numbers.{refusal_number}
use Rattle.load_call.specs.declared.Accepted.{Accepted}
use Rattle.load_call.specs.Blank.{blank_model, blank_trimmed}

-- a table that is accepted
abbrev pub accepted_of : Accepted → Loaded
accepted_of a = record { number = 0; position = a.position; model = a.model }

-- a table that is accepted, or the first refusal with its position
abbrev pub loaded_of : Result Accepted RefusedAt → Loaded
loaded_of (Ok a) = accepted_of a
loaded_of (Err r) = record { number = refusal_number r.refusal; position = r.position; model = blank_model }

-- a load that is refused has the model of no parts with all else 0
pub refused_blank : (l : Result Accepted RefusedAt) → ((loaded_of l).number ≡ 0 → ⊥) →
    (loaded_of l).model ≡ blank_model
refused_blank (Ok a) some = absurd (some refl)
refused_blank (Err r) some = refl

-- once its unused places are cut away, a refusal is the machine's
pub refused_trimmed : (r : RefusedAt) →
    trimmed_loaded (loaded_of (Err r)) ≡ refused (refusal_number r.refusal) r.position
unfolding trimmed_loaded
refused_trimmed r = rw blank_trimmed

-- also one that is passed on
pub passed_trimmed : (l : Result Accepted RefusedAt) (r : RefusedAt) → IsErrAnd l (λ x. x ≡ r) →
    trimmed_loaded (loaded_of l) ≡ refused (refusal_number r.refusal) r.position
passed_trimmed (Ok a) r is = absurd is
passed_trimmed (Err x) r is = rw is (refused_trimmed r)
