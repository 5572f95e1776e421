-- The numbers that begin a line. Assumes nothing.
use Rattle.std.specs.Prelude.{List, ◌∷◌, ◌++◌, ℕ}
use Rattle.machine.specs.declared.time.Point.{Point}
use Rattle.machine.specs.declared.model.Outcome.{Outcome}
use Rattle.machine.specs.Time.{tick}
use Rattle.machine.specs.Rehearse.{blank, decimal}

-- the numbers that begin the line of a committed advance
unfoldable pub numbers_text : ℕ → ℕ → ℕ → ℕ → ℕ → List ℕ
numbers_text t n step rounds revisions =
    decimal t ++ (blank ∷ (decimal n ++
    (blank ∷ (decimal step ++ (blank ∷ (decimal rounds ++ (blank ∷ decimal revisions)))))))

-- those of the point at which a call's answer is and of how the call ended
abbrev pub answer_numbers : Point → Outcome → List ℕ
answer_numbers now outcome = numbers_text (tick now) now.n outcome.step outcome.rounds outcome.revisions
