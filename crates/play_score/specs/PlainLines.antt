-- Plain lines are the machine's: what is printed for a stream in the plain format is what its load prints by the
-- machine's definition, all of it on standard output. Shown by induction on the turns. Assumes nothing.
use Rattle.std.specs.Prelude.{ℕ, zero, suc, ◌≡◌, refl, Bool, true, false, cond, List, ◌++◌, eqb, length}
use Rattle.std.proofs.Common.{ap}
use Rattle.machine.specs.declared.model.Model.{Model}
use Rattle.machine.specs.Answers.{Score}
use Rattle.machine.specs.Answers.{End, Wanted, Refused}
use Rattle.machine.specs.Answers.{Loaded}
use Rattle.machine.specs.Advance.{advance}
use Rattle.machine.specs.Score.{score_at}
use Rattle.machine.specs.Rehearse.{answer_line, refused_at_line, score_lines, lines_from, loaded_lines}
use Rattle.play_score.specs.declared.format.Format.TheVariants.{Plain}
use Rattle.play_score.specs.Lines.{command_lines, played_from, played_at}
use Rattle.play_score.specs.Lines.{on_output, missing_in, accepted_printout, loaded_printout}

plain_from : (n : ℕ) (bs : List ℕ) (at : ℕ) (m : Model) → played_from n bs at m Plain ≡ lines_from n bs at m
unfolding played_from lines_from
plain_from zero bs at m = refl
plain_from (suc n) bs at m = by_score (score_at bs at) (plain_from n bs)
  where
    by_score : (s : Score) → ((next : ℕ) (z : Model) → played_from n bs next z Plain ≡ lines_from n bs next z) →
        command_lines s (λ r next. played_from n bs next r.model Plain) (advance m) Plain ≡
        score_lines s (λ r next. lines_from n bs next r.model) (advance m)
    by_score End rest = refl
    by_score (Wanted w next) rest = ap (λ text. answer_line (advance m w) ++ text) (rest next (advance m w).model)
    by_score (Refused number position) rest = refl

pub plain_printout : (bs : List ℕ) (r : Loaded) → loaded_printout bs r Plain ≡ on_output (loaded_lines bs r)
unfolding loaded_printout accepted_printout missing_in loaded_lines played_at
plain_printout bs r = by_number (eqb r.number 0) (plain_from (suc (length bs)) bs r.position r.model)
  where
    by_number : (accepted : Bool) → {lines plain : List ℕ} → plain ≡ lines →
        cond accepted (on_output plain) (on_output (refused_at_line r.number r.position)) ≡
        on_output (cond accepted lines (refused_at_line r.number r.position))
    by_number true same = ap on_output same
    by_number false same = refl
