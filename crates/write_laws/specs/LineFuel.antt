-- The turns that `lines_from` may take and the places that `digits_before` may fill are never all used: any larger
-- number gives the same text. The idea: a score command takes a byte or more, and a number of more than one digit is
-- larger than its tenth. Assumes nothing.
use Rattle.std.specs.Prelude.{ℕ, zero, suc, ◌+◌, ◌/◌, ◌%◌, ◌≤◌, ◌<◌, ◌≡◌, refl, Bool, true, false, cond, List, ◌∷◌}
use Rattle.std.specs.Prelude.{◌++◌, length, eqb, leb, ltb}
use Rattle.std.proofs.Common.{arith, ap, ltb-true, ltb-false, le-ltb, lt-ltb, eqb-true}
use Rattle.machine.specs.declared.model.Model.{Model}
use Rattle.machine.specs.Answers.{Score}
use Rattle.machine.specs.Answers.{End, Wanted, Refused}
use Rattle.machine.specs.Load.{known_command, want_byte, command_width, byte_at}
use Rattle.machine.specs.Advance.{advance}
use Rattle.machine.specs.Score.{score_command, score_at}
use Rattle.machine.specs.Rehearse.{answer_line, score_lines, lines_from, digits_before}
use Rattle.laws.specs.Bools.{cond_cases, cond_false}

-- where the score goes on, it goes on at a later position
abbrev LaterScore : ℕ → Score → Type 0
LaterScore at End = Unit {0}
LaterScore at (Wanted w next) = at < next
LaterScore at (Refused number position) = Unit {0}

-- so it is with each of its commands, and at each position
command_later : (bs : List ℕ) (at b : ℕ) → LaterScore at (score_command bs at b)
unfolding score_command command_width
command_later bs at b =
    cond_cases (LaterScore at) (known_command b) _ _
    (λ known. cond_cases (LaterScore at) (eqb b want_byte) _ _
    (λ wants. cond_cases (LaterScore at) (leb (at + command_width b) (length bs)) _ _
    (λ whole. rw (eqb-true b want_byte wants) (omega arith))
    (λ cut. tt))
    (λ other. tt))
    (λ unknown. tt)

score_later : (bs : List ℕ) (at : ℕ) → LaterScore at (score_at bs at)
unfolding score_at
score_later bs at = cond_cases (LaterScore at) (ltb at (length bs)) _ _ (λ inside. command_later bs at (byte_at bs at))
    (λ past. tt)

-- where a step is wanted, its position lies within the stream
abbrev Inside : ℕ → ℕ → Score → Type 0
Inside at n End = Unit {0}
Inside at n (Wanted w next) = at < n
Inside at n (Refused number position) = Unit {0}

inside_any : (at n : ℕ) (s : Score) → at < n → Inside at n s
inside_any at n End h = tt
inside_any at n (Wanted w next) h = h
inside_any at n (Refused number position) h = tt

score_inside : (bs : List ℕ) (at : ℕ) → Inside at (length bs) (score_at bs at)
unfolding score_at
score_inside bs at =
    cond_cases (Inside at (length bs)) (ltb at (length bs)) _ _
    (λ inside. inside_any at (length bs) (score_command bs at (byte_at bs at)) (ltb-true at (length bs) inside))
    (λ past. tt)

-- and the next command lies later
pub wanted_later : (bs : List ℕ) (at w next : ℕ) → score_at bs at ≡ Wanted w next → (at < next) × (at < length bs)
wanted_later bs at w next e =
    let later = score_later bs at in
    let inside = score_inside bs at in
    (rw e at later, rw e at inside)

-- past the stream's end the score has ended
pub score_past : (bs : List ℕ) (at : ℕ) → length bs ≤ at → score_at bs at ≡ End
unfolding score_at
score_past bs at past = cond_false (ltb at (length bs)) _ _ (le-ltb at (length bs) past)

-- enough turns make no difference to the lines
pub lines_enough :
    (n k : ℕ) (bs : List ℕ) (at : ℕ) (m : Model) → length bs < at + n → length bs < at + k →
    lines_from n bs at m ≡ lines_from k bs at m
unfolding lines_from
lines_enough zero zero bs at m few many = refl
lines_enough zero (suc k) bs at m few many = rw (score_past bs at (omega arith))
lines_enough (suc n) zero bs at m few many = rw (score_past bs at (omega arith))
lines_enough (suc n) (suc k) bs at m few many = by_score (score_at bs at) (score_later bs at) (lines_enough n k bs)
  where
    by_score :
        (s : Score) → LaterScore at s →
        ((next : ℕ) (z : Model) → length bs < next + n → length bs < next + k →
        lines_from n bs next z ≡ lines_from k bs next z) →
        score_lines s (λ r next. lines_from n bs next r.model) (advance m) ≡
        score_lines s (λ r next. lines_from k bs next r.model) (advance m)
    by_score End later rest = refl
    by_score (Wanted w next) later rest =
        ap (λ text. answer_line (advance m w) ++ text) (rest next (advance m w).model (omega arith) (omega arith))
    by_score (Refused number position) later rest = refl

-- enough places make no difference to a number's digits
pub digits_enough : (f g n : ℕ) (cs : List ℕ) → n ≤ f → n ≤ g → digits_before f n cs ≡ digits_before g n cs
unfolding digits_before
digits_enough zero zero n cs low high = refl
digits_enough zero (suc g) n cs low high = rw (lt-ltb n 10 (omega arith))
digits_enough (suc f) zero n cs low high = rw (lt-ltb n 10 (omega arith))
digits_enough (suc f) (suc g) n cs low high = by_test (ltb n 10) refl (digits_enough f g)
  where
    by_test :
        (b : Bool) → ltb n 10 ≡ b →
        ((k : ℕ) (ds : List ℕ) → k ≤ f → k ≤ g → digits_before f k ds ≡ digits_before g k ds) →
        cond b ((48 + n % 10) ∷ cs) (digits_before f (n / 10) ((48 + n % 10) ∷ cs)) ≡
        cond b ((48 + n % 10) ∷ cs) (digits_before g (n / 10) ((48 + n % 10) ∷ cs))
    by_test true e rest = refl
    by_test false e rest =
        let large : 10 ≤ n = ltb-false n 10 e in
        rest (n / 10) ((48 + n % 10) ∷ cs) (omega arith) (omega arith)
