-- `half_waves_of` is `half_waves`. At a positive multiple of the period at least one half wave has passed, so that one
-- can be taken off.
use Rattle.std.specs.Prelude.{ℕ, ◌<◌, ◌/◌, ◌%◌, ◌≤◌, ◌≡◌, true, eqb, ltb}
use Rattle.std.proofs.Common.{arith, eqb-true, ltb-true, sym, ◌∙◌}
use Rattle.machine.specs.Kind.{at_multiple, positive_multiple}
use Rattle.laws.specs.Bools.{and_left, and_right}
use Rattle.step_part.proofs.wave.half_waves_of.Goals as goal

-- a positive multiple is not 0, and so its quotient is not
one_passed : (P t : ℕ) → positive_multiple P t ≡ true → 1 ≤ t / P
unfolding positive_multiple
one_passed P t h =
    let whole : t % P ≡ 0 = eqb-true (t % P) 0 (and_right (ltb 0 t) _ h) in
    let some : 0 < t = ltb-true 0 t (and_left (ltb 0 t) _ h) in
    grind arith

pub overflow_sub-result : goal.overflow_sub-result
unfolding at_multiple
overflow_sub-result c =
    let args = c.args in
    one_passed args.period.0 args.now.t.0
    (and_right (eqb args.now.n 0) _ (sym c.at_multiple_of.ensures ∙ c.if-at_multiple_of.true))
