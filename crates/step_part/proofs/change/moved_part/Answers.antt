-- `moved_part` is `moved`: the gain is added to the local count. The speed and the held number are the definition's,
-- the second by the new speed where the part has mass.
use Rattle.std.specs.Prelude.{ℕ, ℤ, ◌≡◌, Bool, true, false, cond}
use Rattle.std.specs.Int.{w64}
use Rattle.machine.specs.declared.signal.Signal.{Signal}
use Rattle.machine.specs.declared.signal.Signal.TheVariants.{Value}
use Rattle.std.proofs.Common.{arith, ap, ◌∙◌}
use Rattle.std.proofs.lemmas.Int.{to_z-of_z}
use Rattle.machine.specs.Signal.{integral, is_signal}
use Rattle.machine.specs.Time.{gained}
use Rattle.machine.specs.Step.{gain_of, moved, moved_held, moved_speed, rate}
use Rattle.laws.specs.Signed.{integral_value}
use Rattle.step_part.proofs.change.moved_part.Goals as goal

-- what moves a held number is a signal: the new speed, which is a value, or the reading
rate_signal :
    (mass : Bool) (x : Signal) (d : ℕ) (old speed : ℤ) (by : Signal) → is_signal x ≡ true →
    speed ≡ cond mass (integral old x d) old → by ≡ cond mass (Value speed) x → is_signal by ≡ true
unfolding is_signal
rate_signal true x d old speed by signal moves e = rw (e, moves) (integral_value old x d)
rate_signal false x d old speed by signal moves e = rw e signal

pub number_after-speed-requires-clause-d_bound : goal.number_after-speed-requires-clause-d_bound
unfolding gain_of gained
number_after-speed-requires-clause-d_bound c = grind arith

pub number_after-held-requires-clause-x_value : goal.number_after-held-requires-clause-x_value
number_after-held-requires-clause-x_value c =
    let speed = c.number_after-speed in
    let back = to_z-of_z w64 speed.result (record { sfits = speed.type_inv }) in
    rate_signal c.has_mass-mass.result c.args.x c.gain_of-d.result.0 _ speed.result c.rate_of.result c.requires.x_value
    speed.ensures
    (c.rate_of.ensures ∙ ap (λ (v : ℤ). cond c.has_mass-mass.result (Value v) c.args.x) back)

pub number_after-held-requires-clause-d_bound : goal.number_after-held-requires-clause-d_bound
unfolding gain_of gained
number_after-held-requires-clause-d_bound c = grind arith

pub returns : goal.returns
unfolding moved moved_held moved_speed rate gain_of gained
returns c = grind (arith, to_z-of_z)
