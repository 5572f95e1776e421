-- The rows of demand 3: worked lists compute, and what the claim says is a field of it. Assumes nothing.
use Prim.Native.Nat.{ℕ, ◌*◌, ◌<◌}
use mathlib.Core.Path.{◌≡◌, refl}
use mathlib.Core.List.{List, Memᴰ}
use lib.ListN.{length}
use borrow.Author.Tests.{lt-ltb}
use Rattle.machine.specs.declared.time.Point.{Point}
use Rattle.std.specs.declared.cmp.Ordering.TheVariants.{Less}
use Rattle.machine.specs.declared.part.Kind.TheVariants.{Pulse}
use Rattle.machine.specs.declared.model.Model.{Model}
use Rattle.machine.specs.Time.{point, tick, compared}
use Rattle.machine.specs.Model.{part_at, trimmed}
use Rattle.machine.specs.Step.{steps_made}
use Rattle.machine.specs.Calls.{Call, last_model, points_led_to, visited}
use Rattle.machine.specs.WholeList.{counts_of, sum, WholeList}
use Rattle.machine.specs.ListRows.{pulse_period, ListRows}
use Rattle.machine.proofs.Computing.{computing}

-- a point of a smaller tick is earlier
earlier : (p q : Point) → tick p < tick q → compared p q ≡ Less
unfolding compared
earlier p q less = rw (lt-ltb (tick p) (tick q) less) refl

-- the pulse's second point, once the list ends at a later tick
second_point : (m : Model) (cs : List Call) → WholeList m cs → (i k : ℕ) → i < length (trimmed m).parts →
    (part_at (trimmed m).parts i).component.kind ≡ Pulse → tick m.point < k * pulse_period m i →
    k * pulse_period m i < tick (last_model m cs).point → Memᴰ (point (k * pulse_period m i) 1) (visited m cs)
second_point m cs claimed i k some pulse after later =
    claimed.passed i k some pulse after (earlier (point (k * pulse_period m i) 0) (last_model m cs).point later)

pub list_rows : ListRows
unfolding computing steps_made points_led_to visited counts_of sum
list_rows =
    record {
      fed = (refl, refl);
      points = (refl, refl);
      made = (refl, refl);
      counts = refl;
      ticks = λ m cs claimed. claimed.ticks;
      locals = λ m cs claimed. claimed.locals;
      pulses =
          λ m cs claimed i k some pulse after.
          (claimed.reached i k some pulse after, second_point m cs claimed i k some pulse after);
      longest = λ c claimed. claimed.longest;
      accepted = λ c claimed done. (claimed.within done, claimed.accepted done);
      none = λ c claimed. claimed.refused;
      final = λ m cs claimed. claimed.same;
    }
