-- The spans rise where those from here on do, after the one before.
use Rattle.std.specs.Prelude.{◌≡◌, drop}
use Rattle.machine.specs.Sound.{spans_rise}
use Rattle.part_rules.proofs.span.spans_rise.Given as goal

abbrev pub invariant-loop-span : goal.invariant-loop-span
invariant-loop-span l = spans_rise 0 l.spans ≡ spans_rise l.before (drop l.span-index l.spans)
