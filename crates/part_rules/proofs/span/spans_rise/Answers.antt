-- The definition of the spans from i on asks of span i what the loop's turn asks, and then of the rest.
use Rattle.std.proofs.lemmas.List.{at_drop_more, at_drop_all}
use Rattle.machine.specs.Sound.{spans_rise}
use Rattle.part_rules.proofs.span.spans_rise.Goals as goal

pub returns-then-not-span_rises : goal.returns-then-not-span_rises
unfolding spans_rise
returns-then-not-span_rises c =
    rw (
      c.loop-span.invariant,
      at_drop_more (spans_rise c.loop-span.before) c.args.spans.now c.loop-span.span-index 0 c.loop-span-test.true,
      ← c.span_rises.ensures,
      c.if-not-span_rises.true,
    )

pub loop-span-preserved : goal.loop-span-preserved
unfolding spans_rise
loop-span-preserved c =
    rw (
      c.loop-span.invariant,
      at_drop_more (spans_rise c.loop-span.before) c.args.spans.now c.loop-span.span-index 0 c.loop-span-test.true,
      ← c.span_rises.ensures,
      c.if-not-span_rises.false,
    )

pub returns : goal.returns
unfolding spans_rise
returns c =
    rw (
      c.loop-span.invariant,
      at_drop_all (spans_rise c.loop-span.before) c.args.spans.now c.loop-span.span-index c.loop-span-test.false,
    )
