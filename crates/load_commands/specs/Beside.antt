-- Laws of a Span that is judged by the last part's count of spans and by its last span alone: with the rows that hold
-- that span, it is document 01's. Assumes nothing.
use Rattle.std.specs.Prelude.{ℕ, ◌+◌, ◌-◌, ◌≤◌, ◌<◌, ◌≡◌, List, [], length, get_or}
use native.Mathlib.Omega.{arith}
use Rattle.std.proofs.Math.Path.{ap}
use Rattle.std.proofs.Math.ListN.{length-take}
use Rattle.machine.specs.Table.{component_at}
use Rattle.machine.specs.Load.{Read, last_part, last_span, span_command, span_refusal, unless_refused, word_at}
use Rattle.load_operands.specs.Refusals.{span_number}
use Rattle.load_operands.specs.Tests.{at_least_min}
use Rattle.load_commands.specs.declared.progress.Progress.{Progress}
use Rattle.load_commands.specs.Progress.{with_row, reading_of}
use Rattle.load_commands.specs.SpanRows.{length_reading, reading_at}
use Rattle.load_commands.specs.Spanned.{Beside, last_of, last_place, span_count, spanned_reading}

-- the Span at a position, the last part's last span being given
unfoldable pub span_stepped : List ℕ → ℕ → Progress → ℕ → List (List ℕ) → Read
span_stepped bs at progress last rows =
    unless_refused (span_number (span_count progress) last (word_at bs (at + 1))) at (at + 5)
    (spanned_reading (reading_of progress rows) (last_place progress) (word_at bs (at + 1)))

module _ (progress : Progress) (rows : List (List ℕ)) (last : ℕ) (some : 0 < progress.count)
    (few : progress.count ≤ length progress.parts)
    (beside : Beside progress rows last) where
  -- the refusal of a Span is the one by the last part's count and last span
  refusal_as : (v : ℕ) → span_refusal (component_at (reading_of progress rows).table.parts (last_place progress)) v ≡
      span_number (span_count progress) last v
  unfolding with_row span_refusal span_number last_span last_of
  refusal_as v =
      let k = last_place progress in
      let here : k < progress.count = omega arith in
      rw (
        reading_at progress rows k here few,
        beside.final,
        length-take (span_count progress) (get_or rows k []),
        beside.row.eight,
        at_least_min 8 (span_count progress),
      )

  -- the last part of the reading is in the last place
  last_as : last_part (reading_of progress rows).table.parts ≡ last_place progress
  unfolding last_part
  last_as = ap (λ n. n - 1) (length_reading progress rows few)

  -- so that the Span is document 01's
  pub span_beside_as : (bs : List ℕ) (at : ℕ) →
      span_stepped bs at progress last rows ≡ span_command bs at (reading_of progress rows)
  unfolding span_stepped span_command spanned_reading
  span_beside_as bs at = rw (last_as, refusal_as (word_at bs (at + 1)))
