-- `write_spelled` puts the line where the buffer has room for it: because it has room for any line of so many parts, or
-- because the line was measured and is no longer. The three pieces that are put one after the other are the
-- definition's text, which is the line whatever the ceiling is.
use Rattle.std.proofs.Common.{ℕ, ◌+◌, ◌*◌, ◌≤◌, ◌≡◌, List, length, get_or, w64, Fits, arith}
use Rattle.machine.specs.declared.time.Point.{Point}
use Rattle.machine.specs.declared.model.Outcome.{Outcome}
use Rattle.machine.specs.Time.{tick}
use Rattle.machine.specs.Rehearse.{outputs_text}
use Rattle.write_bytes.specs.Fitting.{put_in}
use Rattle.write_bytes.specs.Pieces.{put_then}
use Rattle.words_store.specs.ModelIn.{model_in, part_count, stored_point}
use Rattle.write_lines.specs.LineNumbers.{answer_numbers}
use Rattle.write_lines.proofs.Outputs.{committed_lent, lent_most, lent_size, lent_text, refused_lent}
use Rattle.write_lines.proofs.LineBounds.{no_room, numbers_most}
use Rattle.write_lines.proofs.lent_line.write_spelled.Goals as goal
use Rattle.write_lines.proofs.lent_line.write_spelled.Goals.{Joined-buf-parts_of}
use Rattle.write_lines.proofs.lent_line.write_spelled.Goals.{then-buf-parts_of+else-buf-length, else-buf-parts_of}

-- the numbers of a point that words hold fit a word
point_fits : (ss : List ℕ) {now : Point} → now ≡ stored_point ss → ((k : ℕ) → Fits w64 (get_or ss k 0)) →
    Fits w64 (tick now) × Fits w64 now.n
unfolding stored_point
point_fits ss same word = rw same (word 0, word 1)

-- the line of a committed call, how long it is, and at most
module _
    (ts ss : List ℕ)
    (outcome : Outcome)
    {now : Point}
    (same : now ≡ stored_point ss)
    (word : (k : ℕ) → Fits w64 (get_or ss k 0))
    (fstep : Fits w64 outcome.step)
    (frounds : Fits w64 outcome.rounds)
    (frevisions : Fits w64 outcome.revisions)
  where
    size :
        (length (lent_text ts ss now outcome.step outcome.rounds outcome.revisions) ≡
        length (answer_numbers now outcome) + length (outputs_text (model_in ts ss).parts) + 1) ×
        (length (lent_text ts ss now outcome.step outcome.rounds outcome.revisions) ≤ 21 * part_count ts + 105)
    size =
        let point = point_fits ss same word in (
          lent_size ts ss now outcome.step outcome.rounds outcome.revisions,
          lent_most ts ss now outcome.step outcome.rounds outcome.revisions
              (numbers_most point.0 point.1 fstep frounds frevisions),
        )

-- there is room for it where the two ways meet
enough : (c : Joined-buf-parts_of) → length (lent_text c.args.table.now c.args.state.now c.point_of-now.result
    c.args.outcome.step c.args.outcome.rounds c.args.outcome.revisions) ≤ length c.args.buf.now
enough c =
    let line = size c.args.table.now c.args.state.now c.args.outcome c.point_of-now.ensures c.type_inv.state
    (omega (arith, c.well_formed)) (omega (arith, c.well_formed)) (omega (arith, c.well_formed)) in
    elim c.if-buf-parts_of.branch [
      | then-buf-parts_of+else-buf-length w ↦ omega arith
      | else-buf-parts_of w ↦ omega arith
    ]

pub returns-then-outcome-ne0-clause-written_as : goal.returns-then-outcome-ne0-clause-written_as
returns-then-outcome-ne0-clause-written_as c ceiling =
    rw (← refused_lent c.args.table.now c.args.state.now c.args.outcome.number c.args.outcome.step
    c.args.outcome.rounds c.args.outcome.revisions c.if-outcome-ne0.true ceiling) c.write_refused.ensures.written_as

pub overflow_add-length : goal.overflow_add-length
overflow_add-length c =
    let line = size c.args.table.now c.args.state.now c.args.outcome c.point_of-now.ensures c.type_inv.state
    (omega (arith, c.well_formed)) (omega (arith, c.well_formed)) (omega (arith, c.well_formed)) in
    omega arith

pub overflow_add-length-then-buf-parts_of : goal.overflow_add-length-then-buf-parts_of
overflow_add-length-then-buf-parts_of c =
    let line = size c.args.table.now c.args.state.now c.args.outcome c.point_of-now.ensures c.type_inv.state
    (omega (arith, c.well_formed)) (omega (arith, c.well_formed)) (omega (arith, c.well_formed)) in
    omega arith

pub returns-then-buf-length-clause-written_as : goal.returns-then-buf-length-clause-written_as
returns-then-buf-length-clause-written_as c ceiling =
    let line = size c.args.table.now c.args.state.now c.args.outcome c.point_of-now.ensures c.type_inv.state
    (omega (arith, c.well_formed)) (omega (arith, c.well_formed)) (omega (arith, c.well_formed)) in
    rw (← committed_lent c.args.table.now c.args.state.now c.args.outcome.number c.args.outcome.step
    c.args.outcome.rounds c.args.outcome.revisions c.if-outcome-ne0.false c.point_of-now.ensures ceiling)
    (no_room _ _ _ (omega arith) c.if-buf-length.true)

pub returns-then-buf-length-clause-length_bound : goal.returns-then-buf-length-clause-length_bound
returns-then-buf-length-clause-length_bound c =
    let line = size c.args.table.now c.args.state.now c.args.outcome c.point_of-now.ensures c.type_inv.state
    (omega (arith, c.well_formed)) (omega (arith, c.well_formed)) (omega (arith, c.well_formed)) in
    omega arith

pub put_numbers-at-requires : goal.put_numbers-at-requires
put_numbers-at-requires c =
    let line = lent_size c.args.table.now c.args.state.now c.point_of-now.result c.args.outcome.step
    c.args.outcome.rounds c.args.outcome.revisions in
    omega (arith, enough (goal.at.put_numbers-at-requires c).Joined-buf-parts_of)

pub put_outputs-at-requires-clause-has_room : goal.put_outputs-at-requires-clause-has_room
put_outputs-at-requires-clause-has_room c =
    let line = lent_size c.args.table.now c.args.state.now c.point_of-now.result c.args.outcome.step
    c.args.outcome.rounds c.args.outcome.revisions in
    omega (
      arith,
      enough (goal.at.put_outputs-at-requires-clause-has_room c).Joined-buf-parts_of,
      c.put_numbers-at.ensures.position,
    )

pub put_byte-requires : goal.put_byte-requires
put_byte-requires c =
    let line = lent_size c.args.table.now c.args.state.now c.point_of-now.result c.args.outcome.step
    c.args.outcome.rounds c.args.outcome.revisions in
    omega (
      arith,
      enough (goal.at.put_byte-requires c).Joined-buf-parts_of,
      c.put_numbers-at.ensures.position,
      c.put_outputs-at.ensures.position,
    )

pub returns-clause-written_as : goal.returns-clause-written_as
returns-clause-written_as c ceiling =
    let put = put_then (put_then c.put_numbers-at.ensures c.put_outputs-at.ensures) c.put_byte.ensures in
    rw (← committed_lent c.args.table.now c.args.state.now c.args.outcome.number c.args.outcome.step
    c.args.outcome.rounds c.args.outcome.revisions c.if-outcome-ne0.false c.point_of-now.ensures ceiling)
    (put_in (enough (goal.at.returns-clause-written_as c).Joined-buf-parts_of) put)
