-- `outputs_length` adds up the lengths of the outputs part by part. An output takes at most 21 bytes and there are at
-- most 32, so that no sum wraps.
use Rattle.std.proofs.Common.{ℕ, ◌+◌, ◌<◌, ◌≡◌, ◌∷◌, List, length, take, arith, ap, refl, ◌∙◌}
use Rattle.machine.specs.declared.signal.Signal.{Signal}
use Rattle.machine.specs.Rehearse.{blank, outputs_text, signal_text}
use Rattle.words_store.specs.ModelIn.{model_in, part_count, stored_state}
use Rattle.write_lines.proofs.Outputs.{all_parts, outputs_few, outputs_longer}
use Rattle.write_lines.proofs.lent_line.outputs_length.Goals as goal

-- what one output more adds to the length of those of the first i parts
one_more : (ts ss : List ℕ) {i sum added : ℕ} {s : Signal} → i < part_count ts → s ≡ (stored_state ss i).output →
    sum ≡ length (outputs_text (take i (model_in ts ss).parts)) → added ≡ length (blank ∷ signal_text s) →
    sum + added ≡ length (outputs_text (take (i + 1) (model_in ts ss).parts))
one_more ts ss {i = i} low same so_far more =
    let here = more ∙ ap (λ (x : Signal). length (blank ∷ signal_text x)) same in
    omega (arith, outputs_longer ts ss i low, here)

pub loop-i-init : goal.loop-i-init
unfolding outputs_text
loop-i-init c = refl

pub overflow_add-length : goal.overflow_add-length
overflow_add-length c =
    let longer = one_more c.args.table.now c.args.state.now (omega arith) c.output_at.ensures c.loop-i.invariant
    c.output_length-length.ensures in
    omega (arith, longer, outputs_few c.args.table.now c.args.state.now (c.loop-i.i + 1) (omega arith))

pub loop-i-preserved : goal.loop-i-preserved
loop-i-preserved c =
    one_more c.args.table.now c.args.state.now (omega arith) c.output_at.ensures c.loop-i.invariant
    c.output_length-length.ensures

pub returns : goal.returns
returns c =
    let all : c.loop-i.i ≡ part_count c.args.table.now = omega arith in
    rw (all, all_parts c.args.table.now c.args.state.now) at c.loop-i.invariant
