-- `put_outputs` puts the outputs part by part. There is room for one more, since there is for all.
use Rattle.std.proofs.Common.{ℕ, ◌+◌, ◌*◌, ◌≤◌, ◌<◌, ◌≡◌, ◌∷◌, List, length, take, arith, ap}
use Rattle.machine.specs.declared.signal.Signal.{Signal}
use Rattle.machine.specs.Model.{blank_part}
use Rattle.machine.specs.Rehearse.{blank, outputs_text, signal_text}
use Rattle.write_bytes.specs.Put.{Put}
use Rattle.write_bytes.specs.Pieces.{put_nothing, put_then, put_as}
use Rattle.words_store.specs.ModelIn.{model_in, part_count, stored_state}
use Rattle.words_store.specs.StoreFrame.{held_many}
use Rattle.write_lines.proofs.Outputs.{all_parts, lent_output, outputs_few, outputs_longer, outputs_more}
use Rattle.write_lines.proofs.Outputs.{outputs_within}
use Rattle.write_lines.proofs.lent_line.put_outputs.Goals as goal

-- one output more after those of the first i parts
one_more : (ts ss : List ℕ) {i at p q : ℕ} {l₀ l₁ l₂ : List ℕ} {s : Signal} → i < part_count ts →
    s ≡ (stored_state ss i).output →
    Put (21 * i) (outputs_text (take i (model_in ts ss).parts)) at l₀ l₁ p → Put 22 (blank ∷ signal_text s) p l₁ l₂ q →
    Put (21 * (i + 1)) (outputs_text (take (i + 1) (model_in ts ss).parts)) at l₀ l₂ q
one_more ts ss {i} low same before output =
    let inside : i < length (model_in ts ss).parts = rw (held_many ts ss) low in
    let more = outputs_more (model_in ts ss).parts i blank_part inside in
    let put = put_then before (rw (same, lent_output ts ss i low) at output) in
    put_as put more (outputs_few ts ss (i + 1) (omega arith))

-- that has room where all have
enough : (ts ss : List ℕ) {i : ℕ} {s : Signal} → i < part_count ts → s ≡ (stored_state ss i).output →
    length (outputs_text (take i (model_in ts ss).parts)) + length (blank ∷ signal_text s) ≤ length
    (outputs_text (model_in ts ss).parts)
enough ts ss {i = i} low same =
    let here = ap (λ (x : Signal). length (blank ∷ signal_text x)) same in
    omega (arith, outputs_longer ts ss i low, outputs_within (model_in ts ss).parts (i + 1), here)

pub loop-i-init : goal.loop-i-init
unfolding outputs_text
loop-i-init c = put_nothing _ _

pub put_output-next-requires : goal.put_output-next-requires
put_output-next-requires c =
    let low : c.loop-i.i < part_count c.args.table.now = omega arith in
    omega (
      arith,
      enough c.args.table.now c.args.state.now low c.output_at.ensures,
      c.loop-i.invariant.position,
    )

pub loop-i-preserved : goal.loop-i-preserved
loop-i-preserved c =
    one_more c.args.table.now c.args.state.now (omega arith) c.output_at.ensures c.loop-i.invariant
    c.put_output-next.ensures

pub returns : goal.returns
returns c =
    let all : c.loop-i.i ≡ part_count c.args.table.now = omega arith in
    rw (all, all_parts c.args.table.now c.args.state.now) at c.loop-i.invariant
