-- What the program `rehearse` prints, whole: what is said at the beginning and the text of every batch, one after the
-- other, are the machine's `rehearsed`, for the bytes that are read of all that standard input holds. Assumes
-- nothing.
use Rattle.std.specs.Prelude.{ℕ, ◌<◌, ◌≡◌, List, ◌∷◌, ◌++◌, length, take}
use Rattle.std.proofs.Common.{sym, ◌∙◌}
use Rattle.machine.specs.Load.{load}
use Rattle.machine.specs.Rehearse.{most_read, rehearsed}
use Rattle.play_score.specs.declared.format.Format.TheVariants.{Plain}
use Rattle.play_score.specs.Lines.{on_output, score_printout}
use Rattle.play_score.specs.PlainLines.{plain_printout}
use Rattle.play_score.specs.WholeScore.{Batch, batch_text, InBatches, said_by}
use Rattle.play_score.proofs.WholeScore.{whole_score}

-- batches that print the bytes that are read of an input, in plain lines
abbrev pub Rehearsed : List ℕ → List Batch → Type 0
Rehearsed input batches = InBatches (take most_read input) Plain batches

-- The statement, for every input and every list of batches that rehearse it: they print what is rehearsed, on standard
-- output. A batch that has a text cannot be left out, nor printed twice.
pub record WholeRehearsal : Type 0 where
  pub whole : (input : List ℕ) (batches : List Batch) (p : Rehearsed input batches) →
      said_by p.buffer p.opening batches ≡ on_output (rehearsed input)
  pub none_dropped : (input : List ℕ) (xs : List Batch) (b : Batch) (ys : List Batch)
      (p : Rehearsed input (xs ++ (b ∷ ys))) → 0 < length (batch_text b) →
      said_by p.buffer p.opening (xs ++ ys) ≡ on_output (rehearsed input) → ⊥
  pub none_repeated : (input : List ℕ) (xs : List Batch) (b : Batch) (ys : List Batch)
      (p : Rehearsed input (xs ++ (b ∷ ys))) → 0 < length (batch_text b) →
      said_by p.buffer p.opening (xs ++ (b ∷ b ∷ ys)) ≡ on_output (rehearsed input) → ⊥

-- plain lines are what is rehearsed
lines_rehearsed : (input : List ℕ) → score_printout (take most_read input) Plain ≡ on_output (rehearsed input)
unfolding rehearsed
lines_rehearsed input = plain_printout (take most_read input) (load (take most_read input))

pub whole_rehearsal : WholeRehearsal
whole_rehearsal =
    record {
      whole = λ input batches p.
          sym (whole_score.whole (take most_read input) Plain batches p) ∙ lines_rehearsed input;
      none_dropped = λ input xs b ys p some same.
          whole_score.none_dropped (take most_read input) Plain xs b ys p some (lines_rehearsed input ∙ sym same);
      none_repeated = λ input xs b ys p some same.
          whole_score.none_repeated (take most_read input) Plain xs b ys p some (lines_rehearsed input ∙ sym same);
    }
