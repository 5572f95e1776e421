-- A whole score: what is said at its beginning and the texts of all batches, one after the other up to its end, are
-- what is printed. This says so; `proofs/WholeScore.antt` shows it. Assumes nothing.
use Rattle.std.specs.Prelude.{ℕ, ◌<◌, ◌≡◌, List, [], ◌∷◌, ◌++◌, length, take, Option, Some, None}
use Rattle.play_score.specs.declared.format.Format.{Format}
use Rattle.play_score.specs.declared.play.Played.{Played}
use Rattle.play_score.specs.Held.{Held, text_held}
use Rattle.play_score.specs.Lines.{Printout, score_printout}
use Rattle.play_score.specs.Playing.{said_and, Batched, Opening, errors_of, used_of, next_of, Opened}

-- a batch: what it came to, the state that the rehearsal is then in, and the lines that the buffer then holds
pub record Batch : Type 0 where
  pub told : Played
  pub state : List ℕ
  pub held : Held

-- a batch's text: the bytes of the buffer that are written
unfoldable pub batch_text : Batch → List ℕ
batch_text b = text_held b.held

-- the texts of some batches, one after the other
unfoldable pub printed_by : List Batch → List ℕ
printed_by [] = []
printed_by (b ∷ batches) = batch_text b ++ printed_by batches

-- batches that keep their promise, each from where the one before left the score, up to its end
abbrev pub ToEnd : (bs ts : List ℕ) → Format → (next : Option ℕ) → (ss : List ℕ) → List Batch → Type 0
ToEnd bs ts f None ss [] = Unit {0}
ToEnd bs ts f None ss (b ∷ batches) = ⊥
ToEnd bs ts f (Some at) ss [] = ⊥
ToEnd bs ts f (Some at) ss (b ∷ batches) =
    Batched bs at ts ss f b.state b.held b.told × ToEnd bs ts f b.told.next b.state batches

-- a stream printed in batches: how it began, and that the batches lead from there to its end
pub record InBatches (bs : List ℕ) (f : Format) (batches : List Batch) : Type 0 where
  pub table : List ℕ
  pub state : List ℕ
  pub buffer : List ℕ
  pub opening : Opening
  pub opened : Opened bs f table state buffer opening
  pub to_end : ToEnd bs table f (next_of opening) state batches

-- what is printed by a beginning and some batches
abbrev pub said_by : (buffer : List ℕ) → Opening → List Batch → Printout
said_by buffer r batches = said_and (errors_of r) (take (used_of r) buffer) (printed_by batches)

-- The statement, for every stream and every list of batches that print it: together they print what is printed. A batch
-- that has a text cannot be left out, nor printed twice.
pub record WholeScore : Type 0 where
  pub whole : (bs : List ℕ) (f : Format) (batches : List Batch) (p : InBatches bs f batches) →
      score_printout bs f ≡ said_by p.buffer p.opening batches
  pub none_dropped : (bs : List ℕ) (f : Format) (xs : List Batch) (b : Batch) (ys : List Batch)
      (p : InBatches bs f (xs ++ (b ∷ ys))) → 0 < length (batch_text b) →
      score_printout bs f ≡ said_by p.buffer p.opening (xs ++ ys) → ⊥
  pub none_repeated : (bs : List ℕ) (f : Format) (xs : List Batch) (b : Batch) (ys : List Batch)
      (p : InBatches bs f (xs ++ (b ∷ ys))) → 0 < length (batch_text b) →
      score_printout bs f ≡ said_by p.buffer p.opening (xs ++ (b ∷ b ∷ ys)) → ⊥
