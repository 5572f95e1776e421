-- A whole score is printed: what is said at its beginning and the texts of all batches are what is printed
-- (`specs/WholeScore.antt`). Shown by induction on the batches, each taking its text off what is to come, and by the
-- lengths of texts. Assumes nothing.
use Rattle.std.specs.Prelude.{ℕ, ◌+◌, ◌≡◌, refl, Bool, true, false, cond, Option, Some, None}
use Rattle.std.specs.Prelude.{List, [], ◌∷◌, ◌++◌, length, take}
use Rattle.std.proofs.Common.{arith, sym, ap, ◌∙◌, length-append}
use Rattle.advance_call.specs.Into.{lent_model}
use Rattle.play_score.specs.declared.format.Format.{Format}
use Rattle.play_score.specs.Lines.{Printout, score_printout}
use Rattle.play_score.specs.Playing.{lines_left, said_and, Opening, errors_of, used_of, next_of}
use Rattle.play_score.specs.WholeScore.{Batch, batch_text, printed_by, ToEnd, InBatches, said_by, WholeScore}

-- batches up to the end print all that was to come
batches_print : (bs ts : List ℕ) (f : Format) (next : Option ℕ) (ss : List ℕ) (batches : List Batch) →
    ToEnd bs ts f next ss batches → printed_by batches ≡ lines_left bs next (lent_model ts ss) f
unfolding printed_by batch_text lines_left
batches_print bs ts f None ss [] end = refl
batches_print bs ts f None ss (b ∷ batches) none = absurd none
batches_print bs ts f (Some at) ss [] none = absurd none
batches_print bs ts f (Some at) ss (b ∷ batches) (batch, rest) =
    rw (batches_print bs ts f b.told.next b.state batches rest) (sym batch.lines)

all_printed : (bs : List ℕ) (f : Format) (batches : List Batch) (p : InBatches bs f batches) →
    score_printout bs f ≡ said_by p.buffer p.opening batches
all_printed bs f batches p =
    rw (batches_print bs p.table f (next_of p.opening) p.state batches p.to_end)
    p.opened.printed

-- the length of what two lists of batches print
printed_length : (xs ys : List Batch) → length (printed_by (xs ++ ys)) ≡ length (printed_by xs) + length (printed_by ys)
unfolding printed_by
printed_length [] ys = omega arith
printed_length (b ∷ xs) ys = simp length-append (omega (arith, printed_length xs ys))

-- and of one batch with some
one_more : (b : Batch) (ys : List Batch) → length (printed_by (b ∷ ys)) ≡ length (batch_text b) + length (printed_by ys)
unfolding printed_by
one_more b ys = simp length-append

-- the length of what is said on standard output
out_length : (errors : Bool) (text rest : List ℕ) →
    length (said_and errors text rest).out ≡ cond errors 0 (length text) + length rest
out_length true text rest = omega arith
out_length false text rest = length-append text rest

-- batches that print the same after the same beginning have texts of the same length
same_length : (buffer : List ℕ) (r : Opening) (xs ys : List Batch) → said_by buffer r xs ≡ said_by buffer r ys →
    length (printed_by xs) ≡ length (printed_by ys)
same_length buffer r xs ys same =
    let text = take (used_of r) buffer in
    omega (
      arith,
      out_length (errors_of r) text (printed_by xs),
      out_length (errors_of r) text (printed_by ys),
      ap (λ (x : Printout). length x.out) same,
    )

pub whole_score : WholeScore
whole_score =
    record {
      whole = all_printed;
      none_dropped = λ bs f xs b ys p some same.
          let all = xs ++ (b ∷ ys) in
          omega (
            arith,
            same_length p.buffer p.opening all (xs ++ ys) (sym (all_printed bs f all p) ∙ same),
            printed_length xs ys,
            printed_length xs (b ∷ ys),
            one_more b ys,
          );
      none_repeated = λ bs f xs b ys p some same.
          let all = xs ++ (b ∷ ys) in
          omega (
            arith,
            same_length p.buffer p.opening all (xs ++ (b ∷ b ∷ ys)) (sym (all_printed bs f all p) ∙ same),
            printed_length xs (b ∷ b ∷ ys),
            printed_length xs (b ∷ ys),
            one_more b (b ∷ ys),
          );
    }
