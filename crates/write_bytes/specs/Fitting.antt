-- Laws of `WrittenAs`: how a call whose own tests refuse nothing keeps it, and what a caller has of every writing call.
-- Assumes nothing.
use Rattle.std.specs.Prelude.{ℕ, zero, suc, ◌≤◌, ◌<◌, ◌≡◌, refl, true, false, ◌⊎◌, List, ◌++◌, leb, length, take, drop}
use Rattle.std.proofs.Common.{arith, sym, ap, ◌∙◌, inl, inr, leb-true, le-leb, ne_eqb}
use Rattle.std.proofs.Math.Seq.{take-append_seam, drop-append_seam}
use Rattle.std.proofs.lemmas.Bool.{lt-leb}
use Rattle.machine.specs.Answers.{Written}
use Rattle.machine.specs.Writing.{WrittenAs, too_short}
use Rattle.laws.specs.Bools.{either}
use Rattle.write_bytes.specs.Put.{Put}
use Rattle.write_bytes.specs.Pieces.{put_whole}

-- bytes that do not fit
pub left_out : (text buf : List ℕ) → length buf < length text → WrittenAs 0 text buf buf (record {
  number = too_short;
  length = length text;
})
left_out text buf short = record { answer = simp (lt-leb _ _ short); buffer = simp (lt-leb _ _ short) }

-- bytes that were put at the front
pub put_in : {most r : ℕ} {text before after : List ℕ} → length text ≤ length before → Put most text 0 before after r →
    WrittenAs 0 text before after (record { number = 0; length = r })
put_in {r = r} {text = text} long put =
    let end : r ≡ length text = omega arith in
    record { answer = simp (le-leb _ _ long, end); buffer = simp (le-leb _ _ long, ← end) (put_whole put) }

-- a call that its own tests refuse
pub nothing_written : (refusal : ℕ) (bytes buf : List ℕ) → (refusal ≡ 0 → ⊥) →
    WrittenAs refusal bytes buf buf (record { number = refusal; length = 0 })
nothing_written refusal bytes buf some = record {
  answer = rw (ne_eqb refusal 0 some) refl;
  buffer = rw (ne_eqb refusal 0 some) refl;
}

-- what a caller has of bytes that nothing refuses: their length in any case, and where there is room for them the
-- number 0 and the buffer
module _ {bytes before after : List ℕ} {w : Written} (written : WrittenAs 0 bytes before after w) where
  pub size_told : w.length ≡ length bytes
  size_told = ap (λ (x : Written). x.length) written.answer

  pub enough_room : length bytes ≤ length before → w.number ≡ 0
  enough_room long = ap (λ (x : Written). x.number) written.answer ∙
      rw (le-leb (length bytes) (length before) long) refl

  pub text_put : length bytes ≤ length before → after ≡ bytes ++ drop (length bytes) before
  text_put long = rw (le-leb (length bytes) (length before) long) at written.buffer

-- what a caller has of a call that ended with 0: nothing refused it, its bytes are in front, and what lay after them is
-- kept
pub record WrittenWhole (refusal : ℕ) (bytes before after : List ℕ) (w : Written) : Type 0 where
  pub free : refusal ≡ 0
  pub size : w.length ≡ length bytes
  pub front : take w.length after ≡ bytes
  pub behind : drop w.length after ≡ drop w.length before

pub written_whole : (refusal : ℕ) (bytes before after : List ℕ) (w : Written) → WrittenAs refusal bytes before after w →
    w.number ≡ 0 →
    WrittenWhole refusal bytes before after w
written_whole (suc n) bytes before after w written none =
    let number : suc n ≡ 0 = rw (ne_eqb (suc n) 0 (λ e. omega arith))
    at (sym (ap (λ (x : Written). x.number) written.answer) ∙ none) in
    absurd (omega arith)
written_whole zero bytes before after w written none = fits (either (leb (length bytes) (length before)))
  where
    fits : (leb (length bytes) (length before) ≡ true) ⊎ (leb (length bytes) (length before) ≡ false) →
        WrittenWhole 0 bytes before after w
    fits (inr short) =
        let number : ◌≡◌ {A = ℕ} too_short 0 =
        rw short at (sym (ap (λ (x : Written). x.number) written.answer) ∙ none) in
        absurd (omega arith)
    fits (inl long) =
        let size = size_told written in
        let buffer = text_put written (leb-true (length bytes) (length before) long) in
        record {
          free = refl;
          size = size;
          front = rw (size, buffer) (take-append_seam bytes (drop (length bytes) before));
          behind = rw (size, buffer) (drop-append_seam bytes (drop (length bytes) before));
        }

-- and of one that ended with another number: the buffer is kept whole
pub refused_kept : (refusal : ℕ) (bytes before after : List ℕ) (w : Written) → WrittenAs refusal bytes before after w →
    (w.number ≡ 0 → ⊥) → after ≡ before
refused_kept (suc n) bytes before after w written some = rw (ne_eqb (suc n) 0 (λ e. omega arith)) at written.buffer
refused_kept zero bytes before after w written some = kept (either (leb (length bytes) (length before)))
  where
    kept : (leb (length bytes) (length before) ≡ true) ⊎ (leb (length bytes) (length before) ≡ false) → after ≡ before
    kept (inr short) = rw short at written.buffer
    kept (inl long) = absurd (some (rw long at (ap (λ (x : Written). x.number) written.answer)))
