-- Laws of the exported calls: words put one after another, when a load is accepted, and what each call comes to once
-- its answer is put in front of the words lent for it. Assumes nothing.
use Prim.Native.Nat.{ℕ, zero, suc, ◌≤◌, ◌<◌}
use native.Mathlib.Omega.{arith}
use mathlib.Core.Path.{◌≡◌, refl, sym, ap, subst, ◌∙◌}
use mathlib.Core.List.{List, [], ◌∷◌, ◌++◌}
use lib.ListN.{length, set}
use borrow.Author.Tests.{eq-eqb, ne_eqb, le-leb, lt-leb}
use Rattle.machine.specs.declared.model.Model.{Model}
use Rattle.machine.specs.Answers.{Loaded}
use Rattle.machine.specs.Answers.{Written}
use Rattle.machine.specs.Model.{most_parts, trimmed, trimmed_loaded}
use Rattle.machine.specs.Load.{load}
use Rattle.machine.specs.Sound.{sound}
use Rattle.machine.specs.declared.model.Outcome.{Outcome}
use Rattle.machine.specs.Writing.{WrittenAs}
use Rattle.words_store.specs.Clean.{CleanWords}
use Rattle.write_bytes.specs.Fitting.{nothing_written}
use Rattle.words_transfer.specs.ModelPut.{KeptBehind}
use Rattle.words_transfer.specs.PutInto.{put_number, PutInto}
use Rattle.load_call.specs.LoadOwed.{accepted_is_a_table}
use Rattle.advance_call.specs.Into.{outcome_into, AdvancedInto}
use Rattle.preview_call.specs.PreviewedInto.{PreviewedInto}
use Rattle.sheet_call.specs.SheetInto.{SheetInto}
use Rattle.boundary.specs.PutFront.{put_front}
use Rattle.boundary.specs.Exported.{taken_number, TakenIn, LoadedWords, outcome_words, AdvancedWords}
use Rattle.boundary.specs.Exported.{PreviewedWords, WrittenWords, outcome_lent, printed_refusal, printed_line}
use Rattle.boundary.specs.Exported.{PrintedInto, PrintedWords}

-- a word written after those in front
set_next : (ws o : List ℕ) (v : ℕ) → set (put_front ws o) (length ws) v ≡ put_front (ws ++ v ∷ []) o
unfolding put_front
set_next [] [] v = refl
set_next [] (x ∷ o) v = refl
set_next (w ∷ ws) [] v = refl
set_next (w ∷ ws) (x ∷ o) v = ap (λ (l : List ℕ). w ∷ l) (set_next ws o v)

-- so words that were written in turn are in front: p is o with ws in front, and q is p with one more word written
pub front_next : (ws o : List ℕ) (v : ℕ) {p q : List ℕ} → p ≡ put_front ws o → q ≡ set p (length ws) v →
    q ≡ put_front (ws ++ v ∷ []) o
front_next ws o v front written = written ∙ ap (λ (l : List ℕ). set l (length ws) v) front ∙ set_next ws o v

-- nothing written is nothing in front
pub front_none : (o : List ℕ) → o ≡ put_front [] o
unfolding put_front
front_none o = refl

-- a refused load keeps the words
pub taken_refused : (m : Model) (number : ℕ) (table state : List ℕ) → (number ≡ 0 → ⊥) →
    TakenIn m number table table state state number
unfolding taken_number
taken_refused m number table state some =
    record {
      is = rw (ne_eqb number 0 some) refl;
      put = λ none. absurd (some none);
      behind = λ none. absurd (some none);
      kept = λ other. (refl, refl);
    }

-- an accepted one is put, or keeps them, as putting it says
pub taken_put : (m : Model) (number : ℕ) (table₀ table₁ state₀ state₁ : List ℕ) (answer : ℕ) → number ≡ 0 →
    m.count ≤ most_parts → PutInto m table₀ table₁ state₀ state₁ answer →
    TakenIn m number table₀ table₁ state₀ state₁ answer
unfolding taken_number put_number
taken_put m number table₀ table₁ state₀ state₁ answer none few puts =
    record {
      is = rw (eq-eqb number 0 none) (rw (le-leb m.count most_parts few) at puts.is);
      put = puts.put;
      behind = puts.behind;
      kept = puts.kept;
    }

-- a number of 0 is an accepted load's
taken_accepted : (number count table state : ℕ) → taken_number number count table state ≡ 0 → number ≡ 0
unfolding taken_number
taken_accepted zero count table state e = refl
taken_accepted (suc n) count table state e = rw (ne_eqb (suc n) 0 (λ z. omega arith)) at e

-- what a load comes to
pub loaded_words : (stream table₀ table₁ state₀ state₁ out₀ out₁ : List ℕ) (r : Loaded) (number : ℕ) →
    trimmed_loaded r ≡ load stream → TakenIn r.model r.number table₀ table₁ state₀ state₁ number →
    out₁ ≡ put_front (number ∷ r.position ∷ []) out₀ →
    LoadedWords stream table₀ table₁ state₀ state₁ out₀ out₁ number
unfolding trimmed_loaded trimmed
loaded_words stream table₀ table₁ state₀ state₁ out₀ out₁ r number is taken written =
    let tables = length table₀ in
    let states = length state₀ in
    record {
      is = taken.is ∙ ap (λ (l : Loaded). taken_number l.number l.model.count tables states) is;
      answer = written ∙ ap (λ (l : Loaded). put_front (number ∷ l.position ∷ []) out₀) is;
      model = λ none. (taken.put none).is ∙ ap (λ (l : Loaded). l.model) is;
      form = λ none. (taken.put none).form;
      sounds =
          λ none.
          let accepted = taken_accepted r.number r.model.count tables states (sym taken.is ∙ none) in
          ap sound (taken.put none).is ∙ (accepted_is_a_table stream r is accepted).1.sound;
      clean = λ none. subst (λ (l : Loaded). CleanWords l.model.count table₁ state₁) is (taken.put none).clean;
      behind =
          λ none.
          subst (λ (l : Loaded). KeptBehind l.model.count table₀ table₁ state₀ state₁) is (taken.behind none);
      kept = taken.kept;
    }

-- put in front, they are those of the outcome that it is of
ended_words : (out₀ out₁ : List ℕ) (v e : Outcome) → v ≡ e →
    out₁ ≡ put_front (outcome_words v) out₀ → out₁ ≡ put_front (outcome_words e) out₀
ended_words out₀ out₁ v e ends written = written ∙ ap (λ (x : Outcome). put_front (outcome_words x) out₀) ends

-- what an advance comes to, and a preview
module _ (table old : List ℕ) (w : ℕ) (new₀ new₁ out₀ out₁ : List ℕ) (v : Outcome) where
  abbrev due : Outcome
  due = outcome_into table old w (length new₀)

  pub advanced_words : AdvancedInto table old w new₀ new₁ v → out₁ ≡ put_front (outcome_words v) out₀ →
      AdvancedWords table old w new₀ new₁ out₀ out₁ v.number
  advanced_words found written =
      record {
        is = ap (λ (x : Outcome). x.number) found.ends;
        answer = ended_words out₀ out₁ v due found.ends written;
        called = subst (AdvancedInto table old w new₀ new₁) found.ends found;
      }

  pub previewed_words : PreviewedInto table old w new₀ new₁ v → out₁ ≡ put_front (outcome_words v) out₀ →
      PreviewedWords table old w new₀ new₁ out₀ out₁ v.number
  previewed_words found written =
      record {
        is = ap (λ (x : Outcome). x.number) found.ends;
        answer = ended_words out₀ out₁ v due found.ends written;
        previewed = subst (PreviewedInto table old w new₀ new₁) found.ends found;
      }

-- what a call comes to that writes bytes
pub written_words : (refusal : ℕ) (bytes buffer₀ buffer₁ out₀ out₁ : List ℕ) (w : Written) →
    WrittenAs refusal bytes buffer₀ buffer₁ w → out₁ ≡ put_front (w.number ∷ w.length ∷ []) out₀ →
    WrittenWords refusal bytes buffer₀ buffer₁ out₀ out₁ w.number
written_words refusal bytes buffer₀ buffer₁ out₀ out₁ w found written =
    let length_is = ap (λ (x : Written). x.length) found.answer in
    let told : ℕ → Written = λ n. record { number = w.number; length = n } in
    record {
      is = ap (λ (x : Written). x.number) found.answer;
      answer = written ∙ ap (λ (n : ℕ). put_front (w.number ∷ n ∷ []) out₀) length_is;
      written = subst (λ (n : ℕ). WrittenAs refusal bytes buffer₀ buffer₁ (told n)) length_is found;
    }

-- and where the number and the length are told apart
pub told_words : (refusal : ℕ) (bytes buffer₀ buffer₁ out₀ out₁ : List ℕ) (w : Written) {n l : ℕ} → n ≡ w.number →
    l ≡ w.length → WrittenAs refusal bytes buffer₀ buffer₁ w → out₁ ≡ put_front (n ∷ l ∷ []) out₀ →
    WrittenWords refusal bytes buffer₀ buffer₁ out₀ out₁ n
told_words refusal bytes buffer₀ buffer₁ out₀ out₁ w number size found written =
    rw number (written_words refusal bytes buffer₀ buffer₁ out₀ out₁ w found (rw (number, size) at written))

-- a sheet line, by the words of its outcome: too few, or there
module _ (table state outcome : List ℕ) (first second third : ℕ) where
  pub printed_few : (buffer : List ℕ) → length outcome < 5 →
      PrintedInto table state outcome first second third buffer buffer (record { number = 24; length = 0 })
  unfolding printed_refusal
  printed_few buffer few =
      rw (lt-leb 5 (length outcome) few)
      (nothing_written 24 (printed_line table state outcome first second third) buffer (λ none. omega arith))

  pub printed_told : (buffer₀ buffer₁ : List ℕ) (w : Written) → 5 ≤ length outcome →
      SheetInto table state (outcome_lent outcome) first second third buffer₀ buffer₁ w →
      PrintedInto table state outcome first second third buffer₀ buffer₁ w
  unfolding printed_refusal
  printed_told buffer₀ buffer₁ w enough line = rw (le-leb 5 (length outcome) enough) line

  -- and what the exported call comes to
  pub printed_words : (buffer₀ buffer₁ out₀ out₁ : List ℕ) (w : Written) {n l : ℕ} → n ≡ w.number → l ≡ w.length →
      PrintedInto table state outcome first second third buffer₀ buffer₁ w → out₁ ≡ put_front (n ∷ l ∷ []) out₀ →
      PrintedWords table state outcome first second third buffer₀ buffer₁ out₀ out₁ n
  printed_words = told_words (printed_refusal table state outcome first second third)
      (printed_line table state outcome first second third)
