-- `largest_below` is the definition's fold over the spans: to take the larger of the spans that lie below is to pass
-- over the others.
use Rattle.std.specs.Prelude.{ℕ, ◌≡◌, refl, Bool, true, false, cond, max, List, [], ◌∷◌, ltb}
use Rattle.std.proofs.Common.{rules, ◌∙◌}
use Rattle.std.specs.List.{filter, fold}
use mathlib.Core.List.{foldl}
use Rattle.machine.specs.Accept.{largest_below}
use Rattle.ask_part.proofs.drive_spans.largest_below.Goals as goal

passed_over : (d v : ℕ) (xs : List ℕ) →
    fold max v (filter (λ (s : ℕ). ltb s d) xs) ≡ foldl (λ (v s : ℕ). cond (ltb s d) (max v s) v) v xs
passed_over d v [] = refl
passed_over d v (x ∷ xs) = by (ltb x d) (passed_over d (max v x) xs) (passed_over d v xs)
  where
    by : (t : Bool) →
        fold max (max v x) (filter (λ (s : ℕ). ltb s d) xs) ≡
        foldl (λ (v s : ℕ). cond (ltb s d) (max v s) v) (max v x) xs →
        fold max v (filter (λ (s : ℕ). ltb s d) xs) ≡ foldl (λ (v s : ℕ). cond (ltb s d) (max v s) v) v xs →
        fold max v (cond t (x ∷ filter (λ (s : ℕ). ltb s d) xs) (filter (λ (s : ℕ). ltb s d) xs)) ≡
        foldl (λ (v s : ℕ). cond (ltb s d) (max v s) v) (cond t (max v x) v) xs
    by true taken passed = taken
    by false taken passed = passed

pub returns : goal.returns
unfolding largest_below
returns c =
    let d = c.args.d.0 in
    let made : c.fold.result ≡ fold max 0 (filter (λ (s : ℕ). ltb s d) c.args.spans.now) = search rules in
    made ∙ passed_over d 0 c.args.spans.now
