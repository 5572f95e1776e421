-- `allowed` is the definition's test: the library's `any` decides that some span is d, as the definition's `any` does.
use Rattle.std.specs.Prelude.{ℕ, ◌<◌, ◌≡◌, refl, length, eqb, ◌↔◌, IsTrue}
use Rattle.std.proofs.Common.{rules, ne_eqb}
use Rattle.std.proofs.lemmas.Bool.Decides.{Decides-by_or, Decides-eqb, same_from_decides}
use Rattle.std.specs.List.{HoldsAt}
use Rattle.machine.specs.Lists.{any, member}
use Rattle.machine.specs.Accept.{allowed}
use Rattle.ask_part.proofs.drive_spans.allowed.Goals as goal

pub returns-else-d-eq0 : goal.returns-else-d-eq0
unfolding allowed member any
returns-else-d-eq0 c =
    let d = c.args.d.0 in
    let xs = c.args.spans.now in
    let found : (IsTrue c.any.result ↔ ((k : ℕ) × (k < length xs) × HoldsAt (λ (s : ℕ). d ≡ s) xs k)) =
    search rules in
    rw (ne_eqb d 0 c.if-d-eq0.false)
    (same_from_decides c.any.result (member d xs) found
    (Decides-by_or (eqb d) (λ (s : ℕ). d ≡ s) (member d) (λ s. Decides-eqb d s) refl (λ _ _. refl) xs))
