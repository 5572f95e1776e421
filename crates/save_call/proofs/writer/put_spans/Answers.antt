-- `put_spans` puts spans one by one.
use Rattle.std.proofs.Common.{ℕ, ◌+◌, ◌*◌, ◌<◌, ◌≡◌, List, [], ◌∷◌, ◌++◌, length, get_or, take, add-one, arith, refl}
use Rattle.std.proofs.Common.{sym, ap, ◌∙◌, append_assoc, take_all}
use Rattle.std.proofs.Math.Seq.{take-suc}
use Rattle.machine.specs.TableBytes.{spans_bytes}
use Rattle.write_bytes.specs.Put.{Put}
use Rattle.write_bytes.specs.Pieces.{put_nothing, put_then, put_as}
use Rattle.save_call.proofs.writer.put_spans.Goals as goal

-- the commands of one span more
spans_added : (vs : List ℕ) (v : ℕ) → spans_bytes (vs ++ (v ∷ [])) ≡ spans_bytes vs ++ spans_bytes (v ∷ [])
unfolding spans_bytes
spans_added [] v = refl
spans_added (w ∷ vs) v = simp (spans_added vs v, append_assoc)

span_more : (vs : List ℕ) {l₀ l₁ l₂ : List ℕ} {i at p q : ℕ} → i < length vs →
    Put (5 * i) (spans_bytes (take i vs)) at l₀ l₁ p →
    Put 5 (spans_bytes (get_or vs i 0 ∷ [])) p l₁ l₂ q → Put (5 * (i + 1)) (spans_bytes (take (i + 1) vs)) at l₀ l₂ q
span_more vs {i = i} inside first last =
    let more : spans_bytes (take i vs) ++ spans_bytes (get_or vs i 0 ∷ []) ≡ spans_bytes (take (i + 1) vs) =
    sym (rw add-one (ap spans_bytes (take-suc vs i 0 inside) ∙ spans_added (take i vs) (get_or vs i 0))) in
    let put = put_then first last in
    put_as put more (rw (← more) (omega arith))

pub loop-span-init : goal.loop-span-init
unfolding spans_bytes
loop-span-init c = put_nothing _ _

pub put_span-next-requires : goal.put_span-next-requires
put_span-next-requires c = omega (arith, c.loop-span.invariant.position, c.loop-span.invariant.short)

pub loop-span-preserved : goal.loop-span-preserved
loop-span-preserved c = span_more _ (omega arith) c.loop-span.invariant c.put_span-next.ensures

pub returns : goal.returns
returns c =
    let all : c.loop-span.span-index ≡ length c.args.spans.now = omega arith in
    rw (all, take_all (length c.args.spans.now) c.args.spans.now (omega arith)) at c.loop-span.invariant
