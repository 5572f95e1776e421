-- `put_text` puts a text byte after byte: the first bytes of it, and then one more.
use Rattle.std.proofs.Common.{ℕ, List, [], ◌∷◌, ◌+◌, ◌<◌, length, take, get_or, arith, sym, add-one}
use Rattle.std.proofs.Common.{length-take, take-suc, take_all}
use Rattle.write_bytes.specs.Put.{Put}
use Rattle.write_bytes.specs.Pieces.{put_nothing, put_then, put_as}
use Rattle.write_bytes.proofs.put.put_text.Goals as goal

-- one byte more
byte_more : (text : List ℕ) {l₀ l₁ l₂ : List ℕ} {i at p q : ℕ} → i < length text → Put i (take i text) at l₀ l₁ p →
    Put 1 (get_or text i 0 ∷ []) p l₁ l₂ q →
    Put (i + 1) (take (i + 1) text) at l₀ l₂ q
byte_more text {i = i} inside first last =
    put_as (put_then first last) (rw add-one (sym (take-suc text i 0 inside))) (omega (arith, length-take (i + 1) text))

pub loop-byte-init : goal.loop-byte-init
loop-byte-init c = put_nothing _ _

pub put_byte-next-requires : goal.put_byte-next-requires
put_byte-next-requires c = omega (arith, length-take c.loop-byte.byte-index c.args.text.now)

pub loop-byte-preserved : goal.loop-byte-preserved
loop-byte-preserved c = byte_more _ c.loop-byte-test.true c.loop-byte.invariant c.put_byte-next.ensures

pub returns : goal.returns
returns c = put_as c.loop-byte.invariant (take_all _ _ c.loop-byte-test.false) (omega arith)
