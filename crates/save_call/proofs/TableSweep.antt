-- The sweep that puts a table: parts one after the other from a position on, and wires one after the other from a later
-- one on, so that the last part ends where the first wire begins. The idea: between the parts put so far and the wires
-- put so far lies a gap, which each part makes shorter, and after the wires lies what was there before. Assumes
-- nothing.
use Prim.Native.Nat.{ℕ, ◌+◌, ◌≤◌}
use native.Mathlib.Omega.{arith}
use mathlib.Core.Path.{◌≡◌, refl, sym, ap, ap₂, ◌∙◌}
use mathlib.Core.List.{List, [], ◌∷◌, ◌++◌, append_assoc, append-nil}
use lib.ListN.{length, take, drop, length-append, length-drop, take-append-drop}
use lib.Seq.{length-take-le, take-take, take_at, drop_at, drop-drop, drop-append-le}
use Rattle.write_bytes.specs.Put.{Put}
use Rattle.write_bytes.specs.Pieces.{put_whole, drop_more}

-- of a buffer that was a: the parts were put from p₀ up to p, the wires from q₀ up to q, and it is b
pub record Sweep (p₀ q₀ : ℕ) (parts wires a b : List ℕ) (p q : ℕ) : Type 0 where
  pub gap : List ℕ
  pub whole : b ≡ (take p₀ a ++ parts) ++ (gap ++ (wires ++ drop q a))
  pub front : length (take p₀ a ++ parts) ≡ p
  pub until : p + length gap ≡ q₀
  pub next : q ≡ q₀ + length wires
  pub ends : p ≡ p₀ + length parts

-- at first nothing was put, and the gap is what lies between the two positions
pub swept_none : (p₀ q₀ : ℕ) (a : List ℕ) → p₀ ≤ q₀ → q₀ ≤ length a → Sweep p₀ q₀ [] [] a a p₀ q₀
swept_none p₀ q₀ a low high =
    let gap = drop p₀ (take q₀ a) in
    let until : take p₀ a ++ gap ≡ take q₀ a = ap (λ (l : List ℕ). l ++ gap) (sym (take-take p₀ q₀ a low)) ∙
    take-append-drop p₀ (take q₀ a) in
    record {
      gap = gap;
      whole = rw (append-nil (take p₀ a), ← append_assoc (take p₀ a) gap (drop q₀ a), until)
          (sym (take-append-drop q₀ a));
      front = rw (append-nil (take p₀ a)) (length-take-le p₀ a (omega arith));
      until = omega (arith, length-drop p₀ (take q₀ a), length-take-le q₀ a high);
      next = omega arith;
      ends = omega arith;
    }

module _
    {p₀ q₀ p q : ℕ}
    {parts wires a b : List ℕ}
    (sweep : Sweep p₀ q₀ parts wires a b p q) where
  -- the buffer before the part to come, the gap and the wires
  abbrev front : List ℕ
  front = take p₀ a ++ parts

  abbrev rest : List ℕ
  rest = wires ++ drop q a

  -- one part more, where the gap has room for it
  pub swept_part : {most r : ℕ} {text c : List ℕ} → Put most text p b c r → r ≤ q₀ →
      Sweep p₀ q₀ (parts ++ text) wires a c r q
  swept_part {r = r} {text = text} put inside =
      let gap = sweep.gap in
      let many : length text ≤ length gap = omega (arith, put.position, sweep.until) in
      let before : take p b ≡ front = ap (take p) sweep.whole ∙ take_at front (gap ++ rest) p sweep.front in
      let all : drop p b ≡ gap ++ rest = ap (drop p) sweep.whole ∙ drop_at front (gap ++ rest) p sweep.front in
      let behind : drop r b ≡ drop (length text) gap ++ rest =
      ap (λ (n : ℕ). drop n b) put.position ∙ sym (drop-drop (length text) p b) ∙ ap (drop (length text)) all ∙
      drop-append-le (length text) gap rest many in
      record {
        gap = drop (length text) gap;
        whole =
            put_whole put ∙
            ap₂ (λ (x y : List ℕ). x ++ y) (ap (λ (x : List ℕ). x ++ text) before ∙
            append_assoc (take p₀ a) parts text) behind;
        front = rw (← append_assoc (take p₀ a) parts text)
            (omega (arith, length-append front text, sweep.front, put.position));
        until = omega (arith, length-drop (length text) gap, sweep.until, put.position);
        next = sweep.next;
        ends = omega (arith, length-append parts text, sweep.ends, put.position);
      }

  -- the wires of one part more
  pub swept_wires : {most r : ℕ} {text c : List ℕ} → Put most text q b c r → Sweep p₀ q₀ parts (wires ++ text) a c p r
  swept_wires {r = r} {text = text} put =
      let gap = sweep.gap in
      let split : b ≡ (front ++ (gap ++ wires)) ++ drop q a = sweep.whole ∙ simp append_assoc in
      let until : length (front ++ (gap ++ wires)) ≡ q =
      omega (
        arith,
        length-append front (gap ++ wires),
        length-append gap wires,
        sweep.front,
        sweep.until,
        sweep.next,
      ) in
      let before : take q b ≡ front ++ (gap ++ wires) = ap (take q) split ∙
      take_at (front ++ (gap ++ wires)) (drop q a) q until in
      let all : drop q b ≡ drop q a = ap (drop q) split ∙ drop_at (front ++ (gap ++ wires)) (drop q a) q until in
      let behind : drop r b ≡ drop r a =
      ap (λ (n : ℕ). drop n b) put.position ∙ sym (drop-drop (length text) q b) ∙ ap (drop (length text)) all ∙
      drop-drop (length text) q a ∙
      ap (λ (n : ℕ). drop n a) (sym put.position) in
      record {
        gap = gap;
        whole = put_whole put ∙ ap₂ (λ (x y : List ℕ). (x ++ text) ++ y) before behind ∙ simp append_assoc;
        front = sweep.front;
        until = sweep.until;
        next = omega (arith, length-append wires text, put.position, sweep.next);
        ends = sweep.ends;
      }

-- a gap of no bytes
no_gap : (l : List ℕ) → length l ≡ 0 → l ≡ []
no_gap [] none = refl
no_gap (x ∷ l) none = absurd (omega arith)

-- once the last part ends where the first wire begins, the whole is put after what was put first
pub swept_all : {p₀ q₀ p q most : ℕ} {begin parts wires l a b : List ℕ} → Put most begin 0 l a p₀ →
    Sweep p₀ q₀ parts wires a b p q → p ≡ q₀ →
    Put (length (begin ++ (parts ++ wires))) (begin ++ (parts ++ wires)) 0 l b q
swept_all {p₀ = p₀} {q = q} {begin = begin} {parts = parts} {wires = wires} {l = l} {a = a} {b = b} first sweep met =
    let text = begin ++ (parts ++ wires) in
    let none : sweep.gap ≡ [] = no_gap sweep.gap (omega (arith, met, sweep.until)) in
    let whole : b ≡ text ++ drop q a =
    sweep.whole ∙ rw (none, first.line) (simp append_assoc) in
    let size : length text ≡ q =
    omega (
      arith,
      length-append begin (parts ++ wires),
      length-append parts wires,
      length-append (take p₀ a) parts,
      ap length first.line,
      sweep.front,
      sweep.next,
      met,
    ) in
    record {
      position = omega (arith, size);
      line = ap (take q) whole ∙ take_at text (drop q a) q size;
      behind = ap (drop q) whole ∙ drop_at text (drop q a) q size ∙
          drop_more p₀ q l a (omega (arith, sweep.ends, met, sweep.next)) first.behind;
      short = omega arith;
    }
