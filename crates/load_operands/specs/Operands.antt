-- What the answers of the operand readers mean: document 01's number and values of each of their cases, and the answer
-- that the bytes from a position on give. After them what follows by cases, and a law of operands in a row. Assumes
-- nothing.
use Rattle.std.specs.Prelude.{ℕ, ◌+◌, ◌≤◌, ◌<◌, ◌≡◌, true, false, cond, List, ◌⊎◌, leb, Option, Some, None}
use Rattle.std.proofs.Common.{arith, ◌∙◌, inl, inr}
use Rattle.std.proofs.Math.Path.{ap}
use Rattle.std.proofs.Math.ListN.{length}
use borrow.Author.Tests.{le-leb, lt-leb, leb-true, leb-false}
use Rattle.machine.specs.Answers.{Refused}
use Rattle.machine.specs.Load.{Reading, ended, refused, want_byte, known_command, command_width, in_place, command_read}
use Rattle.machine.specs.Load.{byte_at, word_at}
use Rattle.machine.specs.Score.{score_command}
use Rattle.laws.specs.Bools.{either}
use Rattle.load_operands.specs.declared.cursor.Cursor.{Cursor}
use Rattle.load_operands.specs.declared.operands.PartOperands.{PartOperands}
use Rattle.load_operands.specs.declared.operands.WireOperands.{WireOperands}

-- what a reader's answer comes to: document 01's number, 0 meaning none, the operands, and the position after them
pub record OperandRead (A : Type 0) : Type 0 where
  pub number : ℕ
  pub operands : A
  pub next : ℕ

-- the number of an answer where the stream ends inside the command
abbrev pub cut_number : ℕ
cut_number = 1

-- which is the one that loading refuses a command with that the stream's end cuts, and the score a wanted step
pub cut_loads : (bs : List ℕ) (at : ℕ) (rd : Reading) (b : ℕ) → known_command b ≡ true → in_place rd b ≡ true →
    length bs < at + command_width b →
    command_read bs at rd b ≡ ended (refused cut_number at)
unfolding command_read
cut_loads bs at rd b known here short = rw (known, here, lt-leb (at + command_width b) (length bs) short)

pub cut_scores : (bs : List ℕ) (at : ℕ) → length bs < at + command_width want_byte →
    score_command bs at want_byte ≡ Refused cut_number at
unfolding score_command known_command
cut_scores bs at short = rw (lt-leb (at + command_width want_byte) (length bs) short)

-- the two cases of every reader: operands with the cursor after them, which is no refusal; or cut, where 0 means the
-- operands and the position
abbrev pub got : {A : Type 0} → A → Cursor → OperandRead A
got v c = record { number = 0; operands = v; next = c.at }

abbrev pub cut : {A : Type 0} → A → OperandRead A
cut none = record { number = cut_number; operands = none; next = 0 }

-- the operands v, where so many bytes are there from a position on; else "stream ends .. inside a command", 1
unfoldable pub operands_at : {A : Type 0} → List ℕ → (at width : ℕ) → (v none : A) → OperandRead A
operands_at bs at width v none =
    cond (leb (at + width) (length bs))
    (record { number = 0; operands = v; next = at + width })
    (record { number = 1; operands = none; next = 0 })

-- what each case means, where 0 means an operand and these operands where there is none; and the answer at a position
abbrev pub answer_of : {A : Type 0} → A → Option (A × Cursor) → OperandRead A
answer_of none (Some (v, c)) = got v c
answer_of none None = cut none

pub record ReadMeant {A : Type 0} (bs : List ℕ) (at width : ℕ) (v none : A) (r : Option (A × Cursor)) : Type 0 where
  pub is : answer_of none r ≡ operands_at bs at width v none

-- the operands of a Part, from the byte after its command byte on; and none
abbrev pub part_operands_at : List ℕ → ℕ → PartOperands
part_operands_at bs at =
    record {
      kind = byte_at bs at;
      preference = byte_at bs (at + 1);
      a = word_at bs (at + 2);
      b = word_at bs (at + 6);
      p = word_at bs (at + 10);
    }

abbrev pub no_part : PartOperands
no_part = record { kind = 0; preference = 0; a = 0; b = 0; p = 0 }

-- the operands of a Wire, likewise
abbrev pub wire_operands_at : List ℕ → ℕ → WireOperands
wire_operands_at bs at = record { source = byte_at bs at; receiver = byte_at bs (at + 1); port = byte_at bs (at + 2) }

abbrev pub no_wire : WireOperands
no_wire = record { source = 0; receiver = 0; port = 0 }

-- so many bytes are there from a position on, and the cursor is after them
pub record Behind (bs : List ℕ) (at width : ℕ) (c : Cursor) : Type 0 where
  pub whole : at + width ≤ length bs
  pub next : c.at ≡ at + width

module _ {A : Type 0} (bs : List ℕ) (at width : ℕ) (v none : A) where
  -- by cases: where there are operands they are v, and the stream has their bytes; where they are cut it has not
  read_whole : (w : A) (c : Cursor) → got w c ≡ operands_at bs at width v none → Behind bs at width c × (w ≡ v)
  unfolding operands_at
  read_whole w c h = by_test (either (leb (at + width) (length bs)))
    where
      by_test : (leb (at + width) (length bs) ≡ true) ⊎ (leb (at + width) (length bs) ≡ false) → Behind bs at width c ×
          (w ≡ v)
      by_test (inl e) =
          let same : got w c ≡ record { number = 0; operands = v; next = at + width } = rw e at h in (
            record { whole = leb-true (at + width) (length bs) e; next = ap (λ (x : OperandRead A). x.next) same },
            ap (λ (x : OperandRead A). x.operands) same,
          )
      by_test (inr e) =
          let wrong : got w c ≡ record { number = 1; operands = none; next = 0 } = rw e at h in
          absurd (omega (arith, ap (λ (x : OperandRead A). x.number) wrong))

  read_cut : cut none ≡ operands_at bs at width v none → length bs < at + width
  unfolding operands_at
  read_cut h = by_test (either (leb (at + width) (length bs)))
    where
      by_test : (leb (at + width) (length bs) ≡ true) ⊎ (leb (at + width) (length bs) ≡ false) → length bs < at + width
      by_test (inl e) =
          let wrong : cut none ≡ record { number = 0; operands = v; next = at + width } = rw e at h in
          absurd (omega (arith, ap (λ (x : OperandRead A). x.number) wrong))
      by_test (inr e) = leb-false (at + width) (length bs) e

  -- and back: a reader that makes these tests has the definition's answer
  pub whole_read : (w : A) (c : Cursor) → Behind bs at width c → w ≡ v →
      ReadMeant bs at width v none (Some (w, c))
  unfolding operands_at
  whole_read w c behind same =
      record { is = rw (same, behind.next, le-leb (at + width) (length bs) behind.whole) }

  pub cut_read : length bs < at + width → ReadMeant bs at width v none None
  unfolding operands_at
  cut_read short = record { is = rw (lt-leb (at + width) (length bs) short) }

-- what follows for every reader, by the cases of its answer
abbrev pub ReadCases : {A : Type 0} (bs : List ℕ) (at width : ℕ) (v : A) → Option (A × Cursor) → Type 0
ReadCases bs at width v (Some (w, c)) = Behind bs at width c × (w ≡ v)
ReadCases bs at width v None = length bs < at + width

pub read_cases : {A : Type 0} {bs : List ℕ} {at width : ℕ} {v none : A} {r : Option (A × Cursor)} →
    ReadMeant bs at width v none r → ReadCases bs at width v r
read_cases {A} {bs} {at} {width} {v} {none} {r = Some (w, c)} h = read_whole bs at width v none w c h.is
read_cases {A} {bs} {at} {width} {v} {none} {r = None} h = read_cut bs at width v none h.is

-- v is what f reads from a position so many bytes after the first, and the cursor is after the operand's own bytes
abbrev pub ReadAt : (f : List ℕ → ℕ → ℕ) (bs : List ℕ) (at before width : ℕ) → ℕ → Cursor → Type 0
ReadAt f bs at before width v c = Behind bs at (before + width) c × (v ≡ f bs (at + before))

-- which is so of an operand that is read where those before it end
pub read_behind :
    (f : List ℕ → ℕ → ℕ) (bs : List ℕ) (at before width : ℕ) (here next : Cursor) (v : ℕ) → Behind bs at before here →
    Behind bs here.at width next × (v ≡ f bs here.at) → ReadAt f bs at before width v next
read_behind f bs at before width here next v earlier read =
    (record { whole = omega arith; next = omega arith }, read.1 ∙ ap (f bs) earlier.next)
