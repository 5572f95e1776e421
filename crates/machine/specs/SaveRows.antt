-- Document 02, request 4, byte by byte: the bytes of a worked table, the longest table, what refuses a save, and what a
-- writing call returns and leaves. The table is an example of this repository; document 02 gives none. Assumes nothing.
use Rattle.std.specs.Prelude.{ℕ, ◌≡◌, true, List, [], ◌∷◌, ◌++◌, length, replicate, pos, negsuc}
use Rattle.machine.specs.declared.part.Kind.TheVariants.{Adder, Drive}
use Rattle.machine.specs.declared.part.Source.TheVariants.{From, Unwired}
use Rattle.machine.specs.declared.part.Component.{Component}
use Rattle.machine.specs.declared.model.Model.{Model}
use Rattle.machine.specs.Model.{no_model}
use Rattle.machine.specs.Table.{Table}
use Rattle.machine.specs.Sound.{table_fits}
use Rattle.machine.specs.TableBytes.{table_bytes}
use Rattle.machine.specs.Writing.{written_number, written_length, written_over}
use Rattle.machine.specs.Save.{saved_bytes, save_refusal, longest_table}
use Rattle.machine.specs.Played.{constant, fresh_of}

-- a drive with spans, so many, wired to a part
abbrev pub driven : ℕ → List ℕ → ℕ → Component
driven n spans source =
    record {
      kind = Drive;
      preference = 255;
      a = pos 0;
      b = pos 0;
      p = 0;
      span_count = n;
      spans = spans;
      port0 = From source;
      port1 = Unwired;
    }

-- an adder of parts 1 and 2
abbrev pub adding : Component
adding =
    record {
      kind = Adder;
      preference = 255;
      a = pos 0;
      b = pos 0;
      p = 0;
      span_count = 0;
      spans = [];
      port0 = From 1;
      port1 = From 2;
    }

-- magnitude 3: the adder, a drive with the spans 2 and 258, wired to part 2, and a constant −2 that prefers 5
abbrev pub worked : Model
worked = fresh_of 3 (adding ∷ driven 2 (2 ∷ 258 ∷ []) 2 ∷ constant 5 (negsuc 1) ∷ [])

-- 32 drives with eight spans each, wired to part 0
abbrev pub full_table : Table
full_table = record { magnitude = 0; parts = replicate 32 (driven 8 (1 ∷ 2 ∷ 3 ∷ 4 ∷ 5 ∷ 6 ∷ 7 ∷ 8 ∷ []) 0) }

-- the statement
pub record SaveRows : Type 0 where
  -- "Begin with the default magnitude, each part with its spans, the wires by receiving part and then port, and End"
  pub bytes :
      saved_bytes worked ≡
      0x01 ∷ 0x03 ∷
      (0x02 ∷ 0x02 ∷ 0xFF ∷ replicate 12 0x00) ++
      ((0x02 ∷ 0x0B ∷ 0xFF ∷ replicate 12 0x00) ++
      ((0x03 ∷ 0x02 ∷ 0x00 ∷ 0x00 ∷ 0x00 ∷ 0x03 ∷ 0x02 ∷ 0x01 ∷ 0x00 ∷ 0x00 ∷ []) ++
      ((0x02 ∷ 0x00 ∷ 0x05 ∷ 0xFE ∷ 0xFF ∷ 0xFF ∷ 0xFF ∷ replicate 8 0x00) ++
      (0x04 ∷ 0x01 ∷ 0x00 ∷ 0x00 ∷ 0x04 ∷ 0x02 ∷ 0x00 ∷ 0x01 ∷ 0x04 ∷ 0x02 ∷ 0x01 ∷ 0x00 ∷ 0x05 ∷ []))))
  -- the longest table: it fits, and has 59 bytes a part and 3
  pub longest :
      (table_fits full_table ≡ true) × (length (table_bytes full_table) ≡ longest_table) × (longest_table ≡ 1891)
  -- 24 of a model that is not sound, and nothing of one that is
  pub refusals : (save_refusal no_model ≡ 24) × (save_refusal worked ≡ 0)
  -- "25, if the lent buffer is shorter than the bytes need .. tested after 24"
  pub numbers :
      (written_number 0 (7 ∷ 8 ∷ []) 2 ≡ 0) × (written_number 0 (7 ∷ 8 ∷ []) 1 ≡ 25) ×
      (written_number 24 (7 ∷ 8 ∷ []) 1 ≡ 24) × (written_number 24 (7 ∷ 8 ∷ []) 2 ≡ 24)
  -- "The length is returned"; "any refusal but 25 writes nothing and returns length 0"
  pub lengths : (written_length 0 (7 ∷ 8 ∷ []) ≡ 2) × (written_length 24 (7 ∷ 8 ∷ []) ≡ 0)
  -- "what lies behind it in the buffer is kept"; "nothing is written"
  pub buffers :
      (written_over 0 (7 ∷ 8 ∷ []) (1 ∷ 2 ∷ 3 ∷ []) ≡ 7 ∷ 8 ∷ 3 ∷ []) ×
      (written_over 0 (7 ∷ 8 ∷ []) (1 ∷ 2 ∷ []) ≡ 7 ∷ 8 ∷ []) × (written_over 0 (7 ∷ 8 ∷ []) (1 ∷ []) ≡ 1 ∷ []) ×
      (written_over 24 (7 ∷ 8 ∷ []) (1 ∷ 2 ∷ 3 ∷ []) ≡ 1 ∷ 2 ∷ 3 ∷ [])
