-- What the program `rehearse` prints, besides the marked example: streams that are refused, and where a long one is
-- cut. Document 01, "Played examples": "a load or score refusal is `refused N at POSITION`"; it "reads the first 65,536
-- bytes .. and stops at a bad byte". Assumes nothing.
use Rattle.std.specs.Prelude.{ℕ, ◌≤◌, ◌≡◌, List, [], ◌∷◌, ◌++◌, length, replicate}
use Rattle.machine.specs.Load.{load}
use Rattle.machine.specs.Rehearse.{loaded_lines, rehearsed}

-- Begin, and a part that is cut after its preference: "stream ends .. inside a command", 1 at 2
abbrev pub cut_part : List ℕ
cut_part = 0x01 ∷ 0x00 ∷ 0x02 ∷ 0x00 ∷ 0xFF ∷ []

-- Begin, and a constant 1
abbrev pub one_constant : List ℕ
one_constant = 0x01 ∷ 0x00 ∷ 0x02 ∷ 0x00 ∷ 0xFF ∷ 0x01 ∷ replicate 11 0x00

-- Begin is "first and once": the second one is out of place, 3 at 17
abbrev pub begun_twice : List ℕ
begun_twice = one_constant ++ (0x01 ∷ 0x00 ∷ 0x05 ∷ [])

-- End, a wanted step of 3, an End in the score, 3 at 23, and a wanted step of 4 that is not heard
abbrev pub ended_twice : List ℕ
ended_twice = one_constant ++ (0x05 ∷ 0x06 ∷ 0x03 ∷ 0x00 ∷ 0x00 ∷ 0x00 ∷ 0x05 ∷ 0x06 ∷ 0x04 ∷ 0x00 ∷ 0x00 ∷ 0x00 ∷ [])

-- the statement
pub record Rehearsals : Type 0 where
  -- it prints `refused 1 at 2`
  pub cut : rehearsed cut_part ≡ 114 ∷ 101 ∷ 102 ∷ 117 ∷ 115 ∷ 101 ∷ 100 ∷ 32 ∷ 49 ∷ 32 ∷ 97 ∷ 116 ∷ 32 ∷ 50 ∷ 10 ∷ []
  -- it prints `refused 3 at 17`
  pub twice : rehearsed begun_twice ≡ 114 ∷ 101 ∷ 102 ∷ 117 ∷ 115 ∷ 101 ∷ 100 ∷ 32 ∷ 51 ∷ 32 ∷ 97 ∷ 116 ∷ 32 ∷ 49 ∷ 55 ∷
      10 ∷ []
  -- it prints `3 0 3 1 0 1` and `refused 3 at 23`
  pub stopped :
      rehearsed ended_twice ≡
      51 ∷ 32 ∷ 48 ∷ 32 ∷ 51 ∷ 32 ∷ 49 ∷ 32 ∷ 48 ∷ 32 ∷ 49 ∷ 10 ∷
      114 ∷ 101 ∷ 102 ∷ 117 ∷ 115 ∷ 101 ∷ 100 ∷ 32 ∷ 51 ∷ 32 ∷ 97 ∷ 116 ∷ 32 ∷ 50 ∷ 51 ∷ 10 ∷ []
  -- a stream of at most 65,536 bytes is rehearsed whole
  pub whole : (bs : List ℕ) → length bs ≤ 65536 → rehearsed bs ≡ loaded_lines bs (load bs)
  -- and what follows 65,536 bytes is not read
  pub unread : (bs more : List ℕ) → length bs ≡ 65536 → rehearsed (bs ++ more) ≡ rehearsed bs
