-- Worked sheet lines, character by character, that hold the definitions of request 5 to its sentences: columns,
-- alignment, absent outputs, refusals, and the widest number of each field. The lines are examples of this repository;
-- document 02 gives none. Assumes nothing.
use Rattle.std.specs.Prelude.{ℕ, ◌≡◌, true, false, List, [], ◌∷◌, ◌++◌, replicate, pos, negsuc}
use Rattle.machine.specs.declared.signal.Signal.TheVariants.{Absent, Value}
use Rattle.machine.specs.Rehearse.{blank, hyphen, line_feed, refused_text}
use Rattle.machine.specs.Sheet.{ShownStep, ShownRefusal, shown_line, shown_fits}

-- so many blanks, and so many nines
abbrev pub blanks : ℕ → List ℕ
blanks n = replicate n blank

abbrev pub nines : ℕ → List ℕ
nines n = replicate n 57

-- 1 with so many zeros after it
abbrev pub one_and_zeros : ℕ → List ℕ
one_and_zeros n = 49 ∷ replicate n 48

pub record SheetExamples : Type 0 where
  -- (4, 1) after a step of 0, in two rounds and no revision, with the outputs 2, 1 and absent: each number ends at the
  -- last column of its field, 19, 23, 34, 39, 42, 54, 66 and 78
  pub numbers :
      shown_line (ShownStep 4 1 0 2 0 (Value (pos 2)) (Value (pos 1)) Absent) ≡
      blanks 18 ++ (52 ∷ blanks 3 ++
      (49 ∷ blanks 10 ++ (48 ∷ blanks 4 ++
      (50 ∷ blanks 2 ++ (48 ∷ blanks 11 ++ (50 ∷ blanks 11 ++ (49 ∷ blanks 11 ++ (hyphen ∷ line_feed ∷ []))))))))
  -- the last point, the widest counts that fit, and values at both ends: a blank between any two fields, and but for
  -- one column of the last output no other
  pub widest :
      shown_line (ShownStep 1_000_000_000_000_000_000 999 9_999_999_999 9999 99 (Value (negsuc 999_999_999))
      (Value (negsuc 999_999_999)) (Value (pos 1_000_000_000))) ≡
      one_and_zeros 18 ++ (blank ∷ nines 3 ++
      (blank ∷ nines 10 ++ (blank ∷ nines 4 ++ (blank ∷ nines 2 ++ (blank ∷ hyphen ∷ one_and_zeros 9 ++
      (blank ∷ hyphen ∷ one_and_zeros 9 ++ (blank ∷ blank ∷ one_and_zeros 9 ++ (line_feed ∷ []))))))))
  -- `refused 22`, and 68 blanks
  pub refused : shown_line (ShownRefusal 22) ≡ refused_text ++ (50 ∷ 50 ∷ blanks 68 ++ (line_feed ∷ []))
  -- one more than the widest of each count is wider than its field
  pub fits : shown_fits (ShownStep 1_000_000_000_000_000_000 999 9_999_999_999 9999 99 Absent Absent
      (Value (negsuc 999_999_999))) ≡ true
  pub wide_step : shown_fits (ShownStep 0 0 10_000_000_000 1 0 Absent Absent Absent) ≡ false
  pub wide_rounds : shown_fits (ShownStep 0 0 1 10_000 0 Absent Absent Absent) ≡ false
  pub wide_revisions : shown_fits (ShownStep 0 0 1 1 100 Absent Absent Absent) ≡ false
