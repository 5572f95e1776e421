-- Document 01's table of kinds, column by column, with request 2's kind 12: the number of each kind, its ports, which
-- of them are direct, the operands that it names, and which steps it accepts. KindTable says what each line's output
-- is. Assumes nothing.
use Rattle.std.specs.Prelude.{ℕ, ◌≡◌, Bool, true, false, List, [], ◌∷◌, map, pos, negsuc}
use Rattle.machine.specs.declared.part.Kind.{Kind}
use Rattle.machine.specs.declared.part.Kind.TheVariants.{Constant, Adder, Square}
use Rattle.machine.specs.Lists.{selected}
use Rattle.machine.specs.Kind.{kind_number, kinds, kind_known, kind_of, ports, direct0, direct1, names_a, names_b}
use Rattle.machine.specs.Kind.{names_p, is_positive, operands_fit, integrates, has_mass}
use Rattle.machine.specs.Accept.{waiting, delaying, detecting, driving, free, class}

-- the numbers of the kinds of which f holds
abbrev pub those : (Kind → Bool) → List ℕ
those f = map kind_number (selected f kinds)

-- the statement
pub record KindRows : Type 0 where
  -- the column "Kind": 0 to 12, and no other number
  pub numbers :
      (map kind_number kinds ≡ 0 ∷ 1 ∷ 2 ∷ 3 ∷ 4 ∷ 5 ∷ 6 ∷ 7 ∷ 8 ∷ 9 ∷ 10 ∷ 11 ∷ 12 ∷ []) ×
      (map (λ (k : ℕ). kind_number (kind_of k)) (0 ∷ 3 ∷ 11 ∷ 12 ∷ []) ≡ 0 ∷ 3 ∷ 11 ∷ 12 ∷ []) ×
      (kind_known 12 ≡ true) × (kind_known 13 ≡ false)
  -- "A kind has the ports that its line names or reads, and no others", by kind number
  pub port_counts : map ports kinds ≡ 0 ∷ 1 ∷ 2 ∷ 0 ∷ 0 ∷ 1 ∷ 1 ∷ 2 ∷ 1 ∷ 1 ∷ 2 ∷ 1 ∷ 1 ∷ []
  -- "One that the output reads within a point is direct": port 0 of 1, 2, 9 and 10, port 1 of 2, 7 and 10
  pub direct : (those direct0 ≡ 1 ∷ 2 ∷ 9 ∷ 10 ∷ []) × (those direct1 ≡ 2 ∷ 7 ∷ 10 ∷ [])
  -- the operands that the lines name; a drive is "as 6", and a clapper has "a position (starting at a) and a speed
  -- (starting at b)"
  pub operands :
      (those names_a ≡ 0 ∷ 1 ∷ 3 ∷ 4 ∷ 6 ∷ 7 ∷ 11 ∷ 12 ∷ []) × (those names_b ≡ 3 ∷ 12 ∷ []) ×
      (those names_p ≡ 3 ∷ 4 ∷ 8 ∷ [])
  -- "p, where named, is 1 to 10^9"
  pub periods :
      (is_positive 0 ≡ false) × (is_positive 1 ≡ true) × (is_positive 1_000_000_000 ≡ true) ×
      (is_positive 1_000_000_001 ≡ false)
  -- "An operand that a kind doesn't name must be 0"; "a and b are values"
  pub unnamed :
      (operands_fit Constant (pos 5) (pos 0) 0 ≡ true) × (operands_fit Constant (pos 5) (pos 1) 0 ≡ false) ×
      (operands_fit Constant (pos 5) (pos 0) 1 ≡ false) × (operands_fit Adder (pos 1) (pos 0) 0 ≡ false) ×
      (operands_fit Adder (negsuc 0) (pos 0) 0 ≡ false) × (operands_fit Square (pos 5) (pos 6) 0 ≡ false) ×
      (operands_fit Square (pos 1_000_000_001) (pos 6) 1 ≡ false) ×
      (operands_fit Square (pos 5) (pos 1_000_000_001) 1 ≡ false)
  -- "kinds 6, 7, 11 take held := clamp(held + x × d)", and 12, which alone has a speed
  pub integrating : (those integrates ≡ 6 ∷ 7 ∷ 11 ∷ 12 ∷ []) × (those has_mass ≡ 12 ∷ [])
  -- "Which steps a part accepts", by kind number: squares and pulses wait, then delays, detectors and drives; "The
  -- others accept all"
  pub classes :
      map class kinds ≡
      free ∷ free ∷ free ∷ waiting ∷ waiting ∷ delaying ∷ free ∷ free ∷ detecting ∷ free ∷ free ∷ driving ∷ free ∷ []
