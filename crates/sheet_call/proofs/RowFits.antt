-- What fits of a committed answer's line, field by field. Assumes nothing.
use Prim.Native.Nat.{ℕ, ◌≤◌}
use mathlib.Core.Path.{◌≡◌}
use mathlib.Core.Bool.{true}
use mathlib.Core.List.{List, ◌∷◌}
use lib.Dec.{leb}
use lib.ListN.{length}
use borrow.Author.Tests.{leb-true}
use Rattle.machine.specs.declared.signal.Signal.{Signal}
use Rattle.machine.specs.Rehearse.{decimal, signal_text}
use Rattle.machine.specs.Sheet.{ShownStep, tick_width, microstep_width, step_width, rounds_width, revisions_width}
use Rattle.machine.specs.Sheet.{output_width, texts_fit, field_texts, shown_fits}
use Rattle.laws.specs.Bools.{and_left, and_right}

-- the first field, and those after it
module _ (w : ℕ) (ws : List ℕ) (t : List ℕ) (ts : List (List ℕ)) where
  first_fits : texts_fit (w ∷ ws) (t ∷ ts) ≡ true → length t ≤ w
  unfolding texts_fit
  first_fits fit = leb-true (length t) w (and_left (leb (length t) w) (texts_fit ws ts) fit)

  others_fit : texts_fit (w ∷ ws) (t ∷ ts) ≡ true → texts_fit ws ts ≡ true
  unfolding texts_fit
  others_fit fit = and_right (leb (length t) w) (texts_fit ws ts) fit

-- every field
pub record FieldsFit (t n step rounds revisions : ℕ) (x y z : Signal) : Type 0 where
  pub tick_fits : length (decimal t) ≤ tick_width
  pub microstep_fits : length (decimal n) ≤ microstep_width
  pub step_fits : length (decimal step) ≤ step_width
  pub rounds_fit : length (decimal rounds) ≤ rounds_width
  pub revisions_fit : length (decimal revisions) ≤ revisions_width
  pub first_output : length (signal_text x) ≤ output_width
  pub second_output : length (signal_text y) ≤ output_width
  pub third_output : length (signal_text z) ≤ output_width

pub fields_fit : (t n step rounds revisions : ℕ) (x y z : Signal) →
    shown_fits (ShownStep t n step rounds revisions x y z) ≡ true →
    FieldsFit t n step rounds revisions x y z
unfolding shown_fits field_texts
fields_fit t n step rounds revisions x y z fit =
    let second = others_fit _ _ _ _ fit in
    let third = others_fit _ _ _ _ second in
    let fourth = others_fit _ _ _ _ third in
    let fifth = others_fit _ _ _ _ fourth in
    let sixth = others_fit _ _ _ _ fifth in
    let seventh = others_fit _ _ _ _ sixth in
    record {
      tick_fits = first_fits _ _ _ _ fit;
      microstep_fits = first_fits _ _ _ _ second;
      step_fits = first_fits _ _ _ _ third;
      rounds_fit = first_fits _ _ _ _ fourth;
      revisions_fit = first_fits _ _ _ _ fifth;
      first_output = first_fits _ _ _ _ sixth;
      second_output = first_fits _ _ _ _ seventh;
      third_output = first_fits _ _ _ _ (others_fit _ _ _ _ seventh);
    }
