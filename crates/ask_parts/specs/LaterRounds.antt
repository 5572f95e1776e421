-- What a round after the first needs of a model in words, by what the code reads of each part: its kind, and of a drive
-- its longest step. A part that is no drive accepts h then (`Agreed`), and lowers nothing. Assumes nothing.
use Rattle.std.specs.Prelude.{ℕ, ◌+◌, ◌≤◌, ◌<◌, min, ◌≡◌, ◌≢◌, List, drop}
use Rattle.std.proofs.Math.Path.{sym, ap}
use Rattle.std.proofs.Common.{arith, ◌∙◌}
use Rattle.machine.specs.declared.time.Point.{Point}
use Rattle.machine.specs.declared.part.Kind.{Kind}
use Rattle.machine.specs.declared.part.Kind.TheVariants.{Drive}
use Rattle.machine.specs.declared.part.Part.{Part}
use Rattle.machine.specs.declared.model.Model.{Model}
use Rattle.machine.specs.Time.{tick}
use Rattle.machine.specs.Model.{part_at, reading0, trimmed, trimmed_part}
use Rattle.machine.specs.Accept.{driving, class, class_of, longest_as}
use Rattle.machine.specs.Advance.{least}
use Rattle.ask_laws.specs.Agreed.{Agreed, least_agreed, longest_driven}
use Rattle.words_store.specs.ModelIn.{part_count, stored_component, stored_point, model_in}
use Rattle.step_parts.specs.LentReading.{lent_many, lent_kind}
use Rattle.ask_parts.specs.LentAsked.{PartAsked, parts_from, part_here}

-- drives alone are of their class
drive_alone : (k : Kind) → class k ≡ driving → k ≡ Drive
drive_alone k e = grind arith

module _ (ts ss : List ℕ) (i : ℕ) (low : i < part_count ts) (kind : Kind)
    (of : kind ≡ (stored_component ts i).kind) where
  -- the model that the words mean, trimmed
  abbrev m : Model
  m = trimmed (model_in ts ss)

  -- the class of its part i is its kind's
  class_here : class_of (part_at m.parts i) ≡ class kind
  class_here = ap class (lent_kind ts ss i low ∙ sym of)

  -- a part that is no drive is passed over
  pub later_passes :
      (h best : ℕ) → best ≤ h → kind ≢ Drive → Agreed m h →
      least m h best (drop i m.parts) ≡ least m h best (drop (i + 1) m.parts)
  later_passes h best few none agreed =
      let accepts = agreed i (rw (lent_many ts ss) low) (λ e. none (drive_alone kind (sym class_here ∙ e))) in
      ap (least m h best) (parts_from ts ss i low) ∙
      least_agreed m h best (part_at m.parts i) (drop (i + 1) m.parts) few accepts

  -- a drive's longest step is taken in
  pub later_drive :
      (p : Part) → PartAsked ts ss i p → (now : Point) (h best y : ℕ) → now ≡ stored_point ss → kind ≡ Drive →
      y ≡ longest_as driving (trimmed_part p) (tick now) h →
      least m h best (drop i m.parts) ≡ least m h (min best y) (drop (i + 1) m.parts)
  unfolding least trimmed model_in
  later_drive p asked now h best y at some e =
      let q = part_at m.parts i in
      let longest_here =
      longest_driven q m.point (reading0 m.parts q) h (class_here ∙ ap class some) ∙
      ap (λ (r : Part). longest_as driving r (tick (stored_point ss)) h) (part_here asked) ∙
      ap (λ (n : Point). longest_as driving (trimmed_part p) (tick n) h) (sym at) ∙ sym e in
      ap (least m h best) (parts_from ts ss i low) ∙
      ap (λ (z : ℕ). least m h (min best z) (drop (i + 1) m.parts)) longest_here
