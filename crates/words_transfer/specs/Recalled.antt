-- A model by value that takes the point and the states of a state's words: where it was the model that some words of a
-- table hold, but for the places in no use, it is now the model that this table holds with that state, and its places
-- in no use are as they were. The idea: trimming looks at no state, so that a part and the table's part, equal trimmed,
-- are still so once both take one state. Assumes nothing.
use Rattle.std.specs.Prelude.{ℕ, ◌+◌, ◌-◌, ◌≤◌, ◌<◌, ◌≡◌, length}
use Rattle.std.proofs.Common.{arith, ◌∙◌, length-drop, get_or-take}
use Rattle.std.proofs.Math.Path.{sym, ap}
use mathlib.Core.List.{List, map}
use Rattle.std.proofs.Math.ListN.{take, drop}
use Rattle.std.proofs.Math.Seq.{get_or-drop, ext_get_or}
use Rattle.machine.specs.declared.time.Point.{Point}
use Rattle.machine.specs.declared.part.Part.{Part}
use Rattle.machine.specs.declared.model.Model.{Model}
use Rattle.machine.specs.Model.{blank_part, part_at, with_state, with_parts, trimmed_part, trimmed, spare_spans}
use Rattle.machine.specs.Model.{SameUnused}
use Rattle.laws.specs.Alls.{same_at}
use Rattle.words_store.specs.ModelIn.{part_count, stored_state, stored_part, stored_point, model_in}
use Rattle.words_store.specs.StoreFrame.{held_many, held_part}
use Rattle.words_transfer.specs.ModelPut.{trimmed_front, trimmed_same}

-- the model r is m with the point and the states that the words ss hold; its places in no use are those of m
pub record Recalled (m : Model) (ss : List ℕ) (r : Model) : Type 0 where
  pub is : (ts os : List ℕ) → trimmed (model_in ts os) ≡ trimmed m → trimmed r ≡ trimmed (model_in ts ss)
  pub unused : SameUnused m r

-- the model r is m with the states of the first i parts taken from the words
pub record RecalledFirst (m : Model) (ss : List ℕ) (i : ℕ) (r : Model) : Type 0 where
  pub same : r ≡ with_parts m m.point r.parts
  pub size : length r.parts ≡ length m.parts
  pub front : (j : ℕ) → j < i → part_at r.parts j ≡ with_state (part_at m.parts j) (stored_state ss j)
  pub behind : (j : ℕ) → i ≤ j → part_at r.parts j ≡ part_at m.parts j

-- the other way round
front_trimmed :
    (k l : List Part) (n o j : ℕ) → j < n → j < o → map trimmed_part (take n k) ≡ map trimmed_part (take o l) →
    trimmed_part (part_at k j) ≡ trimmed_part (part_at l j)
front_trimmed k l n o j low_n low_o e =
    ap trimmed_part (sym (get_or-take n k j blank_part low_n)) ∙
    same_at trimmed_part (take n k) (take o l) j blank_part e ∙
    ap trimmed_part (get_or-take o l j blank_part low_o)

-- once all states are taken
module _
    (m : Model)
    (now : Point)
    (ss : List ℕ)
    (r : Model)
    (point : now ≡ stored_point ss)
    (all : RecalledFirst (with_parts m now m.parts) ss m.count r)
    (long : m.count ≤ length m.parts) where
  -- the places in no use are as they were
  unused : SameUnused m r
  unfolding spare_spans
  unused =
      record {
        orders = ap (λ (x : Model). drop m.count x.order) all.same;
        parts =
            ext_get_or blank_part (drop m.count r.parts) (drop m.count m.parts)
            (length-drop m.count r.parts ∙ ap (λ (k : ℕ). k - m.count) all.size ∙
            sym (length-drop m.count m.parts))
            (λ j inside.
            get_or-drop m.count r.parts j blank_part ∙ all.behind (m.count + j) (omega arith) ∙
            sym (get_or-drop m.count m.parts j blank_part));
        spans = λ i low. ap (λ (p : Part). drop p.component.span_count p.component.spans) (all.front i low);
      }

  -- each part, trimmed, is the table's with the state of the words
  part_same :
      (ts os : List ℕ) → map trimmed_part (take (part_count ts) (model_in ts os).parts) ≡
      map trimmed_part (take m.count m.parts) →
      (j : ℕ) → j < m.count → j < part_count ts →
      trimmed_part (part_at r.parts j) ≡ trimmed_part (part_at (model_in ts ss).parts j)
  unfolding trimmed_part stored_part
  part_same ts os e j low inside =
      ap trimmed_part (all.front j low) ∙
      ap (λ (p : Part). with_state p (stored_state ss j))
      (sym (front_trimmed (model_in ts os).parts m.parts (part_count ts) m.count j inside low e) ∙
      ap trimmed_part (held_part ts os j inside)) ∙
      ap trimmed_part (sym (held_part ts ss j inside))

  -- so the models are equal trimmed
  is : (ts os : List ℕ) → trimmed (model_in ts os) ≡ trimmed m → trimmed r ≡ trimmed (model_in ts ss)
  unfolding trimmed model_in
  is ts os e =
      let n = part_count ts in
      let count : n ≡ m.count = ap (λ (x : Model). x.count) e in
      let parts : map trimmed_part (take n (model_in ts os).parts) ≡ map trimmed_part (take m.count m.parts) =
      ap (λ (x : Model). x.parts) e in
      trimmed_same r (model_in ts ss) (ap (λ (x : Model). x.magnitude) all.same ∙
      sym (ap (λ (x : Model). x.magnitude) e))
      (ap (λ (x : Model). x.count) all.same ∙ sym count)
      (ap (λ (x : Model). take n x.order) all.same ∙ ap (λ (k : ℕ). take k m.order) count ∙
      sym (ap (λ (x : Model). x.order) e))
      (ap (λ (x : Model). x.point) all.same ∙ point)
      (trimmed_front r.parts (model_in ts ss).parts n (omega (arith, count, all.size))
      (omega (arith, held_many ts ss))
      (λ j low. part_same ts os parts j (omega (arith, count)) low))

  -- and all of the states are taken
  pub recalled_all : Recalled m ss r
  recalled_all = record { is = is; unused = unused }
