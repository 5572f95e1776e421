-- The model that words mean, tested and surveyed: its places are those of the words, so that the laws of a model's
-- places and of soundness test by test are about the words. Assumes nothing.
use Rattle.std.specs.Prelude.{ℕ, ◌+◌, ◌%◌, ◌≤◌, ◌<◌, ◌≡◌, refl, Bool, true, false, ◌&&◌, get_or, set, drop}
use Rattle.std.proofs.Common.{add-one, arith, ◌∙◌, length-set, take-suc, take-suc-set}
use Rattle.std.proofs.Math.Path.{sym, ap}
use mathlib.Core.List.{List, map}
use Rattle.std.proofs.Math.ListN.{length, take}
use Rattle.std.proofs.lemmas.List.{length-map}
use Rattle.std.proofs.Math.Seq.{take_all}
use Rattle.machine.specs.declared.time.Point.{Point}
use Rattle.machine.specs.declared.part.Part.{Part}
use Rattle.machine.specs.declared.model.Model.{Model}
use Rattle.machine.specs.Lists.{every, same}
use Rattle.machine.specs.Model.{most_parts, blank_component, blank_part, trimmed_part, trimmed}
use Rattle.machine.specs.Time.{in_time, larger, master_magnitude}
use Rattle.machine.specs.Table.{magnitude_of, table_of, part_order, ordered}
use Rattle.machine.specs.Sound.{sound}
use Rattle.laws.specs.ListLaws.{getD_map_in}
use Rattle.laws.specs.Loops.{every_end}
use Rattle.sound_laws.specs.Magnitude.{magnitude_end}
use Rattle.order_place.specs.declared.Direct.{Direct}
use Rattle.order_place.specs.Direct.{direct_of}
use Rattle.words_store.specs.ModelIn.{slot, part_count, stored_component, ordered_part, stored_part, stored_point}
use Rattle.words_store.specs.ModelIn.{model_in}
use Rattle.words_store.specs.StoreFrame.{held_many, held_order, held_part, held_number}
use Rattle.sound_test.specs.declared.survey.Survey.{Survey}
use Rattle.sound_test.specs.LentSurveyed.{LentSurveyed}
use Rattle.sound_test.specs.Parts.{part_fits}
use Rattle.sound_test.specs.TrimmedPlaces.{preferences, preferences_count, preferences_on, parts_count, parts_on}
use Rattle.sound_test.specs.TrimmedPlaces.{directs_trimmed}
use Rattle.sound_test.specs.Whole.{order_holds, parts_hold, magnitude_holds, tests_by, parts_by, sound_trimmed}
use Rattle.sound_test.specs.Whole.{unsound_none}

-- the direct sources of a model's parts
abbrev directs : Model → List Direct
directs m = map (λ (p : Part). direct_of p.component) m.parts

-- the model that words mean has a place for each of its parts
module _ (ts ss : List ℕ) where
  pub held_room : (model_in ts ss).count ≤ length (model_in ts ss).parts
  unfolding model_in
  held_room = omega (arith, held_many ts ss)

  -- a loop's turn: the test of the parts from i on asks part i and those after it
  pub held_on :
      (f : Part → Bool) (i : ℕ) → i < part_count ts →
      every f (drop i (trimmed (model_in ts ss)).parts) ≡
      (f (trimmed_part (stored_part ts ss i)) && every f (drop (i + 1) (trimmed (model_in ts ss)).parts))
  unfolding model_in
  held_on f i low =
      parts_on (model_in ts ss) held_room f i low ∙
      ap (λ (p : Part). f (trimmed_part p) && every f (drop (i + 1) (trimmed (model_in ts ss)).parts))
      (held_part ts ss i low)

  -- after the last part all do
  pub held_end : (f : Part → Bool) (i : ℕ) → part_count ts ≤ i →
      every f (drop i (trimmed (model_in ts ss)).parts) ≡ true
  unfolding model_in
  held_end f i past =
      let far : length (trimmed (model_in ts ss)).parts ≤ i = rw (parts_count (model_in ts ss) held_room) past in
      every_end f (trimmed (model_in ts ss)).parts i far

  -- each part in use has a place for its direct sources
  directs_many : length (directs (model_in ts ss)) ≡ part_count ts
  directs_many = length-map (model_in ts ss).parts (λ (p : Part). direct_of p.component) ∙ held_many ts ss

  direct_held :
      (i : ℕ) → i < part_count ts →
      get_or (directs (model_in ts ss)) i (direct_of blank_component) ≡ direct_of (stored_component ts i)
  unfolding stored_part
  direct_held i low =
      let inside : i < length (model_in ts ss).parts = omega (arith, held_many ts ss) in
      getD_map_in (λ (p : Part). direct_of p.component) (model_in ts ss).parts i blank_part
      (direct_of blank_component) inside ∙
      ap (λ (p : Part). direct_of p.component) (held_part ts ss i low)

  -- a loop's turn: the magnitude e with the preferences from i on takes that of part i
  held_preference :
      (e i : ℕ) → i < part_count ts →
      master_magnitude e (drop i (preferences (model_in ts ss))) ≡
      master_magnitude (larger e (stored_component ts i).preference) (drop (i + 1) (preferences (model_in ts ss)))
  unfolding model_in stored_part
  held_preference e i low =
      preferences_on (model_in ts ss) held_room e i low ∙
      ap (λ (p : Part). master_magnitude (larger e p.component.preference)
      (drop (i + 1) (preferences (model_in ts ss)))) (held_part ts ss i low)

  -- after the last part it stays
  held_magnitude : (e i : ℕ) → part_count ts ≤ i → master_magnitude e (drop i (preferences (model_in ts ss))) ≡ e
  unfolding model_in
  held_magnitude e i past =
      let far : length (preferences (model_in ts ss)) ≤ i = rw (preferences_count (model_in ts ss) held_room) past in
      magnitude_end e (preferences (model_in ts ss)) i far

-- an array whose first i places are a list's, with the next one stored
taken_more {ℓ} : {A : Type ℓ} (l to : List A) (i : ℕ) (v d : A) → i < length l → i < length to → take i l ≡ take i to →
    v ≡ get_or to i d →
    take (i + 1) (set l i v) ≡ take (i + 1) to
taken_more l to i v d low here before e = rw (add-one, take-suc-set l i v low, take-suc to i d here, before, e) refl

-- a survey of the first i parts, whatever state the table is in: the master's magnitude is that of what was found
-- and the preferences from i on, and the first i places hold the direct sources and the part order
pub record Surveying (ts : List ℕ) (i magnitude : ℕ) (direct : List Direct) (order : List ℕ) : Type 0 where
  pub low : i ≤ part_count ts
  pub wide : length direct ≡ most_parts
  pub long : length order ≡ most_parts
  pub master : (ss : List ℕ) →
      magnitude_of (table_of (trimmed (model_in ts ss))) ≡
      master_magnitude magnitude (drop i (preferences (model_in ts ss)))
  pub sources : (ss : List ℕ) → take i direct ≡ take i (directs (model_in ts ss))
  pub numbers : (ss : List ℕ) → take i order ≡ take i (model_in ts ss).order

module _ (ts : List ℕ) where
  -- of none
  pub surveying_start :
      (g : ℕ) (ds : List Direct) (os : List ℕ) → g ≡ slot ts 0 % 256 → length ds ≡ most_parts → length os ≡ most_parts →
      Surveying ts 0 g ds os
  unfolding model_in magnitude_of table_of trimmed preferences
  surveying_start g ds os e wide long =
      record {
        low = omega arith;
        wide = wide;
        long = long;
        master = λ ss. ap (λ (x : ℕ). master_magnitude x (preferences (model_in ts ss))) (sym e);
        sources = λ ss. refl;
        numbers = λ ss. refl;
      }

  -- of one part more
  pub surveying_more :
      (i g e : ℕ) (ds : List Direct) (os : List ℕ) (d : Direct) (k : ℕ) →
      Surveying ts i g ds os → i < part_count ts → part_count ts ≤ most_parts →
      e ≡ larger g (stored_component ts i).preference →
      d ≡ direct_of (stored_component ts i) → k ≡ ordered_part ts i → Surveying ts (i + 1) e (set ds i d) (set os i k)
  surveying_more i g e ds os d k before here few magnitude source number =
      record {
        low = omega arith;
        wide = length-set ds i d ∙ before.wide;
        long = length-set os i k ∙ before.long;
        master = λ ss.
            before.master ss ∙ held_preference ts ss g i here ∙
            ap (λ (x : ℕ). master_magnitude x (drop (i + 1) (preferences (model_in ts ss)))) (sym magnitude);
        sources = λ ss.
            taken_more ds (directs (model_in ts ss)) i d (direct_of blank_component) (omega (arith, before.wide))
            (omega (arith, directs_many ts ss))
            (before.sources ss) (source ∙ sym (direct_held ts ss i here));
        numbers = λ ss.
            taken_more os (model_in ts ss).order i k 0 (omega (arith, before.long)) (omega (arith, held_order ts ss))
            (before.numbers ss)
            (number ∙ sym (held_number ts ss i here));
      }

  -- of all
  pub surveying_end :
      (i : ℕ) (r : Survey) → Surveying ts i r.magnitude r.direct r.order → part_count ts ≤ i →
      LentSurveyed ts r
  surveying_end i r before past =
      let done : part_count ts ≡ i = omega (arith, before.low) in
      record {
        magnitude = λ ss. sym (before.master ss ∙ held_magnitude ts ss r.magnitude i past);
        direct = λ ss. rw done
            (before.sources ss ∙ take_all i (directs (model_in ts ss)) (omega (arith, directs_many ts ss)));
        order = λ ss. rw done
            (before.numbers ss ∙ take_all i (model_in ts ss).order (omega (arith, held_order ts ss)));
      }

-- soundness of the model that words mean, test by test
module _ (ts ss : List ℕ) where
  -- a table of no parts spells no sound model
  pub lent_none : part_count ts < 1 → sound (trimmed (model_in ts ss)) ≡ false
  unfolding model_in
  lent_none none = unsound_none (model_in ts ss) none

  -- the tests of a model of some parts, from that of its point on
  pub by_point :
      (now : Point) (time : Bool) → 1 ≤ part_count ts → part_count ts ≤ most_parts → now ≡ stored_point ss →
      time ≡ in_time now →
      sound (trimmed (model_in ts ss)) ≡
      (time && magnitude_holds (part_count ts) (magnitude_of (table_of (trimmed (model_in ts ss))))
      (trimmed (model_in ts ss)))
  unfolding model_in trimmed
  by_point now time some few stands e =
      sound_trimmed (model_in ts ss) some few (held_room ts ss) ∙
      tests_by (part_count ts) (trimmed (model_in ts ss)) time (e ∙ ap in_time stands)

  -- the test of each part, at the point's tick
  pub by_each :
      (g : ℕ) (now : Point) (fit : Bool) → now ≡ stored_point ss →
      fit ≡ every (part_fits (part_count ts) g now.t.0) (trimmed (model_in ts ss)).parts →
      parts_hold (part_count ts) g (trimmed (model_in ts ss)) ≡ (fit && order_holds (trimmed (model_in ts ss)))
  unfolding model_in trimmed
  by_each g now fit stands e =
      parts_by (part_count ts) g (trimmed (model_in ts ss)) fit
      (e ∙ ap (λ (p : Point). every (part_fits (part_count ts) g p.t.0) (trimmed (model_in ts ss)).parts) stands)

  -- the direct sources, and the part order, of the first n parts
  pub lent_directs :
      (n : ℕ) (ds : List Direct) → n ≡ part_count ts → take (part_count ts) ds ≡ directs (model_in ts ss) →
      map direct_of (table_of (trimmed (model_in ts ss))).parts ≡ take n ds
  unfolding model_in
  lent_directs n ds counted e =
      let ps = (model_in ts ss).parts in
      let all : take (part_count ts) ps ≡ ps = take_all (part_count ts) ps (omega (arith, held_many ts ss)) in
      directs_trimmed (model_in ts ss) ds (e ∙ ap (map (λ (p : Part). direct_of p.component)) (sym all)) ∙
      ap (λ (k : ℕ). take k ds) (sym counted)

  pub by_order :
      (n : ℕ) (os : List ℕ) (b : Bool) → n ≡ part_count ts → take (part_count ts) os ≡ (model_in ts ss).order →
      b ≡ (ordered (table_of (trimmed (model_in ts ss))).parts &&
      same (take n os) (part_order (table_of (trimmed (model_in ts ss))).parts)) →
      b ≡ order_holds (trimmed (model_in ts ss))
  unfolding order_holds model_in trimmed
  by_order n os b counted e follow =
      let cs = (table_of (trimmed (model_in ts ss))).parts in
      let ks = (model_in ts ss).order in
      let all : take (part_count ts) ks ≡ ks = take_all (part_count ts) ks (omega (arith, held_order ts ss)) in
      follow ∙ ap (λ (l : List ℕ). ordered cs && same l (part_order cs))
      (ap (λ (k : ℕ). take k os) counted ∙ e ∙ sym all)
