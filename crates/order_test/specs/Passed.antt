-- What the test of an order keeps: the places that it has passed are in turn, with the numbers of the parts placed and
-- the links of these places. What it asks of the next place decides whether that is in turn. Assumes nothing.
use Rattle.std.specs.Prelude.{ℕ, suc, ◌-◌, ◌≤◌, ◌<◌, ◌≡◌, refl, true, false, ◌&&◌, ◌⊎◌, List, map, length, get_or}
use Rattle.std.specs.Prelude.{set, take, replicate, leb}
use Rattle.std.proofs.Common.{arith, eq-or-lt_of_le, sym, ap, ◌∙◌, true≢false, inl, inr, ⊎_elim, length-set}
use Rattle.std.proofs.Common.{length-take-le, le-leb, lt-ltb, le-ltb, leb-true, leb-false}
use Rattle.std.proofs.lemmas.Bool.{false≢true, lt-leb}
use Rattle.std.proofs.lemmas.List.{length-map}
use Rattle.machine.specs.declared.part.Component.{Component}
use Rattle.machine.specs.Lists.{same}
use Rattle.machine.specs.Model.{most_parts}
use Rattle.machine.specs.Table.{ordered, part_order}
use Rattle.laws.specs.Bools.{either}
use Rattle.order_place.specs.declared.Direct.{Direct}
use Rattle.order_place.specs.Direct.{direct_of, no_sources}
use Rattle.order_test.specs.PlacesInTurn.{InTurn, accepted, refused}
use Rattle.order_test.specs.Times.{PlacedAfter, none_placed, one_placed, ready_after, ready_by}
use Rattle.order_test.specs.Links.{Link, Links, WalkedBack, links_more}

-- the places before i of an order ks of n parts are passed
pub record Passed (n : ℕ) (ds : List Direct) (ks after links : List ℕ) (i : ℕ) : Type 0 where
  pub few : i ≤ n
  pub numbered : length after ≡ most_parts
  pub room : length links ≡ most_parts
  pub turns : (j : ℕ) → j < i → InTurn n ds ks j
  pub placed : PlacedAfter n ks after i
  pub linked : Links ks links i

-- at first none is
pub none_passed : (n : ℕ) (ds : List Direct) (ks links : List ℕ) → n ≤ most_parts → length links ≡ most_parts →
    Passed n ds ks (replicate most_parts (suc most_parts)) links 0
none_passed n ds ks links few room =
    record {
      few = omega arith;
      numbered = refl;
      room = room;
      turns = λ j h. absurd (omega arith);
      placed = none_placed n ks few;
      linked = λ q h. absurd (omega arith);
    }

module _ (n : ℕ) (ds : List Direct) (ks after links : List ℕ) (i : ℕ) (passed : Passed n ds ks after links i) where
  -- a part with a number of at most i has a place already
  pub placed_twice : get_or after (get_or ks i 0) 0 ≤ i → InTurn n ds ks i → ⊥
  placed_twice early turn =
      false≢true
      (sym (le-ltb i (get_or after (get_or ks i 0) 0) early) ∙
      sym (passed.placed.marked i (get_or ks i 0) (omega arith) turn.below) ∙ turn.unplaced)

  -- a part whose direct sources are placed after more than i places comes before one of them
  pub before_source : i < ready_after after n (get_or ds (get_or ks i 0) no_sources) → InTurn n ds ks i → ⊥
  before_source late turn =
      let part = get_or ds (get_or ks i 0) no_sources in
      false≢true
      (sym (lt-leb (ready_after after n part) i late) ∙
      sym (ready_by n ks after i passed.placed i (omega arith) part) ∙ turn.sources_placed)

  -- a part that was ready when a place went to a higher part should have gone there
  pub after_higher : (l : ℕ) → WalkedBack ks i (ready_after after n (get_or ds (get_or ks i 0) no_sources)) l →
      ready_after after n (get_or ds (get_or ks i 0) no_sources) < l → InTurn n ds ks i → ⊥
  after_higher l walked behind turn =
      let part = get_or ds (get_or ks i 0) no_sources in
      let within : l ≤ i = walked.link.within in
      true≢false
      (sym (le-leb (ready_after after n part) (l - 1) (omega arith)) ∙
      sym (ready_by n ks after i passed.placed (l - 1) (omega arith) part) ∙
      turn.passed_by (l - 1) (omega arith) (walked.higher behind))

  module _
      (part : get_or ks i 0 < n)
      (new : i < get_or after (get_or ks i 0) 0)
      (ready : ready_after after n (get_or ds (get_or ks i 0) no_sources) ≤ i)
      (l : ℕ)
      (walked : Link ks i l)
      (back : l ≤ ready_after after n (get_or ds (get_or ks i 0) no_sources)) where
    -- else the place is in turn
    turn : InTurn n ds ks i
    turn =
        let sources = get_or ds (get_or ks i 0) no_sources in
        record {
          below = part;
          unplaced = passed.placed.marked i (get_or ks i 0) (omega arith) part ∙
              lt-ltb i (get_or after (get_or ks i 0) 0) new;
          sources_placed = ready_by n ks after i passed.placed i (omega arith) sources ∙
              le-leb (ready_after after n sources) i ready;
          passed_by =
              λ p before higher.
              ready_by n ks after i passed.placed p (omega arith) sources ∙
              lt-leb (ready_after after n sources) p
              (⊎_elim (λ t. absurd (let lower = walked.lower p (leb-true l p t) before in omega arith))
              (λ f. omega (arith, leb-false l p f)) (either (leb l p)));
        }

    -- and it is passed
    pub one_passed : i < n → n ≤ most_parts → n ≤ length ks →
        Passed n ds ks (set after (get_or ks i 0) (suc i)) (set links i l) (suc i)
    one_passed more few long =
        record {
          few = more;
          numbered = length-set after (get_or ks i 0) (suc i) ∙ passed.numbered;
          room = length-set links i l ∙ passed.room;
          turns = λ j h. by_place j (eq-or-lt_of_le (at_most j h));
          placed =
              one_placed n ks after i passed.placed (omega arith) (omega arith) part
              (omega (arith, passed.numbered)) new;
          linked = links_more ks links i l (omega (arith, passed.room)) passed.linked walked;
        }
      where
        at_most : (j : ℕ) → j < suc i → j ≤ i
        at_most j h = omega arith

        by_place : (j : ℕ) → (j ≡ i) ⊎ (j < i) → InTurn n ds ks j
        by_place j (inl e) = rw e turn
        by_place j (inr less) = passed.turns j less

-- what the test answers, for all components whose direct sources these are
module _
    (n : ℕ)
    (ds : List Direct)
    (ks : List ℕ)
    (sourced : n ≤ length ds)
    (long : n ≤ length ks)
    (cs : List Component)
    (of_parts : map direct_of cs ≡ take n ds) where
  -- they are n
  counted : length cs ≡ n
  counted = sym (length-map cs direct_of) ∙ ap length of_parts ∙ length-take-le n ds sourced

  -- where a place is not in turn the order is refused
  pub refused_at : (i : ℕ) → i < n → (InTurn n ds ks i → ⊥) → false ≡ (ordered cs && same (take n ks) (part_order cs))
  refused_at i h never =
      let all = counted in
      sym (rw counted at (refused cs ds (rw counted (sym of_parts)) ks (omega arith) i (omega arith)
      (rw counted never)))

  -- where all are the order is accepted
  pub all_accepted : ((i : ℕ) → i < n → InTurn n ds ks i) → true ≡ (ordered cs && same (take n ks) (part_order cs))
  all_accepted turns =
      let all = counted in
      sym (rw counted at (accepted cs ds (rw counted (sym of_parts)) ks (omega arith) (rw counted turns)))
