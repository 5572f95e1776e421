-- What showing the next part asks, where the outputs before it in the order are filled, and that showing it fills one
-- output more. Assumes nothing.
use Rattle.std.specs.Prelude.{ℕ, suc, ◌+◌, ◌≤◌, ◌<◌, ◌≡◌, refl, true, take, drop}
use Rattle.std.proofs.Common.{arith, ◌∙◌, get_or-take, take_all}
use Rattle.std.proofs.Math.Path.{sym, ap, subst}
use Rattle.std.proofs.Math.Logic.{inl, inr}
use mathlib.Core.List.{List}
use Rattle.std.proofs.Math.ListN.{length, get_or, set}
use Rattle.std.proofs.Math.Seq.{split_at}
use Rattle.machine.specs.declared.time.Point.{Point}
use Rattle.machine.specs.declared.signal.Signal.{Signal}
use Rattle.machine.specs.declared.part.Source.{Source}
use Rattle.machine.specs.declared.part.Source.TheVariants.{From}
use Rattle.machine.specs.declared.part.Part.{Part}
use Rattle.machine.specs.declared.model.Model.{Model}
use Rattle.machine.specs.Lists.{All}
use Rattle.machine.specs.Time.{last_tick}
use Rattle.machine.specs.Signal.{is_signal}
use Rattle.machine.specs.Kind.{direct0, direct1, period, output}
use Rattle.machine.specs.Model.{most_parts, blank_part, part_at, with_parts, reading, reading0, reading1, trimmed}
use Rattle.machine.specs.Model.{trimmed_part, trimmed_component}
use Rattle.machine.specs.Step.{with_output, shown, filled}
use Rattle.laws.specs.Alls.{all_same_map, same_at}
use Rattle.laws.specs.ListLaws.{all_at}
use Rattle.sound_laws.specs.Facts.{speed_value}
use Rattle.sound_laws.specs.RangesKept.{InRange}
use Rattle.sound_laws.specs.CoreKept.{filled_kept}
use Rattle.order_laws.specs.Row.{unshown, Feeds}
use Rattle.step_part.specs.PartRanges as point
use Rattle.step_parts.specs.Reading.{SourceBelow}
use Rattle.step_parts.specs.Trimmed.{Changed, changed_count, changed_more}
use Rattle.step_parts.specs.Fillable.{Wired, Fillable, InRangeUnshown, fillable_numbers, changed_wired}
use Rattle.step_parts.specs.Fillable.{place_in_use, part_in_use, wired_at, reading_in_use}
use Rattle.step_parts.specs.Anyway.{direct_signal}
use Rattle.step_parts.specs.FillingInOrder.{filled_next, shown_trimmed}

-- the parts of `new`, trimmed, with the outputs of the first j numbers of its order filled; `old` is at the point
-- before
abbrev pub partly : Model → Model → ℕ → List Part
partly old new j = filled (trimmed old).parts new.point (take j (trimmed new).order) (trimmed new).parts

-- what showing the part k asks, which is the i-th of the order, in the parts qs: what its direct ports read are signals
pub record Showable (qs : List Part) (i k : ℕ) : Type 0 where
  pub place : i < most_parts
  pub ranges : point.PartFits (part_at qs k)
  pub signal0 : direct0 (part_at qs k).component.kind ≡ true → is_signal (reading0 qs (part_at qs k)) ≡ true
  pub signal1 : direct1 (part_at qs k).component.kind ≡ true → is_signal (reading1 qs (part_at qs k)) ≡ true

module _
    (old new : Model)
    (fit : Fillable (trimmed old) (trimmed new))
    (next : Model)
    (i : ℕ)
    (half : Changed new (partly old new i) next)
    (within : i < next.count) where
  -- the number that is next in the order
  number_next : get_or next.order i 0 ≡ get_or (trimmed new).order i 0
  unfolding trimmed
  number_next = sym (get_or-take next.count next.order i 0 within) ∙
      ap (λ (x : Model). get_or x.order i 0) half.is

  -- there is such a number
  inside : i < length (trimmed new).order
  unfolding trimmed
  inside = omega (arith, changed_count new (partly old new i) next half, fit.places)

  -- it is that of a part in use
  pub number_below : get_or next.order i 0 < next.count
  unfolding trimmed
  number_below =
      rw (number_next, changed_count new (partly old new i) next half)
      (all_at (λ (k : ℕ). k < new.count) (trimmed new).order 0 i
      (fillable_numbers (trimmed old) (trimmed new) fit) inside)

  -- the half filled model is wired as `new` is
  pub half_wired : Wired (trimmed next)
  half_wired =
      changed_wired new (partly old new i) next half
      (filled_kept (λ (p : Part). p.component) (λ p out. refl) (trimmed old).parts new.point
      (take i (trimmed new).order) (trimmed new).parts)
      fit.wired

  -- its parts are in range, their stored outputs aside
  half_ranges : All InRangeUnshown (trimmed next).parts
  half_ranges =
      rw half.is
      (all_same_map unshown InRange (partly old new i) (trimmed new).parts
      (filled_kept unshown (λ p out. refl) (trimmed old).parts new.point (take i (trimmed new).order)
      (trimmed new).parts) fit.ranges)

  -- and no P is above 10^18
  half_periods : All (λ (p : Part). period p ≤ last_tick) (trimmed next).parts
  half_periods =
      rw half.is
      (all_same_map (λ (p : Part). period p) (λ (n : ℕ). n ≤ last_tick) (partly old new i) (trimmed new).parts
      (filled_kept (λ (p : Part). period p) (λ p out. refl) (trimmed old).parts new.point
      (take i (trimmed new).order) (trimmed new).parts)
      fit.periods)

  -- the next part's component is that of `new`
  next_component : trimmed_component (part_at next.parts (get_or next.order i 0)).component ≡
      (part_at (trimmed new).parts (get_or next.order i 0)).component
  unfolding trimmed_part
  next_component =
      let k = get_or next.order i 0 in
      ap (λ (p : Part). p.component) (part_in_use next half_wired k number_below) ∙
      ap (λ (x : Model). (part_at x.parts k).component) half.is ∙
      same_at (λ (p : Part). p.component) (partly old new i) (trimmed new).parts k blank_part
      (filled_kept (λ (p : Part). p.component) (λ p out. refl) (trimmed old).parts new.point
      (take i (trimmed new).order) (trimmed new).parts)

  -- `new` has such a part
  next_there : get_or next.order i 0 < length (trimmed new).parts
  unfolding trimmed
  next_there = omega (arith, number_below, changed_count new (partly old new i) next half, fit.wired.counted)

  -- a port of it reads a signal where it is direct
  port_signal :
      (s : Source) → SourceBelow next.count s →
      ((j : ℕ) → s ≡ From j → Feeds j (trimmed_component (part_at next.parts (get_or next.order i 0)).component)) →
      is_signal (reading next.parts s) ≡ true
  port_signal s below feeds =
      let ks = (trimmed new).order in
      let k = get_or next.order i 0 in
      rw (reading_in_use next half_wired s below, half.is)
      (direct_signal (trimmed old).parts new.point (trimmed new).parts ks fit.complete fit.before
      fit.ranges (take i ks) (drop (suc i) ks) k s
      (rw number_next (split_at ks i 0 inside)) next_there (λ j from. subst (Feeds j) next_component (feeds j from)))

  -- so the next part can be shown
  pub showable : Showable next.parts i (get_or next.order i 0)
  unfolding trimmed trimmed_part trimmed_component reading0 reading1
  showable =
      let k = get_or next.order i 0 in
      let there : k < length (trimmed next).parts = rw (← half_wired.counted) number_below in
      let wired = wired_at next half_wired k number_below in
      let part = part_in_use next half_wired k number_below in
      let range = rw (← part) at (all_at InRangeUnshown (trimmed next).parts blank_part k half_ranges there) in
      let most = rw (← part) at (all_at (λ (p : Part). period p ≤ last_tick)
      (trimmed next).parts blank_part k half_periods there) in
      record {
        place = place_in_use next half_wired i within;
        ranges = record { a = range.a; held = range.held; speed = speed_value _ _ range.speed; period = most };
        signal0 = λ direct. port_signal (part_at next.parts k).component.port0 wired.port0
            (λ j from. inl (direct, from));
        signal1 = λ direct. port_signal (part_at next.parts k).component.port1 wired.port1
            (λ j from. inr (direct, from));
      }

  -- showing it fills one output more
  pub shown_next :
      (v : Part) → v ≡ shown old.parts new.point next.parts (part_at next.parts (get_or next.order i 0)) →
      Changed new (partly old new (i + 1))
      (with_parts next next.point (set next.parts (get_or next.order i 0) v))
  unfolding trimmed
  shown_next v shows =
      let k = get_or next.order i 0 in
      let p = part_at next.parts k in
      let ks = (trimmed new).order in
      let same : old.count ≡ next.count = fit.same ∙ sym (changed_count new (partly old new i) next half) in
      let is : trimmed_part v ≡ shown (trimmed old).parts new.point (trimmed next).parts
      (part_at (trimmed next).parts k) =
      ap trimmed_part shows ∙
      shown_trimmed old next new.point p half_wired same fit.counted (wired_at next half_wired k number_below) ∙
      ap (shown (trimmed old).parts new.point (trimmed next).parts) (part_in_use next half_wired k number_below) in
      subst (λ (qs : List Part). Changed new qs (with_parts next next.point (set next.parts k v)))
      (ap (set (partly old new i) k) is ∙
      ap (λ (x : Model). set (partly old new i) k
      (shown (trimmed old).parts new.point x.parts (part_at x.parts k))) half.is ∙
      (rw number_next (filled_next (trimmed old).parts new.point ks i (trimmed new).parts inside)))
      (changed_more new (partly old new i) next k v half number_below)

-- all of them filled is the trimmed model filled
pub all_filled :
    (old new : Model) → Fillable (trimmed old) (trimmed new) → (r : Model) (i : ℕ) → Changed new (partly old new i) r →
    r.count ≤ i →
    Changed new (filled (trimmed old).parts new.point (trimmed new).order (trimmed new).parts) r
unfolding trimmed
all_filled old new fit r i half past =
    let counts = changed_count new (partly old new i) r half in
    let done : length (trimmed new).order ≤ i = omega (arith, fit.places, counts) in
    rw (take_all i (trimmed new).order done) at half

-- what its ports read gives the part shown
pub heard_shown :
    (old qs : List Part) (now : Point) (p : Part) (x y before out : Signal) → x ≡ reading0 qs p → y ≡ reading1 qs p →
    before ≡ reading0 old p → out ≡ output p now x y before → with_output p out ≡ shown old now qs p
unfolding shown
heard_shown old qs now p x y before out ex ey eb eo = rw (eo, ex, ey, eb) refl
