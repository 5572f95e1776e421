-- The parts of a model in words, asked one after the other, by what the code reads of each: the part, and what its port
-- 0 reads. Shown is what a part of a sound model meets, what its reply is in the model, and how a round and a test of
-- all parts go on after it, and end. The idea: the model has the trimmed parts of the words, and a reply reads nothing
-- that trimming cuts away. The three loops of this crate cite the one section `PartAsked`. Assumes nothing.
use Rattle.std.specs.Prelude.{ℕ, ◌+◌, ◌/◌, ◌≤◌, ◌<◌, min, ◌≡◌, Bool, true, false, ◌||◌, List, [], ◌∷◌, length, drop}
use Rattle.std.proofs.Common.{arith, add-one, ◌∙◌, drop_of_length-le, drop-cons}
use Rattle.std.proofs.Math.Path.{sym, ap, ap₂, subst}
use Rattle.machine.specs.declared.time.Point.{Point}
use Rattle.machine.specs.declared.signal.Signal.{Signal}
use Rattle.machine.specs.declared.part.Part.{Part}
use Rattle.machine.specs.declared.model.Model.{Model}
use Rattle.machine.specs.Lists.{All, any}
use Rattle.machine.specs.Time.{last_tick, tick, local_count}
use Rattle.machine.specs.Kind.{period}
use Rattle.machine.specs.Model.{most_spans, blank_part, part_at, reading0, trimmed, trimmed_part, trimmed_component}
use Rattle.machine.specs.Sound.{sound}
use Rattle.machine.specs.Accept.{due, longest}
use Rattle.machine.specs.Advance.{least}
use Rattle.laws.specs.Bools.{or_left}
use Rattle.laws.specs.ListLaws.{all_at}
use Rattle.laws.specs.Numbers.{div_grows}
use Rattle.sound_laws.specs.SoundParts.{sound_component}
use Rattle.ask_laws.specs.FitParts.{sound_fit, sound_few}
use Rattle.ask_part.specs.Askable.{AskFits}
use Rattle.ask_part.specs.DueTrimmed.{due_trimmed}
use Rattle.words_store.specs.ModelIn.{WordsThere, state_words, part_count, stored_part, stored_point, model_in}
use Rattle.step_parts.specs.Fillable.{Wired}
use Rattle.step_parts.specs.Reading.{source_index}
use Rattle.step_parts.specs.WiredParts.{sound_wired, sound_periods}
use Rattle.step_parts.specs.LentReading.{heard_in, lent_many, lent_part, lent_reading, source_room}
use Rattle.ask_parts.specs.Askable.{Askable}

-- each part of a sound model has at most 8 spans
sound_spans :
    (m : Model) → sound m ≡ true → (i : ℕ) → i < length m.parts →
    (part_at m.parts i).component.span_count ≤ most_spans
sound_spans m is_sound i within = rw (sound_component m is_sound i within).counted (sound_few m is_sound i within)

module _ (ts ss : List ℕ) where
  -- the model that the words mean, trimmed
  abbrev m : Model
  m = trimmed (model_in ts ss)

  -- the end of its parts: no test is passed there, and a round is what is best by then
  parts_end : (i : ℕ) → part_count ts ≤ i → drop i m.parts ≡ []
  parts_end i past = drop_of_length-le m.parts {i = i} (rw (lent_many ts ss) past)

  pub any_end : (f : Part → Bool) (i : ℕ) → part_count ts ≤ i → any f (drop i m.parts) ≡ false
  unfolding any
  any_end f i past = ap (any f) (parts_end i past)

  pub least_end : (h best i : ℕ) → part_count ts ≤ i → least m h best (drop i m.parts) ≡ best
  unfolding least
  least_end h best i past = ap (least m h best) (parts_end i past)

  -- the place i is one of its parts
  module _ (i : ℕ) (low : i < part_count ts) where
    inside : i < length m.parts
    inside = rw (lent_many ts ss) low

    -- the parts from i on
    pub parts_from : drop i m.parts ≡ part_at m.parts i ∷ drop (i + 1) m.parts
    parts_from = rw (add-one i) (drop-cons m.parts i blank_part inside)

    -- a test that the part i passes, and one that it does not
    pub any_hit : (f : Part → Bool) → f (part_at m.parts i) ≡ true → any f (drop i m.parts) ≡ true
    unfolding any
    any_hit f e = ap (any f) parts_from ∙ or_left (f (part_at m.parts i)) (any f (drop (i + 1) m.parts)) e

    pub any_miss : (f : Part → Bool) → f (part_at m.parts i) ≡ false →
        any f (drop i m.parts) ≡ any f (drop (i + 1) m.parts)
    unfolding any
    any_miss f e = ap (any f) parts_from ∙ ap (λ (b : Bool). b || any f (drop (i + 1) m.parts)) e

-- a turn of a loop over the parts of a model in words: the part i was read, and it is p
pub record PartAsked (ts ss : List ℕ) (i : ℕ) (p : Part) : Type 0 where
  pub low : i < part_count ts
  pub is : p ≡ stored_part ts ss i
  -- the words that its port 0 reads are there, and what is heard there is its reading
  pub source : state_words (source_index p.component.port0 + 1) ≤ length ss
  pub reads : (x : Signal) → x ≡ heard_in ss p.component.port0 → x ≡ reading0 (trimmed (model_in ts ss)).parts p

-- so it is of a model that is wired to its own parts, as a sound one is
pub wired_asked :
    (ts ss : List ℕ) → WordsThere ts ss → Wired (trimmed (model_in ts ss)) → (i : ℕ) → i < part_count ts →
    (p : Part) → p ≡ stored_part ts ss i → PartAsked ts ss i p
wired_asked ts ss there wired i low p is =
    record {
      low = low;
      is = is;
      source = source_room ts ss wired i low ss p is there;
      reads = λ x hears. lent_reading ts ss wired i low p x is hears;
    }

pub sound_asked :
    (ts ss : List ℕ) → WordsThere ts ss → sound (trimmed (model_in ts ss)) ≡ true → (i : ℕ) → i < part_count ts →
    (p : Part) → p ≡ stored_part ts ss i → PartAsked ts ss i p
sound_asked ts ss there sounds = wired_asked ts ss there (sound_wired (trimmed (model_in ts ss)) sounds)

module _ {ts ss : List ℕ} {i : ℕ} {p : Part} (asked : PartAsked ts ss i p) where
  -- the part as it was read is that of the model
  pub part_here : part_at (m ts ss).parts i ≡ trimmed_part p
  part_here = lent_part ts ss i asked.low ∙ ap trimmed_part (sym asked.is)

  -- no P is above 10^18
  pub period_here : All (λ (q : Part). period q ≤ last_tick) (m ts ss).parts → period p ≤ last_tick
  unfolding trimmed_part trimmed_component
  period_here most =
      let within = inside ts ss i asked.low in
      rw part_here at (all_at (λ (q : Part). period q ≤ last_tick) (m ts ss).parts blank_part i most within)

  -- it meets what its longest step asks
  pub askable : (now : Point) (h : ℕ) → Askable ts ss h → now ≡ stored_point ss → AskFits (tick now) h p
  unfolding trimmed model_in trimmed_part trimmed_component local_count
  askable now h asks at =
      let within = inside ts ss i asked.low in
      let fit = rw part_here at (sound_fit (m ts ss) asks.sounds i within) in
      let counted = rw part_here at (sound_spans (m ts ss) asks.sounds i within) in
      let t = tick (stored_point ss) in
      let far : t + h ≤ last_tick = asks.in_time in
      let local : p.state.local.0 ≡ t / p.ratio = fit.local in
      let grows = div_grows p.ratio t (t + h) (omega arith) in
      subst (λ (n : Point). AskFits (tick n) h p) (sym at)
      (record {
        places = counted;
        ratio = fit.ratio;
        period = period_here (sound_periods (m ts ss) asks.sounds);
        waits = fit.period;
        step = record { time = far; local = rw local grows };
      })

  -- asked at the point that was read, x being what was heard
  module _ (now : Point) (x : Signal) (at : now ≡ stored_point ss) (hears : x ≡ heard_in ss p.component.port0) where
    -- a round goes on after it, its longest step taken in
    pub least_from :
        (h best y : ℕ) → y ≡ longest (trimmed_part p) now x h →
        let ps = (m ts ss).parts in
        least (m ts ss) h best (drop i ps) ≡ least (m ts ss) h (min best y) (drop (i + 1) ps)
    unfolding least trimmed model_in reading0 trimmed_part trimmed_component
    least_from h best y e =
        let ps = (m ts ss).parts in
        let reads = asked.reads x hears in
        ap (least (m ts ss) h best) (parts_from ts ss i asked.low) ∙
        ap (λ (z : ℕ). least (m ts ss) h (min best z) (drop (i + 1) ps))
        (ap (λ (q : Part). longest q (m ts ss).point (reading0 ps q) h) part_here ∙
        sym (e ∙ ap₂ (λ (n : Point) (z : Signal). longest (trimmed_part p) n z h) at reads))

    -- whether it is due, as the test of all parts asks it
    pub due_here :
        let ps = (m ts ss).parts in
        due (part_at ps i) (m ts ss).point (reading0 ps (part_at ps i)) ≡ due p now x
    unfolding trimmed model_in reading0 trimmed_part trimmed_component
    due_here =
        let ps = (m ts ss).parts in
        let reads = asked.reads x hears in
        ap (λ (q : Part). due q (m ts ss).point (reading0 ps q)) part_here ∙
        due_trimmed p (m ts ss).point (reading0 ps p) ∙ sym (ap₂ (due p) at reads)
