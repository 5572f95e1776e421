-- Parts moved, and parts settled, in the words of a state: what holds after i parts, after one part more, and after
-- all. Each part is read from words and its state alone is written, of a moved part three numbers, so that each turn of
-- these loops is told of the model that the words mean. Assumes nothing.
use Prim.Native.Nat.{ℕ, ◌+◌, ◌≤◌, ◌<◌}
use native.Mathlib.Omega.{arith}
use Rattle.std.specs.Prelude.{◌≡◌, refl, true, false, ◌⊎◌, ltb}
use Rattle.std.proofs.Math.Path.{sym, ap, ap₂, subst}
use Rattle.std.proofs.Common.{◌∙◌, inl, inr, ltb-true, ltb-false}
use mathlib.Core.List.{List, map}
use Rattle.std.proofs.Math.ListN.{length}
use Rattle.std.proofs.lemmas.List.{length-map}
use Rattle.std.proofs.Math.Seq.{ext_get_or}
use Rattle.machine.specs.declared.time.Point.{Point}
use Rattle.machine.specs.declared.signal.Signal.{Signal}
use Rattle.machine.specs.declared.part.Kind.{Kind}
use Rattle.machine.specs.declared.part.State.{State}
use Rattle.machine.specs.declared.part.Part.{Part}
use Rattle.machine.specs.declared.model.Model.{Model}
use Rattle.machine.specs.Time.{last_tick, tick}
use Rattle.machine.specs.Model.{blank_part, part_at, with_state, with_parts, reading0, trimmed, trimmed_part}
use Rattle.machine.specs.Model.{trimmed_component}
use Rattle.machine.specs.Step.{moved, all_moved, settled, all_settled}
use Rattle.machine.specs.Sound.{sound}
use Rattle.laws.specs.Bools.{either}
use Rattle.laws.specs.ListLaws.{getD_map_in}
use Rattle.words_store.specs.ModelIn.{part_count, state_words, stored_component, stored_part, stored_point}
use Rattle.words_store.specs.ModelIn.{stored_state, model_in}
use Rattle.words_store.specs.Updated.{state_spelled, StatePut, Copied, SameBehind}
use Rattle.words_store.specs.StoreFrame.{held_part, same_state, held_put, held_copied, copied_spelled, behind_put}
use Rattle.words_store.specs.StoreFrame.{behind_none, behind_through}
use Rattle.words_store.specs.Clean.{SignalsKept, signals_through}
use Rattle.words_store.specs.CleanKept.{kept_numbered, kept_put, kept_copied}
use Rattle.words_store.specs.NumbersPut.{state_numbered, NumbersPut, state_unnumbered, point_unnumbered}
use Rattle.words_store.specs.NumbersPut.{behind_numbered}
use Rattle.step_parts.specs.Trimmed.{Changed, none_changed}
use Rattle.step_parts.specs.Fillable.{Wired}
use Rattle.step_parts.specs.LentReading.{heard_in, lent_many, lent_part, lent_kind, lent_reading}
use Rattle.step_parts.specs.InPlace.{by_reading, changed_to, LoopTurn, turn, all_changed}
use Rattle.step_parts.specs.Moving.{Movable, moving, movable, movable_untrimmed}
use Rattle.step_parts.specs.Settling.{settles, settling, settled_same}

-- of the words b, which were a, the first i parts are settled, each by its reading in the model of a, and every signal
-- is clean or kept
pub record LentSettled (ts a : List ℕ) (i : ℕ) (b : List ℕ) : Type 0 where
  pub changed : Changed (model_in ts a) (changed_to settled (model_in ts a) i) (model_in ts b)
  pub behind : SameBehind (part_count ts) a b
  pub signals : (j : ℕ) → SignalsKept a b j

-- at first none is
pub none_settled : (ts a : List ℕ) → LentSettled ts a 0 a
none_settled ts a =
    record {
      changed = none_changed (model_in ts a);
      behind = behind_none (part_count ts) a;
      signals =
          λ j. (inr (refl, refl), inr (refl, refl));
    }

-- the part i of b
module _
    (ts a : List ℕ)
    (wired : Wired (trimmed (model_in ts a)))
    (i : ℕ)
    (b : List ℕ)
    (so_far : LentSettled ts a i b)
    (low : i < part_count ts) where
  -- the turn of the loop over the models that the words mean
  at : LoopTurn settled (model_in ts a) (model_in ts b) i
  unfolding model_in
  at = turn settled settling (model_in ts a) wired (model_in ts b) i so_far.changed low

  -- it is passed over, where settling keeps parts of its kind
  pub settled_passes : (kind : Kind) → kind ≡ (stored_component ts i).kind → settles kind ≡ false →
      LentSettled ts a (i + 1) b
  settled_passes kind of none =
      let ps = (trimmed (model_in ts a)).parts in
      let q = part_at ps i in
      let kept : settles q.component.kind ≡ false = ap settles (lent_kind ts a i low ∙ sym of) ∙ none in
      record {
        changed = at.passes (settled_same (reading0 ps q) q kept);
        behind = so_far.behind;
        signals = so_far.signals;
      }

  -- or read, settled, and its state is written
  pub settled_more :
      (p : Part) → p ≡ stored_part ts b i → (x : Signal) (q : Part) (c : List ℕ) →
      x ≡ heard_in b p.component.port0 → q ≡ settled x p → StatePut i q.state b c → LentSettled ts a (i + 1) c
  unfolding settled
  settled_more p is x q c hears settles put =
      let same : p ≡ part_at (model_in ts b).parts i = is ∙ sym (held_part ts b i low) in
      let next = model_in ts b in
      let reads =
      lent_reading ts b at.wired i low p x is hears ∙ ap (reading0 (trimmed next).parts) same ∙ at.reads in
      let v = with_state (stored_part ts b i) q.state in
      let becomes : v ≡ settled x (part_at next.parts i) =
      ap (λ (r : Part). with_state (stored_part ts b i) r.state) (settles ∙ ap (settled x) is) ∙
      ap (settled x) (sym (held_part ts b i low)) in
      record {
        changed =
            subst (Changed (model_in ts a) (changed_to settled (model_in ts a) (i + 1)))
            (sym (held_put ts b c i q.state put low)) (at.changes x v reads becomes);
        behind = behind_through (part_count ts) a b c so_far.behind
            (behind_put (part_count ts) i q.state b c put low);
        signals = λ j. signals_through a b c j (so_far.signals j) (kept_put b c i q.state put j);
      }

-- and at last all are
pub settled_done :
    (ts a : List ℕ) → Wired (trimmed (model_in ts a)) → (i : ℕ) (b : List ℕ) → LentSettled ts a i b →
    part_count ts ≤ i →
    Changed (model_in ts a) (all_settled (trimmed (model_in ts a)).parts) (model_in ts b)
unfolding all_settled model_in
settled_done ts a wired i b so_far past =
    all_changed settled (model_in ts a) wired (model_in ts b) i so_far.changed past

-- the state of part j of the old words, moved by its reading among them
abbrev pub moved_state : List ℕ → List ℕ → ℕ → ℕ → ℕ → State
moved_state ts old t h j =
    (moved t h (reading0 (trimmed (model_in ts old)).parts (stored_part ts old j)) (stored_part ts old j)).state

-- a state with the three numbers of another; moving a state changes these alone
abbrev numbered_as : State → State → State
numbered_as s from = state_numbered s from.local.0 from.held from.speed

three_moved : (ts old : List ℕ) (t h j : ℕ) → numbered_as (stored_state old j) (moved_state ts old t h j) ≡
    moved_state ts old t h j
unfolding moved stored_part
three_moved ts old t h j = refl

-- in the words b, which were a, are the point and the states of the old words, of which the first i are moved, all
-- within their limits, and the old words' signals
pub record LentMoved (ts old : List ℕ) (t h : ℕ) (a : List ℕ) (i : ℕ) (b : List ℕ) : Type 0 where
  pub states : (j : ℕ) → j < i → stored_state b j ≡ moved_state ts old t h j
  pub rest : (j : ℕ) → i ≤ j → j < part_count ts → stored_state b j ≡ stored_state old j
  pub form : (j : ℕ) → j < part_count ts → state_spelled b j ≡ true
  pub point : stored_point b ≡ stored_point old
  pub behind : SameBehind (part_count ts) a b
  pub signals : (j : ℕ) → j < part_count ts → SignalsKept old b j

-- the tick that the old words are read to be at is that of their model
pub lent_tick : (ts old : List ℕ) (now : Point) → now ≡ stored_point old → now.t.0 ≡ tick (model_in ts old).point
unfolding model_in
lent_tick ts old now is = ap tick is

-- at first none is: b are the words just copied
pub none_moved :
    (ts old : List ℕ) (t h : ℕ) (a b : List ℕ) → Copied (state_words (part_count ts)) old a b →
    ((j : ℕ) → j < part_count ts → state_spelled old j ≡ true) → LentMoved ts old t h b 0 b
unfolding model_in
none_moved ts old t h a b copy spells =
    record {
      states = λ j below. absurd (omega arith);
      rest = λ j from low. same_state old b j (λ x first last. copy.front x (omega arith));
      form = copied_spelled (part_count ts) old a b copy spells;
      point = ap (λ (m : Model). m.point) (held_copied ts old a b copy);
      behind = behind_none (part_count ts) b;
      signals = kept_copied (part_count ts) old a b copy;
    }

-- the part i of the old words
module _ (ts old : List ℕ) (i : ℕ) (low : i < part_count ts) (p : Part) (is : p ≡ stored_part ts old i) where
  -- it can be moved
  pub lent_movable :
      sound (trimmed (model_in ts old)) ≡ true → (t h : ℕ) → t ≡ tick (model_in ts old).point → h ≤ 1_000_000_000 →
      tick (model_in ts old).point + h ≤ last_tick →
      Movable t h p
  unfolding trimmed
  lent_movable is_sound t h now small far =
      let can = movable (trimmed (model_in ts old)) is_sound h i (rw (lent_many ts old) low) small far in
      rw (now, is) (movable_untrimmed (tick (model_in ts old).point) h (stored_part ts old i)
      (rw (lent_part ts old i low) at can))

  -- moved, it differs in its three numbers, which are written
  pub moved_more :
      (t h : ℕ) (a b c : List ℕ) (x : Signal) (q : Part) → LentMoved ts old t h a i b →
      x ≡ reading0 (trimmed (model_in ts old)).parts p →
      q ≡ moved t h x p → NumbersPut i q.state.local.0 q.state.held q.state.speed b c →
      LentMoved ts old t h a (i + 1) c
  moved_more t h a b c x q so_far reads moves put =
      let numbers = q.state in
      let kept = behind_numbered i numbers.local.0 numbers.held numbers.speed b c put (part_count ts) low in
      record {
        states = λ j below. state_at j below (either (ltb j i));
        rest = λ j from inside. other j (λ same. omega arith) ∙ so_far.rest j (omega arith) inside;
        form = λ j inside. kept.form j (so_far.form j inside);
        point = point_unnumbered i numbers.local.0 numbers.held numbers.speed b c put ∙ so_far.point;
        behind = behind_through (part_count ts) a b c so_far.behind kept;
        signals = λ j inside.
            signals_through old b c j (so_far.signals j inside)
            (kept_numbered b c i numbers.local.0 numbers.held numbers.speed put j);
      }
    where
      other : (j : ℕ) → (j ≡ i → ⊥) → stored_state c j ≡ stored_state b j
      other = state_unnumbered i q.state.local.0 q.state.held q.state.speed b c put

      state_at : (j : ℕ) → j < i + 1 → (ltb j i ≡ true) ⊎ (ltb j i ≡ false) →
          stored_state c j ≡ moved_state ts old t h j
      state_at j below (inl e) =
          let before = ltb-true j i e in other j (λ same. omega arith) ∙ so_far.states j before
      state_at j below (inr e) =
          let same : i ≡ j = omega (arith, ltb-false j i e) in
          let f = by_reading (moved t h) (trimmed (model_in ts old)).parts in
          let becomes : q ≡ f (stored_part ts old i) = moves ∙ ap (λ (y : Signal). moved t h y p) reads ∙ ap f is in
          subst (λ (l : ℕ). stored_state c l ≡ moved_state ts old t h l) same
          (put.is ∙ ap (λ (s : State). numbered_as s q.state) (so_far.rest i (omega arith) low) ∙
          ap (λ (r : Part). numbered_as (stored_state old i) r.state) becomes ∙ three_moved ts old t h i)

-- and at last all are: the new words mean the moved parts
module _ (ts old : List ℕ) (t h : ℕ) (a : List ℕ) (i : ℕ) (b : List ℕ) (so_far : LentMoved ts old t h a i b)
    (past : part_count ts ≤ i) where
  moved_part_at :
      (j : ℕ) → j < part_count ts →
      trimmed_part (stored_part ts b j) ≡ by_reading (moved t h) (trimmed (model_in ts old)).parts
      (trimmed_part (stored_part ts old j))
  unfolding stored_part moved reading0 trimmed_part trimmed_component
  moved_part_at j low =
      let p = stored_part ts old j in
      let ps = (trimmed (model_in ts old)).parts in
      ap (λ (s : State). trimmed_part (with_state p s)) (so_far.states j (omega arith)) ∙
      (moving t h).unread (reading0 ps p) p

  all_parts : (trimmed (model_in ts b)).parts ≡ all_moved t h (trimmed (model_in ts old)).parts
  unfolding all_moved
  all_parts =
      let ps = (trimmed (model_in ts old)).parts in
      let f = by_reading (moved t h) ps in
      let many = lent_many ts b in
      ext_get_or blank_part (trimmed (model_in ts b)).parts (map f ps) (many ∙ sym (length-map ps f ∙ lent_many ts old))
      (λ j inside.
      let low : j < part_count ts = omega arith in
      let within : j < length ps = omega (arith, lent_many ts old) in
      lent_part ts b j low ∙ moved_part_at j low ∙
      sym (getD_map_in f ps j blank_part blank_part within ∙ ap f (lent_part ts old j low)))

  pub moved_done :
      t ≡ tick (model_in ts old).point →
      Changed (model_in ts old) (all_moved (tick (model_in ts old).point) h (trimmed (model_in ts old)).parts)
      (model_in ts b)
  unfolding trimmed model_in
  moved_done now =
      let moves : ℕ → List Part = λ u. all_moved u h (trimmed (model_in ts old)).parts in
      record { is = ap₂ (with_parts (trimmed (model_in ts old))) so_far.point (all_parts ∙ ap moves now) }
