-- Laws of playing: a line written into the part of a buffer that is left is put after what the buffer holds, and the
-- lines from a position on begin with the line of the command there. The idea: a command takes a byte or more, so
-- that the turns that `played_from` may take are never all used. Assumes nothing.
use Prim.Native.Nat.{ℕ, zero, suc, ◌+◌, ◌-◌, ◌≤◌, ◌<◌}
use native.Mathlib.Omega.{arith}
use mathlib.Core.Path.{◌≡◌, refl, sym, ap, ◌∙◌}
use mathlib.Core.Bool.{Bool, true, false, not, cond}
use Rattle.std.specs.Prelude.{Option, Some, None}
use mathlib.Core.List.{List, [], ◌++◌, append_assoc, append-nil}
use lib.ListN.{length, take, drop, length-append, length-take, length-drop, drop_of_length-le}
use lib.Seq.{take_all, take_at, drop_at, drop-drop}
use Rattle.machine.specs.declared.model.Model.{Model}
use Rattle.machine.specs.Answers.{Score}
use Rattle.machine.specs.Answers.{End, Wanted, Refused}
use Rattle.machine.specs.Answers.{Written}
use Rattle.machine.specs.Advance.{advance}
use Rattle.machine.specs.Score.{score_at}
use Rattle.machine.specs.Rehearse.{refused_at_line}
use Rattle.machine.specs.Writing.{WrittenAs}
use Rattle.write_laws.specs.LineFuel.{wanted_later, score_past}
use Rattle.write_bytes.specs.Put.{Put}
use Rattle.write_bytes.specs.Fitting.{size_told, text_put}
use Rattle.advance_call.specs.Into.{lent_model}
use Rattle.play_score.specs.declared.format.Format.{Format}
use Rattle.play_score.specs.declared.play.Played.{Played}
use Rattle.play_score.specs.Held.{Held, text_held, LinePut}
use Rattle.play_score.specs.Lines.{on_output, line_of, command_lines, played_from, played_at}
use Rattle.play_score.specs.Playing.{stands_in, Playable, lines_left}
use Rattle.play_score.specs.Playing.{PlayedWanted, CommandPlayed, Batched, PrintedSoFar}

-- a text written into what is left of a buffer, handed over as the rest of a list and as a part of it
put_behind : {text xs ys : List ℕ} {w : Written} (used k : ℕ) → used + 1024 ≤ length xs → length xs ≤ used + k →
    WrittenAs 0 text (drop used xs) ys w → w.length ≤ 1024 →
    Put 1024 text used xs (take used xs ++ (ys ++ drop k (drop used xs))) (used + w.length)
put_behind {text = text} {xs = xs} {ys = ys} {w = w} used k room rest written short =
    let size : w.length ≡ length text = size_told written in
    let fits : length text ≤ length (drop used xs) = simp length-drop (omega arith) in
    let put : ys ≡ text ++ drop (length text) (drop used xs) = text_put written fits in
    let none : drop k (drop used xs) ≡ [] = drop_of_length-le (drop used xs) {i = k} (simp length-drop (omega arith)) in
    let front : length (take used xs ++ text) ≡ used + length text = simp (length-append, length-take) (omega arith) in
    let left = drop (used + length text) xs in
    let whole : take used xs ++ (ys ++ drop k (drop used xs)) ≡ (take used xs ++ text) ++ left =
    simp (put, none, append-nil, append_assoc, drop-drop) in
    record {
      position = rw size refl;
      line = rw (whole, size) (take_at (take used xs ++ text) left (used + length text) front);
      behind = rw (whole, size) (drop_at (take used xs ++ text) left (used + length text) front);
      short = omega arith;
    }

pub put_part : {text xs ys : List ℕ} {w : Written} (used : ℕ) → used + 1024 ≤ length xs →
    WrittenAs 0 text (take (length xs - used) (drop used xs)) ys w → w.length ≤ 1024 →
    Put 1024 text used xs (take used xs ++ (ys ++ drop (length xs - used) (drop used xs))) (used + w.length)
put_part {xs = xs} used room written short =
    let k = length xs - used in
    let all : take k (drop used xs) ≡ drop used xs = take_all k (drop used xs) (simp length-drop (omega arith)) in
    put_behind used k room (omega arith) (rw all at written) short

-- the buffer is as long as before
put_size : {text xs : List ℕ} {used k : ℕ} (after : List ℕ) → used + 1024 ≤ length xs → k ≤ 1024 →
    Put 1024 text used xs after (used + k) → length after ≡ length xs
put_size {text = text} {xs = xs} {used = used} {k = k} after room short put =
    omega (
      arith,
      ap length put.line,
      ap length put.behind,
      length-take (used + k) after,
      length-append (take used xs) text,
      length-take used xs,
      length-drop (used + k) after,
      length-drop (used + k) xs,
      put.position,
    )

-- a line that was written there, where there is room for any line
pub line_put : {text xs ys : List ℕ} {w : Written} (used : ℕ) → used + 1024 ≤ length xs →
    WrittenAs 0 text (take (length xs - used) (drop used xs)) ys w → w.length ≤ 1024 →
    LinePut text (record { bytes = xs; used = used })
    (record { bytes = take used xs ++ (ys ++ drop (length xs - used) (drop used xs)); used = used + w.length })
line_put {text = text} {xs = xs} {ys = ys} {w = w} used room written short =
    let put = put_part used room written short in
    let after = take used xs ++ (ys ++ drop (length xs - used) (drop used xs)) in
    let size : length after ≡ length xs = put_size after room short put in
    record { put = put; size = size; room = omega arith }

-- that rest has room for the text
pub part_room : {text ys : List ℕ} {w : Written} (used : ℕ) (xs : List ℕ) → used + 1024 ≤ length xs →
    WrittenAs 0 text (take (length xs - used) (drop used xs)) ys w → w.length ≤ 1024 →
    length text ≤ length (take (length xs - used) (drop used xs))
part_room used xs room written short = simp (length-take, length-drop) (omega (arith, size_told written))

-- enough turns make no difference to the lines
played_enough : (n k : ℕ) (bs : List ℕ) (at : ℕ) (m : Model) (f : Format) → length bs < at + n → length bs < at + k →
    played_from n bs at m f ≡ played_from k bs at m f
unfolding played_from
played_enough zero zero bs at m f few many = refl
played_enough zero (suc k) bs at m f few many = rw (score_past bs at (omega arith))
played_enough (suc n) zero bs at m f few many = rw (score_past bs at (omega arith))
played_enough (suc n) (suc k) bs at m f few many = by_score (score_at bs at) refl (played_enough n k bs)
  where
    by_score : (s : Score) → score_at bs at ≡ s →
        ((next : ℕ) (z : Model) (g : Format) → length bs < next + n → length bs < next + k →
        played_from n bs next z g ≡ played_from k bs next z g) →
        command_lines s (λ r next. played_from n bs next r.model f) (advance m) f ≡
        command_lines s (λ r next. played_from k bs next r.model f) (advance m) f
    by_score End e rest = refl
    by_score (Wanted w next) e rest =
        let later = wanted_later bs at w next e in
        ap (λ text. line_of (advance m w) f ++ text) (rest next (advance m w).model f (omega arith) (omega arith))
    by_score (Refused number position) e rest = refl

-- what two options hold that are the same
held : Option ℕ → ℕ
held None = 0
held (Some a) = a

pub some_same : {a b : ℕ} → Some a ≡ Some b → a ≡ b
unfolding held
some_same e = ap held e

module _ (bs : List ℕ) (at : ℕ) (f : Format) where
  -- the lines from a position on, by what the score holds there
  lines_ended : (m : Model) → score_at bs at ≡ End → played_at bs at m f ≡ []
  unfolding played_at played_from
  lines_ended m e = rw e refl

  lines_refused : (m : Model) (number position : ℕ) → score_at bs at ≡ Refused number position →
      played_at bs at m f ≡ refused_at_line number position
  unfolding played_at played_from
  lines_refused m number position e = rw e refl

  lines_wanted : (m n : Model) (w next : ℕ) → score_at bs at ≡ Wanted w next → n ≡ (advance m w).model →
      played_at bs at m f ≡ line_of (advance m w) f ++ played_at bs next n f
  unfolding played_at played_from
  lines_wanted m n w next e answered =
      let later = wanted_later bs at w next e in
      let more = played_enough (length bs) (suc (length bs)) bs next n f (omega arith) (omega arith) in
      let same : played_from (length bs) bs next (advance m w).model f ≡ played_from (length bs) bs next n f =
      ap (λ (z : Model). played_from (length bs) bs next z f) (sym answered) in
      rw e (ap (λ text. line_of (advance m w) f ++ text) (same ∙ more))

  -- one command played, by what the score holds: its end
  module _ (ts os : List ℕ) (before : Held) where
    pub played_end : Playable ts os f → score_at bs at ≡ End → before.used ≤ length before.bytes →
        CommandPlayed bs at ts os f os before before (record { next = None; moved = false })
    unfolding lines_left
    played_end words e room =
        record {
          lines = rw (lines_ended (lent_model ts os) e) refl;
          room = room;
          size = refl;
          playable = words;
          later = λ next goes. grind arith;
        }

    -- a refusal, whose line is the last
    pub played_refused : (after : Held) (number position : ℕ) → Playable ts os f →
        score_at bs at ≡ Refused number position →
        LinePut (refused_at_line number position) before after →
        CommandPlayed bs at ts os f os before after (record { next = None; moved = false })
    unfolding lines_left
    played_refused after number position words e line =
        record {
          lines = rw (lines_refused (lent_model ts os) number position e, append-nil, line.put.line) refl;
          room = line.room;
          size = line.size;
          playable = words;
          later = λ next goes. grind arith;
        }

    -- a wanted step
    pub played_wanted : (after : Held) (w next : ℕ) (ns : List ℕ) (r : Played) → score_at bs at ≡ Wanted w next →
        PlayedWanted ts os w next f ns before after r →
        CommandPlayed bs at ts os f ns before after r
    unfolding lines_left
    played_wanted after w next ns r e wanted =
        let place = wanted.position in
        let first = lines_wanted (lent_model ts os) (lent_model ts ns) w next e wanted.model in
        record {
          lines = rw (place, first, wanted.line.put.line) (sym (append_assoc (text_held before) _ _));
          room = wanted.line.room;
          size = wanted.line.size;
          playable = wanted.playable;
          later = λ n goes. rw (some_same (sym goes ∙ place)) (wanted_later bs at w next e);
        }

-- the words that a rehearsal is in, by the flag
pub in_second : {ts b : List ℕ} {f : Format} (a : List ℕ) (exchanged : Bool) → exchanged ≡ true →
    Playable ts (stands_in exchanged a b) f → Playable ts b f
in_second a exchanged e words = rw e at words

pub in_first : {ts a : List ℕ} {f : Format} (b : List ℕ) (exchanged : Bool) → exchanged ≡ false →
    Playable ts (stands_in exchanged a b) f → Playable ts a f
in_first b exchanged e words = rw e at words

-- a state that was moved to, or not, is one of the two exchanged, or not
moved_back : (moved : Bool) (a b : List ℕ) → stands_in (not moved) a b ≡ cond moved a b
moved_back true a b = refl
moved_back false a b = refl

-- a command that was asked of the second state, and of the first
pub turned_back :
    {bs ts b : List ℕ} {before after : Held} {at : ℕ} {f : Format} (r : Played) (a a₀ : List ℕ) (exchanged : Bool) →
    exchanged ≡ true → CommandPlayed bs at ts b f (cond r.moved a b) before after r →
    CommandPlayed bs at ts (stands_in exchanged a₀ b) f (stands_in (not r.moved) a b) before after
    (record { next = r.next; moved = not r.moved })
turned_back {b = b} r a a₀ exchanged e one =
    let same = moved_back r.moved a b in
    record {
      lines = rw (e, same) one.lines;
      room = one.room;
      size = one.size;
      playable = rw same one.playable;
      later = one.later;
    }

pub turned_forth :
    {bs ts a : List ℕ} {before after : Held} {at : ℕ} {f : Format} (r : Played) (b b₀ : List ℕ) (exchanged : Bool) →
    exchanged ≡ false → CommandPlayed bs at ts a f (cond r.moved b a) before after r →
    CommandPlayed bs at ts (stands_in exchanged a b₀) f (stands_in r.moved a b) before after r
turned_forth r b b₀ exchanged e one = rw e one

-- all lines after one command more of a score that did not end there
pub played_on : {bs ts ss ns all : List ℕ} {before after : Held} {at next : ℕ} {f : Format} {r : Played} →
    r.next ≡ Some next →
    all ≡ text_held before ++ played_at bs at (lent_model ts ss) f →
    CommandPlayed bs at ts ss f ns before after r →
    all ≡ text_held after ++ played_at bs next (lent_model ts ns) f
unfolding lines_left
played_on e so_far one = so_far ∙ (rw e at one.lines)

-- a batch prints its text after what was printed before it
pub one_batch_more : {bs ts os ns : List ℕ} {held : Held} {f : Format} {at next : ℕ} {r : Played} → r.next ≡ Some next →
    PrintedSoFar bs f at (lent_model ts os) → Batched bs at ts os f ns held r →
    PrintedSoFar bs f next (lent_model ts ns)
unfolding lines_left
one_batch_more {held = held} goes so_far batch =
    let lines = rw goes at batch.lines in
    let text = text_held held in
    record {
      text = so_far.text ++ text;
      whole = (rw lines at so_far.whole) ∙ ap on_output (sym (append_assoc so_far.text text _));
    }
