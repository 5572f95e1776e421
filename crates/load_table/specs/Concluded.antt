-- What reading a table up to its End concludes: document 01's loading, where End is still to be judged. Assumes
-- nothing.
use Rattle.std.specs.Prelude.{ℕ, ◌≤◌, ◌<◌, ◌≡◌, true, cond, List, map, length, replicate, take, pos, eqb, Result, Ok}
use Rattle.std.specs.Prelude.{Err, IfOk, IfErr, refl}
use Rattle.std.specs.Result.{IsErrAnd}
use Rattle.machine.specs.Answers.{Loaded}
use Rattle.machine.specs.declared.part.Component.{Component}
use Rattle.machine.specs.declared.part.Kind.TheVariants.{Constant}
use Rattle.machine.specs.declared.part.Source.TheVariants.{Unwired}
use Rattle.machine.specs.Lists.{All}
use Rattle.machine.specs.Time.{magnitude_known}
use Rattle.machine.specs.Model.{most_parts, most_spans, trimmed_component}
use Rattle.machine.specs.Table.{Table}
use Rattle.machine.specs.Load.{Reading, onward, nothing_read, accepted, byte_at, end_byte, end_refusal, read_turn}
use Rattle.machine.specs.Load.{refused}
use Rattle.sound_laws.specs.Facts.{ComponentFits}
use Rattle.refusals.specs.declared.RefusedAt.{RefusedAt}
use Rattle.refusals.specs.Numbers.{refusal_number}
use Rattle.load_table.specs.declared.table.TableRead.{TableRead}

-- End at a position, after this table
unfoldable pub end_loaded : ℕ → Table → Loaded
end_loaded at t = cond (eqb (end_refusal t) 0) (accepted at t) (refused (end_refusal t) at)

-- the table that was read
unfoldable pub table_read : TableRead → Table
table_read r = record { magnitude = r.magnitude; parts = map trimmed_component (take r.count r.parts) }

-- what loading comes to
abbrev pub concluded : Result TableRead RefusedAt → Loaded
concluded (Ok r) = end_loaded r.position (table_read r)
concluded (Err r) = refused (refusal_number r.refusal) r.position

-- a component with all of it 0, its places for spans among it
unfoldable pub empty_component : Component
empty_component =
    record {
      kind = Constant;
      preference = 0;
      a = pos 0;
      b = pos 0;
      p = 0;
      span_count = 0;
      spans = replicate most_spans 0;
      port0 = Unwired;
      port1 = Unwired;
    }

-- End was reached at this position, after this table
pub record EndedRead (at : ℕ) (t : Table) (r : TableRead) : Type 0 where
  pub position : r.position ≡ at
  pub table : table_read r ≡ t
  pub counted : length t.parts ≡ r.count
  pub few : r.count ≤ most_parts

-- what holds of a table whose End was reached: its magnitude is known, and its components fit a table of so many parts
pub record Ended (r : TableRead) : Type 0 where
  pub few : r.count ≤ most_parts
  pub magnitude : magnitude_known r.magnitude ≡ true
  pub components : All (ComponentFits r.count) (table_read r).parts

-- what reading leads to from the start, turn by turn: each position and reading that a turn goes on at
pub data Reached (bs : List ℕ) : ℕ → Reading → Type 0 where
  at_start : Reached bs 0 nothing_read
  turned_on : (at next : ℕ) (rd then : Reading) → Reached bs at rd → read_turn bs at rd ≡ onward next then →
      Reached bs next then

-- End is at a position, and may
pub record EndHere (bs : List ℕ) (at : ℕ) (rd : Reading) : Type 0 where
  pub here : at < length bs
  pub byte : byte_at bs at ≡ end_byte
  pub begun : rd.begun ≡ true

-- where reading a table stopped, and what it answers there: at its End the table read so far; else, before any End, a
-- refusal
pub record Stopped (bs : List ℕ) (r : Result TableRead RefusedAt) : Type 0 where
  pub at : ℕ
  pub reading : Reading
  pub reached : Reached bs at reading
  pub end : IfOk r (λ t. EndHere bs at reading)
  pub ended : IfOk r (EndedRead at reading.table)
  pub kept : IfOk r Ended
  pub before : IfErr r (λ e. EndHere bs at reading → ⊥)

-- End is judged after the table that was read
pub ended_concluded : (at : ℕ) (t : Table) (r : TableRead) → EndedRead at t r → concluded (Ok r) ≡ end_loaded at t
ended_concluded at t r h = rw (h.table, h.position)

-- a refusal that is passed on is concluded as it is
pub refused_concluded : (r : Result TableRead RefusedAt) (e : RefusedAt) → IsErrAnd r (λ x. x ≡ e) →
    refused (refusal_number e.refusal) e.position ≡ concluded r
refused_concluded (Ok t) e is = absurd is
refused_concluded (Err x) e is = rw is refl
