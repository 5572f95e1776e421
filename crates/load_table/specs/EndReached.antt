-- Laws of End: it is judged after the table that was read, and what reading keeps holds of that table; and of where
-- reading stops. Assumes nothing.
use Rattle.std.specs.Prelude.{ℕ, ◌+◌, ◌≤◌, ◌<◌, ◌≡◌, refl, Bool, true, false, cond, List, length, eqb, Ok, Err}
use Rattle.std.proofs.Common.{arith, ap, le-leb}
use Rattle.machine.specs.Answers.{Loaded}
use Rattle.machine.specs.Table.{Table}
use Rattle.machine.specs.Load.{Reading, ended, end_command, end_refusal, command_width, whole_command}
use Rattle.sound_laws.specs.Accepted.{Readable}
use Rattle.refusals.specs.declared.RefusedAt.{RefusedAt}
use Rattle.load_table.specs.declared.table.TableRead.{TableRead}
use Rattle.load_table.specs.Concluded.{EndHere, Ended, EndedRead, Stopped, end_loaded, table_read}
use Rattle.load_table.specs.Stands.{Stands}
use Rattle.load_table.specs.Turning.{sized_command}

-- what a test picks from two ends is an end
ends : (accept : Bool) (x y : Loaded) → cond accept (ended x) (ended y) ≡ ended (cond accept x y)
ends true x y = refl
ends false x y = refl

-- End is judged after the table
pub end_judged : (bs : List ℕ) (at : ℕ) (rd : Reading) (b : ℕ) → at < length bs → b ≡ 5 →
    sized_command bs at rd b ≡ ended (end_loaded at rd.table)
unfolding sized_command command_width whole_command end_command end_loaded
end_judged bs at rd b here e =
    let whole : at + 1 ≤ length bs = omega arith in
    rw (e, le-leb (at + 1) (length bs) whole) (ends (eqb (end_refusal rd.table) 0) _ _)

-- the magnitude is the table's
magnitude_read : (t : Table) (r : TableRead) → table_read r ≡ t → r.magnitude ≡ t.magnitude
unfolding table_read
magnitude_read t r e = ap (λ (x : Table). x.magnitude) e

-- what reading keeps holds at End
kept_ended : (at : ℕ) (rd : Reading) (r : TableRead) → Readable rd → EndedRead at rd.table r → Ended r
kept_ended at rd r kept h =
    record {
      few = h.few;
      magnitude = rw (magnitude_read rd.table r h.table) kept.magnitude;
      components = rw (h.table, ← h.counted) kept.components;
    }

-- where reading stopped: at an End, with the table after it ..
pub stopped_ended : (bs : List ℕ) (at : ℕ) (rd : Reading) (r : TableRead) → Stands bs at rd → EndHere bs at rd →
    EndedRead at rd.table r → Stopped bs (Ok r)
stopped_ended bs at rd r stands here read =
    record {
      at = at;
      reading = rd;
      reached = stands.reached;
      end = here;
      ended = read;
      kept = kept_ended at rd r stands.kept read;
      before = tt;
    }

-- .. or at a refusal, which is not End's
pub stopped_refused : (bs : List ℕ) (at : ℕ) (rd : Reading) (r : RefusedAt) → Stands bs at rd →
    (EndHere bs at rd → ⊥) → Stopped bs (Err r)
stopped_refused bs at rd r stands other =
    record {
      at = at;
      reading = rd;
      reached = stands.reached;
      end = tt;
      ended = tt;
      kept = tt;
      before = other;
    }
