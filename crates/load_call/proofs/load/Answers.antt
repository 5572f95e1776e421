-- `load` is the definition: what reading the table concludes, and End after it. An accepted load stops within the
-- stream, whose length is a usize.
use Rattle.std.proofs.Common.{ℕ, ◌≤◌, ◌≡◌, arith, sym, ◌∙◌, List, length, Result, Ok}
use Rattle.machine.specs.Load.{load}
use Rattle.refusals.specs.declared.RefusedAt.{RefusedAt}
use Rattle.load_table.specs.declared.table.TableRead.{TableRead}
use Rattle.load_table.specs.Concluded.{concluded}
use Rattle.load_call.specs.Accepting.{passed_trimmed, refused_trimmed}
use Rattle.load_call.specs.EndRefusals.{acceptable, accepted_at_end, last_position, refused_at_end}
use Rattle.load_call.specs.Position.{load_within}
use Rattle.load_call.proofs.load.Goals as goal

-- the position that loading comes to is a usize
position_fits : (bs : List ℕ) (r : Result TableRead RefusedAt) → load bs ≡ concluded r → length bs ≤ last_position →
    (concluded r).number ≡ 0 → (concluded r).position ≤ last_position
position_fits bs r is few none =
    let within = (rw is at (load_within bs)) none in
    omega arith

pub returns-in_err-read : goal.returns-in_err-read
returns-in_err-read c = passed_trimmed _ _ c.from_residual.ensures.1 ∙ sym c.in_err-read.ensures.loads

pub judged-requires : goal.judged-requires
judged-requires c = c.in_ok-read.ensures.stopped.kept

pub accept-requires : goal.accept-requires
accept-requires c =
    let read = c.in_ok-read.read in
    let ended = c.in_ok-read.ensures.stopped.kept in
    let long : length c.args.bytes.now ≤ last_position = omega arith in
    let few : read.count ≤ length read.parts = omega (arith, ended.few) in
    acceptable read few _ ended (position_fits _ (Ok read) c.in_ok-read.ensures.loads long) c.in-Ok.ensures.number
    c.in-Ok.ensures.found

pub returns-in-Ok : goal.returns-in-Ok
returns-in-Ok c =
    c.accept.ensures ∙ sym (c.in_ok-read.ensures.loads ∙ accepted_at_end c.in_ok-read.read c.in-Ok.ensures.number)

pub returns-in-Err : goal.returns-in-Err
returns-in-Err c =
    rw c.at.ensures (refused_trimmed _ ∙
    sym (c.in_ok-read.ensures.loads ∙ refused_at_end c.in_ok-read.read _ c.in-Err.ensures.number))
