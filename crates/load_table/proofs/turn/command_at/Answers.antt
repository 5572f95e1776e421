-- `command_at` is the definition: past the stream's end it is cut; else it is `turn`'s, where a refusal has the
-- position.
use Rattle.std.proofs.Common.{◌<◌, ◌≡◌, ◌∙◌, List, ℕ, length, arith, ap, sym, Option, Some, None, Ok, Err}
use Rattle.machine.specs.Load.{byte_at, read_turn}
use Rattle.refusals.specs.declared.RefusedAt.{RefusedAt}
use Rattle.load_commands.specs.declared.progress.Progress.{Progress}
use Rattle.load_commands.specs.declared.table_command.Step.{Step}
use Rattle.load_commands.specs.Progress.{reading_of}
use Rattle.load_table.specs.Stands.{turn_cut}
use Rattle.load_table.specs.Turned.{TurnLeft, Turned, turn_of, turned_of}
use Rattle.load_table.proofs.turn.command_at.Goals as goal

-- a turn that is not refused
went : (bs : List ℕ) (at : ℕ) (progress : Progress) (rows : List (List ℕ)) (o : Option Step) → at < length bs →
    read_turn bs at (reading_of progress rows) ≡ turn_of at progress rows (Ok o) →
    TurnLeft progress (byte_at bs at) (Ok o) → Turned bs at progress rows (Ok o)
unfolding reading_of
went bs at progress rows (Some step) here is left = record { is = is; left = (here, left) }
went bs at progress rows None here is left =
    record { is = is; left = record { here = here; byte = left.0; begun = left.1 } }

pub returns-then-at-s : goal.returns-then-at-s
returns-then-at-s c =
    let told = λ (r : RefusedAt). turned_of c.args.at c.args.progress c.args.rows (Err r) in
    record {
      is = turn_cut _ c.args.at _ c.if-at-s.true ∙ sym (ap told c.at-cut.ensures);
      left = λ e. absurd (omega (arith, e.here));
    }

pub returns-in-Ok : goal.returns-in-Ok
returns-in-Ok c = went _ _ _ _ _ c.if-at-s.false c.in-Ok.ensures.meant c.in-Ok.ensures.left

pub returns-in-Err : goal.returns-in-Err
unfolding reading_of
returns-in-Err c = rw c.at.ensures (record {
  is = c.in-Err.ensures.meant;
  left = λ e. c.in-Err.ensures.left e.byte e.begun;
})
