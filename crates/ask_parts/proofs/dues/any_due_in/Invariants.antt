use Rattle.std.specs.Prelude.{◌≤◌, ◌≡◌, Bool, drop}
use Rattle.machine.specs.declared.part.Part.{Part}
use Rattle.machine.specs.declared.model.Model.{Model}
use Rattle.machine.specs.Lists.{any}
use Rattle.machine.specs.Model.{reading0, trimmed}
use Rattle.machine.specs.Accept.{due}
use Rattle.machine.specs.Advance.{any_due}
use Rattle.words_store.specs.ModelIn.{model_in, part_count}
use Rattle.ask_parts.proofs.dues.any_due_in.Given as goal

-- the test that is made of each part
abbrev pub is_due : Model → Part → Bool
is_due m p = due p m.point (reading0 m.parts p)

abbrev pub invariant-loop-i : goal.invariant-loop-i
invariant-loop-i l =
    let m = trimmed (model_in l.table l.state) in
    record { within : l.i ≤ part_count l.table; rest : any (is_due m) (drop l.i m.parts) ≡ any_due m }
