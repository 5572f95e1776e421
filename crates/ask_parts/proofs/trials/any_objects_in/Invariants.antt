use Rattle.std.specs.Prelude.{◌≤◌, ◌≡◌, drop}
use Rattle.machine.specs.Lists.{any}
use Rattle.machine.specs.Model.{trimmed}
use Rattle.words_store.specs.ModelIn.{model_in, part_count}
use Rattle.ask_parts.specs.Trials.{objects_settled, any_objects_settled}
use Rattle.ask_parts.proofs.trials.any_objects_in.Given as goal

abbrev pub invariant-loop-i : goal.invariant-loop-i
invariant-loop-i l =
    let m = trimmed (model_in l.table l.trial) in
    record {
      within : l.i ≤ part_count l.table;
      rest : any (objects_settled l.h.0 m.parts) (drop l.i m.parts) ≡ any_objects_settled l.h.0 m;
    }
