use Rattle.std.specs.Prelude.{◌≤◌, ◌≡◌, drop}
use Rattle.machine.specs.Model.{trimmed}
use Rattle.machine.specs.Advance.{least, round}
use Rattle.words_store.specs.ModelIn.{model_in, part_count}
use Rattle.ask_parts.proofs.rounds.least_in.Given as goal

abbrev pub invariant-loop-i : goal.invariant-loop-i
invariant-loop-i l =
    let m = trimmed (model_in l.table l.state) in
    record {
      within : l.i ≤ part_count l.table;
      most : l.best.0 ≤ l.h.0;
      rest : least m l.h.0 l.best.0 (drop l.i m.parts) ≡ round m l.h.0;
    }
