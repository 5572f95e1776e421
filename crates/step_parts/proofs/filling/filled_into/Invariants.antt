use Rattle.std.specs.Prelude.{◌≤◌}
use Rattle.words_store.specs.ModelIn.{model_in, part_count}
use Rattle.words_store.specs.Updated.{SameBehind}
use Rattle.step_parts.specs.Trimmed.{Changed}
use Rattle.step_parts.specs.Showing.{partly}
use Rattle.step_parts.specs.LentFilling.{FilledClean}
use Rattle.step_parts.proofs.filling.filled_into.Given as goal

abbrev pub invariant-loop-i : goal.invariant-loop-i
invariant-loop-i l = record {
  within : l.i ≤ part_count l.table;
  changed : Changed (model_in l.table l.initial.new)
      (partly (model_in l.table l.old) (model_in l.table l.initial.new) l.i) (model_in l.table l.new);
  behind : SameBehind (part_count l.table) l.initial.new l.new;
  clean : FilledClean l.table l.initial.new l.i l.new;
}
