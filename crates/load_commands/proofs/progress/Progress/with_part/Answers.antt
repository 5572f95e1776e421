-- `with_part` puts a component after the last. It counts no spans, so that with any row it is the definition's
-- component.
use Prim.Native.Nat.{ℕ, ◌+◌, ◌<◌}
use native.Mathlib.Numerals.{add-one}
use native.Mathlib.Omega.{arith}
use mathlib.Core.Path.{◌≡◌, refl}
use mathlib.Core.Bool.{Bool, true}
use mathlib.Core.List.{List}
use lib.ListN.{length, set, take}
use lib.Seq.{take-suc-set}
use Rattle.machine.specs.declared.part.Component.{Component}
use Rattle.machine.specs.Load.{Reading, is_drive, with_part}
use Rattle.load_operands.specs.declared.operands.PartOperands.{PartOperands}
use Rattle.load_commands.specs.declared.progress.Progress.{Progress}
use Rattle.load_commands.specs.ComponentMade.{component_of, made_component}
use Rattle.load_commands.specs.Progress.{joined, with_row, reading_of}
use Rattle.load_commands.specs.SpanRows.{joined_added}
use Rattle.load_commands.proofs.progress.Progress.with_part.Goals as goal

-- the component made counts no spans, whatever its row
unreached : (o : PartOperands) (row : List ℕ) → with_row (made_component o) row ≡ component_of o
unfolding with_row made_component component_of
unreached o row = refl

same_kind : (o : PartOperands) → is_drive (made_component o).kind ≡ is_drive (component_of o).kind
unfolding made_component component_of
same_kind o = refl

-- a component made and put after the last is one part more
added : (progress : Progress) (o : PartOperands) (made : Component) (drive : Bool) → made ≡ made_component o →
    drive ≡ is_drive made.kind →
    progress.count < length progress.parts → (rows : List (List ℕ)) →
    ◌≡◌ {A = Reading}
    (record {
      begun = true;
      spannable = drive;
      table = record {
        magnitude = progress.magnitude;
        parts = joined (take (progress.count + 1) (set progress.parts progress.count made)) rows;
      };
    })
    (with_part (reading_of progress rows) (component_of o))
unfolding reading_of with_part
added progress o made drive same kind room rows =
    rw (
      kind,
      same,
      add-one,
      take-suc-set progress.parts progress.count (made_component o) room,
      joined_added,
      unreached,
      same_kind,
    )

pub returns : goal.returns
unfolding reading_of
returns c =
    let progress = c.args.self in
    let room : progress.count < length progress.parts = omega arith in
    added progress c.args.o _ _ c.component_of-made.ensures c.is_drive.ensures room
