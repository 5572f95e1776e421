-- `with_wire` replaces the receiver by itself with a port wired; its row stays.
use Prim.Native.Nat.{ℕ, ◌<◌, ◌≤◌}
use native.Mathlib.Omega.{arith}
use mathlib.Core.Path.{◌≡◌, refl}
use mathlib.Core.Bool.{true, false}
use mathlib.Core.List.{List}
use lib.ListN.{length, set, take}
use lib.Seq.{take-set-lt}
use Rattle.machine.specs.declared.part.Component.{Component}
use Rattle.machine.specs.Table.{component_at}
use Rattle.machine.specs.Load.{Reading, with_component, with_wire}
use Rattle.load_commands.specs.declared.progress.Progress.{Progress}
use Rattle.load_commands.specs.Progress.{joined, with_row, reading_of}
use Rattle.load_commands.specs.SpanRows.{joined_set, reading_at}
use Rattle.load_commands.specs.Wired.{wired_reading}
use Rattle.load_commands.proofs.progress.Progress.with_wire.Goals as goal

-- a row is joined to a wired component as to the component
row_wire : (c : Component) (row : List ℕ) (port source : ℕ) →
    with_row (with_wire c port source) row ≡ with_wire (with_row c row) port source
unfolding with_row with_wire
row_wire c row port source = refl

-- the part replaced by itself with a port wired
wired_as : (progress : Progress) (k port source : ℕ) (made : Component) →
    made ≡ with_wire (component_at progress.parts k) port source →
    k < progress.count → progress.count ≤ length progress.parts → (rows : List (List ℕ)) →
    ◌≡◌ {A = Reading}
    (record {
      begun = true;
      spannable = false;
      table = record {
        magnitude = progress.magnitude;
        parts = joined (take progress.count (set progress.parts k made)) rows;
      };
    })
    (wired_reading (reading_of progress rows) k port source)
unfolding reading_of wired_reading with_component
wired_as progress k port source made same here few rows =
    rw (
      same,
      take-set-lt progress.count progress.parts k (with_wire (component_at progress.parts k) port source) here,
      joined_set,
      reading_at progress rows k here few,
      row_wire,
    )

pub returns : goal.returns
unfolding reading_of
returns c =
    let progress = c.args.self in
    let o = c.args.o in
    let few : progress.count ≤ length progress.parts = omega (arith, progress.few) in
    let wired = rw c.from-receiver.ensures at c.wired_component.ensures in
    rw c.from-receiver.ensures (wired_as progress o.receiver o.port o.source _ wired c.requires few)
