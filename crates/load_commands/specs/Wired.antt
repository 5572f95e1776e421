-- What a Wire leaves that is not refused. Assumes nothing.
use Rattle.std.specs.Prelude.{ℕ, false}
use Rattle.machine.specs.Table.{component_at}
use Rattle.machine.specs.Load.{Reading, with_component, with_wire}

-- the reading with a port of the part `receiver` wired to a source
unfoldable pub wired_reading : Reading → (receiver port source : ℕ) → Reading
wired_reading rd receiver port source =
    with_component rd false receiver (with_wire (component_at rd.table.parts receiver) port source)
