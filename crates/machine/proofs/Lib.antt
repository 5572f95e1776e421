-- What is proved of the definitions themselves: `played`, the ten marked examples, `rehearsals`, what is printed of
-- refused and of long streams, `chained`, an example of a chain of calls, `kind_table`, the table of kinds line by
-- line, `crossings`, that zeros leave no trace at a detector, `clappers`, what a clapper does, with the law of its
-- motion, and `sheet_examples`, worked sheet lines. The rows compute each number, order and range of the definitions,
-- at its ends: `time_rows` and the others, by topic.
pub mod Computing
pub mod Played
pub mod Rehearsals
pub mod Chained
pub mod KindTable
pub mod Crossings
pub mod Clappers
pub mod SheetExamples
pub mod TimeRows
pub mod SignalRows
pub mod KindRows
pub mod LoadRows
pub mod SoundRows
pub mod AdvanceRows
pub mod ListRows
pub mod ScoreRows
pub mod SaveRows
pub mod SheetRefusals
