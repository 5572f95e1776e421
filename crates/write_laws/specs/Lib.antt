-- Laws of what is printed: the lines of a rehearsal, the digits of a number, and sheet lines.
pub mod LineFuel
pub mod Decimal
pub mod SheetReads
pub mod SheetRows
pub mod SheetLines
pub mod SheetCounts
