-- What a sheet line on lent words promises, its laws, and what follows for a caller.
pub mod SheetInto
pub mod LentSheet
pub mod SheetsOwed
