-- What the program `printsheet` prints, and that its beginning and all batches print the whole sheet.
pub mod SheetPrinted
pub mod WholeSheet
