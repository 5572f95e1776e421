-- Texts put into their fields, and what fits of a line field by field.
mod FieldsPut
mod RowFits
