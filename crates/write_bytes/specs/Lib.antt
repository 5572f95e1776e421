-- What a piece put into a lent buffer adds to it, the laws of such pieces, and those of what a writing call leaves
-- there.
pub mod Put
pub mod Pieces
pub mod Fitting
