-- What a part has to meet to be asked for a step, and that whether it is due reads nothing that trimming cuts away.
pub mod Askable
pub mod DueTrimmed
