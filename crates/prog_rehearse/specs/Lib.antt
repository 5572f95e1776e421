-- What the program `rehearse` prints, whole.
pub mod WholeRehearsal
