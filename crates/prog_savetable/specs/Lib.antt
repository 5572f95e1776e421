-- What the program `savetable` tells of a stream.
pub mod Telling
