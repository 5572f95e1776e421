-- Laws of what `savetable` tells.
pub mod Tellings
