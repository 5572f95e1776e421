-- Soundness tied to loading, and kept by steps. The results are in Magnitude, SoundParts, Fresh, Stepped, Accepted,
-- Fuel, Bytes and SavedBytes; the other files carry them.
pub mod Facts
pub mod Magnitude
pub mod SoundParts
pub mod RangesKept
pub mod CoreKept
pub mod FreshSound
pub mod Stepped
pub mod ReadTurns
pub mod ReadFuel
pub mod CommandsPassed
pub mod Accepted
pub mod Seams
pub mod Octets
pub mod Commands
pub mod Bytes
pub mod ByteLengths
pub mod SavedBytes
