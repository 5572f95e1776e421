-- The search turn by turn, what bars a call, calls on lent words and by value, what a caller has of a call on words
-- that spell a model; and demand 3 of the calls themselves (`EveryList`), on words too (`EveryLent`), also where a call
-- is lent too few of them (`AnyRoom`).
pub mod Searching
pub mod Barring
pub mod Into
pub mod IntoLaws
pub mod ByValue
pub mod EveryList
pub mod EveryLent
pub mod AnyRoom
pub mod SoundCalls
