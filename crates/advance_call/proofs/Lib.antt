-- Demand 3 of lists of calls, by value and on lent words with however many words; and calls on lent words that form a
-- chain, an example.
pub mod EveryList
pub mod AnyRoom
pub mod ChainedWords
