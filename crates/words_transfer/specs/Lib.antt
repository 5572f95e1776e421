-- A model by value put into words, run of words by run and part by part, and one that takes their state.
pub mod TableRuns
pub mod ComponentPut
pub mod ModelPut
pub mod PutInto
pub mod Recalled
