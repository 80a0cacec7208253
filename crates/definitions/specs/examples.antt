-- What the worked examples are about. Nothing of it is a definition that a contract rests on.
pub mod Dates
pub mod Receivers
pub mod Sequences
