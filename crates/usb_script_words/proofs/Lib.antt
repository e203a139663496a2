mod EqualWords
mod FirstWord
mod FirstSplit
mod LineWords
pub mod PathLemmas
pub mod SelectorLemmas
pub mod TableLemmas
pub mod StepsOfLine
