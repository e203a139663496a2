pub mod FirstLine
pub mod OnLiterals
pub mod ParseOn
pub mod TakenLemmas
mod WorkedScripts
mod Lengths
mod LinesRead
mod ReadOn
pub mod ScriptsParse
mod WordsLine
mod WritesRead
