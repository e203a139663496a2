pub mod HexWords
pub mod WorkedLines
