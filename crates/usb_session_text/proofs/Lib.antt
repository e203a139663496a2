pub mod WorkedLines
