mod OtherLetters
