mod Tails
