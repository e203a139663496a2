pub mod Beginnings
