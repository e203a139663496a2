pub mod Attributes
pub mod Names
pub mod Numbers
pub mod Paths
pub mod Ports
pub mod Speeds
pub mod SysfsTexts
pub mod Tree
