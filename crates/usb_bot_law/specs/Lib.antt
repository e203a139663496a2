pub mod Serving
pub mod Steps
pub mod Lists
pub mod DiskLaws
pub mod Gathering
