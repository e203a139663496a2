pub mod Forms
pub mod ItemKinds
pub mod Kinds
pub mod LineForms
pub mod Shapes
