pub mod Entries
pub mod FamilyLaws
pub mod Flow
pub mod PackedInsns
pub mod Decode
pub mod Project
pub mod Rows
pub mod NumericParts
pub mod NumericValues
pub mod NumericInsns
pub mod NumericProgram
pub mod NumericLaw
mod NumericPlace
