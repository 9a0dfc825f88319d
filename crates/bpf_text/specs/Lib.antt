pub mod Keywords
pub mod Numbers
pub mod Tokens
pub mod Views
pub mod Grammar
pub mod Reading
pub mod Meaning
pub mod Laws
