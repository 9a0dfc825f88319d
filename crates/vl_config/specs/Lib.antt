pub mod Class
pub mod Document
pub mod Keys
pub mod Link
