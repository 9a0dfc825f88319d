pub mod Lists
pub mod Recording
pub mod Results
pub mod Written
