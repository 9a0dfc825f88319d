-- Of the model over events.
pub mod Numbers
pub mod Soundness
