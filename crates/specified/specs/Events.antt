-- The model over events (this project's profile): what holds of both taps, their rings, the merger and the workers after every interleaving of their steps.
pub mod Round
pub mod Side
pub mod Sound
pub mod Steps
