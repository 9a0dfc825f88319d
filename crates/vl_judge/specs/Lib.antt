pub mod Judgement
pub mod Lane
pub mod Lanes
pub mod Verdicts
