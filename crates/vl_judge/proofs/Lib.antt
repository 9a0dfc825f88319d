pub mod After
pub mod Judging
pub mod Places
pub mod Rounds
