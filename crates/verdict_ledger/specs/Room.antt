-- The room of a text that is written from its end to its start.
use Rattle.std.specs.Prelude.{ℕ, ◌+◌, ◌≤◌}

-- a text of at most so many bytes that ends at `end` starts here
pub record IsStart (most end start : ℕ) : Type 0 where
  pub before : start ≤ end
  pub near : end ≤ start + most
