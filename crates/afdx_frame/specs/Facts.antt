-- The facts that are read of a frame's bytes once: its address and its sequence number (ARINC 664 Part 7).
use Rattle.std.specs.Prelude.{◌≡◌, ℕ, List, length, Some, None, nat_le, if◌then◌else◌}
use Rattle.afdx_frame.specs.View.{constant_of, link_of, sequence_of}
use Rattle.afdx_frame.specs.declared.facts.Facts.{Facts}

-- Each is what the bytes say, where so many were captured that they say it.
pub record AreFactsOf (bytes : List ℕ) (facts : Facts) : Type 0 where
  pub constant : constant_of bytes ≡ (if nat_le 4 (length bytes) then Some facts.constant else None)
  pub link : link_of bytes ≡ (if nat_le 6 (length bytes) then Some record { 0 = facts.link } else None)
  pub sequence : sequence_of bytes ≡ (if nat_le 1 (length bytes) then Some facts.sequence else None)
