-- The bytes of a packet's block that have one length: what stands before its bytes, and before a comment.
use Rattle.std.specs.Prelude.{ℕ, List, ◌++◌}
use Rattle.byteorder.specs.Endian.{little_bytes}
use Rattle.afdx_frame.specs.Frame.{Frame}
use Rattle.pcapng.specs.Blocks.{stamp_bytes}

-- type, total length, interface, timestamp, captured length and original length
abbrev pub packet_head : ℕ → Frame → ℕ → ℕ → List ℕ
packet_head interface f keep total =
    little_bytes 4 6
    ++ (little_bytes 4 total
    ++ (little_bytes 4 interface ++ (stamp_bytes f.stamp ++ (little_bytes 4 keep ++ little_bytes 4 f.whole))))

-- code and length of a comment
abbrev pub option_head : ℕ → List ℕ
option_head len = little_bytes 2 1 ++ little_bytes 2 len
