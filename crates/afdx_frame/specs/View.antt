-- The fields of a frame's bytes: ARINC 664 Part 7 has the address and puts the sequence number last.
use Rattle.std.specs.Prelude.{ℕ, ◌-◌, List, length, take, drop, Option, Some, None, nat_lt, if◌then◌else◌}
use Rattle.std.specs.Option.{option_map}
use Rattle.afdx_frame.specs.declared.key.VlId.{VlId}
use Rattle.afdx_frame.specs.declared.view.FrameView.{FrameView}
use Rattle.afdx_frame.specs.Number.{number_at}

-- the bytes that a view lends
abbrev pub view_bytes : FrameView → List ℕ
view_bytes view = view.bytes.now

-- the constant field of the destination address
abbrev pub constant_of : List ℕ → Option ℕ
constant_of bytes = number_at 0 4 bytes

-- the virtual link
abbrev pub link_of : List ℕ → Option VlId
link_of bytes = option_map (λ n. record { 0 = n }) (number_at 4 2 bytes)

-- the sequence number, the last byte
abbrev pub sequence_of : List ℕ → Option ℕ
sequence_of bytes = number_at (length bytes - 1) 1 bytes

-- the bytes between the Ethernet header's 14 and the sequence number
abbrev pub body_of : List ℕ → Option (List ℕ)
body_of bytes = if nat_lt (length bytes) 15 then None else Some (take (length bytes - 15) (drop 14 bytes))
