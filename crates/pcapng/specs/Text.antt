-- The pcap that a pcapng recording stands for (pcap savefile format 2.4): that of a capture, little-endian and in nanoseconds.
use Rattle.std.specs.Prelude.{ℕ, ◌/◌, ◌%◌, List}
use Rattle.pcap_io.specs.Capture.{capture_layout}
use Rattle.pcap_io.specs.Recording.{header_bytes}

-- the header of a packet of this time in nanoseconds
abbrev pub packet_header_bytes : ℕ → ℕ → ℕ → List ℕ
packet_header_bytes time captured original = header_bytes capture_layout (time / 1000000000) (time % 1000000000) captured original
