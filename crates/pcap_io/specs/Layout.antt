-- The header of a recording (pcap savefile format 2.4): 24 bytes, of which the first four say in which order and how
-- finely all numbers are written.
use Rattle.std.specs.Prelude.{ℕ, ◌&&◌, List, length, take, drop, Option, Some, None, Result, Ok, Err, nat_lt, ◌==◌, if◌then◌else◌}
use Rattle.byteorder.specs.Endian.{little_number, big_number, little_bytes, big_bytes}
use Rattle.pcap_io.specs.declared.layout.ByteOrder.{ByteOrder}
use Rattle.pcap_io.specs.declared.layout.ByteOrder.TheVariants.{Little, Big}
use Rattle.pcap_io.specs.declared.layout.Precision.{Precision}
use Rattle.pcap_io.specs.declared.layout.Precision.TheVariants.{Nanoseconds, Microseconds}
use Rattle.pcap_io.specs.declared.layout.Layout.{Layout}
use Rattle.pcap_io.specs.declared.layout.TheConstants.{FILE_HEADER_LEN}
use Rattle.pcap_io.specs.declared.layout.HeaderFault.{HeaderFault}
use Rattle.pcap_io.specs.declared.layout.HeaderFault.TheVariants.{Magic, Version, LinkType}
use Rattle.pcap_io.specs.declared.told.Told.{Told}
use Rattle.pcap_io.specs.Told.{told_fault}

-- the number in the first `size` bytes
abbrev pub number_in : ByteOrder → ℕ → List ℕ → ℕ
number_in Little size bytes = little_number size bytes
number_in Big size bytes = big_number size bytes

-- the number in `size` bytes
abbrev pub bytes_in : ByteOrder → ℕ → ℕ → List ℕ
bytes_in Little size n = little_bytes size n
bytes_in Big size n = big_bytes size n

-- how many nanoseconds the fraction of a second counts by
abbrev pub nanoseconds_of : Precision → ℕ
nanoseconds_of Nanoseconds = 1
nanoseconds_of Microseconds = 1000

-- how many of them make a second
abbrev pub fractions_of : Precision → ℕ
fractions_of Nanoseconds = 1000000000
fractions_of Microseconds = 1000000

-- the layout that the magic number names, read with its most significant byte first
abbrev pub layout_of_magic : ℕ → Option Layout
layout_of_magic magic =
    if magic == 0x4d3cb2a1 then Some (record { order = Little; precision = Nanoseconds })
    else if magic == 0xa1b23c4d then Some (record { order = Big; precision = Nanoseconds })
    else if magic == 0xd4c3b2a1 then Some (record { order = Little; precision = Microseconds })
    else if magic == 0xa1b2c3d4 then Some (record { order = Big; precision = Microseconds })
    else None

-- the fields after the magic number: version 2.4, and link type 1, Ethernet
abbrev pub checked : List ℕ → Option Layout → Result Layout HeaderFault
checked header None = Err Magic
checked header (Some layout) =
    if number_in layout.order 2 (drop 4 header) == 2 && number_in layout.order 2 (drop 6 header) == 4
    then (if number_in layout.order 4 (drop 20 header) == 1 then Ok layout else Err LinkType)
    else Err Version

-- The layout that the bytes of a recording begin with, of which its source tells this, or the first fault that fits.
abbrev pub header_of : Told → List ℕ → Result Layout HeaderFault
header_of told bytes =
    if nat_lt (length bytes) FILE_HEADER_LEN then Err (told_fault told) else checked (take FILE_HEADER_LEN bytes) (layout_of_magic (big_number 4 (take FILE_HEADER_LEN bytes)))
