-- The yield of a file: the bytes of a pcap file, and what is told at their end (this project's profile).
use Rattle.std.specs.Prelude.{ℕ, List, [], ◌++◌, Result}
use Rattle.pcap_io.specs.Layout.{header_of}
use Rattle.pcap_io.specs.declared.layout.HeaderFault.{HeaderFault}
use Rattle.pcap_io.specs.declared.layout.Layout.{Layout}
use Rattle.pcap_io.specs.declared.told.Told.{Told}
use Rattle.pcap_io.specs.declared.told.Told.TheVariants.{Nothing}

pub record Given : Type 0 where
  pub bytes : List ℕ
  pub told : Told

-- these bytes, and then what is given besides
abbrev pub followed : List ℕ → Given → Given
followed bytes more = record { bytes = bytes ++ more.bytes; told = more.told }

-- no bytes
abbrev pub only : Told → Given
only told = record { bytes = []; told = told }

-- bytes of which nothing is told
abbrev pub plain : List ℕ → Given
plain bytes = record { bytes = bytes; told = Nothing }

-- the layout that its file header has, or what is wrong with that
abbrev pub header_given : Given → Result Layout HeaderFault
header_given given = header_of given.told given.bytes
