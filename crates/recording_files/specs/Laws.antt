-- Laws of recordings in several files, which hold of the definitions alone.
use Rattle.std.specs.Prelude.{◌≡◌, ℕ, ◌/◌, ◌%◌, ◌<◌, ◌≤◌, max, List, [], ◌∷◌, ◌++◌, length, drop, map, Ok, Err, ⊤}
use Rattle.afdx_frame.specs.Frame.{Frame}
use Rattle.afdx_frame.specs.declared.key.Network.{Network}
use Rattle.pcap_io.specs.Bytes.{IsBytes}
use Rattle.pcap_io.specs.Position.{Holds, start_at}
use Rattle.pcap_io.specs.Recording.{Packet, Parses, high_after, stamp_of}
use Rattle.pcap_io.specs.declared.layout.HeaderFault.{HeaderFault}
use Rattle.pcap_io.specs.declared.layout.HeaderFault.TheVariants.{Short}
use Rattle.pcap_io.specs.declared.layout.Layout.{Layout}
use Rattle.pcap_io.specs.declared.layout.TheConstants.{FILE_HEADER_LEN}
use Rattle.pcap_io.specs.declared.recording.BadReason.TheVariants.{NextFile}
use Rattle.pcap_io.specs.declared.recording.Ending.{Ending}
use Rattle.pcap_io.specs.declared.recording.Ending.TheVariants.{Bad, Clean}
use Rattle.pcapng.specs.Given.{Given, header_given}
use Rattle.pcapng.specs.Laws.{AreInTime, HoldsPackets}
use Rattle.pcap_io.specs.Capture.{capture_layout}
use Rattle.recording_files.specs.Given.{given_of}

-- the packet that is given for one: its time in nanoseconds, and a length on the wire of no less than its bytes
abbrev pub packet_given : Layout → Packet → Packet
packet_given layout r = record {
  seconds = stamp_of layout r / 1000000000;
  fraction = stamp_of layout r % 1000000000;
  original_len = max r.original_len (length r.bytes);
  bytes = r.bytes;
}

-- A file that ends clean, whatever it is read as late as, and the packets that are given for its own.
pub record IsWhole (file : Given) (packets : List Packet) : Type 0 where
  pub layout : Layout
  pub header : header_given file ≡ Ok layout
  pub most : ℕ
  pub late : ℕ
  pub own : List Packet
  pub parse : Parses layout most late file.told 0 0 (drop FILE_HEADER_LEN file.bytes) own [] (Clean (length own))
  pub same : packets ≡ map (packet_given layout) own

-- each of the files ends clean, and these are the packets of one after another
abbrev pub AreWhole : List Given → List Packet → Type 0
AreWhole [] packets = packets ≡ []
AreWhole (file ∷ files) packets = (own more : List Packet) × IsWhole file own × AreWhole files more × (packets ≡ own ++ more)

-- A reader of what is given for files that end clean reads the packets of one after another, where no more than it takes come in time, and
-- then a clean end.
abbrev pub FilesAreRead : Type 0
FilesAreRead = (file : Given) (files : List Given) (packets : List Packet) (most late : ℕ) → AreWhole (file ∷ files) packets
    → AreInTime late 0 packets → length packets ≤ most
    → (header_given (given_of (file ∷ files)) ≡ Ok capture_layout)
    × HoldsPackets most late (given_of (file ∷ files)) packets (Clean (length packets))

-- the ending is clean
abbrev pub IsCleanEnd : Ending → Type 0
IsCleanEnd (Clean n) = ⊤
IsCleanEnd ending = ⊥

-- a reader of what is given reads these packets after the file header, and then this ending
abbrev pub IsReadAs : ℕ → ℕ → Given → List Packet → Ending → Type 0
IsReadAs most late given packets ending = (end : List ℕ) × Parses capture_layout most late given.told 0 0 (drop FILE_HEADER_LEN given.bytes) packets end ending

-- After files that end clean a reader reads the packets of a last one, as they follow the others', and ends as it does. Unless that is clean,
-- nothing of the files that follow it is read.
abbrev pub LastIsRead : Type 0
LastIsRead = (file last : Given) (files more : List Given) (packets own : List Packet) (layout : Layout) (rest : List ℕ) (most late : ℕ) (ending : Ending)
    → AreWhole (file ∷ files) packets → AreInTime late 0 packets → IsBytes last.bytes → header_given last ≡ Ok layout
    → Parses layout most late last.told (length packets) (high_after capture_layout 0 packets) (drop FILE_HEADER_LEN last.bytes) own rest ending
    → (IsCleanEnd ending → more ≡ [])
    → IsReadAs most late (given_of (file ∷ (files ++ last ∷ more))) (packets ++ map (packet_given layout) own) ending

-- Where a later file has no header that is read, a reader ends after the files before it, and is told so.
abbrev pub NoHeaderEnds : Type 0
NoHeaderEnds = (file last : Given) (files more : List Given) (packets : List Packet) (most late : ℕ) (fault : HeaderFault) → AreWhole (file ∷ files) packets
    → AreInTime late 0 packets → length packets < most → header_given last ≡ Err fault
    → HoldsPackets most late (given_of (file ∷ (files ++ last ∷ more))) packets (Bad (length packets) NextFile)

-- A reader of what is given for one file reads the frames that a reader of the file itself does, and then the same ending.
abbrev pub FileIsRead : Type 0
FileIsRead = (network : Network) (file : Given) (layout : Layout) (most late : ℕ) (frames : List Frame) (ending : Ending) → IsBytes file.bytes
    → header_given file ≡ Ok layout
    → Holds (start_at network layout most late) file.told (drop FILE_HEADER_LEN file.bytes) frames ending
    → (header_given (given_of (file ∷ [])) ≡ Ok capture_layout)
    × Holds (start_at network capture_layout most late) (given_of (file ∷ [])).told (drop FILE_HEADER_LEN (given_of (file ∷ [])).bytes) frames ending

-- A reader is told what is wrong with the first file's header, and that no file at all is too short for one.
abbrev pub FaultIsTold : Type 0
FaultIsTold = (file : Given) (files : List Given) (fault : HeaderFault) → header_given file ≡ Err fault → header_given (given_of (file ∷ files)) ≡ Err fault

abbrev pub NoFileIsTold : Type 0
NoFileIsTold = header_given (given_of []) ≡ Err Short
