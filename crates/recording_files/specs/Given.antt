-- The recording that stands for several files, one after another: a nanosecond pcap (pcap savefile format 2.4), and what is told at its end.
use Rattle.std.specs.Prelude.{ℕ, zero, suc, ◌+◌, ◌/◌, ◌%◌, max, List, [], ◌∷◌, ◌++◌, length, take, drop, Option, Some, None, Result, Ok, Err, nat_lt, if◌then◌else◌}
use Rattle.pcap_io.specs.Recording.{ending_at, header_bytes, header_fields, stamp_at}
use Rattle.pcap_io.specs.declared.layout.HeaderFault.{HeaderFault}
use Rattle.pcap_io.specs.declared.layout.HeaderFault.TheVariants.{Short}
use Rattle.pcap_io.specs.declared.layout.Layout.{Layout}
use Rattle.pcap_io.specs.declared.packet_header.PacketHeader.{PacketHeader}
use Rattle.pcap_io.specs.declared.packet_header.TheConstants.{PACKET_HEADER_LEN}
use Rattle.pcap_io.specs.declared.layout.TheConstants.{FILE_HEADER_LEN}
use Rattle.pcap_io.specs.declared.recording.BadReason.TheVariants.{NextFile}
use Rattle.pcap_io.specs.declared.recording.Ending.{Ending}
use Rattle.pcap_io.specs.declared.recording.Ending.TheVariants.{Clean, Cut, Bad}
use Rattle.pcap_io.specs.declared.told.Told.{Told}
use Rattle.pcap_io.specs.declared.told.Told.TheVariants as tolds
use Rattle.pcapng.specs.Given.{Given, followed, header_given, only, plain}
use Rattle.recording_files.specs.declared.stage.WhichFile.{WhichFile}
use Rattle.recording_files.specs.declared.stage.WhichFile.TheVariants.{First, Next}
use Rattle.pcap_io.specs.Capture.{capture_header, capture_layout}

-- ---- a packet

-- the header that is given for a packet's: its time in nanoseconds, and a length on the wire of no less than its bytes
abbrev pub given_header : Layout → PacketHeader → PacketHeader
given_header layout h = record {
  seconds = stamp_at layout h.seconds h.fraction / 1000000000;
  fraction = stamp_at layout h.seconds h.fraction % 1000000000;
  captured_len = h.captured_len;
  original_len = max h.original_len h.captured_len;
}

-- the bytes of a header that is given
abbrev pub header_text : PacketHeader → List ℕ
header_text h = header_bytes capture_layout h.seconds h.fraction h.captured_len h.original_len

-- ---- a file

-- How the packets of a file end where these bytes are left, and its source tells this at their end, in whatever order their times come. None:
-- another good packet stands there.
abbrev pub end_of : Layout → Told → List ℕ → Option Ending
end_of layout told bytes = ending_at layout 1 0 told 0 0 bytes

-- all that is given for an ending, where a truncated packet gives `part` and the next files give `next`; and where there is none
abbrev pub given_end : Option Ending → Given → Given → Given → Given
given_end (Some (Clean n)) part next packets = next
given_end (Some (Cut n)) part next packets = part
given_end (Some (Bad n reason)) part next packets = only (tolds.Bad reason)
given_end None part next packets = packets

-- the header of the packet that the bytes begin with
abbrev pub head_of : Layout → List ℕ → PacketHeader
head_of layout bytes = header_fields layout (take PACKET_HEADER_LEN bytes)

-- all that is given for that header, with the bytes of its packet
abbrev pub packet_text : Layout → PacketHeader → List ℕ → List ℕ
packet_text layout head body = header_text (given_header layout head) ++ take head.captured_len body

-- all that is given for a packet that is truncated: its header and the bytes that are there, or that its header is truncated
abbrev pub part_given : Layout → List ℕ → Given
part_given layout bytes =
    if nat_lt (length bytes) PACKET_HEADER_LEN then only tolds.Cut
    else plain (header_text (given_header layout (head_of layout bytes)) ++ drop PACKET_HEADER_LEN bytes)

-- The bytes that are given for the packets that a file has left, of which there are fewer than n, and for the next files.
unfoldable pub given_within : ℕ → Layout → Told → List ℕ → Given → Given
given_within zero layout told bytes next = only tolds.Nothing
given_within (suc n) layout told bytes next =
    given_end (end_of layout told bytes) (part_given layout bytes) next
    (followed (packet_text layout (head_of layout bytes) (drop PACKET_HEADER_LEN bytes))
    (given_within n layout told (drop (PACKET_HEADER_LEN + (head_of layout bytes).captured_len) bytes) next))

-- a packet has at least its header, so these are all
unfoldable pub given_at : Layout → Told → List ℕ → Given → Given
given_at layout told bytes next = given_within (suc (length bytes)) layout told bytes next

-- all that is given after a packet's header, where these bytes are left of its file
abbrev pub given_body : Layout → Told → PacketHeader → List ℕ → Given → Given
given_body layout told h bytes next =
    if nat_lt (length bytes) h.captured_len then plain bytes
    else followed (take h.captured_len bytes) (given_at layout told (drop h.captured_len bytes) next)

-- ---- the files

-- the file header stands before the first file alone
abbrev pub file_header_of : WhichFile → List ℕ
file_header_of First = capture_header
file_header_of Next = []

-- all that is told of a file that has no header
abbrev pub no_header : WhichFile → HeaderFault → Told
no_header First fault = tolds.NoHeader fault
no_header Next fault = tolds.Bad NextFile

abbrev pub given_as : WhichFile → Result Layout HeaderFault → Given → Given → Given
given_as place (Ok layout) file next = followed (file_header_of place) (given_at layout file.told (drop FILE_HEADER_LEN file.bytes) next)
given_as place (Err fault) file next = only (no_header place fault)

-- all that is given for a file, and for those after it
abbrev pub given_file : WhichFile → Given → Given → Given
given_file place file next = given_as place (header_given file) file next

-- all that is given for further files
abbrev pub given_next : List Given → Given
given_next [] = only tolds.Nothing
given_next (file ∷ files) = given_file Next file (given_next files)

-- The bytes that are given for all files. No file at all is as one of no bytes.
abbrev pub given_of : List Given → Given
given_of [] = only (no_header First Short)
given_of (file ∷ files) = given_file First file (given_next files)

-- all that is given for files, of which the first is the recording's first or a further one
abbrev pub given_files : WhichFile → List Given → Given
given_files First files = given_of files
given_files Next files = given_next files
