-- A reader, as contracts see it.
use Rattle.std.specs.Prelude.{ℕ, List, Option}
use Rattle.afdx_frame.specs.Frame.{Frame, frame_with}
use Rattle.pcap_io.specs.Block.{block_items, block_source, unread_bytes, drawn_bytes, block_remaining}
use Rattle.pcap_io.specs.Position.{Reading}
use Rattle.pcap_io.specs.declared.reader.TapReader.{TapReader}
use Rattle.pcap_io.specs.declared.position.Position.{Position}
use Rattle.pcap_io.specs.declared.told.Told.{Told}

-- where it stands in its recording
abbrev pub position_of : {S : Type 0} → TapReader S → Position
position_of reader = reader.position

-- the source that it reads from
abbrev pub source_of : {S : Type 0} → TapReader S → S
source_of reader = block_source reader.input

-- the bytes of its block
abbrev pub block_of : {S : Type 0} → TapReader S → List ℕ
block_of reader = block_items reader.input

-- all that it read ahead of its position, at most 262144 bytes
abbrev pub unread_of : {S : Type 0} → TapReader S → List ℕ
unread_of reader = unread_bytes reader.input

-- all that is left for it: the bytes that it read ahead, and then those of its source, where that exposes them
abbrev pub remaining_of : {S : Type 0} → (S → Option (List ℕ)) → TapReader S → Option (List ℕ)
remaining_of remaining reader = block_remaining remaining reader.input

-- the frame that it lends, where it found one
abbrev pub lent_of : {S : Type 0} → TapReader S → Frame
lent_of reader = frame_with reader.position.network reader.number reader.stamp reader.whole (drawn_bytes reader.input)

-- its state, for a source that exposes its bytes, its failures and what it tells so
abbrev pub reading_of : {S : Type 0} → (S → Option (List ℕ)) → (S → ℕ) → (S → Told) → TapReader S → Reading
reading_of remaining failures told reader = record {
  position = position_of reader;
  remaining = remaining_of remaining reader;
  failures = failures (source_of reader);
  told = told (source_of reader);
}
