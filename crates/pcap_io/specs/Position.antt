-- Where a reader stands in its recording, what it gives there, and which frames and ending the bytes from there on hold.
use Rattle.std.specs.Prelude.{◌≡◌, ◌≢◌, ◌⊎◌, ℕ, ◌+◌, ◌-◌, ◌<◌, ◌≤◌, max, List, ◌++◌, [], ◌∷◌, length, take, drop, Option, Some, None, Result, Ok, Err, IfOk, IfErr, IfSome, OnOk, OnErr, ⊤}
use Rattle.std.specs.Io.KnownBytes.{Consumes, IsAtEnd}
use Rattle.afdx_frame.specs.Frame.{Frame, frame_with}
use Rattle.afdx_frame.specs.declared.key.Network.{Network}
use Rattle.pcap_io.specs.Bytes.{IsBytes}
use Rattle.pcap_io.specs.Device.{CountsFailure, TakesAtMost, TakesFewer}
use Rattle.pcap_io.specs.Layout.{header_of}
use Rattle.pcap_io.specs.Recording.{Packet, IsGood, Parses, packet_bytes, frame_of, frames_of, header_fields, reason_at, stamp_at, ending_at}
use Rattle.pcap_io.specs.declared.layout.Layout.{Layout}
use Rattle.pcap_io.specs.declared.layout.TheConstants.{FILE_HEADER_LEN}
use Rattle.pcap_io.specs.declared.packet_header.PacketHeader.{PacketHeader}
use Rattle.pcap_io.specs.declared.packet_header.TheConstants.{MAX_PACKET_LEN, PACKET_HEADER_LEN}
use Rattle.pcap_io.specs.declared.recording.Ending.{Ending}
use Rattle.pcap_io.specs.declared.recording.Ending.TheVariants.{Clean, Cut, Bad}
use Rattle.pcap_io.specs.Told.{StaysTold}
use Rattle.pcap_io.specs.declared.told.Told.{Told}
use Rattle.pcap_io.specs.declared.recording.Stage.TheVariants as stages
use Rattle.pcap_io.specs.declared.position.Position.{Position}
use Rattle.pcap_io.specs.declared.position.Start.{Start}
use Rattle.pcap_io.specs.declared.position.Start.TheVariants as starts
use Rattle.pcap_io.specs.declared.item.Item.{Item}
use Rattle.pcap_io.specs.declared.item.Item.TheVariants as items
use Rattle.pcap_io.specs.declared.item.Found.{Found}
use Rattle.pcap_io.specs.declared.item.Found.TheVariants as founds
use Rattle.pcap_io.specs.declared.item.ReadFault.{ReadFault}
use Rattle.pcap_io.specs.declared.item.ReadFault.TheVariants as faults
use Rattle.pcap_io.specs.declared.reader.OpenFault.{OpenFault}
use Rattle.pcap_io.specs.declared.reader.OpenFault.TheVariants as openings

-- at the first packet
abbrev pub start_at : Network → Layout → ℕ → ℕ → Position
start_at network layout most late = record {
  network = network;
  layout = layout;
  most = most;
  late = late;
  count = 0;
  high = 0;
  stage = stages.Going;
}

-- the ending of the bytes that are left, of which the source tells this, None where another good packet stands there
abbrev pub ending_here : Position → Told → List ℕ → Option Ending
ending_here p told rest = ending_at p.layout p.most p.late told p.count p.high rest

-- past a frame of this timestamp
abbrev pub after_frame : Position → ℕ → Position
after_frame p stamp = record p { count = p.count + 1; high = max p.high stamp }

-- past an item
abbrev pub after_item : Position → Item → Position
after_item p (items.Frame f) = after_frame p f.stamp
after_item p (items.End e) = record p { stage = stages.Ended e }

-- the item that a reader found, which lends this frame
abbrev pub found_item : Frame → Found → Item
found_item f founds.Frame = items.Frame f
found_item f (founds.End e) = items.End e

-- ---- all that a call of a reader does

-- The frame is that of a good packet, which leaves the bytes.
pub record TakesFrame (p : Position) (before after : Option (List ℕ)) (f : Frame) : Type 0 where
  pub taken : Packet
  pub good : IsGood p.layout p.late p.high taken
  pub bounded : p.count < p.most
  pub same : f ≡ frame_of p.network p.layout p.count taken
  pub gone : Consumes before after (packet_bytes p.layout taken)

-- No more than one packet is gone, with its header: a reader that stops, whatever stopped it, has read no more of its source past the
-- last frame that it gave.
abbrev pub TakesAPacket : Option (List ℕ) → Option (List ℕ) → Type 0
TakesAPacket before after = TakesAtMost MAX_PACKET_LEN before after

-- all that a reader that stands here gives, and what it takes from the bytes left
abbrev pub IsNext : Position → Told → Option (List ℕ) → Option (List ℕ) → Item → Type 0
IsNext p told before after (items.Frame f) = TakesFrame p before after f
IsNext p told before after (items.End e) = IfSome before (λ bytes. ending_here p told bytes ≡ Some e)

-- A clean and a cut ending leave no bytes. A bad one takes no more of them than a packet's header.
abbrev pub EndLeaves : Option (List ℕ) → Option (List ℕ) → Ending → Type 0
EndLeaves before after (Clean n) = IsAtEnd after
EndLeaves before after (Cut n) = IsAtEnd after
EndLeaves before after (Bad n reason) = TakesAtMost PACKET_HEADER_LEN before after

-- all that an item says of the bytes left, where it is an ending
abbrev pub ItemLeaves : Option (List ℕ) → Option (List ℕ) → Item → Type 0
ItemLeaves before after (items.Frame f) = ⊤
ItemLeaves before after (items.End e) = EndLeaves before after e

-- a further frame is read
abbrev pub HasRoom : Position → Item → Type 0
HasRoom p (items.Frame f) = p.count < p.most
HasRoom p (items.End e) = ⊤

-- A header of a packet that may stand here, which leaves the bytes.
pub record TakesHeader (p : Position) (before after : Option (List ℕ)) (header : List ℕ) : Type 0 where
  pub size : length header ≡ PACKET_HEADER_LEN
  pub are_bytes : IsBytes header
  pub bounded : p.count ≢ p.most
  pub fine : reason_at p.layout p.late p.high (header_fields p.layout header) ≡ None
  pub gone : Consumes before after header

-- The header of a packet of at least one byte is gone, and no more.
abbrev pub LacksMemory : Position → Option (List ℕ) → Option (List ℕ) → Type 0
LacksMemory p before after =
    (header : List ℕ) × TakesHeader p before after header × (0 < (header_fields p.layout header).captured_len)

-- More bytes are needed than came: less than a header is gone and nothing is left unread, or a header is gone and fewer bytes than it
-- claims are left unread.
abbrev pub LacksBytes : Position → Option (List ℕ) → Option (List ℕ) → List ℕ → Type 0
LacksBytes p before after unread =
    (TakesFewer PACKET_HEADER_LEN before after × (unread ≡ []))
    ⊎ ((header : List ℕ) × TakesHeader p before after header × (length unread < (header_fields p.layout header).captured_len))

-- The fault of a call, by how often the source had failed before and after it. Memory is missing only after the header of a
-- good packet that claims at least one byte, which is gone.
abbrev pub IsReadFault : Position → Option (List ℕ) → Option (List ℕ) → ℕ → ℕ → ReadFault → Type 0
IsReadFault p before after old new faults.Device = CountsFailure old new
IsReadFault p before after old new faults.Memory = (new ≡ old) × LacksMemory p before after
IsReadFault p before after old new faults.Failed = (new ≡ old) × (p.stage ≡ stages.Failed)

-- The state of a reader: its position, the bytes left, where its source exposes them, how often its source failed, and what that tells.
pub record Reading : Type 0 where
  pub position : Position
  pub remaining : Option (List ℕ)
  pub failures : ℕ
  pub told : Told

-- The step of a call that goes on to the next item, from what stood before it to what stands after it. `as_item` is the item of what
-- it returned.
pub record Advances {A : Type 0} (as_item : A → Item) (old new : Reading) (r : Result A ReadFault) : Type 0 where
  -- the next good packet's frame, or the ending of what is left
  pub item : old.position.stage ≡ stages.Going → IfOk r (λ a. IsNext old.position old.told old.remaining new.remaining (as_item a))
  pub after : IfOk r (λ a. new.position ≡ after_item old.position (as_item a))
  pub after_fault : OnErr r (new.position ≡ record old.position { stage = stages.Failed })
  pub bounded : new.position.count ≤ new.position.most
  pub told : StaysTold old.remaining old.told new.told
  pub no_failure : OnOk r (new.failures ≡ old.failures)
  pub fault : IfErr r (IsReadFault old.position old.remaining new.remaining old.failures new.failures)
  -- whatever it returns, no more than one packet is gone
  pub taken : TakesAPacket old.remaining new.remaining
  pub left : old.position.stage ≡ stages.Going → IfOk r (λ a. ItemLeaves old.remaining new.remaining (as_item a))

-- The bytes hold the next packet whole: a header, and as many bytes as it claims.
abbrev pub HoldsPacket : Layout → List ℕ → Type 0
HoldsPacket layout bytes =
    (PACKET_HEADER_LEN ≤ length bytes)
    × ((header_fields layout (take PACKET_HEADER_LEN bytes)).captured_len ≤ length bytes - PACKET_HEADER_LEN)

-- ---- many calls

-- Calls gave these frames, one after another, and led from the first position and bytes to the last.
abbrev pub Reads : Position → Option (List ℕ) → List Frame → Position → Option (List ℕ) → Type 0
Reads p before [] q after = (p ≡ q) × (before ≡ after)
Reads p before (f ∷ fs) q after =
    (mid : Option (List ℕ)) × TakesFrame p before mid f × Reads (after_frame p f.stamp) mid fs q after

-- From this position on the bytes hold these frames, and then, with what their source tells, this ending.
pub record Holds (p : Position) (told : Told) (bytes : List ℕ) (frames : List Frame) (ending : Ending) : Type 0 where
  pub packets : List Packet
  pub rest : List ℕ
  pub parse : Parses p.layout p.most p.late told p.count p.high bytes packets rest ending
  pub same : frames ≡ frames_of p.network p.layout p.count packets

-- ---- all that the parts of a reader find

-- 16 bytes, of which `came` are those left, begin a packet, or the ending is found in them
abbrev pub IsStartOf : Position → Told → List ℕ → ℕ → Start → Type 0
IsStartOf p told bytes came (starts.Header header) =
    (came ≡ PACKET_HEADER_LEN) × (p.count ≢ p.most) × (header ≡ header_fields p.layout bytes)
    × (reason_at p.layout p.late p.high header ≡ None)
IsStartOf p told bytes came (starts.End e) =
    (more : List ℕ) → (came < PACKET_HEADER_LEN → more ≡ []) → ending_here p told (take came bytes ++ more) ≡ Some e

-- the frame of a header and the bytes that follow it
abbrev pub frame_at : Position → PacketHeader → List ℕ → Frame
frame_at p header bytes =
    frame_with p.network p.count (stamp_at p.layout header.seconds header.fraction) (max header.original_len (length bytes)) bytes

abbrev pub IsStart : Position → Told → Option (List ℕ) → Option (List ℕ) → Start → Type 0
IsStart p told before after (starts.Header header) =
    (bytes : List ℕ) × TakesHeader p before after bytes × (header ≡ header_fields p.layout bytes)
IsStart p told before after (starts.End e) = IfSome before (λ bytes. ending_here p told bytes ≡ Some e)

-- a clean and a cut ending are found where less than a header is left
abbrev pub EndsShort : ℕ → Start → Type 0
EndsShort came (starts.Header header) = ⊤
EndsShort came (starts.End (Clean n)) = came < PACKET_HEADER_LEN
EndsShort came (starts.End (Cut n)) = came < PACKET_HEADER_LEN
EndsShort came (starts.End (Bad n reason)) = ⊤

abbrev pub StartLeaves : Option (List ℕ) → Option (List ℕ) → Start → Type 0
StartLeaves before after (starts.Header header) = ⊤
StartLeaves before after (starts.End e) = EndLeaves before after e

-- ---- opening

-- the bytes begin with a file header of this layout, which is gone
abbrev pub Opens : Told → Option (List ℕ) → Option (List ℕ) → Layout → Type 0
Opens told before after layout =
    IfSome before (λ bytes. (header_of told bytes ≡ Ok layout) × (after ≡ Some (drop FILE_HEADER_LEN bytes)))

-- all that a refusal says of the bytes, and of how often the source has failed
abbrev pub IsOpenFault : Told → Option (List ℕ) → ℕ → ℕ → OpenFault → Type 0
IsOpenFault told before old new (openings.Header f) = IfSome before (λ bytes. header_of told bytes ≡ Err f) × (new ≡ old)
IsOpenFault told before old new openings.Device = CountsFailure old new
