-- Both recordings as lines of a ledger have named their frames (this project's profile).
use Rattle.std.specs.Prelude.{◌≡◌, ◌≢◌, ◌⊎◌, ℕ, ◌≤◌, List, [], ◌∷◌, ◌++◌, length, slice_get, Option, None, Some, IfSome, ⊤}
use Rattle.afdx_frame.specs.Frame.{Frame}
use Rattle.afdx_frame.specs.declared.key.Key.{Key}
use Rattle.afdx_frame.specs.declared.key.Network.{Network}
use Rattle.afdx_frame.specs.declared.key.Network.TheVariants.{A, B}
use Rattle.cut_run.specs.Finder.{Finding, HasRead, HasReadFrames, Opening, any_late, finding_of}
use Rattle.cut_run.specs.declared.finder.FindFault.{FindFault}
use Rattle.cut_run.specs.declared.finder.FindFault.TheVariants as find
use Rattle.cut_run.specs.declared.place.SearchPlace.{SearchPlace}
use Rattle.ledger_text.specs.declared.frame.FrameLine.{FrameLine}
use Rattle.pcap_io.specs.Position.{TakesAPacket}
use Rattle.pcap_io.specs.declared.position.Position.{Position}
use Rattle.pcap_io.specs.declared.reader.OpenFault.{OpenFault}
use Rattle.pcap_io.specs.declared.reader.OpenFault.TheVariants as opening
use Rattle.pcap_io.specs.declared.recording.Ending.{Ending}
use Rattle.run_fault.specs.Device.{SourceMembers, SourceView}
use Rattle.run_fault.specs.Fault.{FailsWhere}
use Rattle.run_fault.specs.Recording.{IsRecording}
use Rattle.cut_run.specs.Lines.{AreFramesOf, ComesLater, Rise, last_key, side}
use Rattle.cut_run.specs.Faults.{RecordingSource, names}
use Rattle.cut_run.specs.declared.fault.CutFault.{CutFault}
use Rattle.cut_run.specs.declared.fault.CutFault.TheVariants as faults
use Rattle.cut_run.specs.declared.fault.CutSource.TheVariants as source
use Rattle.cut_run.specs.declared.recordings.Recordings.{Recordings}

-- network A stands before B
abbrev pub rank : Network → ℕ
rank A = 0
rank B = 1

-- the last frame of a network that was asked for stands no later than the last line
abbrev pub FloorWithin : Network → Option SearchPlace → Option Key → Type 0
FloorWithin network None last = ⊤
FloorWithin network (Some p) None = ⊥
FloorWithin network (Some p) (Some k) =
    (p.stamp.0 ≤ k.stamp.0)
    × (p.stamp.0 ≡ k.stamp.0 → (rank network ≤ rank k.network) × (rank network ≡ rank k.network → p.number ≤ k.number))

abbrev pub opening_at : Network → SourceView → Opening
opening_at network view = record { network = network; remaining = view.remaining; failures = view.failures; told = view.told }

-- Both recordings were opened on these sources. These lines have named these frames, of those that were read.
pub record HasNamed {S T : Type 0} (s : SourceMembers S) (t : SourceMembers T) (a b : SourceView) (vs : List FrameLine) (fs frames_a frames_b : List Frame)
    (recordings : Recordings S T) : Type 0 where
  pub floor_a : Option SearchPlace
  pub floor_b : Option SearchPlace
  pub read_a : HasRead (opening_at A a) frames_a floor_a (finding_of s recordings.a)
  pub read_b : HasRead (opening_at B b) frames_b floor_b (finding_of t recordings.b)
  pub within_a : FloorWithin A floor_a (last_key vs)
  pub within_b : FloorWithin B floor_b (last_key vs)
  pub last : recordings.last ≡ last_key vs
  pub rise : Rise None vs
  pub named : AreFramesOf frames_a frames_b vs fs

-- a line has named its frame
abbrev pub Names : {S T : Type 0} → SourceMembers S → SourceMembers T → SourceView → SourceView → List FrameLine → List Frame → FrameLine → Frame
    → Recordings S T → Type 0
Names s t a b vs fs v f recordings =
    (frames_a : List Frame) × (frames_b : List Frame) × HasNamed s t a b (vs ++ v ∷ []) (fs ++ f ∷ []) frames_a frames_b recordings

-- ---- a line whose frame wasn't found

-- these frames were read, and no more than a packet after them
pub record ReadsPart (o : Opening) (frames : List Frame) (now : Finding) : Type 0 where
  pub position : Position
  pub left : Option (List ℕ)
  pub read : HasReadFrames o frames position left
  pub gone : TakesAPacket left now.reading.remaining

-- The recording's frame of the line's index has another timestamp; or these are all its frames, and the index is beyond them.
abbrev pub LacksFrame : SourceView → List Frame → FrameLine → Type 0
LacksFrame view frames v =
    ((f : Frame) × (slice_get frames v.number ≡ Some f) × (f.stamp ≢ v.stamp.0))
    ⊎ ((length frames ≤ v.number) × ((ending : Ending) × IfSome view.remaining (λ bytes. IsRecording v.network any_late view.told bytes frames ending)))

abbrev pub view_of : Network → SourceView → SourceView → SourceView
view_of A a b = a
view_of B a b = b

-- all that a fault says of a line, the n-th of the ledger, whose frame wasn't found
abbrev pub IsNameFault : CutFault → ℕ → SourceView → SourceView → List FrameLine → FrameLine → List Frame → List Frame → Type 0
IsNameFault (faults.Order m) n a b vs v frames_a frames_b = (m ≡ n) × (ComesLater (last_key vs) v → ⊥)
IsNameFault (faults.Absent m) n a b vs v frames_a frames_b = (m ≡ n) × LacksFrame (view_of v.network a b) (side v.network frames_a frames_b) v
-- no more frames of its network were read than stand before it
IsNameFault (faults.Read (source.Recording network)) n a b vs v frames_a frames_b =
    (network ≡ v.network) × (length (side v.network frames_a frames_b) ≤ v.number)
IsNameFault faults.Memory n a b vs v frames_a frames_b = ⊤
IsNameFault fault n a b vs v frames_a frames_b = ⊥

-- The lines before named these frames, and the frame of this one wasn't found.
pub record StopsNaming {S T : Type 0} (s : SourceMembers S) (t : SourceMembers T) (a b : SourceView) (vs : List FrameLine) (fs : List Frame) (v : FrameLine)
    (n : ℕ) (fault : CutFault) (recordings : Recordings S T) : Type 0 where
  pub frames_a : List Frame
  pub frames_b : List Frame
  pub read_a : ReadsPart (opening_at A a) frames_a (finding_of s recordings.a)
  pub read_b : ReadsPart (opening_at B b) frames_b (finding_of t recordings.b)
  pub rise : Rise None vs
  pub named : AreFramesOf frames_a frames_b vs fs
  pub why : IsNameFault fault n a b vs v frames_a frames_b
  pub a_failures : FailsWhere (names fault (RecordingSource A)) a.failures (finding_of s recordings.a).reading.failures
  pub b_failures : FailsWhere (names fault (RecordingSource B)) b.failures (finding_of t recordings.b).reading.failures

-- the fault of a line whose frame a finder didn't find
abbrev pub name_fault : Network → ℕ → FindFault → CutFault
name_fault network n find.Absent = faults.Absent n
name_fault network n find.Device = faults.Read (source.Recording network)
name_fault network n find.Memory = faults.Memory
name_fault network n find.Failed = faults.Read (source.Recording network)

-- the fault of a recording that wasn't opened
abbrev pub open_fault : Network → OpenFault → CutFault
open_fault network (opening.Header fault) = faults.Header network fault
open_fault network opening.Device = faults.Read (source.Recording network)
