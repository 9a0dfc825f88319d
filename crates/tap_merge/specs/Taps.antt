-- Two recordings as they are read and merged (this project's profile).
use Rattle.std.specs.Prelude.{◌≡◌, ◌⊎◌, ℕ, ◌+◌, ◌*◌, ◌-◌, true, false, List, [], ◌∷◌, ◌++◌, length, Option, Some, None, is_some, unwrap_or}
use Rattle.afdx_frame.specs.Frame.{Frame}
use Rattle.afdx_frame.specs.declared.key.Network.{Network}
use Rattle.afdx_frame.specs.declared.key.Network.TheVariants.{A, B}
use Rattle.ordered_merge.specs.Merge.{MergerState, CanFetch, Follows, ended, fetched, tap_of}
use Rattle.pcap_io.specs.Device.{CountsFailure}
use Rattle.pcap_io.specs.Position.{TakesAPacket, Reading, TakesFrame, after_frame}
use Rattle.pcap_io.specs.Reader.{position_of, reading_of}
use Rattle.ordered_merge.specs.Order.{IsOrder}
use Rattle.pcap_io.specs.declared.position.Position.{Position}
use Rattle.pcap_io.specs.declared.recording.Ending.{Ending}
use Rattle.pcap_io.specs.declared.recording.Stage.TheVariants.{Going, Ended}
use Rattle.pcap_io.specs.Told.{StaysTold}
use Rattle.pcap_io.specs.declared.told.Told.{Told}
use Rattle.run_fault.specs.Recording.{HasReadTap, most_frames}
use Rattle.run_fault.specs.Device.{SourceMembers, SourceView}
use Rattle.run_fault.specs.declared.fault.WatchFault.{WatchFault}
use Rattle.run_fault.specs.declared.fault.WatchFault.TheVariants as watch
use Rattle.tap_merge.specs.declared.taps.Taps.{Taps}
use Rattle.run_fault.specs.Recording.{Ends}
use Rattle.run_fault.specs.Fault.{Fails, SourceA, SourceB}

-- ---- one tap

-- The next frame of a reader that stands here is the merger's next one of the network.
pub record Fits (network : Network) (q : Position) (m : MergerState) : Type 0 where
  pub network_is : q.network ≡ network
  pub late : q.late ≡ m.late
  pub most : q.most ≡ most_frames
  pub going : (tap_of m network).ended ≡ false
  pub number : q.count ≡ (tap_of m network).next
  pub high : q.high ≡ unwrap_or (tap_of m network).high 0

-- a reader and the merger agree on its network: what comes next, or that it has ended so
abbrev pub Agrees : Network → Option Ending → Position → MergerState → Type 0
Agrees network None q m = (q.stage ≡ Going) × Fits network q m
Agrees network (Some ending) q m = (q.stage ≡ Ended ending) × ((tap_of m network).ended ≡ true)

-- the next frame of a reader is the merger's next one of the network
abbrev pub MergesFrame : Network → Frame → Reading → Reading → MergerState → Type 0
MergesFrame network f old new m =
    TakesFrame old.position old.remaining new.remaining f × (new.position ≡ after_frame old.position f.stamp)
    × (new.failures ≡ old.failures) × (f.network ≡ network) × CanFetch m f × StaysTold old.remaining old.told new.told

-- the next frames of a reader were merged, one after another
abbrev pub MergesAll : Network → List Frame → Reading → Reading → MergerState → MergerState → Type 0
MergesAll network [] old new m m' = (new ≡ old) × (m' ≡ m)
MergesAll network (f ∷ fs) old new m m' =
    (mid : Reading) × MergesFrame network f old mid m × MergesAll network fs mid new (fetched m f) m'

-- the next of a reader was merged: frames, at least one, or the recording's ending
abbrev pub Merges : Network → Option Ending → Reading → Reading → MergerState → MergerState → Type 0
Merges network None old new m m' = (f : Frame) × (fs : List Frame) × MergesAll network (f ∷ fs) old new m m'
Merges network (Some ending) old new m m' =
    Ends old.position old.told old.remaining new.remaining ending × (new.position ≡ record old.position { stage = Ended ending })
    × (m' ≡ ended m network)

-- The next item of a reader wasn't merged: the source failed, or there was no memory for a frame, or for the places of frames in
-- the merger, which may have some of them.
abbrev pub MergesNot : Network → WatchFault → Reading → Reading → MergerState → Type 0
MergesNot network (watch.Read failed) old new m =
    (failed ≡ network) × CountsFailure old.failures new.failures × TakesAPacket old.remaining new.remaining
MergesNot network watch.Memory old new m =
    (new.failures ≡ old.failures)
    × (TakesAPacket old.remaining new.remaining ⊎ ((m' : MergerState) × Merges network None old new m m'))
MergesNot network fault old new m = ⊥

-- ---- both taps

-- a reader, whose source tells this, stands after its last frame, or after its ending
abbrev pub StandsAt : Option Ending → Position → Told → Option (List ℕ) → Reading → Type 0
StandsAt None q told left reading = (reading.position ≡ q) × (reading.remaining ≡ left) × (reading.told ≡ told)
StandsAt (Some ending) q told left reading = Ends q told left reading.remaining ending

-- all that a reader has read of a source: these frames, and the ending where it has come to it
pub record HasRead (network : Network) (late : ℕ) (before : SourceView) (frames : List Frame) (end : Option Ending) (reading : Reading) : Type 0 where
  pub position : Position
  pub left : Option (List ℕ)
  pub told : Told
  pub tells : StaysTold before.remaining before.told told
  pub read : HasReadTap network late before.told before.remaining frames position left
  pub stands : StandsAt end position told left reading
  pub failures : reading.failures ≡ before.failures

-- The frames that were read of both sources, merged and cut: these of each, and of them these in order.
pub record HasMerged {S T : Type 0} (s : SourceMembers S) (t : SourceMembers T)
    (late : ℕ) (a b : SourceView) (frames_a frames_b cut : List Frame) (taps : Taps S T) : Type 0 where
  pub read_a : HasRead A late a frames_a taps.end_a (reading_of s.remaining s.failures s.told taps.a)
  pub read_b : HasRead B late b frames_b taps.end_b (reading_of t.remaining t.failures t.told taps.b)
  pub follows : Follows taps.merger frames_a frames_b cut

-- the readers of both networks agree with the merger
abbrev pub Agree : {S T : Type 0} → Taps S T → Type 0
Agree taps = Agrees A taps.end_a (position_of taps.a) taps.merger × Agrees B taps.end_b (position_of taps.b) taps.merger

-- how many more turns a tap can give: a frame each, and its ending
abbrev pub turns_of : Option Ending → Position → ℕ
turns_of None q = most_frames - q.count + 1
turns_of (Some ending) q = 0

-- how many frames and endings may still come or be cut; a frame counts twice until it has come
abbrev pub work_left : {S T : Type 0} → Taps S T → ℕ
work_left taps =
    (turns_of taps.end_a (position_of taps.a) + turns_of taps.end_b (position_of taps.b)) * 2 + length taps.merger.pending

-- These frames were read, and no more than a packet after them.
pub record ReadsPart (network : Network) (late : ℕ) (before : SourceView) (frames : List Frame) (reading : Reading) : Type 0 where
  pub position : Position
  pub left : Option (List ℕ)
  pub read : HasReadTap network late before.told before.remaining frames position left
  pub gone : TakesAPacket left reading.remaining

-- a fault that merging finds, and this
abbrev pub OfMerging : WatchFault → Type 0 → Type 0
OfMerging (watch.Read network) P = P
OfMerging watch.Memory P = P
OfMerging fault P = ⊥

-- only the source that the fault names failed, if it names one
abbrev pub SourceFails : WatchFault → ℕ → ℕ → ℕ → ℕ → Type 0
SourceFails fault a a' b b' = OfMerging fault (Fails fault SourceA a a' × Fails fault SourceB b b')

-- both recordings have ended
abbrev pub HasEnded : {S T : Type 0} → Taps S T → Type 0
HasEnded taps = (is_some taps.end_a ≡ true) × (is_some taps.end_b ≡ true)

-- The frames of two recordings so far, when merging stopped: those that were cut are the first of them in order.
pub record StopsMerging (fault : WatchFault) (late : ℕ) (a b : SourceView) (cut : List Frame) (reading_a reading_b : Reading) : Type 0 where
  pub frames_a : List Frame
  pub frames_b : List Frame
  pub rest : List Frame
  pub order : IsOrder frames_a frames_b (cut ++ rest)
  pub read_a : ReadsPart A late a frames_a reading_a
  pub read_b : ReadsPart B late b frames_b reading_b
  pub fails : SourceFails fault a.failures reading_a.failures b.failures reading_b.failures
