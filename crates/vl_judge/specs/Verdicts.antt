-- The verdicts of a list of frames of both networks, in the order of their keys. The order of the judgements is this project's
-- profile; what each says is defined with it (policing, integrity, redundancy).
use Rattle.std.specs.Prelude.{ℕ, ◌+◌, Bool, true, false, ◌&&◌, List, [], ◌∷◌, ◌++◌, length, map, Option, Some, None, unwrap_or, ◌==◌, if◌then◌else◌}
use Rattle.std.specs.List.{filter_map}
use Rattle.std.specs.Option.{option_map, option_map_or}
use Rattle.afdx_frame.specs.Frame.{Frame}
use Rattle.afdx_frame.specs.View.{link_of, sequence_of}
use Rattle.afdx_frame.specs.declared.key.VlId.{VlId}
use Rattle.afdx_frame.specs.declared.key.Network.{Network}
use Rattle.afdx_frame.specs.declared.key.Network.TheVariants.{A, B}
use Rattle.vl_config.specs.Link.{VirtualLink}
use Rattle.vl_config.specs.Document.{VlTable}
use Rattle.vl_config.specs.Class.{class_of, link_of_frame}
use Rattle.vl_config.specs.declared.class.Class.{Class}
use Rattle.policing.specs.Windows as policing
use Rattle.policing.specs.declared.verdict.Policing.{Policing}
use Rattle.integrity.specs.Sequence.{verdict_at}
use Rattle.integrity.specs.declared.verdict.Integrity.{Integrity}
use Rattle.redundancy.specs.Deliveries as redundancy
use Rattle.redundancy.specs.declared.verdict.Redundancy.{Redundancy}
use Rattle.vl_judge.specs.Judgement.{Judgement, judgement, stopped_verdict}

-- a frame with its verdict
pub record Judged : Type 0 where
  pub frame : Frame
  pub verdict : Judgement

-- the frame is of the link
abbrev pub is_of : VlId → Frame → Bool
is_of id frame = option_map_or (λ link. link.0 == id.0) (link_of frame.bytes) false

abbrev pub is_same : Network → Network → Bool
is_same A A = true
is_same A B = false
is_same B A = false
is_same B B = true

-- its size with the frame check sequence, which no recording holds
abbrev pub size_of : Frame → ℕ
size_of frame = frame.whole + 4

-- its sequence number; 0 where it has no byte, which no regular frame is
abbrev pub sequence_number : Frame → ℕ
sequence_number frame = unwrap_or (sequence_of frame.bytes) 0

-- ---- all that reached each judgement

abbrev pub policed_entry : VlId → Network → Judged → Option policing.Entry
policed_entry id network j =
    if is_of id j.frame && is_same j.frame.network network
    then option_map (λ verdict. record { stamp = j.frame.stamp; size = size_of j.frame; policing = verdict }) j.verdict.policing
    else None

abbrev pub checked_number : VlId → Network → Judged → Option ℕ
checked_number id network j =
    if is_of id j.frame && is_same j.frame.network network
    then option_map (λ _. sequence_number j.frame) j.verdict.integrity
    else None

abbrev pub managed_entry : VlId → Judged → Option redundancy.Entry
managed_entry id j =
    if is_of id j.frame
    then option_map (λ verdict. record {
      network = j.frame.network;
      number = sequence_number j.frame;
      stamp = j.frame.stamp;
      redundancy = verdict;
    }) j.verdict.redundancy
    else None

-- the frames of a link on a network that policing has seen, with their verdicts
abbrev pub policed_entries : VlId → Network → List Judged → List policing.Entry
policed_entries id network frames = filter_map (policed_entry id network) frames

-- the sequence numbers of a link on a network that integrity checking has seen
abbrev pub checked_numbers : VlId → Network → List Judged → List ℕ
checked_numbers id network frames = filter_map (checked_number id network) frames

-- the frames of a link that redundancy management has seen, with their verdicts
abbrev pub managed_entries : VlId → List Judged → List redundancy.Entry
managed_entries id frames = filter_map (managed_entry id) frames

-- ---- the verdict of a frame after these

abbrev pub policing_of : VirtualLink → List Judged → Frame → Policing
policing_of link earlier frame =
    policing.verdict_of link (policed_entries link.id frame.network earlier) frame.stamp (size_of frame)

abbrev pub integrity_of : VirtualLink → List Judged → Frame → Integrity
integrity_of link earlier frame =
    let numbers = checked_numbers link.id frame.network earlier in
    verdict_at link.integrity (numbers ++ sequence_number frame ∷ []) (length numbers)

abbrev pub redundancy_of : VirtualLink → List Judged → Frame → Redundancy
redundancy_of link earlier frame =
    redundancy.verdict_of link.redundancy link.skew (managed_entries link.id earlier) frame.network (sequence_number frame) frame.stamp

abbrev pub verdict_on : VirtualLink → Class → List Judged → Frame → Judgement
verdict_on link class earlier frame =
    judgement class (policing_of link earlier frame) (integrity_of link earlier frame) (redundancy_of link earlier frame)

abbrev pub verdict_by : Option VirtualLink → Class → List Judged → Frame → Judgement
verdict_by None class earlier frame = stopped_verdict class
verdict_by (Some link) class earlier frame = verdict_on link class earlier frame

abbrev pub verdict_of : VlTable → List Judged → Frame → Judgement
verdict_of vl_table earlier frame = verdict_by (link_of_frame vl_table.links frame) (class_of vl_table frame) earlier frame

-- ---- the verdicts of a list

abbrev pub judged_frames_after : VlTable → List Judged → List Frame → List Judged
judged_frames_after vl_table earlier [] = earlier
judged_frames_after vl_table earlier (frame ∷ frames) =
    judged_frames_after vl_table (earlier ++ record { frame = frame; verdict = verdict_of vl_table earlier frame } ∷ []) frames

-- the frames, each with its verdict
abbrev pub judged_frames : VlTable → List Frame → List Judged
judged_frames vl_table frames = judged_frames_after vl_table [] frames

abbrev pub verdicts : VlTable → List Frame → List Judgement
verdicts vl_table frames = map (λ j. j.verdict) (judged_frames vl_table frames)
