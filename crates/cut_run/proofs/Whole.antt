-- A cut from the opening of its devices to their return.
use Rattle.std.proofs.Common.{◌≡◌, ◌∙◌, ℕ, ◌≤◌, false, List, [], length, Option, None, Some, Result, Ok, Err, refl, sym, ap, inr}
use Rattle.std.proofs.lemmas.List.{append-nil}
use Rattle.std.specs.Prelude.{MatchResult}
use Rattle.std.specs.Io.KnownBytes.{prepend_known}
use Rattle.afdx_frame.specs.Frame.{Frame}
use Rattle.afdx_frame.specs.declared.bounds.TheConstants.{MAX_SNAPLEN}
use Rattle.afdx_frame.specs.declared.key.Network.{Network}
use Rattle.afdx_frame.specs.declared.key.Network.TheVariants.{A, B}
use Rattle.cut_run.specs.Finder.{any_late, finder_source, finding_of}
use Rattle.cut_run.specs.declared.finder.FrameFinder.{FrameFinder}
use Rattle.ledger_text.specs.Ledger.{HasReadLines}
use Rattle.ledger_text.specs.Lines.{unread_of}
use Rattle.ledger_text.specs.Reader.{source_of}
use Rattle.ledger_text.specs.declared.bounds.TheConstants.{BLOCK_LEN}
use Rattle.ledger_text.specs.declared.order.LedgerStage.TheVariants as stages
use Rattle.ledger_text.specs.declared.reader.LedgerReader.{LedgerReader}
use Rattle.packet_format.specs.Packets.{Format, head_by}
use Rattle.packet_format.specs.Writer.{sink_of}
use Rattle.run_fault.specs.Device.{SinkMembers, SourceMembers, SourceView, source_at}
use Rattle.run_fault.specs.Recording.{IsReadPart}
use Rattle.cut_run.specs.Cut.{CutDevices, IsCutRun, devices_at}
use Rattle.cut_run.specs.Cutting.{EndsCut, StopsCut}
use Rattle.cut_run.specs.Lines.{Choice, cut_capture}
use Rattle.cut_run.specs.Naming.{ReadsPart, opening_at}
use Rattle.cut_run.specs.declared.cut.CutEnding.{CutEnding}
use Rattle.cut_run.specs.declared.cut.Taking.{Taking}
use Rattle.cut_run.specs.declared.fault.CutFault.{CutFault}
use Rattle.cut_run.proofs.Naming.{part_read}

-- ---- the beginning

prepend_none : (bytes : Option (List ℕ)) → bytes ≡ prepend_known [] bytes
prepend_none None = refl
prepend_none (Some xs) = refl

none_ahead : (unread : List ℕ) (bytes : Option (List ℕ)) → unread ≡ [] → bytes ≡ prepend_known unread bytes
none_ahead unread bytes none = rw none (prepend_none bytes)

pub reads_nothing : {L : Type 0} (l : SourceMembers L) (source : L) (reader : LedgerReader L) → source_of reader ≡ source → unread_of reader.lines ≡ []
    → (reader.stage ≡ stages.Head) × (reader.number ≡ 0) × (reader.failed ≡ false)
    → HasReadLines l (l.remaining source) (l.failures source) [] reader
reads_nothing {L = L} l source reader same none (stage, number, sound) = record {
  lines = (sym stage, ap (λ (x : L). l.remaining x) (sym same) ∙ none_ahead (unread_of reader.lines) (l.remaining (source_of reader)) none);
  number = number;
  sound = sound;
  no_failure = ap (λ (x : L). l.failures x) same;
}

-- ---- the end

pub part_of : {S : Type 0} (s : SourceMembers S) (network : Network) (before : SourceView) (frames : List Frame) (finder : FrameFinder S)
    → length (finding_of s finder).unread ≤ MAX_SNAPLEN
    → ReadsPart (opening_at network before) frames (finding_of s finder)
    → IsReadPart network any_late before (source_at s (finder_source finder)) frames
part_of s network before frames finder few part = record {
  position = part.position;
  left = part.left;
  rest = (finding_of s finder).reading.remaining;
  ahead = (finding_of s finder).unread;
  read = part.read;
  gone = part.gone;
  unread = (few, refl);
}

pub run_of : {L S T W : Type 0} (l : SourceMembers L) (s : SourceMembers S) (t : SourceMembers T) (w : SinkMembers W) (format : Format) (choice : Choice)
    (outcome : Result CutEnding CutFault) (before : CutDevices) (ledger : LedgerReader L) (taking : Taking S T W)
    → length (finding_of s taking.recordings.a).unread ≤ MAX_SNAPLEN
    → length (finding_of t taking.recordings.b).unread ≤ MAX_SNAPLEN → length (unread_of ledger.lines) ≤ BLOCK_LEN
    → MatchResult outcome (λ e. EndsCut l s t w format choice e before ledger taking) (λ fault. StopsCut l s t w format choice fault before ledger taking)
    → IsCutRun format choice outcome before
    (devices_at l s t w (source_of ledger) (finder_source taking.recordings.a) (finder_source taking.recordings.b) (sink_of taking.output))
run_of l s t w format choice (Ok e) before ledger taking few_a few_b few ends =
    let named = ends.took.named in
    record {
      rs = ends.rs;
      stage = ends.stage;
      left = ends.left;
      frames_a = ends.frames_a;
      frames_b = ends.frames_b;
      frames = ends.fs;
      taken = ends.taken;
      found = record {
        lines = ends.lines;
        read_a = part_of s A before.a ends.frames_a taking.recordings.a few_a
            (part_read (opening_at A before.a) ends.frames_a named.floor_a (finding_of s taking.recordings.a) named.read_a);
        read_b = part_of t B before.b ends.frames_b taking.recordings.b few_b
            (part_read (opening_at B before.b) ends.frames_b named.floor_b (finding_of t taking.recordings.b) named.read_b);
        found = ends.took.found;
        rise = named.rise;
        named = named.named;
        spread = ends.took.spread;
      };
      takes = ends.took.takes;
      ends = ends.ends;
      written = ends.took.written;
      no_failure = record { ledger = ends.no_failure; a = named.read_a.no_failure; b = named.read_b.no_failure; output = ends.took.no_failure };
    }
run_of l s t w format choice (Err fault) before ledger taking few_a few_b few stops = (
  record { ledger = stops.ledger_failures; a = stops.a_failures; b = stops.b_failures; output = stops.output_failures },
  inr (record {
    rs = stops.rs;
    stage = stops.stage;
    left = stops.left;
    frames_a = stops.frames_a;
    frames_b = stops.frames_b;
    frames = stops.fs;
    taken = stops.taken;
    found = record {
      lines = stops.lines;
      read_a = part_of s A before.a stops.frames_a taking.recordings.a few_a stops.read_a;
      read_b = part_of t B before.b stops.frames_b taking.recordings.b few_b stops.read_b;
      found = stops.found;
      rise = stops.rise;
      named = stops.named;
      spread = stops.spread;
    };
    takes = stops.takes;
    why = stops.why few;
    written = stops.written;
  }),
)

-- the capture of nothing is what it begins with
pub empty_capture : (format : Format) → cut_capture format [] ≡ head_by format
empty_capture format = append-nil (head_by format)
