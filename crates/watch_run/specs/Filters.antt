-- The making of a run, from its frames: up to eight filters (this project's profile), the format of the capture and the ledger's version.
use Rattle.std.specs.Prelude.{ℕ, min, List, [], ◌++◌, length, map, flat_map, Option, Some, None, ◌==◌, if◌then◌else◌}
use Rattle.std.specs.Option.{option_map_or}
use Rattle.afdx_frame.specs.Frame.{Frame}
use Rattle.bpf_isa.specs.declared.packed.Packed.{Packed}
use Rattle.packet_format.specs.Packets.{Format, Pcap, format_of, head_by, packet_by}
use Rattle.pcap_io.specs.Capture.{capture_header, packet_text}
use Rattle.vl_config.specs.Document.{VlTable}
use Rattle.vl_judge.specs.Verdicts.{verdicts}
use Rattle.verdict_ledger.specs.Entry.{Entry, entries_of}
use Rattle.filter_workers.specs.Filters.{answer_by, mask_by}
use Rattle.ledger_text.specs.FrameText.{shown}
use Rattle.pcap_io.specs.declared.recording.Ending.{Ending}
use Rattle.watch_run.specs.declared.plan.Plan.{Plan}
use Rattle.verdict_ledger.specs.Text.{ledger_head, ledger_text, lines_text}
use Rattle.verdict_ledger.specs.declared.version.LedgerVersion.{LedgerVersion}
use Rattle.verdict_ledger.specs.declared.version.LedgerVersion.TheVariants.{Two}

-- the filters, the format of the capture, and the version of the ledger
pub record Making : Type 0 where
  pub filters : List (List Packed)
  pub format : Format
  pub version : LedgerVersion

abbrev pub making_of : Plan → Making
making_of plan = record { filters = plan.programs.now; format = format_of plan.format; version = plan.version }

-- a pcap file of what these filters accept, and a ledger of version 2
abbrev pub pcap_of : List (List Packed) → Making
pcap_of filters = record { filters = filters; format = Pcap; version = Two }

-- how many bytes are kept of a frame; a rejected frame isn't kept
abbrev pub keep_of : ℕ → Frame → Option ℕ
keep_of answer f = if answer == 0 then None else Some (min answer (length f.bytes))

abbrev pub keep_by : List (List Packed) → Frame → Option ℕ
keep_by filters f = keep_of (answer_by filters f) f

-- the entries of the ledger: each frame with its verdict, what is kept of it, and which filters accept it
abbrev pub entries_by : Making → VlTable → List Frame → List Entry
entries_by ps vl_table frames = entries_of frames (verdicts vl_table frames) (map (keep_by ps.filters) frames) (map (mask_by ps.filters) frames)

-- ---- the capture of frames

-- the packet of a frame in the capture; a rejected frame has none
abbrev pub entry_packet : Format → Entry → List ℕ
entry_packet format e = option_map_or (λ keep. packet_by format e.frame keep (Some (shown Two e))) e.keep []

abbrev pub packets_of : Format → List Entry → List ℕ
packets_of format entries = flat_map (entry_packet format) entries

-- the whole capture of frames
abbrev pub capture_by : Making → VlTable → List Frame → List ℕ
capture_by ps vl_table frames = head_by ps.format ++ packets_of ps.format (entries_by ps vl_table frames)

-- a pcap file of what these filters accept, of each frame by itself
abbrev pub pcap_by : List (List Packed) → List Frame → List ℕ
pcap_by filters frames = capture_header ++ flat_map (λ f. option_map_or (packet_text f) (keep_by filters f) []) frames

-- ---- the ledger of frames

-- of frames the ledger's first line and their lines
abbrev pub lines_by : Making → VlTable → List Frame → List ℕ
lines_by ps vl_table frames = ledger_head ps.version ++ lines_text ps.version (entries_by ps vl_table frames)

-- the whole ledger of frames
abbrev pub ledger_by : Making → VlTable → List Frame → Ending → Ending → List ℕ
ledger_by ps vl_table frames a b = ledger_text ps.version vl_table (length ps.filters) (entries_by ps vl_table frames) a b
