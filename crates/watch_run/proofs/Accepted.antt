-- The packets of a pcap file are those of the accepted frames.
use Rattle.std.proofs.Common.{◌≡◌, ℕ, List, [], ◌∷◌, ◌++◌, length, map, refl, ap, arith}
use Rattle.std.specs.Prelude.{flat_map}
use Rattle.std.specs.Option.{option_map_or}
use Rattle.afdx_frame.specs.Frame.{Frame}
use Rattle.bpf_isa.specs.declared.packed.Packed.{Packed}
use Rattle.filter_workers.specs.Filters.{mask_by}
use Rattle.packet_format.specs.Packets.{Pcap}
use Rattle.pcap_io.specs.Capture.{capture_header, packet_text}
use Rattle.watch_run.specs.Filters.{keep_by, packets_of}
use Rattle.watch_run.specs.CaptureLaws.{PcapHasAcceptedFrames}
use Rattle.watch_run.proofs.Writing.{verdicts_length}
use Rattle.verdict_ledger.specs.Entry.{entries_of}
use Rattle.vl_judge.specs.Judgement.{Judgement}
use Rattle.vl_judge.specs.Verdicts.{verdicts}

same_packets : (filters : List (List Packed)) (fs : List Frame) (vs : List Judgement) → length vs ≡ length fs →
    packets_of Pcap (entries_of fs vs (map (keep_by filters) fs) (map (mask_by filters) fs))
    ≡ flat_map (λ f. option_map_or (packet_text f) (keep_by filters f) []) fs
same_packets filters [] vs judged = refl
same_packets filters (f ∷ fs) [] judged = absurd (omega (arith, judged))
same_packets filters (f ∷ fs) (v ∷ vs) judged =
    ap (λ (l : List ℕ). option_map_or (packet_text f) (keep_by filters f) [] ++ l) (same_packets filters fs vs (omega (arith, judged)))

pub accepted_frames : PcapHasAcceptedFrames
accepted_frames filters vl_table frames =
    ap (λ (l : List ℕ). capture_header ++ l) (same_packets filters frames (verdicts vl_table frames) (verdicts_length vl_table frames))
