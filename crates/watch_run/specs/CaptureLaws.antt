-- Laws of captures, which hold by their definitions alone.
use Rattle.std.specs.Prelude.{◌≡◌, List}
use Rattle.afdx_frame.specs.Frame.{Frame}
use Rattle.bpf_isa.specs.declared.packed.Packed.{Packed}
use Rattle.watch_run.specs.Filters.{capture_by, pcap_by, pcap_of}
use Rattle.vl_config.specs.Document.{VlTable}

-- A pcap file has the packets of the accepted frames alone, whatever the table.
abbrev pub PcapHasAcceptedFrames : Type 0
PcapHasAcceptedFrames = (filters : List (List Packed)) (vl_table : VlTable) (frames : List Frame)
    → capture_by (pcap_of filters) vl_table frames ≡ pcap_by filters frames
