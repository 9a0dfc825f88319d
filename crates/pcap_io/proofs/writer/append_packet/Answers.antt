use Rattle.std.proofs.Common.{◌∙◌}
use Rattle.pcap_io.specs.Capture.{packet_text}
use Rattle.pcap_io.proofs.writer.append_packet.Goals as goal

pub returns-clause-packet : goal.returns-clause-packet
unfolding Rattle.pcap_io.specs.Capture.packet_text
returns-clause-packet c =
    let captured = c.bytes-captured.ensures ∙ c.view.ensures.value in
    rw (c.packet_header.ensures, captured) at c.append_both.ensures.both
