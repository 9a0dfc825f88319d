use Rattle.std.proofs.Common.{rules, ◌≤◌, ◌-◌, length, sym, ◌∙◌}
use Rattle.pcap_io.specs.Bytes.{IsBytes}
use Rattle.recording_files.proofs.Runs.{begins}
use Rattle.recording_files.proofs.run.first_packet.Goals as goal

pub returns-in-None : goal.returns-in-None
returns-in-None c =
    let bytes = c.args.bytes.now in
    let h = c.read-header.result in
    let fits : IsBytes bytes = search rules in
    let long : 16 ≤ length bytes = search rules in
    let whole : h.captured_len ≤ length bytes - 16 = search rules in
    let wire : h.captured_len ≤ h.original_len = search rules in
    begins c.args.layout bytes h c.stamp.result fits long c.read-header.ensures whole wire (sym c.reason.ensures ∙ c.in-None.is) c.stamp.ensures.value
