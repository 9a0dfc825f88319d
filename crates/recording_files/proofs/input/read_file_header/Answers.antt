use Rattle.std.proofs.Common.{rules, ◌∙◌, ap}
use Rattle.pcap_io.specs.Layout.{header_of}
use Rattle.recording_files.specs.Input.{tells_of}
use Rattle.recording_files.proofs.Starts.{header_drawn, header_short}
use Rattle.recording_files.proofs.input.read_file_header.Goals as goal

pub returns-then-not-branch-clause-read : goal.returns-then-not-branch-clause-read
returns-then-not-branch-clause-read g c =
    let short = c.in_ok-draw.ensures.short (search rules) in
    header_short _ _ c.told_by.result _ _ _ _ c.fault.ensures short.0 short.1 c.in_ok-draw.ensures.bytes c.draw.ensures.told
    (c.told_by.ensures (c.in_ok-draw.ensures.over (search rules)))

pub returns-clause-read : goal.returns-clause-read
returns-clause-read g c =
    let told = tells_of g.F.TapSource.told c.args.input.now in
    header_drawn told _ _ _ _ (c.in_ok-draw.ensures.complete (search rules)) c.in_ok-draw.ensures.bytes (c.layout_of.ensures told ∙ ap (header_of told) c.drawn.ensures)
