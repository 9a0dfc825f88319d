use Rattle.std.proofs.Common.{rules, ℕ, List, length, if◌then◌else◌, ◌==◌, sym, ap, ◌∙◌}
use Rattle.pcap_io.specs.Recording.{header_fields, reason_at}
use Rattle.pcap_io.specs.declared.recording.Ending.TheVariants.{Cut}
use Rattle.pcap_io.specs.Told.{told_ending}
use Rattle.recording_files.specs.Given.{given_header}
use Rattle.recording_files.proofs.Starts.{start_bad, start_good, start_told}
use Rattle.recording_files.proofs.input.read_header.Goals as goal

pub returns-then-not-branch-clause-read : goal.returns-then-not-branch-clause-read
returns-then-not-branch-clause-read g c =
    let short = c.in_ok-draw.ensures.short (search rules) in
    start_told _ _ _ c.told_by.result _ _ _ _ (c.ending_in.ensures ∙ ap (λ (b : List ℕ). if length b == 0 then told_ending c.told_by.result 1 0 else Cut 0) c.drawn.ensures) short.0 short.1
    c.in_ok-draw.ensures.bytes c.draw.ensures.told (c.told_by.ensures (c.in_ok-draw.ensures.over (search rules)))

pub returns-in-Some-clause-read : goal.returns-in-Some-clause-read
returns-in-Some-clause-read g c =
    let fields = c.read-header.ensures ∙ ap (header_fields c.args.layout) c.drawn-2.ensures in
    start_bad _ _ _ _ _ _ (c.in_ok-draw.ensures.complete (search rules)) (ap (reason_at c.args.layout 0 0) (sym fields) ∙ (sym c.reason.ensures ∙ c.in-Some.is)) c.in_ok-draw.ensures.bytes

pub returns-in-None-clause-read : goal.returns-in-None-clause-read
returns-in-None-clause-read g c =
    let fields = c.read-header.ensures ∙ ap (header_fields c.args.layout) c.drawn-2.ensures in
    start_good _ _ _ _ _ _ (c.in_ok-draw.ensures.complete (search rules)) (ap (reason_at c.args.layout 0 0) (sym fields) ∙ (sym c.reason.ensures ∙ c.in-None.is))
    (c.given_header.ensures ∙ ap (given_header c.args.layout) fields) c.in_ok-draw.ensures.bytes
