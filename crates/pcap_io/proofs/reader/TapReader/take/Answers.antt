use Rattle.std.proofs.Common.{rules, ◌∙◌, ap, Ok}
use Rattle.std.proofs.lemmas.Result.{err_from_is_err_and}
use Rattle.pcap_io.specs.Block.{part_bytes}
use Rattle.pcap_io.specs.Position.{frame_at}
use Rattle.pcap_io.specs.declared.position.Position.{Position}
use Rattle.pcap_io.specs.Reader.{position_of}
use Rattle.pcap_io.proofs.Steps.{body_fault, cut_found, frame_found, takes_packet}
use Rattle.pcap_io.proofs.reader.TapReader.take.Goals as goal

pub returns-in_err-part-clause-fault : goal.returns-in_err-part-clause-fault
returns-in_err-part-clause-fault g c =
    let start = rw c.in-Header.is at c.in_ok-header.ensures.start in
    let p = err_from_is_err_and c.from_residual-in_err-part.result c.from_residual-in_err-part.ensures.1 in
    rw (p.1, p.2) (body_fault _ _ _ _ _ _ _ _ _ start c.in_err-part.ensures.kept c.in_ok-header.ensures.no_failure c.in_err-part.ensures.fault)

pub returns-in-Some-clause-item : goal.returns-in-Some-clause-item
returns-in-Some-clause-item g c =
    let p = position_of c.args.self.now in
    let header = c.in-Header.header in
    let bytes = part_bytes c.in-Some.part in
    let start = rw c.in-Header.is at c.in_ok-header.ensures.start in
    let (held, gone, share) = rw c.in-Some.is at c.in_ok-part.ensures.complete in
    frame_found p _ _ _ header bytes _ (search rules) start held gone
    ((rw c.bytes-block.ensures at c.record-record.ensures.frame) ∙ ap (λ (x : Position). frame_at x header bytes) c.read_header.ensures.position)

pub returns-in-Some-clause-held : goal.returns-in-Some-clause-held
returns-in-Some-clause-held g c =
    let (held, gone, share) = rw c.in-Some.is at c.in_ok-part.ensures.complete in
    (ap (λ (x : Position). x.stage) c.read_header.ensures.position ∙ c.requires, rw c.bytes-block.ensures at c.record-record.ensures.fits, share)

pub returns-in-Some-clause-taken : goal.returns-in-Some-clause-taken
returns-in-Some-clause-taken g c =
    let start = rw c.in-Header.is at c.in_ok-header.ensures.start in
    let (held, gone, share) = rw c.in-Some.is at c.in_ok-part.ensures.complete in
    takes_packet _ _ _ _ _ start (part_bytes c.in-Some.part, search rules, gone)

pub returns-in-None-clause-item : goal.returns-in-None-clause-item
returns-in-None-clause-item g c =
    let start = rw c.in-Header.is at c.in_ok-header.ensures.start in
    let ((gone, less, took), end) = c.in_ok-part.ensures.short (ap Ok c.in-None.is) in
    cut_found _ _ _ _ _ _ _ _ c.read_header.ensures.position start took less end

pub returns-in-None-clause-taken : goal.returns-in-None-clause-taken
returns-in-None-clause-taken g c =
    let start = rw c.in-Header.is at c.in_ok-header.ensures.start in
    let ((gone, less, took), end) = c.in_ok-part.ensures.short (ap Ok c.in-None.is) in
    takes_packet _ _ _ _ _ start (gone, search rules, took)
