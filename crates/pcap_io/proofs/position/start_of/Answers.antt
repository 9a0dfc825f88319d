use Rattle.std.proofs.Common.{◌≡◌, ℕ, List, ◌++◌, take, ap, sym, ◌∙◌, arith, take_all}
use Rattle.pcap_io.specs.Recording.{reason_at}
use Rattle.pcap_io.specs.Position.{ending_here}
use Rattle.pcap_io.proofs.Steps.{bad_at_head}
use Rattle.pcap_io.proofs.position.start_of.Goals as goal

pub returns-in-Some-clause-found : goal.returns-in-Some-clause-found
returns-in-Some-clause-found c = λ more end.
    let told = c.args.told in
    let p = c.args.position.now in
    let bytes = c.args.bytes.now in
    let all : take c.args.came bytes ≡ bytes = take_all c.args.came bytes (omega arith) in
    let wrong = ap (reason_at p.layout p.late p.high) (sym c.read-header.ensures) ∙ sym c.reason.ensures ∙ c.in-Some.is in
    ap (λ (h : List ℕ). ending_here p told (h ++ more)) all ∙ bad_at_head p told bytes more c.in-Some.reason c.requires.size c.if-count-position.false wrong
