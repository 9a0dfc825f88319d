use Rattle.std.proofs.Common.{inl, rules, ◌≡◌, length}
use Rattle.std.proofs.lemmas.Result.{err_from_is_err_and}
use Rattle.pcap_io.specs.Block.{drawn_bytes}
use Rattle.pcap_io.specs.Reader.{position_of}
use Rattle.pcap_io.proofs.Steps.{lacks_body, takes_head, body_fault, cut_found, frame_found, lent_same, takes_packet}
use Rattle.pcap_io.proofs.Draws.{on_err_from}
use Rattle.pcap_io.proofs.reader.TapReader.find.Goals as goal

pub returns-in_err-draw-clause-fault : goal.returns-in_err-draw-clause-fault
returns-in_err-draw-clause-fault g c =
    let start = rw c.in-Header.is at c.in_ok-header.ensures.start in
    let p = err_from_is_err_and c.from_residual-in_err-draw.result c.from_residual-in_err-draw.ensures.1 in
    rw (p.1, p.2) (body_fault _ _ _ _ _ _ _ _ _ start c.in_err-draw.ensures.kept c.in_ok-header.ensures.no_failure c.in_err-draw.ensures.fault)

pub returns-then-not-branch-clause-item : goal.returns-then-not-branch-clause-item
returns-then-not-branch-clause-item g c =
    let start = rw c.in-Header.is at c.in_ok-header.ensures.start in
    let short = c.in_ok-draw.ensures.short (search rules) in
    cut_found _ _ _ _ _ _ _ _ c.read_header.ensures.position start c.in_ok-draw.ensures.bytes short.0 short.1

pub returns-then-not-branch-clause-taken : goal.returns-then-not-branch-clause-taken
returns-then-not-branch-clause-taken g c =
    let start = rw c.in-Header.is at c.in_ok-header.ensures.start in
    takes_packet _ _ _ _ _ start (drawn_bytes c.draw.new.self, search rules, c.in_ok-draw.ensures.bytes)

pub returns-clause-item : goal.returns-clause-item
returns-clause-item g c =
    let p = position_of c.args.self.now in
    let start = rw c.in-Header.is at c.in_ok-header.ensures.start in
    let held : length (drawn_bytes c.draw.new.self) ≡ c.in-Header.header.captured_len = c.in_ok-draw.ensures.complete (search rules) in
    frame_found p _ _ _ c.in-Header.header (drawn_bytes c.draw.new.self) _ (search rules) start held c.in_ok-draw.ensures.bytes
    (lent_same p _ c.in-Header.header _ _ _ c.read_header.ensures.position c.stamp-self.ensures.value c.max-self.ensures held)

pub returns-clause-taken : goal.returns-clause-taken
returns-clause-taken g c =
    let start = rw c.in-Header.is at c.in_ok-header.ensures.start in
    takes_packet _ _ _ _ _ start (drawn_bytes c.draw.new.self, search rules, c.in_ok-draw.ensures.bytes)

pub returns-in_err-draw-clause-taken : goal.returns-in_err-draw-clause-taken
returns-in_err-draw-clause-taken g c =
    let start = rw c.in-Header.is at c.in_ok-header.ensures.start in
    takes_head _ _ _ _ _ start c.in_err-draw.ensures.kept

pub returns-in_err-draw-clause-unfinished : goal.returns-in_err-draw-clause-unfinished
returns-in_err-draw-clause-unfinished g c =
    let start = rw c.in-Header.is at c.in_ok-header.ensures.start in
    on_err_from c.from_residual-in_err-draw.result (lacks_body _ _ _ _ _ _ start c.in_err-draw.ensures.kept c.in_err-draw.ensures.unfinished)

pub returns-in_err-header-clause-unfinished : goal.returns-in_err-header-clause-unfinished
returns-in_err-header-clause-unfinished g c =
    on_err_from c.from_residual.result (inl (c.in_err-header.ensures.unfinished, c.in_err-header.ensures.none_unread))
