use Rattle.std.proofs.Common.{rules, sym, ◌∙◌, arith}
use Rattle.std.proofs.lemmas.Result.{err_from_is_err_and}
use Rattle.pcap_io.proofs.FileHeader.{header_from, opens_from}
use Rattle.pcap_io.proofs.reader.read_layout.Goals as goal

pub returns-in_err-layout_of-clause-fault : goal.returns-in_err-layout_of-clause-fault
returns-in_err-layout_of-clause-fault g c =
    let told = g.S.TapSource.told c.args.source.now in
    let p = err_from_is_err_and c.from_residual-in_err-layout_of.result c.from_residual-in_err-layout_of.ensures.1 in
    rw (p.1, p.2) (header_from told _ _ c.fill.new.buf c.in_ok-came.came _ (search rules) (omega arith) c.in_ok-came.ensures.bytes (sym (c.layout_of.ensures told) ∙ c.in_err-layout_of.was), c.in_ok-came.ensures.no_failure)

pub returns-clause-layout : goal.returns-clause-layout
returns-clause-layout g c =
    let told = g.S.TapSource.told c.args.source.now in
    opens_from told _ _ c.fill.new.buf c.in_ok-came.came c.in_ok-layout_of.field-0 (search rules) (omega arith) c.in_ok-came.ensures.bytes (sym (c.layout_of.ensures told) ∙ c.in_ok-layout_of.was)
