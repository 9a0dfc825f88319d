use Rattle.std.proofs.Common.{rules, ◌≤◌, length, sym, arith}
use Rattle.pcap_io.proofs.Draws.{length-between}
use Rattle.pcapng.proofs.Handed.{drop_slice}
use Rattle.recording_files.proofs.pending.Pending.give.Goals as goal

pub returns-clause-left : goal.returns-clause-left
returns-clause-left c =
    let v = c.args.self.now in
    let long : v.to ≤ length v.header = search rules in
    sym (drop_slice c.copy_some-count.result v.from v.to v.header (omega (arith, c.copy_some-count.ensures.count, length-between v.from v.to v.header long, v.ordered)) long)
