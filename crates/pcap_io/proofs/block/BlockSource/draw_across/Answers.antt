use Rattle.std.proofs.Common.{rules, ◌-◌, ◌∙◌, ap, arith, take, drop, List, ℕ}
use Rattle.pcap_io.specs.Items.{items_of}
use Rattle.pcap_io.proofs.Draws.{across, consumes_across, fewer_across, length-between, none_between, on_err_from, takes_across, takes_fewer}
use Rattle.pcap_io.proofs.block.BlockSource.draw_across.Goals as goal

pub returns-in_err-came-clause-taken : goal.returns-in_err-came-clause-taken
returns-in_err-came-clause-taken g c =
    let v = c.args.self.now in
    let xs = items_of v.block in
    let size = length-between v.start v.end xs (search rules) in
    on_err_from c.from_residual.result (takes_fewer _ _ _ _ (omega (arith, size)) (takes_across _ _ _ _ _ (none_between v.end xs) c.in_err-came.ensures.taken))

pub returns-in_err-came-clause-unfinished : goal.returns-in_err-came-clause-unfinished
returns-in_err-came-clause-unfinished g c =
    let v = c.args.self.now in
    let xs = items_of v.block in
    let size = length-between v.start v.end xs (search rules) in
    let less = fewer_across _ _ _ _ _ (none_between v.end xs) c.in_err-came.ensures.unfinished in
    on_err_from c.from_residual.result (less.0, omega (arith, size, less.1), less.2)

pub returns-in_err-came-clause-none_unread : goal.returns-in_err-came-clause-none_unread
returns-in_err-came-clause-none_unread g c =
    let v = c.args.self.now in
    on_err_from c.from_residual.result (none_between v.end (items_of v.block))

pub returns-clause-bytes : goal.returns-clause-bytes
returns-clause-bytes g c =
    let v = c.args.self.now in
    let xs = items_of v.block in
    let copied = c.copy_from_slice.ensures.after ∙ ap (λ (l : List ℕ). take (v.end - v.start) (drop v.start l)) c.bytes.ensures in
    consumes_across _ _ _ _ _ _ (none_between v.end xs)
    (across _ c.in_ok-came.came _ _ _ c.args.buf.now c.fill.new.buf copied (length-between v.start v.end xs (search rules)) (search rules) c.in_ok-came.ensures.bound)
    c.in_ok-came.ensures.bytes
