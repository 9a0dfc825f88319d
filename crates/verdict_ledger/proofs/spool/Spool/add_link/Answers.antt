use Rattle.verdict_ledger.specs.declared.fault.LedgerFault.TheVariants.{Memory}
use Rattle.verdict_ledger.proofs.Spooling.{unpushed, spooled_flush, fault_from, link_some}
use Rattle.verdict_ledger.proofs.spool.Spool.add_link.Goals as goal

pub returns-in_err-push_link : goal.returns-in_err-push_link
returns-in_err-push_link g c =
    rw (fault_from c.from_residual.result Memory c.from_residual.ensures.1)
    (unpushed _ _ c.args.self.now.text.items c.push_link.new.text.items _ (link_some c.args.link.now c.args.counts.now))

pub returns : goal.returns
returns g c = spooled_flush _ _ _ _ _ _ _ _ _ c.in_ok-push_link.ensures c.flush_block.ensures
