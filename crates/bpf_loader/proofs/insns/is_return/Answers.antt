use Rattle.std.proofs.Common.{sym}
use Rattle.bpf_loader.proofs.Canonical.{unlisted_goes_on}
use Rattle.bpf_loader.proofs.insns.is_return.Goals as goal

pub returns-in-None : goal.returns-in-None
returns-in-None c = sym (unlisted_goes_on c.args.packed.code c.in-None.ensures.unlisted)
