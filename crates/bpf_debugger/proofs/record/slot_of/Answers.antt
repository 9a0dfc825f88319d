use Rattle.bpf_debugger.proofs.Stores.{no_slot_of}
use Rattle.std.proofs.Common.{◌∙◌}
use Rattle.bpf_debugger.proofs.record.slot_of.Goals as goal

pub returns-in_err-k-clause-slot : goal.returns-in_err-k-clause-slot
returns-in_err-k-clause-slot c = c.from_residual.ensures ∙ no_slot_of c.args.state.now c.args.insn c.in_err-k.ensures.none
