use Rattle.std.proofs.Common.{◌∙◌, sym, arith, below_more}
use Rattle.bpf_loader.proofs.ByInsn.{fault_at_read, sound_from_below}
use Rattle.bpf_loader.proofs.insns.check_insns.Goals as goal

pub loop-pc-preserved : goal.loop-pc-preserved
loop-pc-preserved c =
    below_more _ _ c.loop-pc.invariant
    (fault_at_read c.args.insns.now c.loop-pc.pc _ c.loop-pc-test.true ∙ (sym c.insn_fault.ensures ∙ c.in_default.is))

pub returns : goal.returns
returns c = sound_from_below c.args.insns.now c.loop-pc.pc (omega arith) c.loop-pc.invariant
