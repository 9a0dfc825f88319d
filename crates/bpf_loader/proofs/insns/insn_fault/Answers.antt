use Rattle.std.proofs.Common.{sym, ap, ◌∙◌, inl, inr}
use Rattle.bpf_isa.specs.declared.insn.Insn.TheVariants as insn
use Rattle.bpf_isa.specs.Insns.{packed_insn}
use Rattle.bpf_loader.proofs.ByInsn.{fault_by_insn}
use Rattle.bpf_loader.proofs.insns.insn_fault.Goals as goal

pub returns-in-Load : goal.returns-in-Load
returns-in-Load c =
    c.load_fault.ensures ∙ fault_by_insn c.args.len c.args.pc c.args.packed (insn.Load c.in-Load.load) (ap packed_insn (sym c.in-Load.is) ∙ c.in-Some.ensures.found)

pub returns-in-LoadX : goal.returns-in-LoadX
returns-in-LoadX c =
    c.load_x_fault.ensures ∙ fault_by_insn c.args.len c.args.pc c.args.packed (insn.LoadX c.in-LoadX.load) (ap packed_insn (sym c.in-LoadX.is) ∙ c.in-Some.ensures.found)

pub returns-in-Store : goal.returns-in-Store
returns-in-Store c =
    c.store_fault.ensures ∙ fault_by_insn c.args.len c.args.pc c.args.packed (insn.Store c.in-Store.store) (ap packed_insn (sym c.in-Store.is) ∙ c.in-Some.ensures.found)

pub returns-in-Alu : goal.returns-in-Alu
returns-in-Alu c =
    c.alu_fault.ensures ∙ fault_by_insn c.args.len c.args.pc c.args.packed (insn.Alu c.in-Alu.alu) (ap packed_insn (sym c.in-Alu.is) ∙ c.in-Some.ensures.found)

pub returns-in-Jump : goal.returns-in-Jump
returns-in-Jump c =
    c.jump_fault.ensures ∙ fault_by_insn c.args.len c.args.pc c.args.packed (insn.Jump c.in-Jump.jump) (ap packed_insn (sym c.in-Jump.is) ∙ c.in-Some.ensures.found)

pub returns-in-Return : goal.returns-in-Return
returns-in-Return c =
    elim c.in-Return.is [
      | inl end ↦
          fault_by_insn c.args.len c.args.pc c.args.packed (insn.Return end.0) (ap packed_insn (sym end.1) ∙ c.in-Some.ensures.found)
      | inr move ↦
          fault_by_insn c.args.len c.args.pc c.args.packed (insn.Move move.0) (ap packed_insn (sym move.1) ∙ c.in-Some.ensures.found)
    ]
