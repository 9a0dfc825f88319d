use Rattle.std.proofs.Common.{◌+◌, map, sym, subst}
use Rattle.bpf_text.specs.Meaning.{statement_of}
use Rattle.bpf_asm.specs.Assembly.{IsRow}
use Rattle.bpf_asm.specs.Typed.{AreRows}
use Rattle.bpf_asm.proofs.Program.{statement_takes, rows_more}
use Rattle.bpf_asm.proofs.assembler.insns_of.Goals as goal

-- src/assembler.rt:71:20
pub insn_of-requires : goal.insn_of-requires
insn_of-requires c = statement_takes c.args.statements.now c.loop-at.at _ c.requires.takes c.loop-at-test.true

-- src/assembler.rt:70:5
pub loop-at-preserved : goal.loop-at-preserved
loop-at-preserved c =
    let ss = map statement_of c.args.statements.now in
    let row = subst (IsRow ss c.loop-at.at _ _) (sym c.pack.ensures) (c.in_ok-insn_of.ensures.row ss c.requires.knows) in
    subst (AreRows ss (c.loop-at.at + 1)) (sym c.in_ok-push.ensures.items)
    (rows_more c.args.statements.now c.loop-at.insns.items c.loop-at.at _ c.pack.result c.loop-at-test.true row
    (c.in_ok-insn_of.ensures.no_fault ss c.requires.knows) c.loop-at.invariant)
