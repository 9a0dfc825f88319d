use Rattle.std.proofs.Common.{map, sym, subst}
use Rattle.bpf_text.specs.Meaning.{statement_of}
use Rattle.bpf_asm.specs.Typed.{AllTake}
use Rattle.bpf_asm.proofs.Forms.{sources_take}
use Rattle.bpf_asm.proofs.assembler.assemble.Goals as goal

-- src/assembler.rt:103:5
pub program_of-requires : goal.program_of-requires
program_of-requires c =
    subst (λ statements. AllTake (map statement_of statements)) (sym c.deref.ensures.value)
    (sources_take c.args.text.now (map statement_of c.in_ok-statements.statements.items) c.in_ok-statements.ensures)
