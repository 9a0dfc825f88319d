-- The instructions are those of the statements before the index.
use Rattle.std.proofs.Common.{map}
use Rattle.bpf_text.specs.Meaning.{statement_of}
use Rattle.bpf_asm.specs.Typed.{AreRows}
use Rattle.bpf_asm.proofs.assembler.insns_of.Given as goal

abbrev pub invariant-loop-at : goal.invariant-loop-at
invariant-loop-at l = AreRows (map statement_of l.statements) l.at l.insns.items
