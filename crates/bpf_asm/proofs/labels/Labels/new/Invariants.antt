-- The labels before the index are known, and none of them stood before.
use Rattle.std.proofs.Common.{map}
use Rattle.bpf_text.specs.Meaning.{statement_of}
use Rattle.bpf_asm.proofs.Indices.{Progress}
use Rattle.bpf_asm.proofs.labels.Labels.new.Given as goal

abbrev pub invariant-loop-at : goal.invariant-loop-at
invariant-loop-at l = Progress l.indices.entries (map statement_of l.statements) l.at
