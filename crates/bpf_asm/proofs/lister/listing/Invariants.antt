-- The text has the lines of the instructions before the index.
use Rattle.std.specs.Prelude.{string_bytes}
use Rattle.bpf_asm.proofs.Lines.{Listed}
use Rattle.bpf_asm.proofs.lister.listing.Given as goal

abbrev pub invariant-loop-at : goal.invariant-loop-at
invariant-loop-at l = Listed l.fn.program l.at (string_bytes l.text)
