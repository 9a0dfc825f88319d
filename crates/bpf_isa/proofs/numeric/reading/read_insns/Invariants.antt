use Rattle.std.proofs.Common.{length}
use Rattle.bpf_isa.specs.Numeric.{items_in}
use Rattle.bpf_isa.proofs.NumericInsns.{HasRead}
use Rattle.bpf_isa.proofs.numeric.reading.read_insns.Given as goal

abbrev pub invariant-loop-item : goal.invariant-loop-item
invariant-loop-item l = HasRead l.count (items_in l.fn.text.at l.fn.text.bytes.now) (items_in l.rest.at l.rest.bytes.now) l.insns.items l.surplus

abbrev pub decreases-loop-item : goal.decreases-loop-item
decreases-loop-item l = length l.rest.bytes.now
