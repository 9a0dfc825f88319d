use Rattle.bpf_isa.proofs.numeric.place.+offset_in.Given as goal

abbrev pub decreases-offset_in : goal.decreases-offset_in
decreases-offset_in l = l.index
