use Rattle.bpf_asm.proofs.Relisted.{assembles_again}
use Rattle.bpf_asm.proofs.laws.listing_is_source_of_its_program.Goals as goal

pub returns : goal.returns
returns c p text loaded packed listed = assembles_again p text loaded packed listed
