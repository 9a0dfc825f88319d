use Rattle.bpf_text.proofs.Texts.{one_reading}
use Rattle.bpf_text.proofs.laws.text_has_one_reading.Goals as goal

pub returns : goal.returns
returns c = one_reading c.args.text.now
