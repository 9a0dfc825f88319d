use Rattle.std.proofs.Common.{◌≡◌, ◌∙◌, append_assoc}
use Rattle.std.specs.Prelude.{string_bytes}
use Rattle.std.proofs.lemmas.Result.{IfOk-weaker}
use Rattle.bpf_debugger.specs.Texts.{tally_text}
use Rattle.bpf_debugger.proofs.reply.tally_line.Goals as goal

pub returns : goal.returns
returns c = IfOk-weaker c.format.result _ (λ text. string_bytes text ≡ tally_text c.args.accepted c.args.rejected) (λ text e. e ∙ simp append_assoc) c.format.ensures.ok
