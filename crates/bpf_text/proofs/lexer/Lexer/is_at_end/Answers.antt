use Rattle.std.proofs.Common.{ap, ◌∙◌}
use Rattle.bpf_text.specs.Tokens.{at_end}
use Rattle.bpf_text.proofs.Tokens.{end_test}
use Rattle.bpf_text.proofs.lexer.Lexer.is_at_end.Goals as goal

pub returns-clause-end : goal.returns-clause-end
returns-clause-end c = end_test c.skip_blanks.new.self.text.now c.skip_blanks.new.self.at c.skip_blanks.new.self.within c.skip_blanks.ensures.none ∙ ap at_end c.skip_blanks.ensures.items
