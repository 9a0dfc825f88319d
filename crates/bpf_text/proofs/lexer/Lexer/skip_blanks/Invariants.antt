use Rattle.std.proofs.Common.{◌≡◌, ◌-◌, length}
use Rattle.bpf_text.specs.Views.{items}
use Rattle.bpf_text.proofs.lexer.Lexer.skip_blanks.Given as goal

abbrev pub invariant-loop-len : goal.invariant-loop-len
invariant-loop-len l = record { text : l.self.text ≡ l.initial.self.text; items : items l.self ≡ items l.initial.self }

abbrev pub decreases-loop-len : goal.decreases-loop-len
decreases-loop-len l = length l.self.text.now - l.self.at
