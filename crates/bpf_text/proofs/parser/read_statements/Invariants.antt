use Rattle.std.proofs.Common.{length, map}
use Rattle.bpf_text.specs.Tokens.{items_at}
use Rattle.bpf_text.specs.Views.{items}
use Rattle.bpf_text.specs.Grammar.{AreWhole}
use Rattle.bpf_text.specs.Meaning.{statement_of}
use Rattle.bpf_text.proofs.parser.read_statements.Given as goal

abbrev pub invariant-loop-lexer : goal.invariant-loop-lexer
invariant-loop-lexer l = AreWhole (items_at l.text 0) (map statement_of l.statements.items) (items l.lexer)

abbrev pub decreases-loop-lexer : goal.decreases-loop-lexer
decreases-loop-lexer l = length (items l.lexer)
