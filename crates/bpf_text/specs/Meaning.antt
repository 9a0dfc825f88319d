-- The statements that the crate gives, as statements of the grammar.
use Rattle.std.specs.Prelude.{ℕ, List, ◌≡◌, ◌⊎◌, option_map}
use Rattle.bpf_text.specs.declared.statement.Operand.{Operand}
use Rattle.bpf_text.specs.declared.statement.Operand.TheVariants as shapes
use Rattle.bpf_text.specs.declared.statement.Statement.{Statement}
use Rattle.bpf_text.specs.declared.fault.TextFault.{TextFault}
use Rattle.bpf_text.specs.declared.fault.TextFault.TheVariants.{Memory}
use Rattle.bpf_text.specs.Tokens.{items_at}
use Rattle.bpf_text.specs.Grammar as grammar

abbrev pub operand_of : Operand → grammar.Operand
operand_of shapes.None = grammar.Nothing
operand_of (shapes.Immediate n) = grammar.Immediate n
operand_of (shapes.Absolute n) = grammar.Absolute n
operand_of (shapes.Indirect n) = grammar.Indirect n
operand_of (shapes.Scratch n) = grammar.Scratch n
operand_of (shapes.HeaderLength n) = grammar.HeaderLength n
operand_of shapes.Len = grammar.Len
operand_of (shapes.Source s) = grammar.Value s
operand_of shapes.A = grammar.A
operand_of (shapes.Target t) = grammar.Target t.now
operand_of (shapes.Branch s t f) = grammar.Branch s t.now (option_map (λ name. name.now) f)

abbrev pub statement_of : Statement → grammar.Statement
statement_of s = record { at = s.at; label = option_map (λ name. name.now) s.label; mnemonic = s.mnemonic; operand = operand_of s.operand }

-- the bytes are source of these statements
abbrev pub Sources : List ℕ → List grammar.Statement → Type 0
Sources text ss = grammar.IsSourceOf (items_at text 0) ss

-- The reader's answer for a text that isn't source: the fault at the least offset. Memory can only run out where at
-- least one whole statement stands.
abbrev pub FaultFits : List ℕ → TextFault → Type 0
FaultFits text fault = grammar.HasFault (items_at text 0) fault ⊎ ((fault ≡ Memory) × grammar.BeginsWithStatement (items_at text 0))
