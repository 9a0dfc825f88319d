-- Tokens as lists of bytes, without where they lie in memory.
use Rattle.std.specs.Prelude.{ℕ, List, Result, Ok, Err}
use Rattle.bpf_text.specs.declared.fault.TextFault.{TextFault}
use Rattle.bpf_text.specs.declared.lexer.Token.{Token}
use Rattle.bpf_text.specs.declared.lexer.Token.TheVariants.{Keyword, Name, Number, Mark}
use Rattle.bpf_text.specs.declared.lexer.Lexeme.{Lexeme}
use Rattle.bpf_text.specs.declared.lexer.Lexer.{Lexer}
use Rattle.bpf_text.specs.Tokens as tokens

abbrev pub token_of : Token → tokens.Token
token_of (Keyword k) = tokens.Word k
token_of (Name name) = tokens.Name name.now
token_of (Number n) = tokens.Num n
token_of (Mark b) = tokens.Mark b

abbrev pub lexeme_of : Lexeme → tokens.Lexeme
lexeme_of lexeme = record { at = lexeme.at; token = token_of lexeme.token }

-- the items that a lexer has left
abbrev pub items : Lexer → List tokens.Item
items lexer = tokens.items_at lexer.text.now lexer.at

-- the item that a function read at an offset
abbrev pub item_of : ℕ → Result Token TextFault → tokens.Item
item_of at (Ok token) = tokens.Lexed (record { at = at; token = token_of token })
item_of at (Err fault) = tokens.Bad fault
