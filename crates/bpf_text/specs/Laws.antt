-- Laws of filter source, which hold of the definitions alone.
use Rattle.std.specs.Prelude.{ℕ, List, ◌∷◌, ◌++◌, map, None, ◌≡◌, ◌⊎◌}
use Rattle.bpf_text.specs.declared.fault.TextFault.{TextFault}
use Rattle.bpf_text.specs.Tokens.{Token, Lexeme, items_at}
use Rattle.bpf_text.specs.Grammar.{Statement, Form, Spells, statement, token_of, after, Leaves, HasFault}
use Rattle.bpf_text.specs.Meaning.{Sources}

-- A text is source of one list of statements, or it has one fault: never two of them, and never neither.
abbrev pub OneReading : List ℕ → Type 0
OneReading text =
    ((ss ts : List Statement) → Sources text ss → Sources text ts → ss ≡ ts)
    × ((fault other : TextFault) → HasFault (items_at text 0) fault → HasFault (items_at text 0) other → fault ≡ other)
    × ((ss : List Statement) (fault : TextFault) → Sources text ss → HasFault (items_at text 0) fault → ⊥)
    × (((ss : List Statement) × Sources text ss) ⊎ ((fault : TextFault) × HasFault (items_at text 0) fault))

-- The rest of the form of statements after some tokens is what may follow them: the same tokens end a statement, there
-- are such tokens, and none of them begin with a token that is refused.
abbrev pub LeavesWhatMayFollow : Type 0
LeavesWhatMayFollow = (at : ℕ) (lexemes : List Lexeme) (left : Form) → Leaves (statement at) lexemes left
    → ((tokens : List Token) (s : Statement) → Spells left tokens s → Spells (statement at) (map token_of lexemes ++ tokens) s)
    × ((tokens : List Token) (s : Statement) → Spells (statement at) (map token_of lexemes ++ tokens) s → Spells left tokens s)
    × ((tokens : List Token) × (s : Statement) × Spells left tokens s)
    × ((token : Token) (tokens : List Token) (s : Statement) → after left token ≡ None → Spells left (token ∷ tokens) s → ⊥)
