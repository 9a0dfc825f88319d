-- The words with a meaning of their own (bpf_asm's tools/bpf/bpf_exp.l), in either case.
use Rattle.std.specs.Prelude.{ℕ, List, [], ◌∷◌, Option, Some, None, codes, ◌==◌, slice_index, if◌then◌else◌}
use Rattle.std.specs.Char.{to_ascii_lowercase}
use Rattle.std.specs.Str.{str_eq_ignore_ascii_case}
use Rattle.bpf_text.specs.declared.keyword.Mnemonic.TheVariants.{Ld, Ldi, Ldh, Ldb, Ldx, Ldxi, Ldxb, St, Stx, Jmp, Ja, Jeq, Jneq, Jne, Jlt, Jle, Jgt, Jge, Jset, Add, Sub, Mul, Div, Mod, Neg, And, Or, Xor, Lsh, Rsh, Tax, Txa, Ret}
use Rattle.bpf_text.specs.declared.keyword.Keyword.{Keyword}
use Rattle.bpf_text.specs.declared.keyword.Keyword.TheVariants.{Mnemonic as Named, X, A, M, Len}

-- each keyword, in lower case
unfoldable pub keywords : List (List ℕ × Keyword)
keywords =
    (codes "ld", Named Ld) ∷ (codes "ldi", Named Ldi) ∷ (codes "ldh", Named Ldh) ∷ (codes "ldb", Named Ldb)
    ∷ (codes "ldx", Named Ldx) ∷ (codes "ldxi", Named Ldxi) ∷ (codes "ldxb", Named Ldxb)
    ∷ (codes "st", Named St) ∷ (codes "stx", Named Stx)
    ∷ (codes "jmp", Named Jmp) ∷ (codes "ja", Named Ja)
    ∷ (codes "jeq", Named Jeq) ∷ (codes "jneq", Named Jneq) ∷ (codes "jne", Named Jne) ∷ (codes "jlt", Named Jlt)
    ∷ (codes "jle", Named Jle) ∷ (codes "jgt", Named Jgt) ∷ (codes "jge", Named Jge) ∷ (codes "jset", Named Jset)
    ∷ (codes "add", Named Add) ∷ (codes "sub", Named Sub) ∷ (codes "mul", Named Mul) ∷ (codes "div", Named Div)
    ∷ (codes "mod", Named Mod) ∷ (codes "neg", Named Neg) ∷ (codes "and", Named And) ∷ (codes "or", Named Or)
    ∷ (codes "xor", Named Xor) ∷ (codes "lsh", Named Lsh) ∷ (codes "rsh", Named Rsh)
    ∷ (codes "tax", Named Tax) ∷ (codes "txa", Named Txa) ∷ (codes "ret", Named Ret)
    ∷ (codes "x", X) ∷ (codes "a", A) ∷ (codes "m", M) ∷ (codes "len", Len) ∷ []

-- the keyword of the first row that the name spells, in either case
abbrev pub keyword_in : List (List ℕ × Keyword) → List ℕ → Option Keyword
keyword_in [] name = None
keyword_in (row ∷ rows) name = if str_eq_ignore_ascii_case row.0 name then Some row.1 else keyword_in rows name

unfoldable pub keyword_of : List ℕ → Option Keyword
keyword_of name = keyword_in keywords name

-- the rows with this first letter
abbrev pub with_first : ℕ → List (List ℕ × Keyword) → List (List ℕ × Keyword)
with_first letter [] = []
with_first letter (row ∷ rows) = if to_ascii_lowercase (slice_index row.0 0) == letter then row ∷ with_first letter rows else with_first letter rows
