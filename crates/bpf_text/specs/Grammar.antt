-- The grammar of filter source: the operands of each mnemonic, statements and texts, as Linux's tools/bpf/bpf_exp.y has
-- them. A form says which tokens may stand and what they mean; `Spells` says which lists of tokens have a form. The faults
-- of a text stand after it.
use Rattle.std.specs.Prelude.{ℕ, ◌-◌, ◌%◌, ◌^◌, ◌≡◌, ◌⊎◌, Bool, true, false, ◌==◌, ◌||◌, List, [], ◌∷◌, ◌++◌, map, Option, Some, None, nat_lt, nat_le, if◌then◌else◌, option_map}
use Rattle.std.specs.Option.{option_or}
use Rattle.bpf_text.specs.declared.fault.TextFault.{TextFault}
use Rattle.bpf_text.specs.declared.fault.TextFault.TheVariants.{Number, Form as FormAt, ReservedLabel}
use Rattle.bpf_text.specs.declared.keyword.Mnemonic.{Mnemonic}
use Rattle.bpf_text.specs.declared.keyword.Mnemonic.TheVariants.{Ld, Ldi, Ldh, Ldb, Ldx, Ldxi, Ldxb, St, Stx, Jmp, Ja, Jeq, Jneq, Jne, Jlt, Jle, Jgt, Jge, Jset, Add, Sub, Mul, Div, Mod, Neg, And, Or, Xor, Lsh, Rsh, Tax, Txa, Ret}
use Rattle.bpf_text.specs.declared.keyword.Keyword.TheVariants.{Mnemonic as Named, X as WordX, A as WordA, M as WordM, Len as WordLen}
use Rattle.bpf_text.specs.declared.statement.Source.{Source}
use Rattle.bpf_text.specs.declared.statement.Source.TheVariants.{K, X}
use Rattle.bpf_text.specs.Tokens.{Token, Word, Name, Num, Mark, Lexeme, Item, Lexed, Bad, End, at_end}

-- ---- The statements that source says

-- an operand, with its names as bytes
pub data Operand : Type 0 where
  Nothing : Operand
  Immediate : ℕ → Operand
  Absolute : ℕ → Operand
  Indirect : ℕ → Operand
  Scratch : ℕ → Operand
  HeaderLength : ℕ → Operand
  Len : Operand
  Value : Source → Operand
  A : Operand
  Target : List ℕ → Operand
  Branch : Source → List ℕ → Option (List ℕ) → Operand

-- a statement: the offset of its first token, its label, its mnemonic and its operand
pub record Statement : Type 0 where
  pub at : ℕ
  pub label : Option (List ℕ)
  pub mnemonic : Mnemonic
  pub operand : Operand

-- ---- Symbols: each stands for one token

pub data Symbol : Type 0 where
  Sign : ℕ → Symbol  -- this mark
  TheX : Symbol  -- one of these words, in either case
  TheA : Symbol
  TheM : Symbol
  TheLen : Symbol
  Exactly : ℕ → Symbol  -- a number token of this value
  Size : Symbol  -- a number token of at most 2^32 - 1
  Opposite : Symbol  -- a number token of at most 2^31: what stands after a -
  AnyName : Symbol  -- a name that is no keyword
  AnyMnemonic : Symbol

-- the value that the token says
abbrev pub Said : Symbol → Type 0
Said Size = ℕ
Said Opposite = ℕ
Said AnyName = List ℕ
Said AnyMnemonic = Mnemonic
Said _ = Unit {0}

abbrev pub when : {T : Type 0} → Bool → T → Option T
when b x = if b then Some x else None

-- the value that the token says as this symbol, if it is one
abbrev pub fits : (s : Symbol) → Token → Option (Said s)
fits (Sign mark) (Mark b) = when (b == mark) tt
fits TheX (Word WordX) = Some tt
fits TheA (Word WordA) = Some tt
fits TheM (Word WordM) = Some tt
fits TheLen (Word WordLen) = Some tt
fits (Exactly n) (Num m) = when (m == n) tt
fits Size (Num n) = when (nat_lt n (2 ^ 32)) n
fits Opposite (Num n) = when (nat_le n (2 ^ 31)) ((2 ^ 32 - n) % 2 ^ 32)
fits AnyName (Name name) = Some name
fits AnyMnemonic (Word (Named m)) = Some m
fits s token = None

-- ---- Forms: lists of symbols, with alternatives

pub data Form : Type 0 where
  Gives : Statement → Form
  Then : (s : Symbol) → (Said s → Form) → Form
  Either : Form → Form → Form

infixr 5 ◌or◌
abbrev pub ◌or◌ : Form → Form → Form
f or g = Either f g

abbrev pub mark : ℕ → Form → Form
mark b f = Then (Sign b) (λ _. f)

-- the tokens have the form and mean the statement
abbrev pub Spells : Form → List Token → Statement → Type 0
Spells (Gives s) [] t = s ≡ t
Spells (Gives s) (token ∷ tokens) t = ⊥
Spells (Then s f) [] t = ⊥
Spells (Then s f) (token ∷ tokens) t = (said : Said s) × (fits s token ≡ Some said) × Spells (f said) tokens t
Spells (Either f g) tokens t = Spells f tokens t ⊎ Spells g tokens t

-- ---- Operands

-- n: a number with at most one sign, modulo 2^32
abbrev pub number : (ℕ → Form) → Form
number f = Then Size f or mark 43 (Then Size f) or mark 45 (Then Opposite f)

-- R: x or %x
abbrev pub register : Form → Form
register f = Then TheX (λ _. f) or mark 37 (Then TheX (λ _. f))

-- all that stands after [: n] or R + n]
abbrev pub packet : (Operand → Form) → Form
packet f = register (mark 43 (number (λ n. mark 93 (f (Indirect n))))) or number (λ n. mark 93 (f (Absolute n)))

-- M[n]
abbrev pub scratch : (Operand → Form) → Form
scratch f = Then TheM (λ _. mark 91 (number (λ n. mark 93 (f (Scratch n)))))

-- 4*([n]&0xf)
abbrev pub header_length : (Operand → Form) → Form
header_length f = Then (Exactly 4) (λ _. mark 42 (mark 40 (mark 91 (number (λ n. mark 93 (mark 38 (Then (Exactly 15) (λ _. mark 41 (f (HeaderLength n))))))))))

-- #n
abbrev pub immediate : (Operand → Form) → Form
immediate f = mark 35 (number (λ n. f (Immediate n)))

-- len
abbrev pub length_word : (Operand → Form) → Form
length_word f = Then TheLen (λ _. f Len)

-- #len or #n
abbrev pub immediate_or_length : (Operand → Form) → Form
immediate_or_length f = mark 35 (length_word f or number (λ n. f (Immediate n)))

-- #n or R
abbrev pub source : (Source → Form) → Form
source f = mark 35 (number (λ n. f (K n))) or register (f X)

-- the name of a target
abbrev pub target : (List ℕ → Form) → Form
target f = Then AnyName f

-- #n, T or R, T; and with a second target
abbrev pub branch : (Source → List ℕ → Form) → Form
branch f = source (λ s. mark 44 (target (f s)))

abbrev pub one_way : (Operand → Form) → Form
one_way f = branch (λ s t. f (Branch s t None))

abbrev pub two_way : (Operand → Form) → Form
two_way f = branch (λ s t. mark 44 (target (λ e. f (Branch s t (Some e)))) or f (Branch s t None))

-- the operands of each mnemonic
abbrev pub operand : Mnemonic → (Operand → Form) → Form
operand Ld f = mark 91 (packet f) or immediate_or_length f or scratch f or length_word f
operand Ldi f = immediate f or number (λ n. f (Immediate n))
operand Ldxi f = immediate f or number (λ n. f (Immediate n))
operand Ldh f = mark 91 (packet f)
operand Ldb f = mark 91 (packet f)
operand Ldx f = immediate_or_length f or scratch f or length_word f or header_length f
operand Ldxb f = header_length f
operand St f = scratch f
operand Stx f = scratch f
operand Jmp f = target (λ t. f (Target t))
operand Ja f = target (λ t. f (Target t))
operand Jeq f = two_way f
operand Jgt f = two_way f
operand Jge f = two_way f
operand Jset f = two_way f
operand Jneq f = one_way f
operand Jne f = one_way f
operand Jlt f = one_way f
operand Jle f = one_way f
operand Neg f = f Nothing
operand Tax f = f Nothing
operand Txa f = f Nothing
operand Ret f = immediate f or Then TheA (λ _. f A) or mark 37 (Then TheA (λ _. f A))
operand Add f = source (λ s. f (Value s))
operand Sub f = source (λ s. f (Value s))
operand Mul f = source (λ s. f (Value s))
operand Div f = source (λ s. f (Value s))
operand Mod f = source (λ s. f (Value s))
operand And f = source (λ s. f (Value s))
operand Or f = source (λ s. f (Value s))
operand Xor f = source (λ s. f (Value s))
operand Lsh f = source (λ s. f (Value s))
operand Rsh f = source (λ s. f (Value s))

-- ---- Statements and texts

-- a mnemonic and its operand
abbrev pub instruction : ℕ → Option (List ℕ) → Form
instruction at label = Then AnyMnemonic (λ m. operand m (λ o. Gives (record { at = at; label = label; mnemonic = m; operand = o })))

-- with a label and its colon before it
abbrev pub labelled : ℕ → Form
labelled at = Then AnyName (λ label. mark 58 (instruction at (Some label)))

-- the form of the statements that begin at an offset
abbrev pub statement : ℕ → Form
statement at = labelled at or instruction at None

abbrev pub token_of : Lexeme → Token
token_of lexeme = lexeme.token

-- the tokens are this statement
abbrev pub IsStatement : List Lexeme → Statement → Type 0
IsStatement [] s = ⊥
IsStatement (first ∷ lexemes) s = Spells (statement first.at) (map token_of (first ∷ lexemes)) s

-- the tokens are these statements, one after the other
abbrev pub AreStatements : List Lexeme → List Statement → Type 0
AreStatements lexemes [] = lexemes ≡ []
AreStatements lexemes (s ∷ ss) = (first : List Lexeme) × (rest : List Lexeme) × (lexemes ≡ first ++ rest) × IsStatement first s × AreStatements rest ss

-- the items are source of the statements: these and no others stand before the end
abbrev pub IsSourceOf : List Item → List Statement → Type 0
IsSourceOf items ss = (lexemes : List Lexeme) × (at : ℕ) × (items ≡ map Lexed lexemes ++ End at ∷ []) × AreStatements lexemes ss

-- ---- Faults: the first item with which nothing goes on

-- the rest of a form that may follow, after the token as its first
abbrev pub after : Form → Token → Option Form
after (Gives s) token = None
after (Then s f) token = option_map f (fits s token)
after (Either f g) token = option_or (after f token) (after g token)

-- the statement that stands where nothing more needs to follow
abbrev pub whole : Form → Option Statement
whole (Gives s) = Some s
whole (Then s f) = None
whole (Either f g) = option_or (whole f) (whole g)

abbrev pub is_name : Symbol → Bool
is_name AnyName = true
is_name _ = false

abbrev pub is_size : Symbol → Bool
is_size Size = true
is_size Opposite = true
is_size _ = false

-- a symbol of this kind may stand first
abbrev pub may_begin : (Symbol → Bool) → Form → Bool
may_begin kind (Gives s) = false
may_begin kind (Then s f) = kind s
may_begin kind (Either f g) = may_begin kind f || may_begin kind g

-- the fault of a token that can't stand first: a keyword in the place of a name, a number that is too large, or any other
abbrev pub refusal_of : Form → ℕ → Token → TextFault
refusal_of f at (Word k) = if may_begin is_name f then ReservedLabel at else FormAt at
refusal_of f at (Name name) = FormAt at
refusal_of f at (Num n) = if may_begin is_size f then Number at else FormAt at
refusal_of f at (Mark b) = FormAt at

-- the first item can't stand here
abbrev pub IsRefused : Form → List Item → TextFault → Type 0
IsRefused f [] fault = fault ≡ FormAt 0
IsRefused f (Lexed lexeme ∷ items) fault = (after f lexeme.token ≡ None) × (fault ≡ refusal_of f lexeme.at lexeme.token)
IsRefused f (Bad lexical ∷ items) fault = fault ≡ lexical
IsRefused f (End at ∷ items) fault = fault ≡ FormAt at

-- the rest of a form that may follow, after the tokens
abbrev pub Leaves : Form → List Lexeme → Form → Type 0
Leaves f [] g = f ≡ g
Leaves f (lexeme ∷ lexemes) g = (h : Form) × (after f lexeme.token ≡ Some h) × Leaves h lexemes g

-- A statement is read one token ahead at its start: before a colon only a name may stand, its label.
abbrev pub is_colon : Token → Bool
is_colon (Mark b) = b == 58
is_colon _ = false

abbrev pub form_at : List Item → Form
form_at (Lexed first ∷ Lexed second ∷ items) = if is_colon second.token then labelled first.at else statement first.at
form_at (Lexed first ∷ items) = statement first.at
form_at items = statement 0

-- the items begin with these tokens of a form, and what is left of it can't go on with the next item
abbrev pub Stops : Form → List Item → Form → List Item → TextFault → Type 0
Stops f items g rest fault = (lexemes : List Lexeme) × (items ≡ map Lexed lexemes ++ rest) × Leaves f lexemes g × IsRefused g rest fault

-- statements stand whole, one after the other, up to the rest: none can go on
abbrev pub AreWhole : List Item → List Statement → List Item → Type 0
AreWhole items [] rest = items ≡ rest
AreWhole items (s ∷ ss) rest = (g : Form) × (next : List Item) × (fault : TextFault) × Stops (form_at items) items g next fault × (whole g ≡ Some s) × AreWhole next ss rest

-- after whole statements one has begun that can't go on, and isn't whole: the fault of the first item that can't stand
abbrev pub HasFault : List Item → TextFault → Type 0
HasFault items fault = (ss : List Statement) × (begun : List Item) × (g : Form) × (rest : List Item) × AreWhole items ss begun × (at_end begun ≡ false) × Stops (form_at begun) begun g rest fault × (whole g ≡ None)

-- at least one whole statement stands at the front
abbrev pub BeginsWithStatement : List Item → Type 0
BeginsWithStatement items = (s : Statement) × (lexemes : List Lexeme) × (rest : List Item) × (items ≡ map Lexed lexemes ++ rest) × IsStatement lexemes s
