-- The line of an instruction is source of a statement.
use Rattle.std.proofs.Common.{◌≡◌, ℕ, ◌+◌, ◌^◌, ◌<◌, ◌≤◌, Bool, true, List, [], ◌∷◌, ◌++◌, Some, refl, sym, ap, subst, ◌∙◌, arith, nat_lt, inl, inr}
use Rattle.std.proofs.lemmas.List.{append_assoc, append-nil}
use Rattle.std.proofs.lemmas.Bool.Decides.{nat_tests}
use Rattle.std.specs.Prelude.{decimal, codes}
use Rattle.bpf_isa.specs.declared.source.Source.{Source}
use Rattle.bpf_isa.specs.declared.source.Source.TheVariants.{K, X}
use Rattle.bpf_isa.specs.declared.load.Size.TheVariants.{Word, Half, Byte}
use Rattle.bpf_isa.specs.declared.load.Load.TheVariants as load
use Rattle.bpf_isa.specs.declared.load_x.LoadX.TheVariants as load_x
use Rattle.bpf_isa.specs.declared.store.Store.TheVariants as store
use Rattle.bpf_isa.specs.declared.alu.Operator.{Operator}
use Rattle.bpf_isa.specs.declared.alu.Operator.TheVariants as operator
use Rattle.bpf_isa.specs.declared.alu.Alu.TheVariants as alu
use Rattle.bpf_isa.specs.declared.jump.Condition.{Condition}
use Rattle.bpf_isa.specs.declared.jump.Condition.TheVariants as condition
use Rattle.bpf_isa.specs.declared.jump.Jump.TheVariants as jump
use Rattle.bpf_isa.specs.declared.returns.Return.TheVariants as return
use Rattle.bpf_isa.specs.declared.moves.Move.TheVariants as move
use Rattle.bpf_isa.specs.declared.insn.Insn.{Insn}
use Rattle.bpf_isa.specs.declared.insn.Insn.TheVariants as insn
use Rattle.bpf_isa.specs.Insns.{packed_insn}
use Rattle.bpf_isa.specs.Numeric.{IsPacked}
use Rattle.bpf_text.specs.declared.keyword.Mnemonic.{Mnemonic}
use Rattle.bpf_text.specs.declared.keyword.Mnemonic.TheVariants.{Ld, Ldh, Ldb, Ldx, Ldxb, St, Stx, Ja, Jeq, Jgt, Jge, Jset, Add, Sub, Mul, Div, Mod, Neg, And, Or, Xor, Lsh, Rsh, Tax, Txa, Ret}
use Rattle.bpf_text.specs.declared.statement.Source as text
use Rattle.bpf_text.specs.declared.statement.Source.TheVariants as text_source
use Rattle.bpf_text.specs.Keywords.{keywords, keyword_of}
use Rattle.bpf_text.specs.Tokens.{Name, Num, name_token, word_item}
use Rattle.bpf_text.specs.Grammar.{Operand, Statement, Nothing, Immediate, Absolute, Indirect, Scratch, HeaderLength, Len, Value, A, Target, Branch, Form, Gives, Spells, Size, AnyMnemonic, fits, when, mark, packet, scratch, header_length, immediate, immediate_or_length, length_word, source, two_way, operand, instruction}
use Rattle.bpf_asm.specs.Listing.{source_text, operator_name, condition_name, label_text, insn_text}
use Rattle.bpf_asm.proofs.Parts.{Part, Space, Point, Spelt, text_of, tokens_of, IsSpelt, IsSound, AreSound, laid, decimal_spelt, label_spelt, name_spelt}

-- ---- the parts of an instruction

abbrev pub number_part : ℕ → Part
number_part k = Spelt (decimal k) (Num k)

abbrev pub label_part : ℕ → Part
label_part index = Spelt (label_text index) (Name (label_text index))

abbrev pub key_part : List ℕ → Part
key_part word = Spelt word (name_token word)

-- a mnemonic and the space after it
abbrev after : List ℕ → List Part → List Part
after word parts = key_part word ∷ Space 32 ∷ parts

-- #k or x
abbrev source_parts : Source → List Part → List Part
source_parts (K k) parts = Point 35 ∷ number_part k ∷ parts
source_parts X parts = key_part (codes "x") ∷ parts

-- [k], [x + k] and M[k]
abbrev absolute_parts : ℕ → List Part
absolute_parts k = Point 91 ∷ number_part k ∷ Point 93 ∷ []

abbrev indirect_parts : ℕ → List Part
indirect_parts k = Point 91 ∷ key_part (codes "x") ∷ Space 32 ∷ Point 43 ∷ Space 32 ∷ number_part k ∷ Point 93 ∷ []

abbrev scratch_parts : ℕ → List Part
scratch_parts k = key_part (codes "M") ∷ absolute_parts k

abbrev immediate_parts : ℕ → List Part
immediate_parts k = Point 35 ∷ number_part k ∷ []

-- 4*([k]&0xf)
abbrev header_length_parts : ℕ → List Part
header_length_parts k =
    Spelt (codes "4") (Num 4) ∷ Point 42 ∷ Point 40 ∷ Point 91 ∷ number_part k ∷ Point 93 ∷ Point 38 ∷ Spelt (codes "0xf") (Num 15) ∷ Point 41 ∷ []

abbrev targets_parts : ℕ → ℕ → List Part
targets_parts first second = Point 44 ∷ Space 32 ∷ label_part first ∷ Point 44 ∷ Space 32 ∷ label_part second ∷ []

abbrev pub insn_parts : ℕ → Insn → List Part
insn_parts at (insn.Load (load.Immediate k)) = after (codes "ld") (immediate_parts k)
insn_parts at (insn.Load (load.Absolute Word k)) = after (codes "ld") (absolute_parts k)
insn_parts at (insn.Load (load.Absolute Half k)) = after (codes "ldh") (absolute_parts k)
insn_parts at (insn.Load (load.Absolute Byte k)) = after (codes "ldb") (absolute_parts k)
insn_parts at (insn.Load (load.Indirect Word k)) = after (codes "ld") (indirect_parts k)
insn_parts at (insn.Load (load.Indirect Half k)) = after (codes "ldh") (indirect_parts k)
insn_parts at (insn.Load (load.Indirect Byte k)) = after (codes "ldb") (indirect_parts k)
insn_parts at (insn.Load (load.Scratch k)) = after (codes "ld") (scratch_parts k)
insn_parts at (insn.Load load.Length) = after (codes "ld") (key_part (codes "len") ∷ [])
insn_parts at (insn.LoadX (load_x.Immediate k)) = after (codes "ldx") (immediate_parts k)
insn_parts at (insn.LoadX (load_x.Scratch k)) = after (codes "ldx") (scratch_parts k)
insn_parts at (insn.LoadX load_x.Length) = after (codes "ldx") (key_part (codes "len") ∷ [])
insn_parts at (insn.LoadX (load_x.HeaderLength k)) = after (codes "ldxb") (header_length_parts k)
insn_parts at (insn.Store (store.A k)) = after (codes "st") (scratch_parts k)
insn_parts at (insn.Store (store.X k)) = after (codes "stx") (scratch_parts k)
insn_parts at (insn.Alu (alu.Binary o source)) = after (operator_name o) (source_parts source [])
insn_parts at (insn.Alu alu.Negate) = key_part (codes "neg") ∷ []
insn_parts at (insn.Jump (jump.Always k)) = after (codes "ja") (label_part (at + 1 + k) ∷ [])
insn_parts at (insn.Jump (jump.If c source jt jf)) = after (condition_name c) (source_parts source (targets_parts (at + 1 + jt) (at + 1 + jf)))
insn_parts at (insn.Return (return.K k)) = after (codes "ret") (immediate_parts k)
insn_parts at (insn.Return return.A) = after (codes "ret") (key_part (codes "a") ∷ [])
insn_parts at (insn.Move move.AToX) = key_part (codes "tax") ∷ []
insn_parts at (insn.Move move.XToA) = key_part (codes "txa") ∷ []

end_text : (k : ℕ) → decimal k ++ [] ≡ decimal k
end_text k = append-nil (decimal k)

source_end : (source : Source) → text_of (source_parts source []) ≡ source_text source
source_end (K k) = ap (λ (t : List ℕ). 35 ∷ t) (end_text k)
source_end X = refl

targets_text : (first second : ℕ) → text_of (targets_parts first second) ≡ codes ", " ++ (label_text first ++ (codes ", " ++ label_text second))
targets_text first second = ap (λ (t : List ℕ). 44 ∷ 32 ∷ (label_text first ++ (44 ∷ 32 ∷ 76 ∷ t))) (end_text second)

seven : (a b c d e f g : List ℕ) → a ++ b ++ c ++ d ++ e ++ f ++ g ≡ a ++ (b ++ (c ++ (d ++ (e ++ (f ++ g)))))
seven a b c d e f g =
    append_assoc (a ++ b ++ c ++ d ++ e) f g ∙ append_assoc (a ++ b ++ c ++ d) e (f ++ g) ∙ append_assoc (a ++ b ++ c) d (e ++ (f ++ g))
    ∙ append_assoc (a ++ b) c (d ++ (e ++ (f ++ g))) ∙ append_assoc a b (c ++ (d ++ (e ++ (f ++ g))))

source_more : (source : Source) (parts : List Part) → text_of (source_parts source parts) ≡ source_text source ++ text_of parts
source_more (K k) parts = refl
source_more X parts = refl

pub insn_text_is : (at : ℕ) (i : Insn) → text_of (insn_parts at i) ≡ insn_text at i
insn_text_is at (insn.Load (load.Immediate k)) = ap (λ (t : List ℕ). codes "ld #" ++ t) (end_text k)
insn_text_is at (insn.Load (load.Absolute Word k)) = refl
insn_text_is at (insn.Load (load.Absolute Half k)) = refl
insn_text_is at (insn.Load (load.Absolute Byte k)) = refl
insn_text_is at (insn.Load (load.Indirect Word k)) = refl
insn_text_is at (insn.Load (load.Indirect Half k)) = refl
insn_text_is at (insn.Load (load.Indirect Byte k)) = refl
insn_text_is at (insn.Load (load.Scratch k)) = refl
insn_text_is at (insn.Load load.Length) = refl
insn_text_is at (insn.LoadX (load_x.Immediate k)) = ap (λ (t : List ℕ). codes "ldx #" ++ t) (end_text k)
insn_text_is at (insn.LoadX (load_x.Scratch k)) = refl
insn_text_is at (insn.LoadX load_x.Length) = refl
insn_text_is at (insn.LoadX (load_x.HeaderLength k)) = refl
insn_text_is at (insn.Store (store.A k)) = refl
insn_text_is at (insn.Store (store.X k)) = refl
insn_text_is at (insn.Alu (alu.Binary o source)) = ap (λ (t : List ℕ). operator_name o ++ (32 ∷ t)) (source_end source) ∙ sym (append_assoc (operator_name o) (codes " ") (source_text source))
insn_text_is at (insn.Alu alu.Negate) = refl
insn_text_is at (insn.Jump (jump.Always k)) = ap (λ (t : List ℕ). codes "ja L" ++ t) (end_text (at + 1 + k))
insn_text_is at (insn.Jump (jump.If c source jt jf)) =
    let first : ℕ = at + 1 + jt in
    let second : ℕ = at + 1 + jf in
    ap (λ (t : List ℕ). condition_name c ++ (32 ∷ t)) (source_more source (targets_parts first second) ∙ ap (λ (t : List ℕ). source_text source ++ t) (targets_text first second))
    ∙ sym (seven (condition_name c) (codes " ") (source_text source) (codes ", ") (label_text first) (codes ", ") (label_text second))
insn_text_is at (insn.Return (return.K k)) = ap (λ (t : List ℕ). codes "ret #" ++ t) (end_text k)
insn_text_is at (insn.Return return.A) = refl
insn_text_is at (insn.Move move.AToX) = refl
insn_text_is at (insn.Move move.XToA) = refl

-- ---- the parts are laid as tokens

pub insn_laid : (at : ℕ) (i : Insn) (rest : List Part) → laid 32 (insn_parts at i ++ Space 10 ∷ rest) ≡ laid 10 rest
insn_laid at (insn.Load (load.Immediate k)) rest = refl
insn_laid at (insn.Load (load.Absolute Word k)) rest = refl
insn_laid at (insn.Load (load.Absolute Half k)) rest = refl
insn_laid at (insn.Load (load.Absolute Byte k)) rest = refl
insn_laid at (insn.Load (load.Indirect Word k)) rest = refl
insn_laid at (insn.Load (load.Indirect Half k)) rest = refl
insn_laid at (insn.Load (load.Indirect Byte k)) rest = refl
insn_laid at (insn.Load (load.Scratch k)) rest = refl
insn_laid at (insn.Load load.Length) rest = refl
insn_laid at (insn.LoadX (load_x.Immediate k)) rest = refl
insn_laid at (insn.LoadX (load_x.Scratch k)) rest = refl
insn_laid at (insn.LoadX load_x.Length) rest = refl
insn_laid at (insn.LoadX (load_x.HeaderLength k)) rest = refl
insn_laid at (insn.Store (store.A k)) rest = refl
insn_laid at (insn.Store (store.X k)) rest = refl
insn_laid at (insn.Alu (alu.Binary o (K k))) rest = refl
insn_laid at (insn.Alu (alu.Binary o X)) rest = refl
insn_laid at (insn.Alu alu.Negate) rest = refl
insn_laid at (insn.Jump (jump.Always k)) rest = refl
insn_laid at (insn.Jump (jump.If c (K k) jt jf)) rest = refl
insn_laid at (insn.Jump (jump.If c X jt jf)) rest = refl
insn_laid at (insn.Return (return.K k)) rest = refl
insn_laid at (insn.Return return.A) rest = refl
insn_laid at (insn.Move move.AToX) rest = refl
insn_laid at (insn.Move move.XToA) rest = refl

-- ---- the parts are sound

-- the targets of the instruction at an index lie before the end
abbrev pub Reaches : ℕ → ℕ → Insn → Type 0
Reaches len at (insn.Jump (jump.Always k)) = at + 1 + k < len
Reaches len at (insn.Jump (jump.If c source jt jf)) = (at + 1 + jt < len) × (at + 1 + jf < len)
Reaches len at i = Unit {0}

four : IsSpelt (codes "4") (Num 4)
unfolding word_item Rattle.bpf_text.specs.Numbers.number_of
four = record { some = refl; bytes = refl; item = λ at. refl }

fifteen : IsSpelt (codes "0xf") (Num 15)
unfolding word_item Rattle.bpf_text.specs.Numbers.number_of
fifteen = record { some = refl; bytes = refl; item = λ at. refl }

the_x : IsSpelt (codes "x") (name_token (codes "x"))
the_x = name_spelt (codes "x") refl refl refl

number_sound : (k : ℕ) → k < 2 ^ 32 → IsSound (number_part k)
number_sound k small = decimal_spelt k small

absolute_sound : (k : ℕ) → k < 2 ^ 32 → AreSound (absolute_parts k)
absolute_sound k small = (refl, (number_sound k small, (refl, tt)))

indirect_sound : (k : ℕ) → k < 2 ^ 32 → AreSound (indirect_parts k)
indirect_sound k small = (refl, (the_x, (refl, (refl, (refl, (number_sound k small, (refl, tt)))))))

scratch_sound : (k : ℕ) → k < 2 ^ 32 → AreSound (scratch_parts k)
scratch_sound k small = (name_spelt (codes "M") refl refl refl, absolute_sound k small)

immediate_sound : (k : ℕ) → k < 2 ^ 32 → AreSound (immediate_parts k)
immediate_sound k small = (refl, (number_sound k small, tt))

header_length_sound : (k : ℕ) → k < 2 ^ 32 → AreSound (header_length_parts k)
header_length_sound k small = (four, (refl, (refl, (refl, (number_sound k small, (refl, (refl, (fifteen, (refl, tt)))))))))

label_sound : (index : ℕ) → index < 2 ^ 32 → IsSound (label_part index)
label_sound index small = label_spelt index small

targets_sound : (first second : ℕ) → first < 2 ^ 32 → second < 2 ^ 32 → AreSound (targets_parts first second)
targets_sound first second a b = (refl, (refl, (label_sound first a, (refl, (refl, (label_sound second b, tt))))))

operator_sound : (o : Operator) → IsSound (key_part (operator_name o))
operator_sound operator.Add = name_spelt (codes "add") refl refl refl
operator_sound operator.Sub = name_spelt (codes "sub") refl refl refl
operator_sound operator.Mul = name_spelt (codes "mul") refl refl refl
operator_sound operator.Div = name_spelt (codes "div") refl refl refl
operator_sound operator.Or = name_spelt (codes "or") refl refl refl
operator_sound operator.And = name_spelt (codes "and") refl refl refl
operator_sound operator.Lsh = name_spelt (codes "lsh") refl refl refl
operator_sound operator.Rsh = name_spelt (codes "rsh") refl refl refl
operator_sound operator.Mod = name_spelt (codes "mod") refl refl refl
operator_sound operator.Xor = name_spelt (codes "xor") refl refl refl

condition_sound : (c : Condition) → IsSound (key_part (condition_name c))
condition_sound condition.Equal = name_spelt (codes "jeq") refl refl refl
condition_sound condition.Greater = name_spelt (codes "jgt") refl refl refl
condition_sound condition.AtLeast = name_spelt (codes "jge") refl refl refl
condition_sound condition.SharesBits = name_spelt (codes "jset") refl refl refl

pub insn_sound : (len at : ℕ) (i : Insn) → len ≤ 4096 → Reaches len at i → IsPacked (packed_insn i) → AreSound (insn_parts at i)
insn_sound len at (insn.Load (load.Immediate k)) few reach packed = (name_spelt (codes "ld") refl refl refl, (refl, (immediate_sound k packed.k)))
insn_sound len at (insn.Load (load.Absolute Word k)) few reach packed = (name_spelt (codes "ld") refl refl refl, (refl, (absolute_sound k packed.k)))
insn_sound len at (insn.Load (load.Absolute Half k)) few reach packed = (name_spelt (codes "ldh") refl refl refl, (refl, (absolute_sound k packed.k)))
insn_sound len at (insn.Load (load.Absolute Byte k)) few reach packed = (name_spelt (codes "ldb") refl refl refl, (refl, (absolute_sound k packed.k)))
insn_sound len at (insn.Load (load.Indirect Word k)) few reach packed = (name_spelt (codes "ld") refl refl refl, (refl, (indirect_sound k packed.k)))
insn_sound len at (insn.Load (load.Indirect Half k)) few reach packed = (name_spelt (codes "ldh") refl refl refl, (refl, (indirect_sound k packed.k)))
insn_sound len at (insn.Load (load.Indirect Byte k)) few reach packed = (name_spelt (codes "ldb") refl refl refl, (refl, (indirect_sound k packed.k)))
insn_sound len at (insn.Load (load.Scratch k)) few reach packed = (name_spelt (codes "ld") refl refl refl, (refl, (scratch_sound k packed.k)))
insn_sound len at (insn.Load load.Length) few reach packed = (name_spelt (codes "ld") refl refl refl, (refl, ((name_spelt (codes "len") refl refl refl, tt))))
insn_sound len at (insn.LoadX (load_x.Immediate k)) few reach packed = (name_spelt (codes "ldx") refl refl refl, (refl, (immediate_sound k packed.k)))
insn_sound len at (insn.LoadX (load_x.Scratch k)) few reach packed = (name_spelt (codes "ldx") refl refl refl, (refl, (scratch_sound k packed.k)))
insn_sound len at (insn.LoadX load_x.Length) few reach packed = (name_spelt (codes "ldx") refl refl refl, (refl, ((name_spelt (codes "len") refl refl refl, tt))))
insn_sound len at (insn.LoadX (load_x.HeaderLength k)) few reach packed = (name_spelt (codes "ldxb") refl refl refl, (refl, (header_length_sound k packed.k)))
insn_sound len at (insn.Store (store.A k)) few reach packed = (name_spelt (codes "st") refl refl refl, (refl, (scratch_sound k packed.k)))
insn_sound len at (insn.Store (store.X k)) few reach packed = (name_spelt (codes "stx") refl refl refl, (refl, (scratch_sound k packed.k)))
insn_sound len at (insn.Alu (alu.Binary o (K k))) few reach packed = (operator_sound o, (refl, (immediate_sound k packed.k)))
insn_sound len at (insn.Alu (alu.Binary o X)) few reach packed = (operator_sound o, (refl, (the_x, tt)))
insn_sound len at (insn.Alu alu.Negate) few reach packed = (name_spelt (codes "neg") refl refl refl, tt)
insn_sound len at (insn.Jump (jump.Always k)) few reach packed = (name_spelt (codes "ja") refl refl refl, (refl, (label_sound (at + 1 + k) (omega (arith, few, reach)), tt)))
insn_sound len at (insn.Jump (jump.If c (K k) jt jf)) few reach packed =
    (condition_sound c, (refl, (refl, (number_sound k packed.k, targets_sound (at + 1 + jt) (at + 1 + jf) (omega (arith, few, reach.0)) (omega (arith, few, reach.1))))))
insn_sound len at (insn.Jump (jump.If c X jt jf)) few reach packed =
    (condition_sound c, (refl, (the_x, targets_sound (at + 1 + jt) (at + 1 + jf) (omega (arith, few, reach.0)) (omega (arith, few, reach.1)))))
insn_sound len at (insn.Return (return.K k)) few reach packed = (name_spelt (codes "ret") refl refl refl, (refl, (immediate_sound k packed.k)))
insn_sound len at (insn.Return return.A) few reach packed = (name_spelt (codes "ret") refl refl refl, (refl, ((name_spelt (codes "a") refl refl refl, tt))))
insn_sound len at (insn.Move move.AToX) few reach packed = (name_spelt (codes "tax") refl refl refl, tt)
insn_sound len at (insn.Move move.XToA) few reach packed = (name_spelt (codes "txa") refl refl refl, tt)

-- ---- the statement of an instruction

abbrev operator_mnemonic : Operator → Mnemonic
operator_mnemonic operator.Add = Add
operator_mnemonic operator.Sub = Sub
operator_mnemonic operator.Mul = Mul
operator_mnemonic operator.Div = Div
operator_mnemonic operator.Or = Or
operator_mnemonic operator.And = And
operator_mnemonic operator.Lsh = Lsh
operator_mnemonic operator.Rsh = Rsh
operator_mnemonic operator.Mod = Mod
operator_mnemonic operator.Xor = Xor

abbrev condition_mnemonic : Condition → Mnemonic
condition_mnemonic condition.Equal = Jeq
condition_mnemonic condition.Greater = Jgt
condition_mnemonic condition.AtLeast = Jge
condition_mnemonic condition.SharesBits = Jset

abbrev pub text_source_of : Source → text.Source
text_source_of (K k) = text_source.K k
text_source_of X = text_source.X

abbrev pub mnemonic_of : Insn → Mnemonic
mnemonic_of (insn.Load (load.Immediate k)) = Ld
mnemonic_of (insn.Load (load.Absolute Word k)) = Ld
mnemonic_of (insn.Load (load.Absolute Half k)) = Ldh
mnemonic_of (insn.Load (load.Absolute Byte k)) = Ldb
mnemonic_of (insn.Load (load.Indirect Word k)) = Ld
mnemonic_of (insn.Load (load.Indirect Half k)) = Ldh
mnemonic_of (insn.Load (load.Indirect Byte k)) = Ldb
mnemonic_of (insn.Load (load.Scratch k)) = Ld
mnemonic_of (insn.Load load.Length) = Ld
mnemonic_of (insn.LoadX (load_x.Immediate k)) = Ldx
mnemonic_of (insn.LoadX (load_x.Scratch k)) = Ldx
mnemonic_of (insn.LoadX load_x.Length) = Ldx
mnemonic_of (insn.LoadX (load_x.HeaderLength k)) = Ldxb
mnemonic_of (insn.Store (store.A k)) = St
mnemonic_of (insn.Store (store.X k)) = Stx
mnemonic_of (insn.Alu (alu.Binary o source)) = operator_mnemonic o
mnemonic_of (insn.Alu alu.Negate) = Neg
mnemonic_of (insn.Jump (jump.Always k)) = Ja
mnemonic_of (insn.Jump (jump.If c source jt jf)) = condition_mnemonic c
mnemonic_of (insn.Return (return.K k)) = Ret
mnemonic_of (insn.Return return.A) = Ret
mnemonic_of (insn.Move move.AToX) = Tax
mnemonic_of (insn.Move move.XToA) = Txa

abbrev pub operand_at : ℕ → Insn → Operand
operand_at at (insn.Load (load.Immediate k)) = Immediate k
operand_at at (insn.Load (load.Absolute size k)) = Absolute k
operand_at at (insn.Load (load.Indirect size k)) = Indirect k
operand_at at (insn.Load (load.Scratch k)) = Scratch k
operand_at at (insn.Load load.Length) = Len
operand_at at (insn.LoadX (load_x.Immediate k)) = Immediate k
operand_at at (insn.LoadX (load_x.Scratch k)) = Scratch k
operand_at at (insn.LoadX load_x.Length) = Len
operand_at at (insn.LoadX (load_x.HeaderLength k)) = HeaderLength k
operand_at at (insn.Store (store.A k)) = Scratch k
operand_at at (insn.Store (store.X k)) = Scratch k
operand_at at (insn.Alu (alu.Binary o source)) = Value (text_source_of source)
operand_at at (insn.Alu alu.Negate) = Nothing
operand_at at (insn.Jump (jump.Always k)) = Target (label_text (at + 1 + k))
operand_at at (insn.Jump (jump.If c source jt jf)) = Branch (text_source_of source) (label_text (at + 1 + jt)) (Some (label_text (at + 1 + jf)))
operand_at at (insn.Return (return.K k)) = Immediate k
operand_at at (insn.Return return.A) = A
operand_at at (insn.Move m) = Nothing

-- the statement at an offset, of the instruction at an index
abbrev pub listed : ℕ → ℕ → Insn → Statement
listed offset at i = record { at = offset; label = Some (label_text at); mnemonic = mnemonic_of i; operand = operand_at at i }

-- ---- its tokens

size_fits : (k : ℕ) → k < 2 ^ 32 → fits Size (Num k) ≡ Some k
size_fits k small = ap (λ (b : Bool). when b k) (let below : nat_lt k (2 ^ 32) ≡ true = grind (arith, nat_tests, small) in below)

-- the number that a second operand has, if it has one
abbrev k_of : Source → ℕ
k_of (K k) = k
k_of X = 0

alu_k : (o : Operator) (s : Source) → IsPacked (packed_insn (insn.Alu (alu.Binary o s))) → k_of s < 2 ^ 32
alu_k o (K k) packed = packed.k
alu_k o X packed = packed.k

jump_k : (c : Condition) (s : Source) (jt jf : ℕ) → IsPacked (packed_insn (insn.Jump (jump.If c s jt jf))) → k_of s < 2 ^ 32
jump_k c (K k) jt jf packed = packed.k
jump_k c X jt jf packed = packed.k

module _ (f : Operand → Form) (t : Statement) where
  spells_immediate : (k : ℕ) → k < 2 ^ 32 → Spells (f (Immediate k)) [] t → Spells (immediate f) (tokens_of (immediate_parts k)) t
  spells_immediate k small more = (tt, refl, inl (k, size_fits k small, more))

  spells_immediate_or_length : (k : ℕ) → k < 2 ^ 32 → Spells (f (Immediate k)) [] t → Spells (immediate_or_length f) (tokens_of (immediate_parts k)) t
  spells_immediate_or_length k small more = (tt, refl, inr (inl (k, size_fits k small, more)))

  spells_absolute : (k : ℕ) → k < 2 ^ 32 → Spells (f (Absolute k)) [] t → Spells (mark 91 (packet f)) (tokens_of (absolute_parts k)) t
  spells_absolute k small more = (tt, refl, inr (inl (k, size_fits k small, (tt, refl, more))))

  spells_indirect : (k : ℕ) → k < 2 ^ 32 → Spells (f (Indirect k)) [] t → Spells (mark 91 (packet f)) (tokens_of (indirect_parts k)) t
  unfolding keyword_of keywords
  spells_indirect k small more = (tt, refl, inl (inl (tt, refl, (tt, refl, inl (k, size_fits k small, (tt, refl, more))))))

  spells_scratch : (k : ℕ) → k < 2 ^ 32 → Spells (f (Scratch k)) [] t → Spells (scratch f) (tokens_of (scratch_parts k)) t
  unfolding keyword_of keywords
  spells_scratch k small more = (tt, refl, (tt, refl, inl (k, size_fits k small, (tt, refl, more))))

  spells_length : Spells (f Len) [] t → Spells (length_word f) (tokens_of (key_part (codes "len") ∷ [])) t
  unfolding keyword_of keywords
  spells_length more = (tt, refl, more)

  spells_header_length : (k : ℕ) → k < 2 ^ 32 → Spells (f (HeaderLength k)) [] t → Spells (header_length f) (tokens_of (header_length_parts k)) t
  spells_header_length k small more =
      (tt, refl, (tt, refl, (tt, refl, (tt, refl, inl (k, size_fits k small, (tt, refl, (tt, refl, (tt, refl, (tt, refl, more)))))))))

  spells_value : (s : Source) → (k_of s < 2 ^ 32) → Spells (f (Value (text_source_of s))) [] t → Spells (source (λ v. f (Value v))) (tokens_of (source_parts s [])) t
  unfolding keyword_of keywords
  spells_value (K k) small more = inl (tt, refl, inl (k, size_fits k small, more))
  spells_value X small more = inr (inl (tt, refl, more))

  spells_branch : (s : Source) (first second : ℕ) → k_of s < 2 ^ 32 → Spells (f (Branch (text_source_of s) (label_text first) (Some (label_text second)))) [] t →
      Spells (two_way f) (tokens_of (source_parts s (targets_parts first second))) t
  unfolding keyword_of keywords
  spells_branch (K k) first second small more = inl (tt, refl, inl (k, size_fits k small, (tt, refl, (label_text first, refl, inl (tt, refl, (label_text second, refl, more))))))
  spells_branch X first second small more = inr (inl (tt, refl, (tt, refl, (label_text first, refl, inl (tt, refl, (label_text second, refl, more))))))

operator_operand : (o : Operator) (f : Operand → Form) → operand (operator_mnemonic o) f ≡ source (λ v. f (Value v))
operator_operand operator.Add f = refl
operator_operand operator.Sub f = refl
operator_operand operator.Mul f = refl
operator_operand operator.Div f = refl
operator_operand operator.Or f = refl
operator_operand operator.And f = refl
operator_operand operator.Lsh f = refl
operator_operand operator.Rsh f = refl
operator_operand operator.Mod f = refl
operator_operand operator.Xor f = refl

operator_fits : (o : Operator) → fits AnyMnemonic (name_token (operator_name o)) ≡ Some (operator_mnemonic o)
unfolding keyword_of keywords
operator_fits operator.Add = refl
operator_fits operator.Sub = refl
operator_fits operator.Mul = refl
operator_fits operator.Div = refl
operator_fits operator.Or = refl
operator_fits operator.And = refl
operator_fits operator.Lsh = refl
operator_fits operator.Rsh = refl
operator_fits operator.Mod = refl
operator_fits operator.Xor = refl

condition_operand : (c : Condition) (f : Operand → Form) → operand (condition_mnemonic c) f ≡ two_way f
condition_operand condition.Equal f = refl
condition_operand condition.Greater f = refl
condition_operand condition.AtLeast f = refl
condition_operand condition.SharesBits f = refl

condition_fits : (c : Condition) → fits AnyMnemonic (name_token (condition_name c)) ≡ Some (condition_mnemonic c)
unfolding keyword_of keywords
condition_fits condition.Equal = refl
condition_fits condition.Greater = refl
condition_fits condition.AtLeast = refl
condition_fits condition.SharesBits = refl

module _ (offset at : ℕ) where
  abbrev gives : Mnemonic → Operand → Form
  gives m o = Gives (record { at = offset; label = Some (label_text at); mnemonic = m; operand = o })

  pub insn_spells : (i : Insn) → IsPacked (packed_insn i) → Spells (instruction offset (Some (label_text at))) (tokens_of (insn_parts at i)) (listed offset at i)
  unfolding keyword_of keywords
  insn_spells (insn.Load (load.Immediate k)) packed = (Ld, refl, inr (inl (spells_immediate_or_length (gives Ld) _ k packed.k refl)))
  insn_spells (insn.Load (load.Absolute Word k)) packed = (Ld, refl, inl (spells_absolute (gives Ld) _ k packed.k refl))
  insn_spells (insn.Load (load.Absolute Half k)) packed = (Ldh, refl, spells_absolute (gives Ldh) _ k packed.k refl)
  insn_spells (insn.Load (load.Absolute Byte k)) packed = (Ldb, refl, spells_absolute (gives Ldb) _ k packed.k refl)
  insn_spells (insn.Load (load.Indirect Word k)) packed = (Ld, refl, inl (spells_indirect (gives Ld) _ k packed.k refl))
  insn_spells (insn.Load (load.Indirect Half k)) packed = (Ldh, refl, spells_indirect (gives Ldh) _ k packed.k refl)
  insn_spells (insn.Load (load.Indirect Byte k)) packed = (Ldb, refl, spells_indirect (gives Ldb) _ k packed.k refl)
  insn_spells (insn.Load (load.Scratch k)) packed = (Ld, refl, inr (inr (inl (spells_scratch (gives Ld) _ k packed.k refl))))
  insn_spells (insn.Load load.Length) packed = (Ld, refl, inr (inr (inr (spells_length (gives Ld) _ refl))))
  insn_spells (insn.LoadX (load_x.Immediate k)) packed = (Ldx, refl, inl (spells_immediate_or_length (gives Ldx) _ k packed.k refl))
  insn_spells (insn.LoadX (load_x.Scratch k)) packed = (Ldx, refl, inr (inl (spells_scratch (gives Ldx) _ k packed.k refl)))
  insn_spells (insn.LoadX load_x.Length) packed = (Ldx, refl, inr (inr (inl (spells_length (gives Ldx) _ refl))))
  insn_spells (insn.LoadX (load_x.HeaderLength k)) packed = (Ldxb, refl, spells_header_length (gives Ldxb) _ k packed.k refl)
  insn_spells (insn.Store (store.A k)) packed = (St, refl, spells_scratch (gives St) _ k packed.k refl)
  insn_spells (insn.Store (store.X k)) packed = (Stx, refl, spells_scratch (gives Stx) _ k packed.k refl)
  insn_spells (insn.Alu (alu.Binary o s)) packed = (
    operator_mnemonic o,
    operator_fits o,
    subst (λ form. Spells form (tokens_of (source_parts s [])) (listed offset at (insn.Alu (alu.Binary o s)))) (sym (operator_operand o (gives (operator_mnemonic o))))
        (spells_value (gives (operator_mnemonic o)) _ s (alu_k o s packed) refl),
  )
  insn_spells (insn.Alu alu.Negate) packed = (Neg, refl, refl)
  insn_spells (insn.Jump (jump.Always k)) packed = (Ja, refl, (label_text (at + 1 + k), refl, refl))
  insn_spells (insn.Jump (jump.If c s jt jf)) packed = (
    condition_mnemonic c,
    condition_fits c,
    subst (λ form. Spells form (tokens_of (source_parts s (targets_parts (at + 1 + jt) (at + 1 + jf)))) (listed offset at (insn.Jump (jump.If c s jt jf)))) (sym (condition_operand c (gives (condition_mnemonic c))))
        (spells_branch (gives (condition_mnemonic c)) _ s (at + 1 + jt) (at + 1 + jf) (jump_k c s jt jf packed) refl),
  )
  insn_spells (insn.Return (return.K k)) packed = (Ret, refl, inl (spells_immediate (gives Ret) _ k packed.k refl))
  insn_spells (insn.Return return.A) packed = (Ret, refl, inr (inl (tt, refl, refl)))
  insn_spells (insn.Move move.AToX) packed = (Tax, refl, refl)
  insn_spells (insn.Move move.XToA) packed = (Txa, refl, refl)
