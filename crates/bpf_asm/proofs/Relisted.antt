-- The listing of a loaded program is source of that program.
use Rattle.std.proofs.Common.{◌≡◌, ℕ, zero, suc, ◌+◌, ◌-◌, ◌^◌, ◌<◌, ◌≤◌, ◌⊎◌, Bool, true, false, cond, ◌==◌, List, [], ◌∷◌, ◌++◌, length, map, take, slice_get, Option, Some, None, is_some, refl, sym, ap, subst, ◌∙◌, arith, inl, inr}
use Rattle.std.proofs.lemmas.List.{append_assoc, append-nil, length-map}
use Rattle.std.proofs.lemmas.Bool.{or_parts, leb-false, cases_Bool, eqb-true, eqb-false}
use Rattle.std.proofs.lemmas.Bool.Decides.{nat_tests}
use Rattle.std.proofs.lemmas.Slice.Eq.{bytes_eq-Decides}
use Rattle.std.proofs.lemmas.Fmt.{decimal_injective}
use Rattle.std.proofs.lemmas.Option.{slice_get-map, slice_get_within}
use Rattle.std.specs.Prelude.{decimal, codes, bytes_eq, nat_le}
use Rattle.std.specs.List.{position_from, list_any}
use Rattle.std.specs.Option.{option_map, option_map_or, option_and_then}
use Rattle.bpf_isa.specs.declared.packed.Packed.{Packed}
use Rattle.bpf_isa.specs.declared.source.Source.{Source}
use Rattle.bpf_isa.specs.declared.source.Source.TheVariants.{K, X}
use Rattle.bpf_isa.specs.declared.load.Size.TheVariants.{Word, Half, Byte}
use Rattle.bpf_isa.specs.declared.load.Load.TheVariants as load
use Rattle.bpf_isa.specs.declared.load_x.LoadX.TheVariants as load_x
use Rattle.bpf_isa.specs.declared.store.Store.TheVariants as store
use Rattle.bpf_isa.specs.declared.alu.Operator.{Operator}
use Rattle.bpf_isa.specs.declared.alu.Operator.TheVariants as operator
use Rattle.bpf_isa.specs.declared.alu.Alu.TheVariants as alu
use Rattle.bpf_isa.specs.declared.jump.Condition.{Condition}
use Rattle.bpf_isa.specs.declared.jump.Condition.TheVariants as condition
use Rattle.bpf_isa.specs.declared.jump.Jump.TheVariants as jump
use Rattle.bpf_isa.specs.declared.returns.Return.TheVariants as return
use Rattle.bpf_isa.specs.declared.moves.Move.TheVariants as move
use Rattle.bpf_isa.specs.declared.insn.Insn.{Insn}
use Rattle.bpf_isa.specs.declared.insn.Insn.TheVariants as insn
use Rattle.bpf_isa.specs.Insns.{packed_insn}
use Rattle.bpf_isa.specs.Numeric.{IsPacked}
use Rattle.bpf_loader.specs.Faults.{IsLoaded, jumps_outside}
use Rattle.bpf_loader.proofs.Laws.{faultless_at}
use Rattle.bpf_text.specs.Tokens.{Token, Name, Mark}
use Rattle.bpf_text.specs.Grammar.{Statement, Spells, AreStatements, IsStatement, statement, token_of}
use Rattle.bpf_text.specs.Meaning.{Sources}
use Rattle.bpf_asm.specs.Listing.{label_text, insn_text, line_text, lines_text, IsListing}
use Rattle.bpf_isa.specs.declared.state.TheConstants.{MAX_INSNS}
use Rattle.bpf_asm.specs.Rows.{two_way_packed, plain_packed}
use Rattle.bpf_asm.specs.Assembly.{farthest, carries, index_of, HasDistinctLabels, IsRow, Assembles, IsSourceOf}
use Rattle.bpf_asm.specs.Laws.{ArePacked}
use Rattle.bpf_asm.proofs.Indices.{some_is, slice_get_unique}
use Rattle.bpf_asm.proofs.Parts.{Part, Space, Point, text_of, tokens_of, part_tokens, lexemes_of, AreSound, laid, label_spelt, parts_items, text_append, sound_append, lexemes_append, tokens_are}
use Rattle.bpf_asm.proofs.Listed.{label_part, insn_parts, insn_text_is, insn_laid, insn_sound, insn_spells, Reaches, text_source_of, mnemonic_of, operand_at, listed}

-- ---- the parts of a listing

abbrev line_parts : ℕ → Insn → List Part
line_parts at i = label_part at ∷ Point 58 ∷ Space 32 ∷ (insn_parts at i ++ Space 10 ∷ [])

abbrev lines_parts : ℕ → List Insn → List Part
lines_parts at [] = []
lines_parts at (i ∷ is) = line_parts at i ++ lines_parts (at + 1) is

four : (a b c d : List ℕ) → a ++ b ++ c ++ d ≡ a ++ (b ++ (c ++ d))
four a b c d = append_assoc (a ++ b) c d ∙ append_assoc a b (c ++ d)

line_is : (at : ℕ) (i : Insn) → text_of (line_parts at i) ≡ line_text at i
line_is at i =
    ap (λ (t : List ℕ). label_text at ++ (58 ∷ 32 ∷ t)) (text_append (insn_parts at i) (Space 10 ∷ []) ∙ ap (λ (t : List ℕ). t ++ 10 ∷ []) (insn_text_is at i))
    ∙ sym (four (label_text at) (codes ": ") (insn_text at i) (codes "\n"))

lines_are : (at : ℕ) (is : List Insn) → text_of (lines_parts at is) ≡ lines_text at is
lines_are at [] = refl
lines_are at (i ∷ is) =
    text_append (line_parts at i) (lines_parts (at + 1) is)
    ∙ ap (λ (t : List ℕ). t ++ text_of (lines_parts (at + 1) is)) (line_is at i)
    ∙ ap (λ (t : List ℕ). line_text at i ++ t) (lines_are (at + 1) is)

lines_laid : (before at : ℕ) (is : List Insn) → laid before (lines_parts at is) ≡ true
lines_laid before at [] = refl
lines_laid before at (i ∷ is) =
    ap (laid 32) (append_assoc (insn_parts at i) (Space 10 ∷ []) (lines_parts (at + 1) is)) ∙ insn_laid at i (lines_parts (at + 1) is) ∙ lines_laid 10 (at + 1) is

-- the numbers of the instructions fit their fields, and their targets lie before the end
abbrev AllFit : ℕ → ℕ → List Insn → Type 0
AllFit len at [] = Unit {0}
AllFit len at (i ∷ is) = (at < len) × Reaches len at i × IsPacked (packed_insn i) × AllFit len (at + 1) is

lines_sound : (len at : ℕ) (is : List Insn) → len ≤ 4096 → AllFit len at is → AreSound (lines_parts at is)
lines_sound len at [] few fit = tt
lines_sound len at (i ∷ is) few fit = (
  label_spelt at (omega (arith, few, fit.0)),
  (
    refl,
    (
      refl,
      sound_append (insn_parts at i ++ Space 10 ∷ []) (lines_parts (at + 1) is)
          (sound_append (insn_parts at i) (Space 10 ∷ []) (insn_sound len at i few fit.1 fit.2) (refl, tt)) (lines_sound len (at + 1) is few fit.3),
    ),
  ),
)

-- ---- the statements of a listing

abbrev statements_of : ℕ → ℕ → List Insn → List Statement
statements_of offset at [] = []
statements_of offset at (i ∷ is) = listed offset at i ∷ statements_of (offset + length (text_of (line_parts at i))) (at + 1) is

tokens_append : (ps qs : List Part) → tokens_of (ps ++ qs) ≡ tokens_of ps ++ tokens_of qs
tokens_append [] qs = refl
tokens_append (p ∷ ps) qs = ap (λ (ts : List Token). part_tokens p ++ ts) (tokens_append ps qs) ∙ sym (append_assoc (part_tokens p) (tokens_of ps) (tokens_of qs))

line_tokens : (offset at : ℕ) (i : Insn) → map token_of (lexemes_of offset (line_parts at i)) ≡ Name (label_text at) ∷ Mark 58 ∷ tokens_of (insn_parts at i)
line_tokens offset at i =
    tokens_are offset (line_parts at i)
    ∙ ap (λ (ts : List Token). Name (label_text at) ∷ Mark 58 ∷ ts) (tokens_append (insn_parts at i) (Space 10 ∷ []) ∙ append-nil (tokens_of (insn_parts at i)))

line_spells : (offset at : ℕ) (i : Insn) → IsPacked (packed_insn i) → IsStatement (lexemes_of offset (line_parts at i)) (listed offset at i)
line_spells offset at i packed =
    subst (λ ts. Spells (statement offset) ts (listed offset at i)) (sym (line_tokens offset at i)) (inl (label_text at, refl, (tt, refl, insn_spells offset at i packed)))

lines_spell : (len offset at : ℕ) (is : List Insn) → AllFit len at is → AreStatements (lexemes_of offset (lines_parts at is)) (statements_of offset at is)
lines_spell len offset at [] fit = refl
lines_spell len offset at (i ∷ is) fit =
    let next : ℕ = offset + length (text_of (line_parts at i)) in (
      lexemes_of offset (line_parts at i),
      lexemes_of next (lines_parts (at + 1) is),
      lexemes_append offset (line_parts at i) (lines_parts (at + 1) is),
      line_spells offset at i fit.2,
      lines_spell len next (at + 1) is fit.3,
    )

pub listing_sources : (len : ℕ) (is : List Insn) → len ≤ 4096 → AllFit len 0 is → Sources (lines_text 0 is) (statements_of 0 0 is)
listing_sources len is few fit =
    subst (λ text. Sources text (statements_of 0 0 is)) (lines_are 0 is)
    (lexemes_of 0 (lines_parts 0 is), 0 + length (text_of (lines_parts 0 is)), parts_items (lines_parts 0 is) (lines_sound len 0 is few fit) (lines_laid 10 0 is), lines_spell len 0 0 is fit)

-- ---- its labels

same_label : (a b : ℕ) → a ≡ b → bytes_eq (label_text a) (label_text b) ≡ true
same_label a b e = (bytes_eq-Decides (label_text a) (label_text b)).1 (ap label_text e)

tail_of : List ℕ → List ℕ
tail_of [] = []
tail_of (x ∷ xs) = xs

other_label : (a b : ℕ) → a < 2 ^ 32 → b < 2 ^ 32 → (a ≡ b → ⊥) → bytes_eq (label_text a) (label_text b) ≡ false
other_label a b small also other = by (bytes_eq (label_text a) (label_text b)) (bytes_eq-Decides (label_text a) (label_text b)).0
  where
    by : (t : Bool) → (t ≡ true → label_text a ≡ label_text b) → t ≡ false
    by true same = absurd (other (decimal_injective a b (omega (arith, small)) (omega (arith, also)) (tails (decimal a) (decimal b) (same refl))))
      where
        tails : (xs ys : List ℕ) → 76 ∷ xs ≡ 76 ∷ ys → xs ≡ ys
        tails xs ys e = cc
    by false same = refl

-- an index among the statements is that of its label
found : (is : List Insn) (offset base index j : ℕ) → base ≤ index → index < base + length is → base + length is ≤ 4096 →
    position_from (carries (label_text index)) j (statements_of offset base is) ≡ Some (j + (index - base))
found [] offset base index j low high few = absurd (omega (arith, low, high))
found (i ∷ is) offset base index j low high few =
    by (λ above. found is (offset + length (text_of (line_parts base i))) (base + 1) index (j + 1) above (omega (arith, high)) (omega (arith, few))) (cases_Bool (index == base))
  where
    next : ℕ
    next = offset + length (text_of (line_parts base i))

    by : (base + 1 ≤ index → position_from (carries (label_text index)) (j + 1) (statements_of next (base + 1) is) ≡ Some (j + 1 + (index - (base + 1)))) →
        ((index == base) ≡ true) ⊎ ((index == base) ≡ false) → position_from (carries (label_text index)) j (statements_of offset base (i ∷ is)) ≡ Some (j + (index - base))
    by later (inl e) =
        let same : index ≡ base = eqb-true index base e in
        ap (λ (t : Bool). cond t (Some j) (position_from (carries (label_text index)) (j + 1) (statements_of next (base + 1) is))) (same_label index base same)
        ∙ ap (λ (n : ℕ). Some n) (let sum : j ≡ j + (index - base) = omega (arith, same) in sum)
    by later (inr e) =
        let different : index ≡ base → ⊥ = eqb-false index base e in
        let above : base + 1 ≤ index = grind (arith, nat_tests, low, e) in
        ap (λ (t : Bool). cond t (Some j) (position_from (carries (label_text index)) (j + 1) (statements_of next (base + 1) is)))
        (other_label index base (omega (arith, high, few)) (omega (arith, low, high, few)) different)
        ∙ later above
        ∙ ap (λ (n : ℕ). Some n) (let sum : j + 1 + (index - (base + 1)) ≡ j + (index - base) = omega (arith, above) in sum)

-- and no statement before it carries it
missed : (n : ℕ) (is : List Insn) (offset base index j : ℕ) → base + n ≤ index → index < 4096 →
    position_from (carries (label_text index)) j (take n (statements_of offset base is)) ≡ None
missed zero is offset base index j low high = refl
missed (suc n) [] offset base index j low high = refl
missed (suc n) (i ∷ is) offset base index j low high =
    let next : ℕ = offset + length (text_of (line_parts base i)) in
    let above : base < index = omega (arith, low) in
    let different : index ≡ base → ⊥ = (λ e. omega (arith, above, e)) in
    ap (λ (t : Bool). cond t (Some j) (position_from (carries (label_text index)) (j + 1) (take n (statements_of next (base + 1) is))))
    (other_label index base (omega (arith, high)) (omega (arith, above, high)) different)
    ∙ missed n is next (base + 1) index (j + 1) (omega (arith, low)) high

-- the statement at an index
record ListedAt (is : List Insn) (base n : ℕ) (s : Statement) : Type 0 where
  insn : Insn
  offset : ℕ
  there : slice_get is n ≡ Some insn
  same : s ≡ listed offset (base + n) insn

listed_at : (is : List Insn) (offset base n : ℕ) (s : Statement) → slice_get (statements_of offset base is) n ≡ Some s → ListedAt is base n s
listed_at [] offset base n s e = absurd (cc)
listed_at (i ∷ is) offset base zero s e =
    record { insn = i; offset = offset; there = refl; same = sym (some_is (listed offset base i) s e) ∙ ap (λ (m : ℕ). listed offset m i) (let sum : base ≡ base + 0 = omega arith in sum) }
listed_at (i ∷ is) offset base (suc n) s e =
    let later = listed_at is (offset + length (text_of (line_parts base i))) (base + 1) n s e in
    record { insn = later.insn; offset = later.offset; there = later.there; same = later.same ∙ ap (λ (m : ℕ). listed later.offset m later.insn) (let sum : base + 1 + n ≡ base + suc n = omega arith in sum) }

statements_length : (offset at : ℕ) (is : List Insn) → length (statements_of offset at is) ≡ length is
statements_length offset at [] = refl
statements_length offset at (i ∷ is) = ap (λ (n : ℕ). suc n) (statements_length (offset + length (text_of (line_parts at i))) (at + 1) is)

zero_plus : (n : ℕ) → 0 + n ≡ n
zero_plus n = omega arith

module _ (p : List Packed) (is : List Insn) (loaded : IsLoaded p) (packed : ArePacked p) (packs : map packed_insn is ≡ p) where
  abbrev ss : List Statement
  ss = statements_of 0 0 is

  same_length : length p ≡ length is
  same_length = ap length (sym packs) ∙ length-map is packed_insn

  few : length is ≤ 4096
  few = subst (λ n. n ≤ 4096) same_length loaded.loadable.has_length.1

  packed_at : (n : ℕ) (i : Insn) → slice_get is n ≡ Some i → slice_get p n ≡ Some (packed_insn i)
  packed_at n i there = ap (λ ws. slice_get ws n) (sym packs) ∙ slice_get-map packed_insn is n ∙ ap (option_map packed_insn) there

  -- the index of a label
  there_is : (index : ℕ) → index < length p → index_of ss (label_text index) ≡ Some index
  there_is index less =
      found is 0 0 index 0 (omega arith) (omega (arith, less, same_length)) (omega (arith, few)) ∙ ap (λ (n : ℕ). Some n) (let sum : 0 + (index - 0) ≡ index = omega arith in sum)

  labels_differ : HasDistinctLabels ss
  labels_differ at less = by (slice_get ss at) refl
    where
      by : (at_it : Option Statement) → slice_get ss at ≡ at_it → option_map_or (λ name. is_some (index_of (take at ss) name)) (option_and_then (λ s. s.label) at_it) false ≡ false
      by None e = refl
      by (Some s) e =
          let listed_s = listed_at is 0 0 at s e in
          ap (λ (l : Option (List ℕ)). option_map_or (λ name. is_some (index_of (take at ss) name)) l false) (ap (λ (t : Statement). t.label) listed_s.same ∙ ap (λ (n : ℕ). Some (label_text n)) (zero_plus at))
          ∙ ap is_some (missed at is 0 0 at 0 (omega arith) (omega (arith, less, few, statements_length 0 0 is)))

  reaches_by : (at : ℕ) (i : Insn) → jumps_outside (length p) at (packed_insn i) ≡ false → Reaches (length p) at i
  reaches_by at (insn.Jump (jump.Always k)) e = leb-false (length p) (at + 1 + k) (or_parts _ _ e).0
  reaches_by at (insn.Jump (jump.If c s jt jf)) e = both c s e
    where
      two : list_any (nat_le (length p)) ((at + 1 + jt) ∷ (at + 1 + jf) ∷ []) ≡ false → (at + 1 + jt < length p) × (at + 1 + jf < length p)
      two e = (
        leb-false (length p) (at + 1 + jt) (or_parts (nat_le (length p) (at + 1 + jt)) (list_any (nat_le (length p)) ((at + 1 + jf) ∷ [])) e).0,
        leb-false (length p) (at + 1 + jf) (or_parts (nat_le (length p) (at + 1 + jf)) false (or_parts (nat_le (length p) (at + 1 + jt)) (list_any (nat_le (length p)) ((at + 1 + jf) ∷ [])) e).1).0,
      )

      both : (c : Condition) (s : Source) → jumps_outside (length p) at (packed_insn (insn.Jump (jump.If c s jt jf))) ≡ false → (at + 1 + jt < length p) × (at + 1 + jf < length p)
      both condition.Equal (K k) e = two e
      both condition.Equal X e = two e
      both condition.Greater (K k) e = two e
      both condition.Greater X e = two e
      both condition.AtLeast (K k) e = two e
      both condition.AtLeast X e = two e
      both condition.SharesBits (K k) e = two e
      both condition.SharesBits X e = two e
  reaches_by at (insn.Load i) e = tt
  reaches_by at (insn.LoadX i) e = tt
  reaches_by at (insn.Store i) e = tt
  reaches_by at (insn.Alu i) e = tt
  reaches_by at (insn.Return i) e = tt
  reaches_by at (insn.Move i) e = tt

  reaches : (at : ℕ) (i : Insn) → slice_get is at ≡ Some i → Reaches (length p) at i
  reaches at i there = reaches_by at i (faultless_at p at (packed_insn i) loaded.loadable.no_insn_fault (packed_at at i there)).jump

  -- the others of the instructions fit, too
  fits_from : (base : ℕ) (js : List Insn) → ((n : ℕ) (i : Insn) → slice_get js n ≡ Some i → slice_get is (base + n) ≡ Some i) → AllFit (length p) base js
  fits_from base [] part = tt
  fits_from base (i ∷ js) part =
      let here : slice_get is base ≡ Some i = ap (slice_get is) (let sum : base ≡ base + 0 = omega arith in sum) ∙ part 0 i refl in (
        subst (λ n. base < n) (sym same_length) (slice_get_within is base i here),
        reaches base i here,
        packed base (packed_insn i) (packed_at base i here),
        fits_from (base + 1) js (λ n j e. ap (slice_get is) (let sum : base + 1 + n ≡ base + suc n = omega arith in sum) ∙ part (suc n) j e),
      )

  all_fit : AllFit (length p) 0 is
  all_fit = fits_from 0 is (λ n i e. ap (slice_get is) (zero_plus n) ∙ e)

  -- ---- its instructions

  alu_row : (o : Operator) (s : Source) → plain_packed (mnemonic_of (insn.Alu (alu.Binary o s))) (operand_at 0 (insn.Alu (alu.Binary o s))) ≡ Some (packed_insn (insn.Alu (alu.Binary o s)))
  alu_row operator.Add (K k) = refl
  alu_row operator.Add X = refl
  alu_row operator.Sub (K k) = refl
  alu_row operator.Sub X = refl
  alu_row operator.Mul (K k) = refl
  alu_row operator.Mul X = refl
  alu_row operator.Div (K k) = refl
  alu_row operator.Div X = refl
  alu_row operator.Or (K k) = refl
  alu_row operator.Or X = refl
  alu_row operator.And (K k) = refl
  alu_row operator.And X = refl
  alu_row operator.Lsh (K k) = refl
  alu_row operator.Lsh X = refl
  alu_row operator.Rsh (K k) = refl
  alu_row operator.Rsh X = refl
  alu_row operator.Mod (K k) = refl
  alu_row operator.Mod X = refl
  alu_row operator.Xor (K k) = refl
  alu_row operator.Xor X = refl

  branch_row : (c : Condition) (s : Source) (jt jf : ℕ) → two_way_packed (mnemonic_of (insn.Jump (jump.If c s jt jf))) (text_source_of s) jt jf ≡ Some (packed_insn (insn.Jump (jump.If c s jt jf)))
  branch_row condition.Equal (K k) jt jf = refl
  branch_row condition.Equal X jt jf = refl
  branch_row condition.Greater (K k) jt jf = refl
  branch_row condition.Greater X jt jf = refl
  branch_row condition.AtLeast (K k) jt jf = refl
  branch_row condition.AtLeast X jt jf = refl
  branch_row condition.SharesBits (K k) jt jf = refl
  branch_row condition.SharesBits X jt jf = refl

  jt_near : (c : Condition) (s : Source) (jt jf : ℕ) → IsPacked (packed_insn (insn.Jump (jump.If c s jt jf))) → (jt ≤ farthest) × (jf ≤ farthest)
  jt_near c (K k) jt jf fit = (omega (arith, fit.jt), omega (arith, fit.jf))
  jt_near c X jt jf fit = (omega (arith, fit.jt), omega (arith, fit.jf))

  row_of : (at : ℕ) (i : Insn) → Reaches (length p) at i → IsPacked (packed_insn i) → IsRow ss at (mnemonic_of i) (operand_at at i) (packed_insn i)
  row_of at (insn.Load (load.Immediate k)) reach fit = refl
  row_of at (insn.Load (load.Absolute Word k)) reach fit = refl
  row_of at (insn.Load (load.Absolute Half k)) reach fit = refl
  row_of at (insn.Load (load.Absolute Byte k)) reach fit = refl
  row_of at (insn.Load (load.Indirect Word k)) reach fit = refl
  row_of at (insn.Load (load.Indirect Half k)) reach fit = refl
  row_of at (insn.Load (load.Indirect Byte k)) reach fit = refl
  row_of at (insn.Load (load.Scratch k)) reach fit = refl
  row_of at (insn.Load load.Length) reach fit = refl
  row_of at (insn.LoadX (load_x.Immediate k)) reach fit = refl
  row_of at (insn.LoadX (load_x.Scratch k)) reach fit = refl
  row_of at (insn.LoadX load_x.Length) reach fit = refl
  row_of at (insn.LoadX (load_x.HeaderLength k)) reach fit = refl
  row_of at (insn.Store (store.A k)) reach fit = refl
  row_of at (insn.Store (store.X k)) reach fit = refl
  row_of at (insn.Alu (alu.Binary o s)) reach fit = alu_row o s
  row_of at (insn.Alu alu.Negate) reach fit = refl
  row_of at (insn.Jump (jump.Always k)) reach fit = (k, 0x05, there_is (at + 1 + k) reach, refl, refl)
  row_of at (insn.Jump (jump.If c s jt jf)) reach fit =
      let near = jt_near c s jt jf fit in
      (jt, jf, (there_is (at + 1 + jt) reach.0, near.0), (there_is (at + 1 + jf) reach.1, near.1), branch_row c s jt jf)
  row_of at (insn.Return (return.K k)) reach fit = refl
  row_of at (insn.Return return.A) reach fit = refl
  row_of at (insn.Move move.AToX) reach fit = refl
  row_of at (insn.Move move.XToA) reach fit = refl

  row_at : (at : ℕ) (s : Statement) (w : Packed) → slice_get ss at ≡ Some s → slice_get p at ≡ Some w → IsRow ss at s.mnemonic s.operand w
  row_at at s w here word =
      let l = listed_at is 0 0 at s here in
      let same : s ≡ listed l.offset at l.insn = l.same ∙ ap (λ (n : ℕ). listed l.offset n l.insn) (zero_plus at) in
      subst (IsRow ss at s.mnemonic s.operand) (slice_get_unique p at (packed_insn l.insn) w (packed_at at l.insn l.there) word)
      (subst (λ (t : Statement). IsRow ss at t.mnemonic t.operand (packed_insn l.insn)) (sym same)
      (row_of at l.insn (reaches at l.insn l.there) (packed at (packed_insn l.insn) (packed_at at l.insn l.there))))

  assembles : Assembles ss p
  assembles = record {
    count = subst (λ n. (1 ≤ n) × (n ≤ MAX_INSNS)) (same_length ∙ sym (statements_length 0 0 is)) loaded.loadable.has_length;
    labels = labels_differ;
    len = same_length ∙ sym (statements_length 0 0 is);
    rows = row_at;
  }

  pub source_again : IsSourceOf (lines_text 0 is) p
  source_again = (ss, listing_sources (length p) is (subst (λ n. n ≤ 4096) (sym same_length) few) all_fit, assembles)

pub assembles_again : (p : List Packed) (text : List ℕ) → IsLoaded p → ArePacked p → IsListing p text → IsSourceOf text p
assembles_again p text loaded packed (is, packs, lines) = subst (λ t. IsSourceOf t p) (sym lines) (source_again p is loaded packed packs)
