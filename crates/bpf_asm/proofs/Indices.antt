-- The list of labels as it grows by a statement.
use Rattle.std.proofs.Common.{◌≡◌, ℕ, ◌+◌, ◌<◌, Bool, true, false, cond, List, [], ◌∷◌, ◌++◌, length, take, slice_get, Option, Some, None, is_some, refl, sym, subst, ap, ◌∙◌, arith}
use Rattle.std.proofs.Common.{◌⊎◌, inl, inr, get_or, suc}
use Rattle.std.proofs.Math.Seq.{take-suc}
use Rattle.std.proofs.Math.Nat.{eq-or-lt_of_le}
use Rattle.std.proofs.lemmas.List.{length-take-le}
use Rattle.std.proofs.lemmas.Option.{slice_get_within, get_or_from_slice_get}
use Rattle.std.specs.Borrow.{Bor}
use Rattle.std.specs.Map.{lookup}
use Rattle.std.specs.Option.{option_or, option_map_or, option_and_then}
use Rattle.std.specs.List.{position_from}
use Rattle.std.specs.Prelude.{bytes_eq}
use Rattle.bpf_text.specs.Grammar.{Statement}
use Rattle.bpf_text.specs.Meaning.{statement_of}
use Rattle.bpf_text.specs.declared.statement.Statement as text
use Rattle.std.proofs.Common.{map, option_map}
use Rattle.std.proofs.lemmas.Option.{slice_get-map, slice_get-get_or}
use Rattle.bpf_asm.specs.Assembly.{carries, index_of, is_twice}
use Rattle.bpf_asm.specs.Typed.{known_index, Knows}

lookup_push : {K X : Type 0} (test : K → Bool) (es : List (K × X)) (e : K × X) →
    lookup test (es ++ e ∷ []) ≡ option_or (lookup test es) (cond (test e.0) (Some e.1) None)
lookup_push test [] e = refl
lookup_push test (d ∷ ds) e = by (test d.0) (lookup_push test ds e)
  where
    by : (b : Bool) → lookup test (ds ++ e ∷ []) ≡ option_or (lookup test ds) (cond (test e.0) (Some e.1) None) →
        cond b (Some d.1) (lookup test (ds ++ e ∷ [])) ≡ option_or (cond b (Some d.1) (lookup test ds)) (cond (test e.0) (Some e.1) None)
    by true h = refl
    by false h = h

position_push : {X : Type 0} (test : X → Bool) (i : ℕ) (xs : List X) (y : X) →
    position_from test i (xs ++ y ∷ []) ≡ option_or (position_from test i xs) (cond (test y) (Some (i + length xs)) None)
position_push test i [] y = by (test y)
  where
    by : (b : Bool) → cond b (Some i) None ≡ cond b (Some (i + 0)) None
    by true = grind arith
    by false = refl
position_push test i (x ∷ xs) y = by (test x) (position_push test (i + 1) xs y)
  where
    shift : (b : Bool) → cond b (Some (i + 1 + length xs)) None ≡ cond b (Some (i + length (x ∷ xs))) None
    shift true = grind arith
    shift false = refl

    by : (b : Bool) →
        position_from test (i + 1) (xs ++ y ∷ []) ≡ option_or (position_from test (i + 1) xs) (cond (test y) (Some (i + 1 + length xs)) None) →
        cond b (Some i) (position_from test (i + 1) (xs ++ y ∷ []))
        ≡ option_or (cond b (Some i) (position_from test (i + 1) xs)) (cond (test y) (Some (i + length (x ∷ xs))) None)
    by true h = refl
    by false h = h ∙ ap (option_or (position_from test (i + 1) xs)) (shift (test y))

-- from index 0 on
index_push : (ss : List Statement) (s : Statement) (name : List ℕ) →
    index_of (ss ++ s ∷ []) name ≡ option_or (index_of ss name) (cond (carries name s) (Some (length ss)) None)
index_push ss s name = position_push (carries name) 0 ss s ∙ ap (λ n. option_or (index_of ss name) (cond (carries name s) (Some n) None)) (zero_plus (length ss))
  where
    zero_plus : (n : ℕ) → 0 + n ≡ n
    zero_plus n = grind arith

or_none : {T : Type 0} (p : Option T) → option_or p None ≡ p
or_none None = refl
or_none (Some x) = refl

-- a statement without a label adds none
pub knows_same : (entries : List (Bor (List ℕ) × ℕ)) (ss : List Statement) (s : Statement) → s.label ≡ None → Knows entries ss → Knows entries (ss ++ s ∷ [])
knows_same entries ss s none knows name =
    knows name ∙ sym (or_none (index_of ss name)) ∙ ap (λ label. option_or (index_of ss name) (cond (option_map_or (bytes_eq name) label false) (Some (length ss)) None)) (sym none)
    ∙ sym (index_push ss s name)

-- a new label is added with the index of its statement
pub knows_more : (entries : List (Bor (List ℕ) × ℕ)) (ss : List Statement) (s : Statement) (label : Bor (List ℕ)) → s.label ≡ Some label.now →
    Knows entries ss → Knows (entries ++ (label, length ss) ∷ []) (ss ++ s ∷ [])
knows_more entries ss s label is knows name =
    lookup_push (λ known. bytes_eq name known.now) entries (label, length ss)
    ∙ ap (λ p. option_or p (cond (bytes_eq name label.now) (Some (length ss)) None)) (knows name)
    ∙ ap (λ l. option_or (index_of ss name) (cond (option_map_or (bytes_eq name) l false) (Some (length ss)) None)) (sym is)
    ∙ sym (index_push ss s name)

-- ---- a loop over the statements

-- the labels of the first statements are known, and none of them stood before
pub record Progress (entries : List (Bor (List ℕ) × ℕ)) (ss : List Statement) (at : ℕ) : Type 0 where
  pub knows : Knows entries (take at ss)
  pub once : (earlier : ℕ) → earlier < at → is_twice ss earlier ≡ false

plus_one : (n : ℕ) → n + 1 ≡ suc n
plus_one n = grind arith

pub take_push : {X : Type 0} (xs : List X) (n : ℕ) (x : X) → slice_get xs n ≡ Some x → take (n + 1) xs ≡ take n xs ++ x ∷ []
take_push xs n x e =
    ap (λ m. take m xs) (plus_one n) ∙ take-suc xs n x (slice_get_within xs n x e) ∙ ap (λ y. take n xs ++ y ∷ []) (get_or_from_slice_get xs n x x e)

pub take_len : {X : Type 0} (xs : List X) (n : ℕ) (x : X) → slice_get xs n ≡ Some x → length (take n xs) ≡ n
take_len xs n x e = length-take-le n xs (grind (arith, slice_get_within xs n x e))

-- one more statement is no label that stood before
once_more : (ss : List Statement) (at : ℕ) → is_twice ss at ≡ false → ((earlier : ℕ) → earlier < at → is_twice ss earlier ≡ false) →
    (earlier : ℕ) → earlier < at + 1 → is_twice ss earlier ≡ false
once_more ss at here before earlier less = by (eq-or-lt_of_le (grind arith))
  where
    by : (earlier ≡ at) ⊎ (earlier < at) → is_twice ss earlier ≡ false
    by (inl e) = subst (λ n. is_twice ss n ≡ false) (sym e) here
    by (inr l) = before earlier l

-- a statement without a label
pub progress_same : (entries : List (Bor (List ℕ) × ℕ)) (ss : List Statement) (at : ℕ) (s : Statement) → slice_get ss at ≡ Some s → s.label ≡ None →
    Progress entries ss at → Progress entries ss (at + 1)
progress_same entries ss at s here none progress = record {
  knows = subst (Knows entries) (sym (take_push ss at s here)) (knows_same entries (take at ss) s none progress.knows);
  once = once_more ss at (ap (λ found. twice_by found) here ∙ ap (λ label. twice_label label) none) progress.once;
}
  where
    twice_label : Option (List ℕ) → Bool
    twice_label label = option_map_or (λ name. is_some (index_of (take at ss) name)) label false

    twice_by : Option Statement → Bool
    twice_by found = twice_label (option_and_then (λ t. t.label) found)

-- a statement with a label that is not known
pub progress_more : (entries : List (Bor (List ℕ) × ℕ)) (ss : List Statement) (at : ℕ) (s : Statement) (label : Bor (List ℕ)) →
    slice_get ss at ≡ Some s → s.label ≡ Some label.now → known_index entries label.now ≡ None →
    Progress entries ss at → Progress (entries ++ (label, at) ∷ []) ss (at + 1)
progress_more entries ss at s label here is none progress = record {
  knows = subst (λ n. Knows (entries ++ (label, n) ∷ []) (take (at + 1) ss)) (take_len ss at s here)
      (subst (Knows (entries ++ (label, length (take at ss)) ∷ [])) (sym (take_push ss at s here)) (knows_more entries (take at ss) s label is progress.knows));
  once = once_more ss at (ap (λ found. twice_by found) here ∙ ap (λ l. twice_label l) is ∙ ap is_some (sym (progress.knows label.now) ∙ none)) progress.once;
}
  where
    twice_label : Option (List ℕ) → Bool
    twice_label l = option_map_or (λ name. is_some (index_of (take at ss) name)) l false

    twice_by : Option Statement → Bool
    twice_by found = twice_label (option_and_then (λ t. t.label) found)

-- ---- the same over the statements as the reader gives them

pub at_statement : (xs : List text.Statement) (at : ℕ) (d : text.Statement) → at < length xs →
    slice_get (map statement_of xs) at ≡ Some (statement_of (get_or xs at d))
at_statement xs at d less = slice_get-map statement_of xs at ∙ ap (option_map statement_of) (slice_get-get_or xs at d less)

pub progress_none : (entries : List (Bor (List ℕ) × ℕ)) (xs : List text.Statement) (at : ℕ) (d : text.Statement) → at < length xs →
    (get_or xs at d).label ≡ None → Progress entries (map statement_of xs) at → Progress entries (map statement_of xs) (at + 1)
progress_none entries xs at d less none progress =
    progress_same entries (map statement_of xs) at (statement_of (get_or xs at d)) (at_statement xs at d less) (ap (option_map (λ name. name.now)) none) progress

pub progress_some : (entries : List (Bor (List ℕ) × ℕ)) (xs : List text.Statement) (at : ℕ) (d : text.Statement) (label : Bor (List ℕ)) → at < length xs →
    (get_or xs at d).label ≡ Some label → known_index entries label.now ≡ None →
    Progress entries (map statement_of xs) at → Progress (entries ++ (label, at) ∷ []) (map statement_of xs) (at + 1)
progress_some entries xs at d label less is none progress =
    progress_more entries (map statement_of xs) at (statement_of (get_or xs at d)) label (at_statement xs at d less)
    (ap (option_map (λ name. name.now)) is) none progress

pub not_some : {X : Type 0} (found : Option X) → is_some found ≡ false → found ≡ None
not_some None e = refl
not_some (Some x) e = cc

pub some_is : {X : Type 0} (x y : X) → Some x ≡ Some y → x ≡ y
some_is x y e = cc

-- an index holds one element
pub slice_get_unique : {X : Type 0} (xs : List X) (at : ℕ) (x y : X) → slice_get xs at ≡ Some x → slice_get xs at ≡ Some y → x ≡ y
slice_get_unique xs at x y is also = some_is x y (sym is ∙ also)
