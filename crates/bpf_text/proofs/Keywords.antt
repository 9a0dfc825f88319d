-- The search in the table of keywords.
use Rattle.std.proofs.Common.{◌≡◌, ◌==◌, [], Option, None, arith, ◌∷◌, ℕ, ◌+◌, ◌<◌, Bool, true, false, cond, ◌&&◌, sym, List, length, get_or, drop, map, Some, Bor, refl, ap, ◌∙◌, add-one}
use Rattle.std.proofs.Math.Seq.{drop-cons}
use Rattle.std.specs.Bool.{Decides}
use Rattle.std.specs.Char.{to_ascii_lowercase}
use Rattle.std.proofs.lemmas.Bool.Decides.{same_from_decides}
use Rattle.std.proofs.lemmas.Slice.Eq.{bytes_eq-Decides}
use Rattle.std.specs.Str.{str_eq_ignore_ascii_case}
use Rattle.std.specs.Prelude.{slice_index}
use Rattle.std.proofs.lemmas.Bool.{eqb-true, true≢false}
use Rattle.bpf_text.specs.declared.keyword.Keyword.{Keyword}
use Rattle.bpf_text.proofs.Bits.{has, bool_cases, and_left, and_right}
use Rattle.bpf_text.specs.Keywords.{keywords, keyword_of, keyword_in, with_first}

abbrev pub Row : Type 0
Row = Bor (List ℕ) × Keyword

abbrev pub rows_of : List Row → List (List ℕ × Keyword)
rows_of rows = map (λ row. (row.0.now, row.1)) rows

-- from a row on, the search looks at it and then at the rest
row_at : (rows : List Row) (i : ℕ) (d : Row) (name : List ℕ) → i < length rows → keyword_in (rows_of (drop i rows)) name ≡ cond (str_eq_ignore_ascii_case (get_or rows i d).0.now name) (Some (get_or rows i d).1) (keyword_in (rows_of (drop (i + 1) rows)) name)
row_at rows i d name below = rw (add-one, drop-cons rows i d below) refl

pub row_found : (rows : List Row) (i : ℕ) (d : Row) (name : List ℕ) → i < length rows → str_eq_ignore_ascii_case (get_or rows i d).0.now name ≡ true → keyword_in (rows_of (drop i rows)) name ≡ Some (get_or rows i d).1
row_found rows i d name below is =
    row_at rows i d name below ∙ ap (λ (b : Bool). cond b (Some (get_or rows i d).1) (keyword_in (rows_of (drop (i + 1) rows)) name)) is

pub row_passed : (rows : List Row) (i : ℕ) (d : Row) (name : List ℕ) → i < length rows → str_eq_ignore_ascii_case (get_or rows i d).0.now name ≡ false → keyword_in (rows_of (drop i rows)) name ≡ keyword_in (rows_of (drop (i + 1) rows)) name
row_passed rows i d name below is =
    row_at rows i d name below ∙ ap (λ (b : Bool). cond b (Some (get_or rows i d).1) (keyword_in (rows_of (drop (i + 1) rows)) name)) is

-- the answer of `eq_ignore_ascii_case` is the test of the specification
pub spelled : (r : Bool) (a b : List ℕ) → Decides r (map to_ascii_lowercase a ≡ map to_ascii_lowercase b) → str_eq_ignore_ascii_case a b ≡ r
spelled r a b test = same_from_decides (str_eq_ignore_ascii_case a b) r (bytes_eq-Decides (map to_ascii_lowercase a) (map to_ascii_lowercase b)) test

-- ---- The rows with the name's first letter are enough

pub keyword_with_first : (rows : List (List ℕ × Keyword)) (b : ℕ) (bytes : List ℕ) → keyword_in (with_first (to_ascii_lowercase b) rows) (b ∷ bytes) ≡ keyword_in rows (b ∷ bytes)
keyword_with_first [] b bytes = refl
keyword_with_first (row ∷ rows) b bytes = go row.0 (keyword_with_first rows b bytes)
  where
    l : ℕ
    l = to_ascii_lowercase b

    go : (word : List ℕ) → keyword_in (with_first l rows) (b ∷ bytes) ≡ keyword_in rows (b ∷ bytes) → keyword_in (cond (to_ascii_lowercase (slice_index word 0) == l) ((word, row.1) ∷ with_first l rows) (with_first l rows)) (b ∷ bytes) ≡ cond (str_eq_ignore_ascii_case word (b ∷ bytes)) (Some row.1) (keyword_in rows (b ∷ bytes))
    go [] rest = by_test (to_ascii_lowercase 0 == l)
      where
        by_test : (t : Bool) → keyword_in (cond t (([], row.1) ∷ with_first l rows) (with_first l rows)) (b ∷ bytes) ≡ keyword_in rows (b ∷ bytes)
        by_test true = rest
        by_test false = rest
    go (c ∷ word) rest = bool_cases (to_ascii_lowercase c == l) (λ e. ap (λ (t : Bool). keyword_in (cond t ((c ∷ word, row.1) ∷ with_first l rows) (with_first l rows)) (b ∷ bytes)) e ∙ ap (λ (k : Option Keyword). cond (str_eq_ignore_ascii_case (c ∷ word) (b ∷ bytes)) (Some row.1) k) rest) (λ e. rw e rest)

-- every keyword begins with one of these letters
abbrev all_in : List (List ℕ × Keyword) → List ℕ → Bool
all_in [] letters = true
all_in (row ∷ rows) letters = has (to_ascii_lowercase (slice_index row.0 0)) letters && all_in rows letters

no_row : (letter : ℕ) (rows : List (List ℕ × Keyword)) (letters : List ℕ) → all_in rows letters ≡ true → has letter letters ≡ false → with_first letter rows ≡ []
no_row letter [] letters all none = refl
no_row letter (row ∷ rows) letters all none = go (no_row letter rows letters (and_right (has first letters) (all_in rows letters) all) none) (first == letter) refl
  where
    first : ℕ
    first = to_ascii_lowercase (slice_index row.0 0)

    go : with_first letter rows ≡ [] → (t : Bool) → (first == letter) ≡ t → cond t (row ∷ with_first letter rows) (with_first letter rows) ≡ []
    go rest false e = rest
    go rest true e =
        let there : has first letters ≡ true = and_left (has first letters) (all_in rows letters) all in
        absurd (true≢false (sym there ∙ (ap (λ (l : ℕ). has l letters) (eqb-true first letter e) ∙ none)))

pub no_keyword_with : (l : ℕ) → has l (97 ∷ 100 ∷ 106 ∷ 108 ∷ 109 ∷ 110 ∷ 111 ∷ 114 ∷ 115 ∷ 116 ∷ 120 ∷ []) ≡ false → with_first l keywords ≡ []
unfolding keywords
no_keyword_with l none = no_row l keywords (97 ∷ 100 ∷ 106 ∷ 108 ∷ 109 ∷ 110 ∷ 111 ∷ 114 ∷ 115 ∷ 116 ∷ 120 ∷ []) refl none

pub name_keyword : (name : List ℕ) (l : ℕ) → 0 < length name → l ≡ to_ascii_lowercase (get_or name 0 0) → keyword_in (with_first l keywords) name ≡ keyword_of name
unfolding keyword_of
name_keyword [] l some e = absurd (omega arith)
name_keyword (b ∷ bytes) l some e = ap (λ (k : ℕ). keyword_in (with_first k keywords) (b ∷ bytes)) e ∙ keyword_with_first keywords b bytes

pub empty_keyword : (name : List ℕ) → length name < 1 → None ≡ keyword_of name
unfolding keyword_of keywords
empty_keyword [] none = refl
empty_keyword (b ∷ bytes) none = absurd (omega arith)
