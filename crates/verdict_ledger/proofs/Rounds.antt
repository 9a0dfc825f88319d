-- The entries of a round, one by one.
use Rattle.std.proofs.Common.{◌≡◌, ℕ, zero, suc, ◌+◌, ◌<◌, List, [], ◌∷◌, ◌++◌, length, take, drop, flat_map, get_or, Option, None, refl, sym, ap, ◌∙◌, arith, append-nil}
use Rattle.std.proofs.lemmas.List.{take_more, take-append-drop}
use Rattle.std.proofs.lemmas.Grind.{flat_map-append}
use Rattle.afdx_frame.specs.Frame.{Frame}
use Rattle.vl_judge.specs.Judgement.{Judgement}
use Rattle.verdict_ledger.specs.Entry.{Entry, entry_with, entries_of}

pub length-entries_of : (fs : List Frame) (vs : List Judgement) (ks : List (Option ℕ)) (ms : List ℕ) →
    length vs ≡ length fs → length ks ≡ length fs → length ms ≡ length fs → length (entries_of fs vs ks ms) ≡ length fs
length-entries_of [] vs ks ms a b d = refl
length-entries_of (f ∷ fs) [] ks ms a b d = absurd (omega arith)
length-entries_of (f ∷ fs) (v ∷ vs) [] ms a b d = absurd (omega arith)
length-entries_of (f ∷ fs) (v ∷ vs) (k ∷ ks) [] a b d = absurd (omega arith)
length-entries_of (f ∷ fs) (v ∷ vs) (k ∷ ks) (m ∷ ms) a b d =
    ap suc (length-entries_of fs vs ks ms (omega arith) (omega arith) (omega arith))

entry_at : (fs : List Frame) (vs : List Judgement) (ks : List (Option ℕ)) (ms : List ℕ) (i : ℕ) (f fd : Frame) (v vd : Judgement) (k kd : Option ℕ) (m md : ℕ) (d : Entry) →
    length vs ≡ length fs → length ks ≡ length fs → length ms ≡ length fs → i < length fs →
    f ≡ get_or fs i fd → v ≡ get_or vs i vd → k ≡ get_or ks i kd → m ≡ get_or ms i md →
    get_or (entries_of fs vs ks ms) i d ≡ entry_with f v k m
entry_at [] vs ks ms i f fd v vd k kd m md e a b d h ef ev ek em = absurd (omega arith)
entry_at (f1 ∷ fs) [] ks ms i f fd v vd k kd m md e a b d h ef ev ek em = absurd (omega arith)
entry_at (f1 ∷ fs) (v1 ∷ vs) [] ms i f fd v vd k kd m md e a b d h ef ev ek em = absurd (omega arith)
entry_at (f1 ∷ fs) (v1 ∷ vs) (k1 ∷ ks) [] i f fd v vd k kd m md e a b d h ef ev ek em = absurd (omega arith)
entry_at (f1 ∷ fs) (v1 ∷ vs) (k1 ∷ ks) (m1 ∷ ms) zero f fd v vd k kd m md e a b d h ef ev ek em = cc
entry_at (f1 ∷ fs) (v1 ∷ vs) (k1 ∷ ks) (m1 ∷ ms) (suc i) f fd v vd k kd m md e a b d h ef ev ek em =
    entry_at fs vs ks ms i f fd v vd k kd m md e (omega arith) (omega arith) (omega arith) (omega arith) ef ev ek em

-- one more entry
pub entries_more : (fs : List Frame) (vs : List Judgement) (ks : List (Option ℕ)) (ms : List ℕ) (i : ℕ) (f : Frame) (v : Judgement) →
    length vs ≡ length fs → length ks ≡ length fs → length ms ≡ length fs → i < length fs →
    f ≡ get_or fs i f → v ≡ get_or vs i v →
    take (i + 1) (entries_of fs vs ks ms) ≡ take i (entries_of fs vs ks ms) ++ entry_with f v (get_or ks i None) (get_or ms i 0) ∷ []
entries_more fs vs ks ms i f v a b d h ef ev =
    let all = entries_of fs vs ks ms in
    let k = get_or ks i None in
    let m = get_or ms i 0 in
    let e = entry_with f v k m in
    take_more all i e (omega (arith, length-entries_of fs vs ks ms a b d))
    ∙ ap (λ (x : Entry). take i all ++ x ∷ []) (entry_at fs vs ks ms i f f v v k None m 0 e a b d h ef ev refl refl)

-- the texts of one more item, and of those after it
pub texts_more : {X : Type 0} (text : X → List ℕ) (xs : List X) (i : ℕ) (x : X) → take (i + 1) xs ≡ take i xs ++ x ∷ [] →
    flat_map text (take i xs) ++ text x ≡ flat_map text (take (i + 1) xs)
texts_more text xs i x more =
    ap (λ (l : List ℕ). flat_map text (take i xs) ++ l) (sym (append-nil (text x)))
    ∙ sym (flat_map-append text (take i xs) (x ∷ []))
    ∙ ap (flat_map text) (sym more)

pub texts_split : {X : Type 0} (text : X → List ℕ) (xs : List X) (i : ℕ) →
    flat_map text (take i xs) ++ flat_map text (drop i xs) ≡ flat_map text xs
texts_split text xs i =
    sym (flat_map-append text (take i xs) (drop i xs)) ∙ ap (flat_map text) (take-append-drop i xs)
