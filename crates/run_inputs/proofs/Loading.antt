-- Filters of texts, one after another.
use Rattle.std.proofs.Common.{◌≡◌, inl, inr, ℕ, suc, ◌+◌, ◌<◌, List, [], ◌∷◌, ◌++◌, length, map, take, drop, get_or, Some, sym, subst, ap, ◌∙◌, arith}
use Rattle.std.proofs.lemmas.List.{map-append, length-map, length-take-le, take-append-drop}
use Rattle.bpf_isa.specs.declared.packed.Packed.{Packed}
use Rattle.run_inputs.specs.Inputs.{AreFilters, IsFilter, IsFilterFault, IsFirstFilterFault}
use Rattle.command_line.specs.declared.fault.Fault.{Fault}
use Rattle.run_fault.proofs.Lists.{drop_next, take_next}

one_more : (texts : List (List ℕ)) (ps : List (List Packed)) (text : List ℕ) (p : List Packed) → AreFilters texts ps → IsFilter text p → AreFilters (texts ++ text ∷ []) (ps ++ p ∷ [])
one_more [] [] text p are is = (is, tt)
one_more [] (q ∷ ps) text p are is = absurd are
one_more (t ∷ texts) [] text p are is = absurd are
one_more (t ∷ texts) (q ∷ ps) text p are is = (are.0, one_more texts ps text p are.1 is)

-- a text more
pub filters_next : {X : Type 0} (bytes : X → List ℕ) (xs : List X) (ps : List (List Packed)) (n : ℕ) (x : X) (p : List Packed) → n < length xs → x ≡ get_or xs n x →
    AreFilters (map bytes (take n xs)) ps → IsFilter (bytes x) p → AreFilters (map bytes (take (n + 1) xs)) (ps ++ p ∷ [])
filters_next {X = X} bytes xs ps n x p less is are holds =
    subst (λ (texts : List (List ℕ)). AreFilters texts (ps ++ p ∷ []))
    (sym (ap (map bytes) (take_next xs n x less ∙ ap (λ (y : X). take n xs ++ y ∷ []) (sym is)) ∙ map-append bytes (take n xs) (x ∷ [])))
    (one_more (map bytes (take n xs)) ps (bytes x) p are holds)

fault_behind : (number : ℕ) (front : List (List ℕ)) (ps : List (List Packed)) (text : List ℕ) (rest : List (List ℕ)) (f : Fault) → AreFilters front ps →
    IsFilterFault text (Some (number + length front)) f → IsFirstFilterFault number (front ++ text ∷ rest) f
fault_behind number [] [] text rest f are fault = inl (subst (λ n. IsFilterFault text (Some n) f) (no_more number) fault)
  where
    no_more : (n : ℕ) → n + 0 ≡ n
    no_more n = omega arith
fault_behind number [] (q ∷ ps) text rest f are fault = absurd are
fault_behind number (t ∷ front) [] text rest f are fault = absurd are
fault_behind number (t ∷ front) (q ∷ ps) text rest f are fault =
    inr ((q, are.0), fault_behind (number + 1) front ps text rest f are.1 (subst (λ n. IsFilterFault text (Some n) f) (moved number (length front)) fault))
  where
    moved : (n m : ℕ) → n + suc m ≡ n + 1 + m
    moved n m = omega arith

-- the texts before it hold filters, and this one has a fault
pub fault_at : {X : Type 0} (bytes : X → List ℕ) (xs : List X) (ps : List (List Packed)) (n : ℕ) (x : X) (f : Fault) → n < length xs → x ≡ get_or xs n x →
    AreFilters (map bytes (take n xs)) ps → IsFilterFault (bytes x) (Some (n + 1)) f → IsFirstFilterFault 1 (map bytes xs) f
fault_at {X = X} bytes xs ps n x f less is are fault =
    let parts : map bytes xs ≡ map bytes (take n xs) ++ bytes x ∷ map bytes (drop (n + 1) xs) =
    ap (map bytes) (sym (take-append-drop n xs) ∙ ap (λ (ys : List X). take n xs ++ ys) (drop_next xs n x less ∙ ap (λ (y : X). y ∷ drop (n + 1) xs) (sym is)))
    ∙ map-append bytes (take n xs) (x ∷ drop (n + 1) xs) in
    let count : length (map bytes (take n xs)) ≡ n = length-map (take n xs) bytes ∙ length-take-le n xs (omega (arith, less)) in
    subst (λ (texts : List (List ℕ)). IsFirstFilterFault 1 texts f) (sym parts)
    (fault_behind 1 (map bytes (take n xs)) ps (bytes x) (map bytes (drop (n + 1) xs)) f are (subst (λ m. IsFilterFault (bytes x) (Some m) f) (from_one n (length (map bytes (take n xs))) count) fault))
  where
    from_one : (n m : ℕ) → m ≡ n → n + 1 ≡ 1 + m
    from_one n m e = omega (arith, e)
