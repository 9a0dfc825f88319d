-- One more number at the end of a list of sequence numbers.
use Rattle.std.proofs.Common.{◌≡◌, ℕ, suc, ◌<◌, Bool, List, [], ◌∷◌, ◌++◌, length, Option, Some, refl, sym, ◌∙◌, ap, arith, if◌then◌else◌, slice_get}
use Rattle.std.proofs.lemmas.List.{length-append, get_or_append_left}
use Rattle.std.proofs.lemmas.Option.{slice_get-get_or}
use Rattle.std.proofs.Math.Seq.{get_or-append_seam}
use Rattle.integrity.specs.Sequence.{number_before, verdict_against, verdict_at, StandsAfter}
use Rattle.integrity.specs.declared.verdict.Integrity.TheVariants.{Off}

slice_get-seam : {A : Type 0} (xs : List A) (y : A) → slice_get (xs ++ y ∷ []) (length xs) ≡ Some y
slice_get-seam xs y =
    let within : length xs < length (xs ++ y ∷ []) = rw length-append (omega arith) in
    slice_get-get_or (xs ++ y ∷ []) (length xs) y within ∙ ap Some (get_or-append_seam xs y [] y)

slice_get-front : {A : Type 0} (xs : List A) (y : A) (i : ℕ) → i < length xs → slice_get (xs ++ y ∷ []) i ≡ slice_get xs i
slice_get-front xs y i h =
    let within : i < length (xs ++ y ∷ []) = rw length-append (omega arith) in
    slice_get-get_or (xs ++ y ∷ []) i y within ∙ ap Some (get_or_append_left xs (y ∷ []) y i h) ∙ sym (slice_get-get_or xs i y h)

-- the last number is the nearest earlier one of what comes next
pub stands_after_append : (numbers : List ℕ) (number : ℕ) → StandsAfter (Some number) (numbers ++ number ∷ [])
stands_after_append numbers number =
    let more : length (numbers ++ number ∷ []) ≡ suc (length numbers) = rw length-append (omega arith) in
    rw more (sym (slice_get-seam numbers number))

-- a number at the end is not what stands before it
number_before-append : (numbers : List ℕ) (number : ℕ) →
    number_before (numbers ++ number ∷ []) (length numbers) ≡ number_before numbers (length numbers)
number_before-append [] number = refl
number_before-append (n ∷ ns) number = slice_get-front (n ∷ ns) number (length ns) (omega arith)

-- the verdict of a number is by the last one that the check keeps
pub verdict_at_append : (on : Bool) (last : Option ℕ) (numbers : List ℕ) (number : ℕ) → StandsAfter last numbers →
    verdict_at on (numbers ++ number ∷ []) (length numbers) ≡ (if on then verdict_against last number else Off)
verdict_at_append on last numbers number stands =
    rw (number_before-append numbers number, get_or-append_seam numbers number [] 0, ← stands) refl
