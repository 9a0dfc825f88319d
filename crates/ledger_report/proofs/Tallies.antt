-- One more line, as the entry that counts as it does.
use Rattle.std.proofs.Common.{◌≡◌, ◌∙◌, ℕ, ◌+◌, ◌*◌, ◌/◌, ◌%◌, ◌^◌, ◌<◌, Bool, true, false, cond, List, [], ◌∷◌, ◌++◌, length, filter, Option, None, Some, refl, ap, arith, append-nil}
use Rattle.std.proofs.lemmas.List.{length-map, map-append}
use Rattle.std.proofs.lemmas.List.Elements.{filter-append}
use Rattle.std.proofs.lemmas.List.Sums.{count_by-le-length, length-filter}
use Rattle.afdx_frame.specs.View.{link_of}
use Rattle.afdx_frame.specs.declared.key.VlId.{VlId}
use Rattle.ledger_text.specs.declared.frame.FrameLine.{FrameLine}
use Rattle.ledger_report.specs.Counts.{address_of, counts_of, entries_of, entry_of}

pub link_back : (link : Option VlId) → link ≡ link_of (address_of link)
link_back None = refl
link_back (Some id) =
    let same : id.0 ≡ (0 * 256 + id.0 / 256) * 256 + id.0 % 256 = omega arith in
    ap (λ (n : ℕ). Some (record { 0 = n })) same

pub entries_more : (lines : List FrameLine) (line : FrameLine) → entries_of (lines ++ line ∷ []) ≡ entries_of lines ++ entry_of line ∷ []
entries_more lines line = map-append entry_of lines (line ∷ [])

pub few_entries : (lines : List FrameLine) → length lines < 2 ^ 34 → length (entries_of lines) < 2 ^ 34
few_entries lines few = omega (arith, few, length-map lines entry_of)

-- ---- the counts of the lines that pass a test

pub others_stay : (p : FrameLine → Bool) (lines : List FrameLine) (line : FrameLine) → p line ≡ false →
    counts_of (filter p (lines ++ line ∷ [])) ≡ counts_of (filter p lines)
others_stay p lines line other =
    ap counts_of (filter-append p lines (line ∷ [])
    ∙ ap (λ (b : Bool). filter p lines ++ cond b (line ∷ []) []) other
    ∙ append-nil (filter p lines))

pub own_moves : (p : FrameLine → Bool) (lines : List FrameLine) (line : FrameLine) → p line ≡ true →
    counts_of (filter p (lines ++ line ∷ [])) ≡ counts_of (filter p lines ++ line ∷ [])
own_moves p lines line own =
    ap counts_of (filter-append p lines (line ∷ [])
    ∙ ap (λ (b : Bool). filter p lines ++ cond b (line ∷ []) []) own)

pub few_that_pass : (p : FrameLine → Bool) (lines : List FrameLine) → length lines < 2 ^ 34 → length (filter p lines) < 2 ^ 34
few_that_pass p lines few = omega (arith, length-filter p lines, count_by-le-length p lines)
