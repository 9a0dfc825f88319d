-- A draft to which a block is added.
use Rattle.std.proofs.Common.{◌≡◌, ℕ, ◌-◌, ◌<◌, List, [], ◌∷◌, ◌++◌, length, map, drop, take, get_or, slice_range, refl, sym, ap, ◌∙◌, subst, arith}
use Rattle.std.proofs.lemmas.List.{drop-map, get_or_append_left, length-append, take-map}
use Rattle.std.specs.List.{AllByRecursion}
use Rattle.afdx_frame.specs.Frame.{Frame}
use Rattle.frame_batch.specs.Batch.{IsRecordOf, record_frame}
use Rattle.frame_batch.specs.Round.{IsPlaced, placed_frame}
use Rattle.frame_batch.specs.declared.draft.Placed.{Placed}

same_block : (blocks more : List (List ℕ)) (p : Placed) → p.block < length blocks → get_or (blocks ++ more) p.block [] ≡ get_or blocks p.block []
same_block blocks more p within = get_or_append_left blocks more [] p.block within

-- the frames stand where they stood
pub still_placed : (blocks more : List (List ℕ)) (places : List Placed) → AllByRecursion (IsPlaced blocks) places
    → AllByRecursion (IsPlaced (blocks ++ more)) places
still_placed blocks more [] all = all
still_placed blocks more (p ∷ places) all = (
  (
    omega (arith, all.0.0, length-append blocks more),
    subst (λ (b : List ℕ). IsRecordOf b p.entry) (sym (same_block blocks more p all.0.0)) all.0.1,
  ),
  still_placed blocks more places all.1,
)

pub same_frames : (blocks more : List (List ℕ)) (places : List Placed) → AllByRecursion (IsPlaced blocks) places
    → map (placed_frame (blocks ++ more)) places ≡ map (placed_frame blocks) places
same_frames blocks more [] all = refl
same_frames blocks more (p ∷ places) all =
    ap (λ (b : List ℕ). record_frame b p.entry ∷ map (placed_frame (blocks ++ more)) places) (same_block blocks more p all.0.0)
    ∙ ap (λ (fs : List Frame). placed_frame blocks p ∷ fs) (same_frames blocks more places all.1)

pub map_range : {X Y : Type 0} (f : X → Y) (xs : List X) (from to : ℕ) → map f (slice_range xs from to) ≡ slice_range (map f xs) from to
map_range f xs from to = sym (take-map f (to - from) (drop from xs)) ∙ ap (take (to - from)) (sym (drop-map f from xs))
