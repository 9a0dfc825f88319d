-- The frames that are kept, as frames are dropped, taken out and kept.
use Rattle.std.proofs.Common.{◌≡◌, ◌<◌, Bool, true, List, [], ◌∷◌, Option, None, Some, length, refl, sym, ap, ◌∙◌, subst, arith}
use Rattle.std.specs.Prelude.{IfSome, IfNone, IsSome}
use Rattle.std.specs.BTreeMap.{BTreeMap, IsLowerBound, IsUnchanged, Updates, btree_map_len, is_at}
use Rattle.std.specs.Map.{lookup}
use Rattle.afdx_frame.specs.Frame.{Frame}
use Rattle.cut_run.specs.Places.{IsBelow, is_below, place_cmp, place_of}
use Rattle.cut_run.specs.Passed.{KeepsLater, passed_at}
use Rattle.cut_run.specs.declared.place.SearchPlace.{SearchPlace}
use Rattle.cut_run.proofs.FinderOrder.{below, differs, not_above, not_below_from}

pub none_from : {X : Type 0} (o : Option X) → (IsSome o → ⊥) → o ≡ None
none_from None h = refl
none_from (Some x) h = absurd (h refl)

some_entries : (test : SearchPlace → Bool) (es : List (SearchPlace × Frame)) → IsSome (lookup test es) → 0 < length es
some_entries test [] h = cc
some_entries test (e ∷ es) h = omega arith

-- a map that has a key has an entry
pub has_entries : (m : BTreeMap SearchPlace Frame) (q : SearchPlace) → IsSome (passed_at m q) → 0 < btree_map_len m
has_entries m q h = some_entries (is_at (place_cmp q)) m.entries h

-- the least leaves, which is below the place: those from the place on stay
pub pop_keeps : (r : Option (SearchPlace × Frame)) (old new : BTreeMap SearchPlace Frame) (place k : SearchPlace) → IsSome (passed_at old k) → IsBelow k place
    → IfNone r (IsUnchanged old new) → IfSome r (λ p. IsLowerBound place_cmp old p.0) → IfSome r (λ p. Updates place_cmp old new p.0 None)
    → (q : SearchPlace) → (IsBelow q place → ⊥) → passed_at new q ≡ passed_at old q
pop_keeps None old new place k some low unchanged least updates q n = ap (lookup (is_at (place_cmp q))) unchanged
pop_keeps (Some p) old new place k some low unchanged least updates q n =
    updates.2 q (differs p.0 q (λ e. not_below_from q k place n (subst (λ (x : SearchPlace). IsBelow k x → ⊥) e (not_above p.0 k (least k some))) low))

-- a frame that is later than the place is kept at its own
pub keeps : (old new : BTreeMap SearchPlace Frame) (place at : SearchPlace) (f : Frame) → at ≡ place_of f → is_below place at ≡ true → Updates place_cmp old new at (Some f)
    → KeepsLater place f old new
keeps old new place at f same low updates = (
  λ b. subst (λ (x : SearchPlace). passed_at new x ≡ Some f) same updates.1,
  λ q d. updates.2 q (differs at q (λ e. d (sym e ∙ same) (subst (λ (x : SearchPlace). IsBelow place x) e (below place at low)))),
)
