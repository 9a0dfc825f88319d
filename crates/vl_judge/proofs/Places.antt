-- The index of the lanes, and the lane of an identifier.
use Rattle.std.proofs.Common.{◌≡◌, ℕ, zero, suc, ◌+◌, ◌<◌, ◌≤◌, ◌≢◌, Bool, true, false, not, cond, List, [], ◌∷◌, ◌++◌, length, Some, None, get_or, set, drop, find, ◌==◌, refl, sym, ap, ◌∙◌, subst, arith, get_or-set_same, get_or-set_other}
use Rattle.std.proofs.lemmas.Bool.{eqb-true, eq-eqb, false≢true}
use Rattle.std.proofs.lemmas.List.{drop_more}
use Rattle.std.proofs.lemmas.List.Elements.{All-set}
use Rattle.std.proofs.lemmas.List.Folds.{find_at, find-set, position_or_len-set}
use Rattle.std.proofs.lemmas.Option.{slice_get-get_or, slice_get_past}
use Rattle.std.specs.Option.{ForSome}
use Rattle.afdx_frame.specs.declared.key.VlId.{VlId}
use Rattle.vl_config.specs.Link.{VirtualLink}
use Rattle.vl_config.specs.Class.{link_with}
use Rattle.vl_judge.specs.declared.lane.Lane.{Lane}
use Rattle.vl_judge.specs.Lane.{LaneStandsAfter, NoneLater}
use Rattle.vl_judge.specs.Lanes.{is_lane_of, lane_with, place_with, IsIndexed, Knows, AllNew}

-- one more lane at the end
pub AllNew-append : (lanes : List Lane) (links : List VirtualLink) (lane : Lane) (link : VirtualLink) → AllNew lanes links →
    LaneStandsAfter lane link [] → ((stamp : ℕ) → NoneLater lane stamp) → AllNew (lanes ++ lane ∷ []) (links ++ link ∷ [])
AllNew-append [] [] lane link all stands none = (stands, none, tt)
AllNew-append (x ∷ xs) [] lane link all stands none = absurd all
AllNew-append [] (y ∷ ys) lane link all stands none = absurd all
AllNew-append (x ∷ xs) (y ∷ ys) lane link all stands none = (all.0, all.1, AllNew-append xs ys lane link all.2 stands none)

-- the lane of an identifier stands first or among the others
pub by_test : (b : Bool) (P : Bool → Type 0) → (b ≡ true → P true) → (b ≡ false → P false) → P b
by_test true P f g = f refl
by_test false P f g = g refl

-- new lanes know the empty list
pub AllNew-knows : (lanes : List Lane) (links : List VirtualLink) (id : VlId) → AllNew lanes links →
    Knows (lane_with lanes id) (link_with links id) []
AllNew-knows [] [] id all = tt
AllNew-knows (x ∷ xs) [] id all = absurd all
AllNew-knows [] (y ∷ ys) id all = absurd all
AllNew-knows (x ∷ xs) (y ∷ ys) id all =
    let same : (x.id.0 == id.0) ≡ (y.id.0 == id.0) = ap (λ (v : VlId). v.0 == id.0) all.0.id in
    by_test (y.id.0 == id.0)
    (λ b. Knows (cond (x.id.0 == id.0) (Some x) (lane_with xs id)) (cond b (Some y) (link_with ys id)) [])
    (λ e. rw (same, e) all.0)
    (λ e. rw (same, e) (AllNew-knows xs ys id all.2))

pub AllNew-none_later : (lanes : List Lane) (links : List VirtualLink) (id : VlId) (stamp : ℕ) → AllNew lanes links →
    ForSome (lane_with lanes id) (λ lane. NoneLater lane stamp)
AllNew-none_later [] [] id stamp all = λ lane e. cc
AllNew-none_later (x ∷ xs) [] id stamp all = absurd all
AllNew-none_later [] (y ∷ ys) id stamp all = absurd all
AllNew-none_later (x ∷ xs) (y ∷ ys) id stamp all =
    by_test (x.id.0 == id.0) (λ b. ForSome (cond b (Some x) (lane_with xs id)) (λ lane. NoneLater lane stamp))
    (λ e lane f. (let is : x ≡ lane = cc in subst (λ (l : Lane). NoneLater l stamp) is (all.1 stamp)))
    (λ e. AllNew-none_later xs ys id stamp all.2)

-- one more lane in the index
pub indexed_more : (index : List ℕ) (lanes : List Lane) (i : ℕ) (lane : Lane) → i < length lanes → lane ≡ get_or lanes i lane →
    lane.id.0 < length index →
    ((id : ℕ) → id < 65536 → get_or index id 0 ≡ (i + 1) + place_with (drop (i + 1) lanes) id) →
    (id : ℕ) → id < 65536 → get_or (set index lane.id.0 i) id 0 ≡ i + place_with (drop i lanes) id
indexed_more index lanes i lane h e fits before id small =
    rw (drop_more lanes i lane h, ← e)
    (by_test (lane.id.0 == id)
    (λ b. get_or (set index lane.id.0 i) id 0 ≡ i + cond (not b) (1 + place_with (drop (i + 1) lanes) id) 0)
    (λ t. (let is : lane.id.0 ≡ id = eqb-true lane.id.0 id t in
    subst (λ (k : ℕ). get_or (set index lane.id.0 i) k 0 ≡ i + 0) is
    (get_or-set_same index lane.id.0 i 0 fits ∙ omega arith)))
    (λ f. (let other : id ≢ lane.id.0 = (λ is. false≢true (sym f ∙ eq-eqb lane.id.0 id (sym is))) in
    get_or-set_other index lane.id.0 id i 0 other ∙ before id small ∙ omega arith)))

pub AllNew-length : (lanes : List Lane) (links : List VirtualLink) → AllNew lanes links → length lanes ≡ length links
AllNew-length [] [] all = refl
AllNew-length (x ∷ xs) [] all = absurd all
AllNew-length [] (y ∷ ys) all = absurd all
AllNew-length (x ∷ xs) (y ∷ ys) all = ap suc (AllNew-length xs ys all.2)

-- ---- the lane at a place

pub lane_at : (lanes : List Lane) (id : VlId) (d : Lane) → place_with lanes id.0 < length lanes →
    lane_with lanes id ≡ Some (get_or lanes (place_with lanes id.0) d)
lane_at lanes id d h = find_at (is_lane_of id.0) lanes ∙ slice_get-get_or lanes (place_with lanes id.0) d h

pub no_lane_at : (lanes : List Lane) (id : VlId) → length lanes ≤ place_with lanes id.0 → lane_with lanes id ≡ None
no_lane_at lanes id h = find_at (is_lane_of id.0) lanes ∙ slice_get_past lanes (place_with lanes id.0) h

pub find_passes : {X : Type 0} (p : X → Bool) (xs : List X) (x : X) → find p xs ≡ Some x → p x ≡ true
find_passes p [] x e = cc
find_passes p (y ∷ ys) x e =
    by_test (p y) (λ b. cond b (Some y) (find p ys) ≡ Some x → p x ≡ true)
    (λ t f. (let is : y ≡ x = cc in subst (λ z. p z ≡ true) is t))
    (λ _ f. find_passes p ys x f) e

find_set_other : {X : Type 0} (p : X → Bool) (xs : List X) (i : ℕ) (y : X) → p y ≡ false → p (get_or xs i y) ≡ false →
    find p (set xs i y) ≡ find p xs
find_set_other p [] i y a b = refl
find_set_other p (x ∷ xs) zero y a b = rw (a, b) refl
find_set_other p (x ∷ xs) (suc i) y a b = ap (λ more. cond (p x) (Some x) more) (find_set_other p xs i y a b)

-- a lane put in the place of the lane of an identifier
pub lane_with-set : (lanes : List Lane) (id : VlId) (place : ℕ) (new : Lane) → place ≡ place_with lanes id.0 → place < length lanes →
    new.id.0 ≡ id.0 → lane_with (set lanes place new) id ≡ Some new
lane_with-set lanes id place new e h same = find-set (is_lane_of id.0) lanes place new e h (eq-eqb new.id.0 id.0 same)

pub lane_with-set_other : (lanes : List Lane) (place : ℕ) (new : Lane) (other : VlId) → is_lane_of other.0 new ≡ false →
    is_lane_of other.0 (get_or lanes place new) ≡ false → lane_with (set lanes place new) other ≡ lane_with lanes other
lane_with-set_other lanes place new other a b = find_set_other (is_lane_of other.0) lanes place new a b

-- the index stays right for a lane of the same identifier
pub IsIndexed-set : (index : List ℕ) (lanes : List Lane) (place : ℕ) (new : Lane) → place < length lanes → new.id ≡ (get_or lanes place new).id →
    IsIndexed index lanes → IsIndexed index (set lanes place new)
IsIndexed-set index lanes place new within same indexed = record {
  complete = indexed.complete;
  fits = All-set (λ (lane : Lane). lane.id.0 < 65536) lanes place new
      (subst (λ (v : VlId). v.0 < 65536) (sym same) (indexed.fits place new within)) indexed.fits;
  places = λ id small. indexed.places id small
      ∙ sym (position_or_len-set (is_lane_of id) lanes place new new (ap (λ (v : VlId). v.0 == id) same));
}
