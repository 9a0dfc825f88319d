-- The knowledge of the lanes after one more frame.
use Rattle.std.proofs.Common.{◌≡◌, ℕ, ◌<◌, ◌≤◌, true, false, ◌==◌, IsTrue, List, [], ◌∷◌, ◌++◌, length, map, Option, Some, None, option_map, get_or, set, slice_get, refl, sym, ap, ◌∙◌, subst, arith}
use Rattle.std.proofs.lemmas.Bool.{eqb-true, eq-eqb}
use Rattle.std.proofs.lemmas.Bool.Decides.{nat_tests}
use Rattle.std.proofs.lemmas.List.{map-append}
use Rattle.std.proofs.lemmas.Option.{slice_get-get_or, same_Some}
use Rattle.std.specs.Option.{ForSome, option_map_or, option_and_then}
use Rattle.std.specs.declared.cmp.Ordering.TheVariants.{Less}
use Rattle.afdx_frame.specs.Frame.{Frame, key_of, key_cmp}
use Rattle.afdx_frame.specs.View.{link_of}
use Rattle.afdx_frame.specs.declared.key.Key.{Key}
use Rattle.afdx_frame.specs.declared.key.VlId.{VlId}
use Rattle.vl_config.specs.Link.{VirtualLink}
use Rattle.vl_config.specs.Document.{VlTable}
use Rattle.vl_config.specs.Class.{class_by, link_with, link_of_frame}
use Rattle.vl_config.specs.declared.class.Class.{Class}
use Rattle.vl_judge.specs.declared.lane.Lane.{Lane}
use Rattle.vl_judge.specs.Judgement.{Judgement, stopped_verdict}
use Rattle.vl_judge.specs.Verdicts.{Judged, is_of, verdict_on, verdict_by, verdict_of, judged_frames_after, judged_frames, verdicts}
use Rattle.vl_judge.specs.Lane.{LaneStandsAfter, NoneLater}
use Rattle.vl_judge.specs.Lanes.{is_lane_of, lane_with, place_with, place_of, Knows, last_key, IsIndexed, NoneAfterLast}
use Rattle.vl_judge.proofs.After.{lane_after_stopped, lane_after_other}
use Rattle.vl_judge.proofs.Places.{by_test, lane_at, no_lane_at, find_passes, lane_with-set, lane_with-set_other, IsIndexed-set}

-- ---- lists of frames

judged_after-append : (vl_table : VlTable) (earlier : List Judged) (frames : List Frame) (frame : Frame) →
    judged_frames_after vl_table earlier (frames ++ frame ∷ [])
    ≡ judged_frames_after vl_table earlier frames
    ++ record { frame = frame; verdict = verdict_of vl_table (judged_frames_after vl_table earlier frames) frame } ∷ []
judged_after-append vl_table earlier [] frame = refl
judged_after-append vl_table earlier (f ∷ fs) frame =
    judged_after-append vl_table (earlier ++ record { frame = f; verdict = verdict_of vl_table earlier f } ∷ []) fs frame

pub judged-append : (vl_table : VlTable) (frames : List Frame) (frame : Frame) (verdict : Judgement) →
    verdict ≡ verdict_of vl_table (judged_frames vl_table frames) frame →
    judged_frames vl_table (frames ++ frame ∷ []) ≡ judged_frames vl_table frames ++ record { frame = frame; verdict = verdict } ∷ []
judged-append vl_table frames frame verdict e = rw e (judged_after-append vl_table [] frames frame)

pub verdicts-append : (vl_table : VlTable) (frames : List Frame) (frame : Frame) (verdict : Judgement) →
    verdict ≡ verdict_of vl_table (judged_frames vl_table frames) frame →
    verdicts vl_table (frames ++ frame ∷ []) ≡ verdicts vl_table frames ++ verdict ∷ []
verdicts-append vl_table frames frame verdict e =
    ap (λ (js : List Judged). map (λ (j : Judged). j.verdict) js) (judged-append vl_table frames frame verdict e)
    ∙ map-append (λ (j : Judged). j.verdict) (judged_frames vl_table frames) (record { frame = frame; verdict = verdict } ∷ [])

pub last_key-append : (last : Option Key) (frames : List Frame) (frame : Frame) →
    last_key last (frames ++ frame ∷ []) ≡ Some (key_of frame)
last_key-append last [] frame = refl
last_key-append last (f ∷ fs) frame = last_key-append (Some (key_of f)) fs frame

-- a key above another is not earlier
pub key_later : (k l : Key) → key_cmp k l ≡ Less → k.stamp.0 ≤ l.stamp.0
key_later k l e = grind (arith, nat_tests)

-- ---- the lane of a frame

pub place_of-some : (lanes : List Lane) (frame : Frame) (d : Lane) → place_of lanes frame < length lanes →
    (id : VlId) × (link_of frame.bytes ≡ Some id) × (place_of lanes frame ≡ place_with lanes id.0)
    × (lane_with lanes id ≡ Some (get_or lanes (place_of lanes frame) d))
place_of-some lanes frame d h = found (link_of frame.bytes) h
  where
    found : (o : Option VlId) → option_map_or (λ id. place_with lanes id.0) o (length lanes) < length lanes →
        (id : VlId) × (o ≡ Some id) × (option_map_or (λ id. place_with lanes id.0) o (length lanes) ≡ place_with lanes id.0)
        × (lane_with lanes id ≡ Some (get_or lanes (option_map_or (λ id. place_with lanes id.0) o (length lanes)) d))
    found None g = absurd (omega arith)
    found (Some id) g = (id, refl, refl, lane_at lanes id d g)

pub place_of-none : (lanes : List Lane) (frame : Frame) (links : List VirtualLink) (frames : List Judged) →
    length lanes ≤ place_of lanes frame → ((id : VlId) → Knows (lane_with lanes id) (link_with links id) frames) →
    link_of_frame links frame ≡ None
place_of-none lanes frame links frames h knows = missing (link_of frame.bytes) h
  where
    alone : (l : Option VirtualLink) → Knows None l frames → l ≡ None
    alone None k = refl
    alone (Some l) k = absurd k

    missing : (o : Option VlId) → length lanes ≤ option_map_or (λ id. place_with lanes id.0) o (length lanes) →
        option_and_then (link_with links) o ≡ None
    missing None g = refl
    missing (Some id) g =
        alone (link_with links id)
        (subst (λ (x : Option Lane). Knows x (link_with links id) frames) (no_lane_at lanes id g) (knows id))

-- ---- the verdict

pub verdict_in_lane : (lane : Lane) (links : List VirtualLink) (constant : ℕ) (earlier : List Judged) (frame : Frame) (id : VlId)
    (verdict : Judgement) → link_of frame.bytes ≡ Some id → Knows (Some lane) (link_with links id) earlier →
    ((link : VirtualLink) → LaneStandsAfter lane link earlier →
    verdict ≡ verdict_on link (class_by constant (Some link.smax) frame) earlier frame) →
    verdict ≡ verdict_by (link_of_frame links frame)
    (class_by constant (option_map (λ link. link.smax) (link_of_frame links frame)) frame) earlier frame
verdict_in_lane lane links constant earlier frame id verdict e knows says = rw e (told (link_with links id) knows)
  where
    told : (l : Option VirtualLink) → Knows (Some lane) l earlier →
        verdict ≡ verdict_by l (class_by constant (option_map (λ link. link.smax) l) frame) earlier frame
    told None k = absurd k
    told (Some link) k = says link k

-- ---- all that each lane knows

pub knows_stopped : (o : Option Lane) (l : Option VirtualLink) (earlier : List Judged) (frame : Frame) (class : Class) →
    Knows o l earlier → Knows o l (earlier ++ record { frame = frame; verdict = stopped_verdict class } ∷ [])
knows_stopped None None earlier frame class k = tt
knows_stopped (Some lane) None earlier frame class k = absurd k
knows_stopped None (Some link) earlier frame class k = absurd k
knows_stopped (Some lane) (Some link) earlier frame class k = lane_after_stopped lane link earlier frame class k

knows_other : (o : Option Lane) (l : Option VirtualLink) (earlier : List Judged) (j : Judged) (id other : VlId) →
    link_of j.frame.bytes ≡ Some id → id.0 == other.0 ≡ false →
    ((lane : Lane) → o ≡ Some lane → is_lane_of other.0 lane ≡ true) → Knows o l earlier → Knows o l (earlier ++ j ∷ [])
knows_other None None earlier j id other e ne of k = tt
knows_other (Some lane) None earlier j id other e ne of k = absurd k
knows_other None (Some link) earlier j id other e ne of k = absurd k
knows_other (Some lane) (Some link) earlier j id other e ne of k =
    let is : link.id.0 ≡ other.0 = sym (ap (λ (v : VlId). v.0) k.id) ∙ eqb-true lane.id.0 other.0 (of lane refl) in
    lane_after_other lane link earlier j (rw (e, is) ne) k

pub knows_after : (lanes : List Lane) (links : List VirtualLink) (earlier : List Judged) (j : Judged) (id : VlId) (place : ℕ)
    (lane new : Lane) → link_of j.frame.bytes ≡ Some id → place ≡ place_with lanes id.0 → place < length lanes →
    lane_with lanes id ≡ Some lane → get_or lanes place new ≡ lane → new.id ≡ lane.id →
    ((link : VirtualLink) → IsTrue (is_of link.id j.frame) → LaneStandsAfter lane link earlier → LaneStandsAfter new link (earlier ++ j ∷ [])) →
    ((other : VlId) → Knows (lane_with lanes other) (link_with links other) earlier) →
    (other : VlId) → Knows (lane_with (set lanes place new) other) (link_with links other) (earlier ++ j ∷ [])
knows_after lanes links earlier j id place lane new e at within found got same updates knows other =
    let lane_id : lane.id.0 ≡ id.0 = eqb-true lane.id.0 id.0 (find_passes (is_lane_of id.0) lanes lane found) in
    let new_id : new.id.0 ≡ id.0 = ap (λ (v : VlId). v.0) same ∙ lane_id in
    by_test (id.0 == other.0) (λ b. id.0 == other.0 ≡ b → Knows (lane_with (set lanes place new) other) (link_with links other) (earlier ++ j ∷ []))
    (λ t _. (let is : id.0 ≡ other.0 = eqb-true id.0 other.0 t in
    subst (λ (n : ℕ). Knows (lane_with (set lanes place new) (record { 0 = n })) (link_with links (record { 0 = n })) (earlier ++ j ∷ [])) is
    (subst (λ (o : Option Lane). Knows o (link_with links id) (earlier ++ j ∷ [])) (sym (lane_with-set lanes id place new at within new_id))
    (here lane_id (link_with links id) (subst (λ (o : Option Lane). Knows o (link_with links id) earlier) found (knows id))))))
    (λ f _. (
    let other_new : is_lane_of other.0 new ≡ false = rw new_id f in
    let other_old : is_lane_of other.0 (get_or lanes place new) ≡ false = rw (got, lane_id) f in
    subst (λ (o : Option Lane). Knows o (link_with links other) (earlier ++ j ∷ []))
    (sym (lane_with-set_other lanes place new other other_new other_old))
    (knows_other (lane_with lanes other) (link_with links other) earlier j id other e f
    (λ x is. find_passes (is_lane_of other.0) lanes x is) (knows other)))) refl
  where
    here : lane.id.0 ≡ id.0 → (l : Option VirtualLink) → Knows (Some lane) l earlier → Knows (Some new) l (earlier ++ j ∷ [])
    here lane_id None k = absurd k
    here lane_id (Some link) k =
        let is : id.0 ≡ link.id.0 = sym lane_id ∙ ap (λ (v : VlId). v.0) k.id in
        updates link (rw e (eq-eqb id.0 link.id.0 is)) k

-- no lane has seen a later frame
pub none_after : (lanes : List Lane) (last : Option Key) (frame : Frame) (id : VlId) (place : ℕ) (lane new : Lane) →
    place ≡ place_with lanes id.0 → place < length lanes → lane_with lanes id ≡ Some lane → get_or lanes place new ≡ lane →
    new.id ≡ lane.id → ForSome last (λ k. key_cmp k (key_of frame) ≡ Less) →
    ((later : ℕ) → frame.stamp ≤ later → NoneLater new later) →
    NoneAfterLast last lanes → NoneAfterLast (Some (key_of frame)) (set lanes place new)
none_after lanes last frame id place lane new at within found got same order none before later h other =
    let lane_id : lane.id.0 ≡ id.0 = eqb-true lane.id.0 id.0 (find_passes (is_lane_of id.0) lanes lane found) in
    let new_id : new.id.0 ≡ id.0 = ap (λ (v : VlId). v.0) same ∙ lane_id in
    let stamp_later : frame.stamp ≤ later = h (key_of frame) refl in
    let last_later : ForSome last (λ k. k.stamp.0 ≤ later) = (λ k e. omega (arith, key_later k (key_of frame) (order k e), stamp_later)) in
    by_test (id.0 == other.0) (λ b. id.0 == other.0 ≡ b → ForSome (lane_with (set lanes place new) other) (λ lane. NoneLater lane later))
    (λ t _. (let is : id.0 ≡ other.0 = eqb-true id.0 other.0 t in
    subst (λ (n : ℕ). ForSome (lane_with (set lanes place new) (record { 0 = n })) (λ lane. NoneLater lane later)) is
    (subst (λ (o : Option Lane). ForSome o (λ lane. NoneLater lane later)) (sym (lane_with-set lanes id place new at within new_id))
    (λ x e. (let same_lane : new ≡ x = cc in subst (λ (l : Lane). NoneLater l later) same_lane (none later stamp_later))))))
    (λ f _. (
    let other_new : is_lane_of other.0 new ≡ false = rw new_id f in
    let other_old : is_lane_of other.0 (get_or lanes place new) ≡ false = rw (got, lane_id) f in
    subst (λ (o : Option Lane). ForSome o (λ lane. NoneLater lane later))
    (sym (lane_with-set_other lanes place new other other_new other_old)) (before later last_later other))) refl

-- ---- the lane in the frame's place; `item` is that lane and `new` what becomes of it

at_place : (lanes : List Lane) (place : ℕ) (item new : Lane) → place < length lanes → item ≡ get_or lanes place item →
    get_or lanes place new ≡ item
at_place lanes place item new within got =
    let a : slice_get lanes place ≡ Some (get_or lanes place new) = slice_get-get_or lanes place new within in
    let b : slice_get lanes place ≡ Some (get_or lanes place item) = slice_get-get_or lanes place item within in
    same_Some _ _ (sym a ∙ b) ∙ sym got

lane_found : (lanes : List Lane) (frame : Frame) (place : ℕ) (item : Lane) → place ≡ place_of lanes frame → place < length lanes →
    item ≡ get_or lanes place item →
    (id : VlId) × (link_of frame.bytes ≡ Some id) × (place ≡ place_with lanes id.0) × (lane_with lanes id ≡ Some item)
lane_found lanes frame place item at within got =
    let (id, named, placed, found) = place_of-some lanes frame item (omega (arith, at, within)) in (
      id,
      named,
      at ∙ placed,
      found ∙ ap (λ (k : ℕ). Some (get_or lanes k item)) (sym at) ∙ ap Some (sym got),
    )

pub item_none_later : (lanes : List Lane) (last : Option Key) (frame : Frame) (place : ℕ) (item : Lane) →
    place ≡ place_of lanes frame → place < length lanes → item ≡ get_or lanes place item →
    ForSome last (λ k. key_cmp k (key_of frame) ≡ Less) → NoneAfterLast last lanes →
    (later : ℕ) → frame.stamp ≤ later → NoneLater item later
item_none_later lanes last frame place item at within got order none later h =
    let (id, named, placed, found) = lane_found lanes frame place item at within got in
    none later (λ k e. omega (arith, key_later k (key_of frame) (order k e), h)) id item found

pub lanes_kept : (index : List ℕ) (lanes : List Lane) (last : Option Key) (key : Key) (frame : Frame) (place : ℕ) (item new : Lane) →
    place ≡ place_of lanes frame → place < length lanes → item ≡ get_or lanes place item → new.id ≡ item.id →
    key ≡ key_of frame → ForSome last (λ k. key_cmp k (key_of frame) ≡ Less) →
    ((later : ℕ) → frame.stamp ≤ later → NoneLater new later) → IsIndexed index lanes × NoneAfterLast last lanes →
    IsIndexed index (set lanes place new) × NoneAfterLast (Some key) (set lanes place new)
lanes_kept index lanes last key frame place item new at within got same key_is order none kept =
    let (id, named, placed, found) = lane_found lanes frame place item at within got in
    let got_new : get_or lanes place new ≡ item = at_place lanes place item new within got in (
      IsIndexed-set index lanes place new within (same ∙ sym (ap (λ (l : Lane). l.id) got_new)) kept.0,
      subst (λ (k : Key). NoneAfterLast (Some k) (set lanes place new)) (sym key_is)
          (none_after lanes last frame id place item new placed within found got_new same order none kept.1),
    )

pub unmoved_kept : (index : List ℕ) (lanes : List Lane) (last : Option Key) (key : Key) (frame : Frame) →
    key ≡ key_of frame → ForSome last (λ k. key_cmp k (key_of frame) ≡ Less) → IsIndexed index lanes × NoneAfterLast last lanes →
    IsIndexed index lanes × NoneAfterLast (Some key) lanes
unmoved_kept index lanes last key frame key_is order kept = (
  kept.0,
  λ later h id.
      let stamp_later : key.stamp.0 ≤ later = h key refl in
      let same_stamp : key.stamp.0 ≡ frame.stamp = ap (λ (k : Key). k.stamp.0) key_is in
      kept.1 later (λ k e. omega (arith, key_later k (key_of frame) (order k e), stamp_later, same_stamp)) id,
)

pub verdict_in_place : (vl_table : VlTable) (frames : List Frame) (frame : Frame) (lanes : List Lane) (constant place : ℕ) (item : Lane)
    (verdict : Judgement) → constant ≡ vl_table.constant → place ≡ place_of lanes frame → place < length lanes →
    item ≡ get_or lanes place item →
    ((id : VlId) → Knows (lane_with lanes id) (link_with vl_table.links id) (judged_frames vl_table frames)) →
    ((link : VirtualLink) (earlier : List Judged) → LaneStandsAfter item link earlier →
    verdict ≡ verdict_on link (class_by constant (Some link.smax) frame) earlier frame) →
    verdict ≡ verdict_of vl_table (judged_frames vl_table frames) frame
verdict_in_place vl_table frames frame lanes constant place item verdict same at within got knows says =
    let (id, named, placed, found) = lane_found lanes frame place item at within got in
    subst (λ (n : ℕ). verdict ≡ verdict_by (link_of_frame vl_table.links frame)
    (class_by n (option_map (λ link. link.smax) (link_of_frame vl_table.links frame)) frame) (judged_frames vl_table frames) frame)
    same (verdict_in_lane item vl_table.links constant (judged_frames vl_table frames) frame id verdict named
    (subst (λ (o : Option Lane). Knows o (link_with vl_table.links id) (judged_frames vl_table frames)) found (knows id))
    (λ link stands. says link (judged_frames vl_table frames) stands))

pub knows_in_place : (vl_table : VlTable) (frames : List Frame) (frame : Frame) (lanes : List Lane) (place : ℕ) (item new : Lane)
    (verdict : Judgement) → place ≡ place_of lanes frame → place < length lanes → item ≡ get_or lanes place item → new.id ≡ item.id →
    ((id : VlId) → Knows (lane_with lanes id) (link_with vl_table.links id) (judged_frames vl_table frames)) →
    ((link : VirtualLink) (earlier : List Judged) → IsTrue (is_of link.id frame) → LaneStandsAfter item link earlier →
    LaneStandsAfter new link (earlier ++ record { frame = frame; verdict = verdict } ∷ [])) →
    verdict ≡ verdict_of vl_table (judged_frames vl_table frames) frame →
    (id : VlId) → Knows (lane_with (set lanes place new) id) (link_with vl_table.links id) (judged_frames vl_table (frames ++ frame ∷ []))
knows_in_place vl_table frames frame lanes place item new verdict at within got same knows updates said id =
    let (at_id, named, placed, found) = lane_found lanes frame place item at within got in
    rw (judged-append vl_table frames frame verdict said)
    (knows_after lanes vl_table.links (judged_frames vl_table frames) (record { frame = frame; verdict = verdict }) at_id place item new named
    placed within found (at_place lanes place item new within got) same
    (λ link of stands. updates link (judged_frames vl_table frames) of stands) knows id)

-- ---- a frame without a lane

pub verdict_without_lane : (vl_table : VlTable) (frames : List Frame) (frame : Frame) (lanes : List Lane) (constant : ℕ) →
    constant ≡ vl_table.constant → length lanes ≤ place_of lanes frame →
    ((id : VlId) → Knows (lane_with lanes id) (link_with vl_table.links id) (judged_frames vl_table frames)) →
    stopped_verdict (class_by constant None frame) ≡ verdict_of vl_table (judged_frames vl_table frames) frame
verdict_without_lane vl_table frames frame lanes constant same past knows =
    let none : link_of_frame vl_table.links frame ≡ None = place_of-none lanes frame vl_table.links (judged_frames vl_table frames) past knows in
    subst (λ (l : Option VirtualLink). stopped_verdict (class_by constant None frame)
    ≡ verdict_by l (class_by vl_table.constant (option_map (λ link. link.smax) l) frame) (judged_frames vl_table frames) frame)
    (sym none) (ap (λ (n : ℕ). stopped_verdict (class_by n None frame)) same)

pub knows_without_lane : (vl_table : VlTable) (frames : List Frame) (frame : Frame) (lanes : List Lane) (class : Class) →
    stopped_verdict class ≡ verdict_of vl_table (judged_frames vl_table frames) frame →
    ((id : VlId) → Knows (lane_with lanes id) (link_with vl_table.links id) (judged_frames vl_table frames)) →
    (id : VlId) → Knows (lane_with lanes id) (link_with vl_table.links id) (judged_frames vl_table (frames ++ frame ∷ []))
knows_without_lane vl_table frames frame lanes class said knows id =
    rw (judged-append vl_table frames frame (stopped_verdict class) said)
    (knows_stopped (lane_with lanes id) (link_with vl_table.links id) (judged_frames vl_table frames) frame class (knows id))
