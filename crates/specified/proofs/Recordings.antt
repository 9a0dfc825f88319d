-- A recording that is read frame by frame.
use Rattle.std.proofs.Common.{◌≡◌, ℕ, ◌+◌, ◌<◌, List, [], ◌∷◌, ◌++◌, Option, length, take, drop, get_or, sym, ap, ◌∙◌, subst}
use Rattle.std.proofs.lemmas.List.{drop_more, take-append-drop, take_more}
use Rattle.afdx_frame.specs.Frame.{Frame}
use Rattle.afdx_frame.specs.declared.key.Network.{Network}
use Rattle.ordered_merge.specs.Merge.{AreOfTap, new_tap, tap_after}
use Rattle.ordered_merge.specs.Recording.{IsRecording}
use Rattle.specified.specs.Recording.{IsNextFrame, tap_at}
use Rattle.ordered_merge.proofs.Following.{of_tap_append}
use Rattle.ordered_merge.proofs.WholeRuns.{next_of}

pub recording_more : (network : Network) (late next : ℕ) (high : Option ℕ) (l : List Frame) (i : ℕ) (f : Frame) → i < length l → f ≡ get_or l i f
    → AreOfTap network late new_tap (take i l) (tap_at next high) → IsNextFrame network late next high f
    → AreOfTap network late new_tap (take (i + 1) l) (tap_after f.stamp (tap_at next high))
recording_more network late next high l i f h e of_tap is =
    subst (λ (m : List Frame). AreOfTap network late new_tap m (tap_after f.stamp (tap_at next high)))
    (ap (λ (g : Frame). take i l ++ g ∷ []) e ∙ sym (take_more l i f h))
    (of_tap_append network late new_tap (take i l) (tap_at next high) f of_tap is.0 is.1 is.2)

pub recording_stops : (network : Network) (late next : ℕ) (high : Option ℕ) (l : List Frame) (i : ℕ) (f : Frame) → i < length l → f ≡ get_or l i f
    → AreOfTap network late new_tap (take i l) (tap_at next high) → IsRecording network late l → IsNextFrame network late next high f
recording_stops network late next high l i f h e of_tap is =
    let whole : l ≡ take i l ++ f ∷ drop (i + 1) l =
    sym (take-append-drop i l) ∙ ap (λ (m : List Frame). take i l ++ m) (drop_more l i f h ∙ ap (λ (g : Frame). g ∷ drop (i + 1) l) (sym e)) in
    next_of network late new_tap (take i l) f (drop (i + 1) l) is.0 (tap_at next high) (subst (λ (m : List Frame). AreOfTap network late new_tap m is.0) whole is.1) of_tap
