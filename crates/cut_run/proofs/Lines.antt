-- One more line after those whose frames were found.
use Rattle.std.proofs.Common.{◌≡◌, ◌∙◌, ℕ, zero, suc, true, false, List, [], ◌∷◌, ◌++◌, slice_get, Option, None, Some, refl, sym, ap, subst, inl, inr, append_assoc}
use Rattle.std.specs.List.{zip}
use Rattle.std.proofs.lemmas.Grind.{flat_map-append}
use Rattle.std.proofs.lemmas.List.{append-nil}
use Rattle.std.proofs.lemmas.List.Elements.{filter-append}
use Rattle.afdx_frame.specs.Frame.{Frame}
use Rattle.afdx_frame.specs.declared.key.Key.{Key}
use Rattle.afdx_frame.specs.declared.key.Network.{Network}
use Rattle.afdx_frame.specs.declared.key.Network.TheVariants.{A, B}
use Rattle.ledger_text.specs.declared.frame.FrameLine.{FrameLine}
use Rattle.packet_format.specs.Packets.{Format, head_by}
use Rattle.cut_run.specs.Lines.{AreFramesOf, AreSpread, Choice, Chooses, ComesLater, IsFrameOf, Rise, Takes, TakesOf, is_read, key_of_line, last_from, last_key, cut_capture, line_packet, line_packets, read_lines, side}

-- ---- the order of lines

rise_from : (last : Option Key) (vs : List FrameLine) (v : FrameLine) → Rise last vs → ComesLater (last_from last vs) v → Rise last (vs ++ v ∷ [])
rise_from last [] v rise later = (later, tt)
rise_from last (w ∷ vs) v (first, more) later = (first, rise_from (Some (key_of_line w)) vs v more later)

pub rise_more : (vs : List FrameLine) (v : FrameLine) → Rise None vs → ComesLater (last_key vs) v → Rise None (vs ++ v ∷ [])
rise_more vs v rise later = rise_from None vs v rise later

last_more_from : (last : Option Key) (vs : List FrameLine) (v : FrameLine) → last_from last (vs ++ v ∷ []) ≡ Some (key_of_line v)
last_more_from last [] v = refl
last_more_from last (w ∷ vs) v = last_more_from (Some (key_of_line w)) vs v

pub last_more : (vs : List FrameLine) (v : FrameLine) → last_key (vs ++ v ∷ []) ≡ Some (key_of_line v)
last_more vs v = last_more_from None vs v

-- ---- the frames of lines

-- each element of the first list stands in the second at the same place
abbrev pub Widens : List Frame → List Frame → Type 0
Widens xs ys = (n : ℕ) (f : Frame) → slice_get xs n ≡ Some f → slice_get ys n ≡ Some f

pub widens_by : (xs more : List Frame) → Widens xs (xs ++ more)
widens_by [] more n f e = cc
widens_by (x ∷ xs) more zero f e = e
widens_by (x ∷ xs) more (suc n) f e = widens_by xs more n f e

pub widens_none : (xs : List Frame) → Widens xs xs
widens_none xs n f e = e

frame_wider : (network : Network) (fa fb ga gb : List Frame) → Widens fa ga → Widens fb gb → Widens (side network fa fb) (side network ga gb)
frame_wider A fa fb ga gb wa wb = wa
frame_wider B fa fb ga gb wa wb = wb

-- more frames were read
pub named_wider : (fa fb ga gb : List Frame) → Widens fa ga → Widens fb gb → (vs : List FrameLine) (fs : List Frame) → AreFramesOf fa fb vs fs
    → AreFramesOf ga gb vs fs
named_wider fa fb ga gb wa wb [] [] h = tt
named_wider fa fb ga gb wa wb [] (f ∷ fs) h = absurd h
named_wider fa fb ga gb wa wb (v ∷ vs) [] h = absurd h
named_wider fa fb ga gb wa wb (v ∷ vs) (f ∷ fs) (first, rest) = (
  record { indexed = frame_wider v.network fa fb ga gb wa wb v.number f first.indexed; stamp = first.stamp },
  named_wider fa fb ga gb wa wb vs fs rest,
)

pub named_more : (fa fb : List Frame) (vs : List FrameLine) (fs : List Frame) (v : FrameLine) (f : Frame) → AreFramesOf fa fb vs fs → IsFrameOf fa fb v f
    → AreFramesOf fa fb (vs ++ v ∷ []) (fs ++ f ∷ [])
named_more fa fb [] [] v f h one = (one, tt)
named_more fa fb [] (g ∷ fs) v f h one = absurd h
named_more fa fb (w ∷ vs) [] v f h one = absurd h
named_more fa fb (w ∷ vs) (g ∷ fs) v f (first, rest) one = (first, named_more fa fb vs fs v f rest one)

-- ---- the lines that are looked up

pub read_more : (skips : Option Network) (vs : List FrameLine) (v : FrameLine) → is_read skips v.network ≡ true
    → read_lines skips (vs ++ v ∷ []) ≡ read_lines skips vs ++ v ∷ []
read_more skips vs v is =
    let one : read_lines skips (v ∷ []) ≡ v ∷ [] = rw is refl in
    filter-append (λ (w : FrameLine). is_read skips w.network) vs (v ∷ []) ∙ ap (λ (ws : List FrameLine). read_lines skips vs ++ ws) one

pub read_same : (skips : Option Network) (vs : List FrameLine) (v : FrameLine) → is_read skips v.network ≡ false
    → read_lines skips (vs ++ v ∷ []) ≡ read_lines skips vs
read_same skips vs v is =
    let none : read_lines skips (v ∷ []) ≡ [] = rw is refl in
    filter-append (λ (w : FrameLine). is_read skips w.network) vs (v ∷ []) ∙ ap (λ (ws : List FrameLine). read_lines skips vs ++ ws) none
    ∙ append-nil (read_lines skips vs)

pub spread_more : (skips : Option Network) (vs : List FrameLine) (found fs : List Frame) (v : FrameLine) (f : Frame) → is_read skips v.network ≡ true
    → AreSpread skips vs found fs → AreSpread skips (vs ++ v ∷ []) (found ++ f ∷ []) (fs ++ f ∷ [])
spread_more skips [] found [] v f is none = inl (is, [], ap (λ (xs : List Frame). xs ++ f ∷ []) none, refl)
spread_more skips [] found (g ∷ fs) v f is h = absurd h
spread_more skips (w ∷ vs) found [] v f is h = absurd h
spread_more skips (w ∷ vs) found (g ∷ fs) v f is (inl (one, more, same, rest)) =
    inl (one, more ++ f ∷ [], ap (λ (xs : List Frame). xs ++ f ∷ []) same, spread_more skips vs more fs v f is rest)
spread_more skips (w ∷ vs) found (g ∷ fs) v f is (inr (one, rest)) = inr (one, spread_more skips vs found fs v f is rest)

pub spread_over : (skips : Option Network) (vs : List FrameLine) (found fs : List Frame) (v : FrameLine) (f : Frame) → is_read skips v.network ≡ false
    → AreSpread skips vs found fs → AreSpread skips (vs ++ v ∷ []) found (fs ++ f ∷ [])
spread_over skips [] found [] v f is none = inr (is, none)
spread_over skips [] found (g ∷ fs) v f is h = absurd h
spread_over skips (w ∷ vs) found [] v f is h = absurd h
spread_over skips (w ∷ vs) found (g ∷ fs) v f is (inl (one, more, same, rest)) = inl (one, more, same, spread_over skips vs more fs v f is rest)
spread_over skips (w ∷ vs) found (g ∷ fs) v f is (inr (one, rest)) = inr (one, spread_over skips vs found fs v f is rest)

-- ---- the frames that are taken

takes_more_from : {X : Type 0} (choice : Choice) (before vs : List FrameLine) (fs taken : List X) (v : FrameLine) (f : X)
    → Takes choice before vs fs taken → Chooses choice (before ++ vs) v → Takes choice before (vs ++ v ∷ []) (fs ++ f ∷ []) (taken ++ f ∷ [])
takes_more_from {X} choice before [] [] taken v f none is =
    subst (λ (ts : List X). Takes choice before (v ∷ []) (f ∷ []) (ts ++ f ∷ [])) (sym none)
    (inl (subst (λ (ws : List FrameLine). Chooses choice ws v) (append-nil before) is, [], refl, refl))
takes_more_from choice before [] (g ∷ fs) taken v f h is = absurd h
takes_more_from choice before (w ∷ vs) [] taken v f h is = absurd h
takes_more_from {X} choice before (w ∷ vs) (g ∷ fs) taken v f (inl (one, more, same, rest)) is =
    inl (
      one,
      more ++ f ∷ [],
      ap (λ (ts : List X). ts ++ f ∷ []) same,
      takes_more_from choice (before ++ w ∷ []) vs fs more v f rest (subst (λ (ws : List FrameLine). Chooses choice ws v) (sym (append_assoc before (w ∷ []) vs)) is),
    )
takes_more_from choice before (w ∷ vs) (g ∷ fs) taken v f (inr (not, rest)) is =
    inr (not, takes_more_from choice (before ++ w ∷ []) vs fs taken v f rest (subst (λ (ws : List FrameLine). Chooses choice ws v) (sym (append_assoc before (w ∷ []) vs)) is))

passes_more_from : {X : Type 0} (choice : Choice) (before vs : List FrameLine) (fs taken : List X) (v : FrameLine) (f : X)
    → Takes choice before vs fs taken → (Chooses choice (before ++ vs) v → ⊥) → Takes choice before (vs ++ v ∷ []) (fs ++ f ∷ []) taken
passes_more_from choice before [] [] taken v f none not =
    inr (λ is. not (subst (λ (ws : List FrameLine). Chooses choice ws v) (sym (append-nil before)) is), none)
passes_more_from choice before [] (g ∷ fs) taken v f h not = absurd h
passes_more_from choice before (w ∷ vs) [] taken v f h not = absurd h
passes_more_from choice before (w ∷ vs) (g ∷ fs) taken v f (inl (one, more, same, rest)) not =
    inl (
      one,
      more,
      same,
      passes_more_from choice (before ++ w ∷ []) vs fs more v f rest (λ is. not (subst (λ (ws : List FrameLine). Chooses choice ws v) (append_assoc before (w ∷ []) vs) is)),
    )
passes_more_from choice before (w ∷ vs) (g ∷ fs) taken v f (inr (other, rest)) not =
    inr (other, passes_more_from choice (before ++ w ∷ []) vs fs taken v f rest (λ is. not (subst (λ (ws : List FrameLine). Chooses choice ws v) (append_assoc before (w ∷ []) vs) is)))

pub takes_more : {X : Type 0} (choice : Choice) (vs : List FrameLine) (fs taken : List X) (v : FrameLine) (f : X)
    → TakesOf choice vs fs taken → Chooses choice vs v → TakesOf choice (vs ++ v ∷ []) (fs ++ f ∷ []) (taken ++ f ∷ [])
takes_more choice vs fs taken v f takes is = takes_more_from choice [] vs fs taken v f takes is

pub passes_more : {X : Type 0} (choice : Choice) (vs : List FrameLine) (fs taken : List X) (v : FrameLine) (f : X)
    → TakesOf choice vs fs taken → (Chooses choice vs v → ⊥) → TakesOf choice (vs ++ v ∷ []) (fs ++ f ∷ []) taken
passes_more choice vs fs taken v f takes not = passes_more_from choice [] vs fs taken v f takes not

-- ---- all that is written

pub capture_more : (format : Format) (taken : List (FrameLine × Frame)) (v : FrameLine) (f : Frame)
    → cut_capture format (taken ++ (v, f) ∷ []) ≡ cut_capture format taken ++ line_packet format v f
capture_more format taken v f =
    ap (λ (bytes : List ℕ). head_by format ++ bytes)
    (flat_map-append (λ (p : FrameLine × Frame). line_packet format p.0 p.1) taken ((v, f) ∷ [])
    ∙ ap (λ (bytes : List ℕ). line_packets format taken ++ bytes) (append-nil (line_packet format v f)))
    ∙ sym (append_assoc (head_by format) (line_packets format taken) (line_packet format v f))

-- each line has a frame beside it
pub zip_more : (skips : Option Network) (vs : List FrameLine) (found fs : List Frame) (v : FrameLine) (f : Frame) → AreSpread skips vs found fs
    → zip (vs ++ v ∷ []) (fs ++ f ∷ []) ≡ zip vs fs ++ (v, f) ∷ []
zip_more skips [] found [] v f h = refl
zip_more skips [] found (g ∷ fs) v f h = absurd h
zip_more skips (w ∷ vs) found [] v f h = absurd h
zip_more skips (w ∷ vs) found (g ∷ fs) v f (inl (one, more, same, rest)) =
    ap (λ (ps : List (FrameLine × Frame)). (w, g) ∷ ps) (zip_more skips vs more fs v f rest)
zip_more skips (w ∷ vs) found (g ∷ fs) v f (inr (one, rest)) =
    ap (λ (ps : List (FrameLine × Frame)). (w, g) ∷ ps) (zip_more skips vs found fs v f rest)

-- ---- and one line fewer

pub named_before : (fa fb : List Frame) (vs : List FrameLine) (fs : List Frame) (v : FrameLine) (f : Frame) → AreFramesOf fa fb (vs ++ v ∷ []) (fs ++ f ∷ [])
    → AreFramesOf fa fb vs fs
named_before fa fb [] [] v f h = tt
named_before fa fb [] (g ∷ []) v f h = absurd h.1
named_before fa fb [] (g ∷ h ∷ fs) v f k = absurd k.1
named_before fa fb (w ∷ []) [] v f h = absurd h.1
named_before fa fb (w ∷ x ∷ vs) [] v f h = absurd h.1
named_before fa fb (w ∷ vs) (g ∷ fs) v f (first, rest) = (first, named_before fa fb vs fs v f rest)

-- the frame of the last line
pub named_last : (fa fb ga gb : List Frame) (vs : List FrameLine) (fs : List Frame) (v : FrameLine) (f : Frame) → AreFramesOf ga gb vs fs
    → AreFramesOf fa fb (vs ++ v ∷ []) (fs ++ f ∷ []) → IsFrameOf fa fb v f
named_last fa fb ga gb [] [] v f was (one, rest) = one
named_last fa fb ga gb [] (g ∷ fs) v f was h = absurd was
named_last fa fb ga gb (w ∷ vs) [] v f was h = absurd was
named_last fa fb ga gb (w ∷ vs) (g ∷ fs) v f (one, more) (first, rest) = named_last fa fb ga gb vs fs v f more rest

pub named_some : (fa fb : List Frame) (vs : List FrameLine) (gs : List Frame) (v : FrameLine) → AreFramesOf fa fb (vs ++ v ∷ []) gs
    → (fs : List Frame) × AreFramesOf fa fb vs fs × ((f : Frame) × IsFrameOf fa fb v f)
named_some fa fb [] [] v h = absurd h
named_some fa fb [] (g ∷ gs) v h = ([], tt, (g, h.0))
named_some fa fb (w ∷ vs) [] v h = absurd h
named_some fa fb (w ∷ vs) (g ∷ gs) v (one, more) = let rest = named_some fa fb vs gs v more in (g ∷ rest.0, (one, rest.1), rest.2)
