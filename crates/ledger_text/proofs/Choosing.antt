-- One more line of which it is said whether it is taken.
use Rattle.std.proofs.Common.{◌≡◌, ◌∙◌, ◌↔◌, Bool, true, List, [], ◌∷◌, ◌++◌, Option, None, Some, refl, sym, ap, subst, unwrap_or}
use Rattle.afdx_frame.specs.declared.key.Stamp.{Stamp}
use Rattle.afdx_frame.specs.declared.key.VlId.{VlId}
use Rattle.ledger_text.specs.declared.frame.FrameLine.{FrameLine}
use Rattle.ledger_text.specs.FrameLines.{IsSelected, count_of, first_stamp, start_of}
use Rattle.ledger_text.specs.Neighbours.{AreAsked, AreNoted, Around, HasAskedLinks, IsChosen, IsNear, IsNearLink}
use Rattle.ledger_text.specs.declared.neighbours.Neighbours.{Neighbours}
use Rattle.ledger_text.specs.declared.selection.Selection.{Selection}
use Rattle.ledger_text.proofs.Nearness.{asked_none, asked_other, of_none}

pub asked_nothing : (selection : Selection) (around : Option Around) (neighbours : Option Neighbours) → AreNoted selection around neighbours
    → AreAsked selection around [] neighbours
asked_nothing selection None None h = tt
asked_nothing selection None (Some n) h = absurd h
asked_nothing selection (Some around) None h = absurd h
asked_nothing selection (Some around) (Some n) h = record { count = h.count; links = λ id none lt. asked_none selection around id _ (h.links id none lt) }

-- ---- the first timestamp

pub first_more : (vs : List FrameLine) (v : FrameLine) → first_stamp (vs ++ v ∷ []) ≡ Some (start_of (first_stamp vs) v)
first_more [] v = refl
first_more (w ∷ vs) v = refl

pub start_is : (first : Option Stamp) (v : FrameLine) → unwrap_or first v.stamp ≡ start_of first v
start_is None v = refl
start_is (Some s) v = refl

pub start_at : (vs : List FrameLine) (v : FrameLine) (old : Option Stamp) (start : Stamp) → old ≡ first_stamp vs → start ≡ unwrap_or old v.stamp → start ≡ start_of (first_stamp vs) v
start_at vs v old start was is = is ∙ start_is old v ∙ ap (λ (x : Option Stamp). start_of x v) was

pub first_is : (vs : List FrameLine) (v : FrameLine) (start : Stamp) → start ≡ start_of (first_stamp vs) v → Some start ≡ first_stamp (vs ++ v ∷ [])
first_is vs v start is = ap (λ (x : Stamp). Some x) is ∙ sym (first_more vs v)

-- ---- all that is said of a line

-- It is said of this line whether it is taken, and those after it can be asked for.
abbrev pub Says : Selection → Option Around → List FrameLine → FrameLine → Bool → Option Neighbours → Type 0
Says selection around before v said now = ((said ≡ true) ↔ IsChosen selection around before v) × AreAsked selection around (before ++ v ∷ []) now

pub says_plain : (selection : Selection) (around : Option Around) (before : List FrameLine) (v : FrameLine) (said : Bool) (was : Option Neighbours) → was ≡ None
    → AreAsked selection around before was → (said ≡ true) ↔ IsSelected selection before v → Says selection around before v said was
says_plain selection None before v said None is h said_is = (said_is, tt)
says_plain selection None before v said (Some n) is h said_is = absurd h
says_plain selection (Some around) before v said None is h said_is = absurd h
says_plain selection (Some around) before v said (Some n) is h said_is = cc

pub says_unlinked : (selection : Selection) (around : Option Around) (before : List FrameLine) (v : FrameLine) (said : Bool) (was : Option Neighbours) → v.link ≡ None
    → AreAsked selection around before was → (said ≡ true) ↔ IsSelected selection before v → Says selection around before v said was
says_unlinked selection None before v said None none h said_is = (said_is, tt)
says_unlinked selection None before v said (Some n) none h said_is = absurd h
says_unlinked selection (Some around) before v said None none h said_is = absurd h
says_unlinked selection (Some around) before v said (Some n) none h said_is = (
  subst (λ (link : Option VlId). (said ≡ true) ↔ IsNearLink selection around before v link) (sym none) said_is,
  record { count = h.count; links = λ id d lt. asked_other selection around before v id _ (of_none v id none) (h.links id d lt) },
)

pub says_linked : (selection : Selection) (around : Option Around) (before : List FrameLine) (v : FrameLine) (said : Bool) (was : Neighbours) (now : Neighbours) (id : VlId)
    → v.link ≡ Some id → AreAsked selection around before (Some was)
    → ((a : Around) → HasAskedLinks selection a before was
    → ((said ≡ true) ↔ IsNear selection a id.0 (count_of id.0 before)) × HasAskedLinks selection a (before ++ v ∷ []) now)
    → Says selection around before v said (Some now)
says_linked selection None before v said was now id some h says = absurd h
says_linked selection (Some around) before v said was now id some h says =
    let s = says around h in
    (subst (λ (link : Option VlId). (said ≡ true) ↔ IsNearLink selection around before v link) (sym some) s.0, s.1)
