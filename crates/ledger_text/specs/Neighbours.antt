-- Lines of a ledger near those that a selection takes (this project's profile). A line's neighbours are lines of its link, on both networks
-- together, in the ledger's order.
use Rattle.std.specs.Prelude.{◌≡◌, ℕ, ◌<◌, ◌↔◌, true, List, ◌∷◌, ◌++◌, Option, None, Some, slice_index_or, ⊤}
use Rattle.afdx_frame.specs.declared.key.VlId.{VlId}
use Rattle.ledger_text.specs.declared.frame.FrameLine.{FrameLine}
use Rattle.ledger_text.specs.FrameLines.{IsSelected, count_of, first_stamp, is_of}
use Rattle.ledger_text.specs.Runs.{AllBefore, AreApart, Covers, IsWithin, StandsAt}
use Rattle.ledger_text.specs.declared.chooser.Chooser.{Chooser}
use Rattle.ledger_text.specs.declared.link_runs.LinkRuns.{LinkRuns}
use Rattle.ledger_text.specs.declared.neighbours.Neighbours.{Neighbours}
use Rattle.ledger_text.specs.declared.selection.Selection.{Selection}

-- the lines of a ledger, and how many neighbours of a selected one are taken on each side
pub record Around : Type 0 where
  pub count : ℕ
  pub lines : List FrameLine

-- One of the lines is of the link and selected, and the link's line of this ordinal is among its neighbours, or is itself.
pub record IsNear (selection : Selection) (around : Around) (id n : ℕ) : Type 0 where
  pub before : List FrameLine
  pub line : FrameLine
  pub after : List FrameLine
  pub split : around.lines ≡ before ++ line ∷ after
  pub of_link : is_of id line ≡ true
  pub selected : IsSelected selection before line
  pub within : IsWithin around.count (count_of id before) n

abbrev pub IsNearLink : Selection → Around → List FrameLine → FrameLine → Option VlId → Type 0
IsNearLink selection around before v None = IsSelected selection before v
IsNearLink selection around before v (Some id) = IsNear selection around id.0 (count_of id.0 before)

-- A line that stands after these is taken: it is selected; or, where neighbours are taken too, it is near a selected one of its link. A line
-- with no link has no neighbours.
abbrev pub IsChosen : Selection → Option Around → List FrameLine → FrameLine → Type 0
IsChosen selection None before v = IsSelected selection before v
IsChosen selection (Some around) before v = IsNearLink selection around before v v.link

-- ---- the lines that were noted

-- The link's lines among these were noted.
pub record HasNotedLink (selection : Selection) (around : Around) (id : ℕ) (link : LinkRuns) : Type 0 where
  pub noted : link.noted ≡ count_of id around.lines
  pub apart : AreApart link.runs.items
  pub before : AllBefore link.runs.items link.noted
  pub covers : (n : ℕ) → Covers around.count link.runs.items n ↔ IsNear selection around id n
  pub asked : link.asked ≡ 0
  pub next : link.next ≡ 0

-- These lines were noted.
pub record HasNoted (selection : Selection) (around : Around) (neighbours : Neighbours) : Type 0 where
  pub count : neighbours.around ≡ around.count
  pub links : (id : ℕ) (none : LinkRuns) → id < 65536 → HasNotedLink selection around id (slice_index_or neighbours.links.items id none)

-- where neighbours are taken too, these lines were noted
abbrev pub AreNoted : Selection → Option Around → Option Neighbours → Type 0
AreNoted selection None None = ⊤
AreNoted selection (Some around) (Some neighbours) = HasNoted selection around neighbours
AreNoted selection around neighbours = ⊥

-- ---- the lines that were asked for

-- These lines were noted, and then the link's lines among those were asked for.
pub record HasAskedLink (selection : Selection) (around : Around) (before : List FrameLine) (id : ℕ) (link : LinkRuns) : Type 0 where
  pub apart : AreApart link.runs.items
  pub covers : (n : ℕ) → Covers around.count link.runs.items n ↔ IsNear selection around id n
  pub asked : link.asked ≡ count_of id before
  pub stands : StandsAt around.count link.runs.items link.asked link.next

pub record HasAskedLinks (selection : Selection) (around : Around) (before : List FrameLine) (neighbours : Neighbours) : Type 0 where
  pub count : neighbours.around ≡ around.count
  pub links : (id : ℕ) (none : LinkRuns) → id < 65536 → HasAskedLink selection around before id (slice_index_or neighbours.links.items id none)

abbrev pub AreAsked : Selection → Option Around → List FrameLine → Option Neighbours → Type 0
AreAsked selection None before None = ⊤
AreAsked selection (Some around) before (Some neighbours) = HasAskedLinks selection around before neighbours
AreAsked selection around before neighbours = ⊥

-- A chooser was asked for these lines.
pub record HasAsked (selection : Selection) (around : Option Around) (before : List FrameLine) (chooser : Chooser) : Type 0 where
  pub first : chooser.first ≡ first_stamp before
  pub neighbours : AreAsked selection around before chooser.neighbours
