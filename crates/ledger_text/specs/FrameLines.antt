-- The lines of a ledger's frames, one after another (this project's profile).
use Rattle.std.specs.Prelude.{ℕ, ◌==◌, Bool, false, List, [], ◌∷◌, Option, None, Some}
use Rattle.std.specs.List.{count_by}
use Rattle.std.specs.Option.{option_map_or}
use Rattle.afdx_frame.specs.declared.key.Stamp.{Stamp}
use Rattle.ledger_text.specs.declared.frame.FrameLine.{FrameLine}
use Rattle.ledger_text.specs.Selection.{IsTaken}
use Rattle.ledger_text.specs.declared.selection.Selection.{Selection}

-- the timestamp of the ledger's first frame
abbrev pub first_stamp : List FrameLine → Option Stamp
first_stamp [] = None
first_stamp (v ∷ vs) = Some v.stamp

-- the timestamp that moments of a day count from, at a line: that of the first frame, which may be this one
abbrev pub start_of : Option Stamp → FrameLine → Stamp
start_of None v = v.stamp
start_of (Some first) v = first

-- the selection takes a line that stands after these
abbrev pub IsSelected : Selection → List FrameLine → FrameLine → Type 0
IsSelected selection before v = IsTaken selection (start_of (first_stamp before) v) v

-- the line is of the link with this identifier
abbrev pub is_of : ℕ → FrameLine → Bool
is_of id v = option_map_or (λ link. link.0 == id) v.link false

-- How many of the lines are of the link. The next one of the link has this ordinal among the link's lines.
abbrev pub count_of : ℕ → List FrameLine → ℕ
count_of id vs = count_by (is_of id) vs
