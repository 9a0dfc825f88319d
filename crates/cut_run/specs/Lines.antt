-- The lines of frames of a ledger, the frames that they name, and what is written of them (this project's format; the bytes of packets are those
-- of packet_format).
use Rattle.std.specs.Prelude.{◌≡◌, ◌⊎◌, ℕ, Bool, true, false, List, [], ◌∷◌, ◌++◌, length, filter, flat_map, slice_get, Option, Some, None, ⊤}
use Rattle.std.specs.declared.cmp.Ordering.TheVariants.{Less}
use Rattle.afdx_frame.specs.Frame.{Frame, key_cmp}
use Rattle.afdx_frame.specs.declared.key.Key.{Key}
use Rattle.afdx_frame.specs.declared.key.Network.{Network}
use Rattle.afdx_frame.specs.declared.key.Network.TheVariants.{A, B}
use Rattle.ledger_text.specs.declared.frame.FrameLine.{FrameLine}
use Rattle.ledger_text.specs.Neighbours.{Around, IsChosen}
use Rattle.ledger_text.specs.declared.selection.Selection.{Selection}
use Rattle.packet_format.specs.Packets.{Format, head_by, packet_by}

-- where a line's frame stands in the order of both networks
abbrev pub key_of_line : FrameLine → Key
key_of_line v = record { stamp = v.stamp; network = v.network; number = v.number }

-- the place of the last of the lines, and `last` where there is none
abbrev pub last_from : Option Key → List FrameLine → Option Key
last_from last [] = last
last_from last (v ∷ vs) = last_from (Some (key_of_line v)) vs

-- the place of the last line, where there is one
abbrev pub last_key : List FrameLine → Option Key
last_key vs = last_from None vs

-- a line comes later than the one before
abbrev pub ComesLater : Option Key → FrameLine → Type 0
ComesLater None v = ⊤
ComesLater (Some k) v = key_cmp k (key_of_line v) ≡ Less

-- each line comes later than the one before
abbrev pub Rise : Option Key → List FrameLine → Type 0
Rise last [] = ⊤
Rise last (v ∷ vs) = ComesLater last v × Rise (Some (key_of_line v)) vs

-- the frames of a line's network
abbrev pub side : Network → List Frame → List Frame → List Frame
side A frames_a frames_b = frames_a
side B frames_a frames_b = frames_b

-- The frame of a line: that of its index in its network's recording. It has the line's timestamp.
pub record IsFrameOf (frames_a frames_b : List Frame) (v : FrameLine) (f : Frame) : Type 0 where
  pub indexed : slice_get (side v.network frames_a frames_b) v.number ≡ Some f
  pub stamp : f.stamp ≡ v.stamp.0

-- each line's frame
abbrev pub AreFramesOf : List Frame → List Frame → List FrameLine → List Frame → Type 0
AreFramesOf frames_a frames_b [] [] = ⊤
AreFramesOf frames_a frames_b (v ∷ vs) (f ∷ fs) = IsFrameOf frames_a frames_b v f × AreFramesOf frames_a frames_b vs fs
AreFramesOf frames_a frames_b vs fs = ⊥

-- the frames of a network are looked up, unless its lines are passed over
abbrev pub is_read : Option Network → Network → Bool
is_read None network = true
is_read (Some A) A = false
is_read (Some A) B = true
is_read (Some B) A = true
is_read (Some B) B = false

-- of these lines those whose frames are looked up
abbrev pub read_lines : Option Network → List FrameLine → List FrameLine
read_lines skips vs = filter (λ v. is_read skips v.network) vs

-- of these lines those that are looked up have these frames in their places; in the places of the others stands any frame
abbrev pub AreSpread : Option Network → List FrameLine → List Frame → List Frame → Type 0
AreSpread skips [] found [] = found ≡ []
AreSpread skips (v ∷ vs) found (f ∷ fs) =
    ((is_read skips v.network ≡ true) × (more : List Frame) × (found ≡ f ∷ more) × AreSpread skips vs more fs)
    ⊎ ((is_read skips v.network ≡ false) × AreSpread skips vs found fs)
AreSpread skips vs found fs = ⊥

-- Which lines are taken: those of a selection, or where neighbours are taken too, those near the selected ones of these lines. Lines of a network
-- that is skipped are passed over.
pub record Choice : Type 0 where
  pub selection : Selection
  pub around : Option Around
  pub skips : Option Network

-- a line that stands after these is taken
abbrev pub Chooses : Choice → List FrameLine → FrameLine → Type 0
Chooses choice before v = (is_read choice.skips v.network ≡ true) × IsChosen choice.selection choice.around before v

-- Of these lines, which stand after those before, and of what belongs to each, as its frame, this is taken, in their order.
abbrev pub Takes : {X : Type 0} → Choice → List FrameLine → List FrameLine → List X → List X → Type 0
Takes choice before [] [] taken = taken ≡ []
Takes {X} choice before (v ∷ vs) (x ∷ xs) taken =
    (Chooses choice before v × (more : List X) × (taken ≡ x ∷ more) × Takes choice (before ++ v ∷ []) vs xs more)
    ⊎ ((Chooses choice before v → ⊥) × Takes choice (before ++ v ∷ []) vs xs taken)
Takes choice before vs xs taken = ⊥

-- of the lines of a ledger, and of what belongs to each, this is taken
abbrev pub TakesOf : {X : Type 0} → Choice → List FrameLine → List X → List X → Type 0
TakesOf choice vs xs taken = Takes choice [] vs xs taken

-- the frame of the line after these, which is taken
pub record IsTakenNext (choice : Choice) (frames_a frames_b : List Frame) (vs : List FrameLine) (v : FrameLine) (f : Frame) : Type 0 where
  pub frame : IsFrameOf frames_a frames_b v f
  pub chosen : Chooses choice vs v

-- the packet of a line's frame, whole as recorded, with the line's verdict as its comment where the format has comments
abbrev pub line_packet : Format → FrameLine → Frame → List ℕ
line_packet format v f = packet_by format f (length f.bytes) (Some v)

abbrev pub line_packets : Format → List (FrameLine × Frame) → List ℕ
line_packets format taken = flat_map (λ p. line_packet format p.0 p.1) taken

-- the capture of lines and their frames
abbrev pub cut_capture : Format → List (FrameLine × Frame) → List ℕ
cut_capture format taken = head_by format ++ line_packets format taken
