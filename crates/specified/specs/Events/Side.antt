-- One tap's side of the core (this project's profile): the frames that it didn't put yet, and its ring.
use Rattle.std.specs.Prelude.{◌≡◌, ℕ, Bool, true, false, nat_lt, List, [], ◌∷◌, ◌++◌, length, Option, Some, None, if◌then◌else◌}
use Rattle.std.specs.Option.{MatchOption}
use Rattle.afdx_frame.specs.Frame.{Frame}
use Rattle.specified.specs.declared.model.side.RingItem.{RingItem}
use Rattle.specified.specs.declared.model.side.RingItem.TheVariants as items

pub record SideState : Type 0 where
  -- the frames that weren't put yet, in the order of the recording
  pub left : List Frame
  -- the end mark was put
  pub marked : Bool
  -- the most items on the ring
  pub capacity : ℕ
  -- the items put and not fetched, the oldest first
  pub ring : List RingItem

abbrev pub new_side : ℕ → List Frame → SideState
new_side capacity frames = record { left = frames; marked = false; capacity = capacity; ring = [] }

-- the ring takes one more item
abbrev pub has_room : SideState → Bool
has_room s = nat_lt (length s.ring) s.capacity

-- the next frame goes onto the ring
abbrev pub put_of : List Frame → SideState → Option SideState
put_of [] s = None
put_of (f ∷ left) s =
    if has_room s then Some (record s { left = left; ring = s.ring ++ items.Frame f ∷ [] }) else None

abbrev pub put_step : SideState → Option SideState
put_step s = put_of s.left s

-- the end mark goes onto the ring, once, after all frames
abbrev pub end_of : List Frame → Bool → SideState → Option SideState
end_of [] false s = if has_room s then Some (record s { marked = true; ring = s.ring ++ items.End ∷ [] }) else None
end_of [] true s = None
end_of (f ∷ left) marked s = None

abbrev pub end_step : SideState → Option SideState
end_step s = end_of s.left s.marked s

-- An event happened, and led to the next state; or it can't happen, and nothing changed.
abbrev pub Steps : {S : Type 0} → Option S → S → Bool → S → Type 0
Steps next old happened new = MatchOption next ((happened ≡ false) × (new ≡ old)) (λ s. (happened ≡ true) × (new ≡ s))
