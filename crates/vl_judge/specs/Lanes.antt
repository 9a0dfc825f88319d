-- The knowledge of the lanes of all links after a list of frames (this project's profile).
use Rattle.std.specs.Prelude.{◌≡◌, ℕ, ◌<◌, ◌≤◌, Bool, List, [], ◌∷◌, length, Option, Some, None, find, ◌==◌, slice_index, All, ⊤}
use Rattle.std.specs.Option.{ForSome, option_map_or}
use Rattle.std.specs.List.{position_or_len}
use Rattle.std.specs.declared.cmp.Ordering.TheVariants.{Less}
use Rattle.afdx_frame.specs.Frame.{Frame, key_cmp, key_of}
use Rattle.afdx_frame.specs.View.{link_of}
use Rattle.afdx_frame.specs.declared.key.Key.{Key}
use Rattle.afdx_frame.specs.declared.key.TheConstants.{VL_ID_COUNT}
use Rattle.afdx_frame.specs.declared.key.VlId.{VlId}
use Rattle.vl_config.specs.Link.{VirtualLink}
use Rattle.vl_config.specs.Document.{VlTable}
use Rattle.vl_config.specs.Class.{link_with}
use Rattle.vl_judge.specs.declared.lane.Lane.{Lane}
use Rattle.vl_judge.specs.Verdicts.{Judged, judged_frames}
use Rattle.vl_judge.specs.Lane.{LaneStandsAfter, NoneLater}

pub record LanesState : Type 0 where
  pub constant : ℕ
  pub last : Option Key
  pub lanes : List Lane

-- the lane is the link's of this identifier
abbrev pub is_lane_of : ℕ → Lane → Bool
is_lane_of id lane = lane.id.0 == id

abbrev pub lane_with : List Lane → VlId → Option Lane
lane_with lanes id = find (is_lane_of id.0) lanes

-- the place of the first lane of an identifier, or the number of lanes where there is none
abbrev pub place_with : List Lane → ℕ → ℕ
place_with lanes id = position_or_len (is_lane_of id) lanes

-- the place of a frame's lane, or the number of lanes where it has none
abbrev pub place_of : List Lane → Frame → ℕ
place_of lanes frame = option_map_or (λ id. place_with lanes id.0) (link_of frame.bytes) (length lanes)

-- an index of all identifiers, which have 16 bits
pub record IsIndexed (index : List ℕ) (lanes : List Lane) : Type 0 where
  pub complete : length index ≡ VL_ID_COUNT
  pub fits : All (λ lane. lane.id.0 < VL_ID_COUNT) lanes
  pub places : (id : ℕ) → id < VL_ID_COUNT → slice_index index id ≡ place_with lanes id

-- no lane has seen a frame later than the last one
abbrev pub NoneAfterLast : Option Key → List Lane → Type 0
NoneAfterLast last lanes =
    (later : ℕ) → ForSome last (λ key. key.stamp.0 ≤ later) → (id : VlId) →
    ForSome (lane_with lanes id) (λ lane. NoneLater lane later)

-- a link has a lane, which knows these frames, or neither is there
abbrev pub Knows : Option Lane → Option VirtualLink → List Judged → Type 0
Knows None None frames = Unit {0}
Knows (Some lane) (Some link) frames = LaneStandsAfter lane link frames
Knows _ _ frames = ⊥

-- the key of the last frame
abbrev pub last_key : Option Key → List Frame → Option Key
last_key last [] = last
last_key last (frame ∷ frames) = last_key (Some (key_of frame)) frames

-- each frame's key is above the one before it, and the first one's above the last key
abbrev pub FollowsOn : Option Key → List Frame → Type 0
FollowsOn last [] = ⊤
FollowsOn last (f ∷ fs) = ForSome last (λ key. key_cmp key (key_of f) ≡ Less) × FollowsOn (Some (key_of f)) fs

pub record StandsAfter (state : LanesState) (vl_table : VlTable) (frames : List Frame) : Type 0 where
  pub constant : state.constant ≡ vl_table.constant
  pub last : state.last ≡ last_key None frames
  pub lanes : (id : VlId) → Knows (lane_with state.lanes id) (link_with vl_table.links id) (judged_frames vl_table frames)

-- each lane is its link's, and has seen no frame
abbrev pub AllNew : List Lane → List VirtualLink → Type 0
AllNew [] [] = Unit {0}
AllNew (lane ∷ lanes) (link ∷ links) =
    LaneStandsAfter lane link [] × ((stamp : ℕ) → NoneLater lane stamp) × AllNew lanes links
AllNew _ _ = ⊥
