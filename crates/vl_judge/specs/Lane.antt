-- The knowledge of a lane after a list of frames with their verdicts (this project's profile).
use Rattle.std.specs.Prelude.{◌≡◌, ℕ, ◌≤◌, List}
use Rattle.std.specs.Option.{ForSome}
use Rattle.afdx_frame.specs.declared.key.Network.{Network}
use Rattle.afdx_frame.specs.declared.key.Network.TheVariants.{A, B}
use Rattle.vl_config.specs.Link.{VirtualLink}
use Rattle.policing.specs.Balance as account
use Rattle.integrity.specs.Sequence as check
use Rattle.redundancy.specs.Deliveries as pair
use Rattle.vl_judge.specs.declared.lane.Side.{Side}
use Rattle.vl_judge.specs.declared.lane.Lane.{Lane}
use Rattle.vl_judge.specs.Verdicts.{Judged, policed_entries, checked_numbers, managed_entries}

-- of one network
pub record SideStandsAfter (side : Side) (link : VirtualLink) (network : Network) (frames : List Judged) : Type 0 where
  pub account : account.StandsAfter side.account link (policed_entries link.id network frames)
  pub check : check.StandsAfter side.check (checked_numbers link.id network frames)

pub record LaneStandsAfter (lane : Lane) (link : VirtualLink) (frames : List Judged) : Type 0 where
  pub id : lane.id ≡ link.id
  pub smax : lane.smax ≡ link.smax
  pub skew : lane.skew ≡ link.skew
  pub integrity : lane.integrity ≡ link.integrity
  pub redundancy : lane.redundancy ≡ link.redundancy
  pub pair : pair.StandsAfter lane.pair (managed_entries link.id frames)
  pub a : SideStandsAfter lane.a link A frames
  pub b : SideStandsAfter lane.b link B frames

-- the lane has seen no frame later than the timestamp
pub record NoneLater (lane : Lane) (stamp : ℕ) : Type 0 where
  pub pair : pair.NoneLater lane.pair stamp
  pub a : ForSome lane.a.account.last (λ last. last ≤ stamp)
  pub b : ForSome lane.b.account.last (λ last. last ≤ stamp)
