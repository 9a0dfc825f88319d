-- Byte-based policing by windows, over the list of the frames of one link that reached it on one network, in the order of time.
-- ARINC 664 Part 7 polices the bytes of a link by BAG, jitter and Smax; the bounds below are this project's profile. Sizes are
-- in bytes with the frame check sequence, times in nanoseconds, and what an account holds is counted in bytes times BAG.
use Rattle.std.specs.Prelude.{ℕ, ◌+◌, ◌-◌, ◌*◌, Bool, ◌&&◌, List, [], ◌∷◌, nat_le, if◌then◌else◌}
use Rattle.vl_config.specs.Link.{VirtualLink}
use Rattle.policing.specs.declared.verdict.Policing.{Policing}
use Rattle.policing.specs.declared.verdict.Policing.TheVariants.{Within, Excess}

-- a frame that reached policing, with its verdict
pub record Entry : Type 0 where
  pub stamp : ℕ
  pub size : ℕ
  pub policing : Policing

-- the most that an account holds
abbrev pub cap_of : VirtualLink → ℕ
cap_of link = link.smax * (link.bag + link.jitter)

-- the credit of a time
abbrev pub credit : VirtualLink → ℕ → ℕ
credit link time = link.smax * time

-- the cost of a frame of this size
abbrev pub cost : VirtualLink → ℕ → ℕ
cost link size = size * link.bag

-- the charge of a frame
abbrev pub charge : VirtualLink → ℕ → Policing → ℕ
charge link size Within = cost link size
charge link size Excess = 0

-- the charges of all these frames
abbrev pub charges : VirtualLink → List Entry → ℕ
charges link [] = 0
charges link (entry ∷ entries) = charge link entry.size entry.policing + charges link entries

-- Every window that a frame of this timestamp and size ends has room for it: the window from each earlier frame on, whose charges and
-- the frame's cost fit the cap and the credit of the window's time, and the window of the frame alone.
abbrev pub has_room : VirtualLink → List Entry → ℕ → ℕ → Bool
has_room link [] stamp size = nat_le (cost link size) (cap_of link)
has_room link (entry ∷ entries) stamp size =
    nat_le (charges link (entry ∷ entries) + cost link size) (cap_of link + credit link (stamp - entry.stamp))
    && has_room link entries stamp size

-- the verdict of a frame after these
abbrev pub verdict_of : VirtualLink → List Entry → ℕ → ℕ → Policing
verdict_of link entries stamp size = if has_room link entries stamp size then Within else Excess
