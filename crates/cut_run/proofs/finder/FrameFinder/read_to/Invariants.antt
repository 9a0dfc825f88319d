use Rattle.std.proofs.Common.{◌-◌, ◌≤◌, length, List, Some}
use Rattle.afdx_frame.specs.Frame.{Frame}
use Rattle.pcap_io.specs.Reader.{position_of}
use Rattle.cut_run.specs.Finder.{HasRead, IsOnWay, Opening, finding_of}
use Rattle.cut_run.proofs.finder.FrameFinder.read_to.Given as goal

-- no frame of the place was read yet
abbrev pub invariant-loop-self : goal.invariant-loop-self
invariant-loop-self g l =
    (o : Opening) (frames : List Frame) → HasRead o frames (Some l.place) (finding_of g.S.TapSource l.fn.self) → length frames ≤ l.place.number
    → IsOnWay o frames l.place (finding_of g.S.TapSource l.self)

abbrev pub decreases-loop-self : goal.decreases-loop-self
decreases-loop-self g l = (position_of l.self.reader).most - (position_of l.self.reader).count
