-- The word of filters on a round of frames (this project's profile).
use Rattle.std.specs.Prelude.{List, map}
use Rattle.afdx_frame.specs.Frame.{Frame}
use Rattle.bpf_isa.specs.declared.packed.Packed.{Packed}
use Rattle.filter_workers.specs.Filters.{decision_by}
use Rattle.filter_workers.specs.declared.decision.Decision.{Decision}

-- the decisions of the filters on each frame, in order
abbrev pub decisions_by : List (List Packed) → List Frame → List Decision
decisions_by ps frames = map (decision_by ps) frames
