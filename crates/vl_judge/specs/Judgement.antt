-- The verdict of a frame, and which judgements reach it (ARINC 664 P7).
use Rattle.std.specs.Prelude.{◌≡◌, Bool, true, false, Option, Some, None, is_some, if◌then◌else◌}
use Rattle.std.specs.Option.{option_map_or}
use Rattle.vl_config.specs.declared.class.Class.{Class}
use Rattle.vl_config.specs.declared.class.Class.TheVariants.{Regular}
use Rattle.policing.specs.declared.verdict.Policing.{Policing}
use Rattle.policing.specs.declared.verdict.Policing.TheVariants.{Within, Excess}
use Rattle.integrity.specs.declared.verdict.Integrity.{Integrity}
use Rattle.integrity.specs.declared.verdict.Integrity.TheVariants.{Out}
use Rattle.integrity.specs.Sequence.{is_valid}
use Rattle.redundancy.specs.Deliveries as redundancy
use Rattle.redundancy.specs.declared.verdict.Redundancy.{Redundancy}
use Rattle.redundancy.specs.declared.verdict.Redundancy.TheVariants.{Copy}

pub record Judgement : Type 0 where
  pub class : Class
  pub policing : Option Policing
  pub integrity : Option Integrity
  pub redundancy : Option Redundancy

abbrev pub is_regular : Class → Bool
is_regular Regular = true
is_regular _ = false

abbrev pub is_within : Policing → Bool
is_within Within = true
is_within Excess = false

-- A frame reaches policing where it is regular, integrity checking where it is within, redundancy management where it is valid.
pub record IsReached (j : Judgement) : Type 0 where
  pub policing : is_some j.policing ≡ is_regular j.class
  pub integrity : is_some j.integrity ≡ option_map_or is_within j.policing false
  pub redundancy : is_some j.redundancy ≡ option_map_or is_valid j.integrity false

-- the verdict of a frame that no judgement sees
abbrev pub stopped_verdict : Class → Judgement
stopped_verdict class = record { class = class; policing = None; integrity = None; redundancy = None }

-- the verdict by the class and by what each judgement would say: each stops what the next doesn't see
abbrev pub judgement : Class → Policing → Integrity → Redundancy → Judgement
judgement class policing integrity redundancy =
    if is_regular class
    then (if is_within policing
    then (if is_valid integrity
    then record { class = class; policing = Some policing; integrity = Some integrity; redundancy = Some redundancy }
    else record { class = class; policing = Some policing; integrity = Some integrity; redundancy = None })
    else record { class = class; policing = Some policing; integrity = None; redundancy = None })
    else stopped_verdict class

-- ---- the frame's fate

abbrev pub is_excess_policing : Policing → Bool
is_excess_policing Excess = true
is_excess_policing _ = false

abbrev pub is_out_integrity : Integrity → Bool
is_out_integrity Out = true
is_out_integrity _ = false

abbrev pub is_copy_redundancy : Redundancy → Bool
is_copy_redundancy Copy = true
is_copy_redundancy _ = false

abbrev pub is_excess : Judgement → Bool
is_excess j = option_map_or is_excess_policing j.policing false

abbrev pub is_out : Judgement → Bool
is_out j = option_map_or is_out_integrity j.integrity false

abbrev pub is_copy : Judgement → Bool
is_copy j = option_map_or is_copy_redundancy j.redundancy false

abbrev pub is_delivered : Judgement → Bool
is_delivered j = option_map_or redundancy.is_delivered j.redundancy false
