-- How long the words of a verdict are.
use Rattle.std.proofs.Common.{◌≤◌, length, arith}
use Rattle.vl_config.specs.Class.{class_word}
use Rattle.vl_config.specs.declared.class.Class.{Class}
use Rattle.vl_config.specs.declared.class.Class.TheVariants.{Cut, Runt, Oversize, Foreign, Unconfigured, TooLong, Regular}
use Rattle.policing.specs.Word.{policing_word}
use Rattle.policing.specs.declared.verdict.Policing.{Policing}
use Rattle.policing.specs.declared.verdict.Policing.TheVariants.{Within, Excess}
use Rattle.integrity.specs.Word.{integrity_word}
use Rattle.integrity.specs.declared.verdict.Integrity.{Integrity}
use Rattle.integrity.specs.declared.verdict.Integrity.TheVariants.{First, Reset, Next, Skip, Off, Out}
use Rattle.redundancy.specs.Word.{redundancy_word}
use Rattle.redundancy.specs.declared.verdict.Redundancy.{Redundancy}
use Rattle.redundancy.specs.declared.verdict.Redundancy.TheVariants.{Deliver, Copy, Both}

pub class_short : (class : Class) → length (class_word class) ≤ 12
class_short Cut = omega arith
class_short Runt = omega arith
class_short Oversize = omega arith
class_short Foreign = omega arith
class_short Unconfigured = omega arith
class_short TooLong = omega arith
class_short Regular = omega arith

pub policing_short : (policing : Policing) → length (policing_word policing) ≤ 6
policing_short Within = omega arith
policing_short Excess = omega arith

pub integrity_short : (integrity : Integrity) → length (integrity_word integrity) ≤ 5
integrity_short First = omega arith
integrity_short Reset = omega arith
integrity_short Next = omega arith
integrity_short Skip = omega arith
integrity_short Off = omega arith
integrity_short Out = omega arith

pub redundancy_short : (redundancy : Redundancy) → length (redundancy_word redundancy) ≤ 7
redundancy_short Deliver = omega arith
redundancy_short Copy = omega arith
redundancy_short Both = omega arith

pub ruleset short_words = (class_short, policing_short, integrity_short, redundancy_short)
