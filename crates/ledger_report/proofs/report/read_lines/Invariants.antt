-- These lines were read and taken.
use Rattle.std.proofs.Common.{◌≡◌, ◌-◌, ℕ, List, Option, [], false}
use Rattle.ledger_text.specs.Ledger.{has_failed as ledger_failed, number_of}
use Rattle.ledger_text.specs.declared.bounds.TheConstants.{MAX_LINES}
use Rattle.ledger_report.specs.Reading.{HasNoted}
use Rattle.ledger_report.proofs.Readings.{IsNoting}
use Rattle.ledger_report.proofs.report.read_lines.Given as goal

abbrev pub invariant-loop-frame : goal.invariant-loop-frame
invariant-loop-frame g l = record {
  sound : ledger_failed l.ledger ≡ false;
  noted : (bytes : Option (List ℕ)) (failures : ℕ)
      → HasNoted g.S.TapSource bytes failures l.fn.config [] l.fn.ledger l.fn.reading.counts l.fn.reading.frames l.fn.reading.lines
      → IsNoting g.S.TapSource bytes failures l.fn.config l.ledger l.reading.counts l.reading.frames l.reading.lines;
}

abbrev pub decreases-loop-frame : goal.decreases-loop-frame
decreases-loop-frame g l = MAX_LINES - number_of l.ledger
