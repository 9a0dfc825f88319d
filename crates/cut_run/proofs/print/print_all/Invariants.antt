use Rattle.std.proofs.Common.{◌≡◌, ◌-◌, ℕ, List, [], Option, false}
use Rattle.ledger_text.specs.Ledger.{ReadLine, has_failed as ledger_failed, number_of}
use Rattle.ledger_text.specs.declared.bounds.TheConstants.{MAX_LINES}
use Rattle.ledger_text.specs.Neighbours.{Around}
use Rattle.cut_run.specs.Printed.{HasPrintedLedger, LineDevices}
use Rattle.cut_run.proofs.print.print_all.Given as goal

-- these lines were printed
abbrev pub invariant-loop-line : goal.invariant-loop-line
invariant-loop-line g l =
    record {
      printed : (around : Option Around) (before : LineDevices)
          → HasPrintedLedger g.L.TapSource g.S.TapSource g.T.TapSource g.W.OutSink (record { selection = l.selection; around = around; skips = l.skips }) before [] [] l.fn.ledger l.fn.printing
          → (rs : List ReadLine) × (printed : List (List ℕ))
          × HasPrintedLedger g.L.TapSource g.S.TapSource g.T.TapSource g.W.OutSink (record { selection = l.selection; around = around; skips = l.skips }) before rs printed l.ledger l.printing;
      sound : ledger_failed l.ledger ≡ false;
    }

abbrev pub decreases-loop-line : goal.decreases-loop-line
decreases-loop-line g l = MAX_LINES - number_of l.ledger
