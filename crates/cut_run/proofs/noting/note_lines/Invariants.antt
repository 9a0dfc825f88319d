use Rattle.std.proofs.Common.{◌≡◌, ◌-◌, ℕ, List, [], false}
use Rattle.ledger_text.specs.Ledger.{ReadLine, has_failed as ledger_failed, number_of}
use Rattle.ledger_text.specs.declared.bounds.TheConstants.{MAX_LINES}
use Rattle.run_fault.specs.Device.{SourceView}
use Rattle.cut_run.specs.Noting.{HasNotedLines}
use Rattle.cut_run.proofs.noting.note_lines.Given as goal

-- these lines were noted
abbrev pub invariant-loop-line : goal.invariant-loop-line
invariant-loop-line g l =
    record {
      noted : (count : ℕ) (before : SourceView) → HasNotedLines g.L.TapSource l.selection count before [] l.fn.ledger l.fn.chooser l.fn.neighbours
          → (rs : List ReadLine) × HasNotedLines g.L.TapSource l.selection count before rs l.ledger l.chooser l.neighbours;
      sound : ledger_failed l.ledger ≡ false;
    }

abbrev pub decreases-loop-line : goal.decreases-loop-line
decreases-loop-line g l = MAX_LINES - number_of l.ledger
