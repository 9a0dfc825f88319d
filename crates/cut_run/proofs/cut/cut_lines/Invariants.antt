use Rattle.std.proofs.Common.{◌≡◌, ◌-◌, List, [], Option, false}
use Rattle.afdx_frame.specs.Frame.{Frame}
use Rattle.ledger_text.specs.Ledger.{ReadLine, has_failed as ledger_failed, number_of}
use Rattle.ledger_text.specs.declared.frame.FrameLine.{FrameLine}
use Rattle.ledger_text.specs.declared.bounds.TheConstants.{MAX_LINES}
use Rattle.ledger_text.specs.Neighbours.{Around}
use Rattle.packet_format.specs.Packets.{Format}
use Rattle.packet_format.specs.Writer.{has_failed}
use Rattle.cut_run.specs.Cut.{CutDevices}
use Rattle.cut_run.specs.Cutting.{HasCut}
use Rattle.cut_run.proofs.cut.cut_lines.Given as goal

-- these lines were cut
abbrev pub invariant-loop-line : goal.invariant-loop-line
invariant-loop-line g l =
    record {
      cut : (format : Format) (around : Option Around) (before : CutDevices)
          → HasCut g.L.TapSource g.S.TapSource g.T.TapSource g.W.OutSink format (record { selection = l.selection; around = around; skips = l.skips }) before [] [] [] [] [] l.fn.ledger l.fn.taking
          → (rs : List ReadLine) × (fs : List Frame) × (taken : List (FrameLine × Frame)) × (fa : List Frame) × (fb : List Frame)
          × HasCut g.L.TapSource g.S.TapSource g.T.TapSource g.W.OutSink format (record { selection = l.selection; around = around; skips = l.skips }) before rs fs taken fa fb l.ledger l.taking;
      sound : ledger_failed l.ledger ≡ false;
      going : has_failed l.taking.output ≡ false;
    }

abbrev pub decreases-loop-line : goal.decreases-loop-line
decreases-loop-line g l = MAX_LINES - number_of l.ledger
