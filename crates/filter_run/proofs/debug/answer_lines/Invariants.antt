-- The lines before those that are left were answered.
use Rattle.std.proofs.Common.{ℕ, suc, List, length}
use Rattle.std.specs.Borrow.{Bor}
use Rattle.std.specs.Option.{option_map_or}
use Rattle.filter_run.specs.Sessions.{Takes, lines_left, lines_of}
use Rattle.run_fault.specs.Device.{sink_at}
use Rattle.filter_run.proofs.Answering.{GoesOn}
use Rattle.filter_run.proofs.debug.answer_lines.Given as goal

abbrev pub invariant-loop-left : goal.invariant-loop-left
invariant-loop-left g l = record {
  printed : List ℕ;
  taken : Takes (sink_at g.W.OutSink l.fn.sink) (sink_at g.W.OutSink l.sink) printed;
  on : GoesOn l.fn.session (lines_of l.fn.text) printed l.session (lines_left l.left);
}

abbrev pub decreases-loop-left : goal.decreases-loop-left
decreases-loop-left g l = option_map_or (λ (text : Bor (List ℕ)). suc (length text.now)) l.left 0
