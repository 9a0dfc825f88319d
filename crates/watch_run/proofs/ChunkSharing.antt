-- A round that workers are at, and what was written before it.
use Rattle.std.proofs.Common.{◌≡◌, List, ◌++◌, Option, Some, None, sym, subst, ap, ◌∙◌, append-nil, append_assoc}
use Rattle.std.specs.Prelude.{IfSome}
use Rattle.afdx_frame.specs.Frame.{Frame}
use Rattle.watch_run.specs.Filters.{Making, capture_by, lines_by}
use Rattle.pcap_io.specs.Writer.{sink_of}
use Rattle.pcap_io.specs.declared.writer.CaptureWriter.{CaptureWriter}
use Rattle.watch_run.specs.Entries.{AreVerdicts}
use Rattle.watch_run.specs.Outputs.{HasPackets, HasPacketsFirst, HasShared, HasWritten, SinkFails, StopsWriting, frames_at, outputs_of}
use Rattle.watch_run.specs.declared.outputs.Outputs.{Outputs}
use Rattle.watch_run.specs.declared.shared.JudgedRound.{JudgedRound}
use Rattle.run_fault.specs.Device.{AppendsSome, SinkMembers, SinkView, sink_at}
use Rattle.run_fault.specs.declared.fault.WatchFault.{WatchFault}
use Rattle.verdict_ledger.specs.Ledger.{sink_of as ledger_sink}
use Rattle.verdict_ledger.specs.declared.ledger.Ledger.{Ledger}
use Rattle.vl_config.specs.Document.{VlTable}
use Rattle.vl_judge.specs.Lanes.{LanesState, StandsAfter}
use Rattle.worker_pool.specs.Chunks.{Posted}
use Rattle.watch_run.proofs.Writing.{capture_longer, capture_some, first_longer, first_whole, lines_longer, lines_some, packets_first, whole_after, whole_longer}

-- writing stopped, and more frames would have followed
pub stops_longer : (fault : WatchFault) (ps : Making) (vl_table : VlTable) (capture ledger capture' ledger' : SinkView) (fs gs : List Frame) →
    StopsWriting fault ps vl_table capture ledger capture' ledger' fs → StopsWriting fault ps vl_table capture ledger capture' ledger' (fs ++ gs)
stops_longer fault ps vl_table capture ledger capture' ledger' fs gs s = record {
  packets = capture_longer ps vl_table fs gs capture.contents capture'.contents s.packets;
  lines = lines_longer ps vl_table fs gs ledger.contents ledger'.contents s.lines;
  packets_first = first_longer ps vl_table fs gs capture.contents capture'.contents ledger.contents ledger'.contents s.packets_first;
  whole = whole_longer fault ps vl_table fs gs capture capture' s.whole;
  fails = s.fails;
}

of_lanes : {W L : Type 0} (w : SinkMembers W) (l : SinkMembers L) (ps : Making) (vl_table : VlTable) (capture ledger : SinkView) (fs : List Frame)
    (before after : LanesState) (c : CaptureWriter W) (g : Ledger L) → HasWritten w l ps vl_table capture ledger fs (outputs_of before c g) → StandsAfter after vl_table fs →
    HasWritten w l ps vl_table capture ledger fs (outputs_of after c g)
of_lanes w l ps vl_table capture ledger fs before after c g h stands = record {
  lanes = stands;
  tally = h.tally;
  packets = h.packets;
  lines = h.lines;
  capture_failures = h.capture_failures;
  ledger_failures = h.ledger_failures;
}

module _ {W L T : Type 0} (w : SinkMembers W) (l : SinkMembers L) (ps : Making) (vl_table : VlTable) (capture ledger : SinkView) where
  -- a round more would have followed those that workers are at
  pub shared_stops : (fault : WatchFault) (frames round : List Frame) (outputs : Outputs W L) (flight : Option (Posted T JudgedRound)) →
      HasShared w l ps vl_table capture ledger frames outputs flight →
      SinkFails fault capture.failures (w.failures (sink_of outputs.capture)) ledger.failures (l.failures (ledger_sink outputs.ledger)) →
      StopsWriting fault ps vl_table capture ledger (sink_at w (sink_of outputs.capture)) (sink_at l (ledger_sink outputs.ledger)) (frames ++ round)
  shared_stops fault frames round outputs flight h fails =
      let whole : frames ++ round ≡ h.first ++ (frames_at flight ++ round) =
      ap (λ (fs : List Frame). fs ++ round) h.all ∙ append_assoc h.first (frames_at flight) round in
      record {
        packets = subst (λ (fs : List Frame). AppendsSome capture.contents (w.contents (sink_of outputs.capture)) (capture_by ps vl_table fs)) (sym whole)
            (capture_some ps vl_table h.first (frames_at flight ++ round) _ _ h.written.packets);
        lines = subst (λ (fs : List Frame). AppendsSome ledger.contents (l.contents (ledger_sink outputs.ledger)) (lines_by ps vl_table fs)) (sym whole)
            (lines_some ps vl_table h.first (frames_at flight ++ round) _ _ h.written.lines);
        packets_first = subst (λ (fs : List Frame). HasPacketsFirst ps vl_table fs capture.contents (w.contents (sink_of outputs.capture)) ledger.contents (l.contents (ledger_sink outputs.ledger))) (sym whole)
            (first_whole ps vl_table h.first (frames_at flight ++ round) _ _ _ _ h.written.packets h.written.lines);
        whole = whole_after fault ps vl_table (frames ++ round) capture (sink_at w (sink_of outputs.capture))
            (subst (λ (fs : List Frame). HasPackets ps vl_table fs capture (sink_at w (sink_of outputs.capture))) (sym whole)
            (packets_first ps vl_table h.first (frames_at flight ++ round) capture (sink_at w (sink_of outputs.capture)) h.written.packets));
        fails = fails;
      }

  -- where workers are at no round, all was written
  pub all_written : (frames : List Frame) (after : LanesState) (c : CaptureWriter W) (g : Ledger L) (flight : Option (Posted T JudgedRound)) →
      HasShared w l ps vl_table capture ledger frames (outputs_of after c g) flight → flight ≡ None → HasWritten w l ps vl_table capture ledger frames (outputs_of after c g)
  all_written frames after c g flight h none =
      let same : frames ≡ h.first = h.all ∙ ap (λ (f : Option (Posted T JudgedRound)). h.first ++ frames_at f) none ∙ append-nil h.first in
      of_lanes w l ps vl_table capture ledger frames h.before after c g (subst (λ (fs : List Frame). HasWritten w l ps vl_table capture ledger fs (outputs_of h.before c g)) (sym same) h.written) h.lanes

  pub none_shared : (frames : List Frame) (outputs : Outputs W L) → HasWritten w l ps vl_table capture ledger frames outputs →
      HasShared {T = T} w l ps vl_table capture ledger frames outputs None
  none_shared frames outputs h = record {
    first = frames;
    before = outputs.lanes;
    all = sym (append-nil frames);
    lanes = h.lanes;
    written = h;
    judged = tt;
  }

  -- the parts of a round that workers are at
  pub record IsAt (frames : List Frame) (before after : LanesState) (c : CaptureWriter W) (g : Ledger L) (p : Posted T JudgedRound) : Type 0 where
    pub first : List Frame
    pub all : frames ≡ first ++ p.round.frames
    pub lanes : StandsAfter after vl_table (first ++ p.round.frames)
    pub written : HasWritten w l ps vl_table capture ledger first (outputs_of before c g)
    pub judged : AreVerdicts vl_table first p.round.frames p.round.verdicts.items

  pub is_at : (frames : List Frame) (after : LanesState) (c : CaptureWriter W) (g : Ledger L) (flight : Option (Posted T JudgedRound)) (p : Posted T JudgedRound)
      (h : HasShared w l ps vl_table capture ledger frames (outputs_of after c g) flight) → flight ≡ Some p → IsAt frames h.before after c g p
  is_at frames after c g flight p h some =
      let all : frames ≡ h.first ++ p.round.frames = h.all ∙ ap (λ (f : Option (Posted T JudgedRound)). h.first ++ frames_at f) some in
      record {
        first = h.first;
        all = all;
        lanes = subst (StandsAfter after vl_table) all h.lanes;
        written = h.written;
        judged = subst (λ (f : Option (Posted T JudgedRound)). IfSome f (λ q. AreVerdicts vl_table h.first q.round.frames q.round.verdicts.items)) some h.judged;
      }
