-- Rounds that are shared while the next one is merged.
use Rattle.std.proofs.Common.{◌≡◌, ◌++◌, ◌+◌, ◌≤◌, ℕ, [], List, Option, None, length, sym, subst}
use Rattle.ordered_merge.specs.Merge.{safe_frames}
use Rattle.run_fault.specs.declared.fault.WatchFault.{WatchFault}
use Rattle.run_fault.specs.declared.fault.WatchFault.TheVariants as watch
use Rattle.afdx_frame.specs.Frame.{Frame}
use Rattle.watch_run.specs.Filters.{Making}
use Rattle.pcap_io.specs.Writer.{sink_of}
use Rattle.watch_run.specs.Outputs.{HasShared, HasWritten, StopsWriting, effect_of, frames_at, outputs_of}
use Rattle.watch_run.specs.declared.outputs.Outputs.{Outputs}
use Rattle.watch_run.specs.declared.shared.JudgedRound.{JudgedRound}
use Rattle.watch_run.proofs.ChunkSharing.{none_shared}
use Rattle.run_fault.specs.Device.{SinkMembers, SinkView, sink_at}
use Rattle.tap_merge.specs.Rings.{HasTaken, WhereFailed}
use Rattle.tap_merge.specs.declared.rings.Rings.{Rings}
use Rattle.verdict_ledger.specs.Ledger.{sink_of as ledger_sink, totals_in}
use Rattle.verdict_ledger.specs.declared.bounds.TheConstants.{MAX_LINES}
use Rattle.vl_config.specs.Document.{VlTable}
use Rattle.vl_judge.specs.Lanes.{FollowsOn, LanesState}
use Rattle.worker_pool.specs.Chunks.{Posted}
use Rattle.watch_run.specs.Running.{HasCutSafe, HasWholeRounds, IsSharing}
use Rattle.watch_run.proofs.RoundsTaken.{taken_follows, taken_room}
use Rattle.watch_run.proofs.Watching.{frames_counted}

module _ {W L T : Type 0} (w : SinkMembers W) (l : SinkMembers L) (ps : Making) where
  -- the ledger has room for the round that workers are at
  pub shared_room : (vl_table : VlTable) (capture ledger : SinkView) (rings : Rings) (outputs : Outputs W L) (flight : Option (Posted T JudgedRound)) →
      IsSharing w l ps vl_table capture ledger rings outputs flight → (totals_in outputs.ledger).frames + length (frames_at flight) ≤ MAX_LINES
  shared_room vl_table capture ledger rings outputs flight h =
      taken_room vl_table.late h.shared.first (frames_at flight) rings _ (subst (λ (c : List Frame). HasTaken vl_table.late c rings) h.shared.all h.taken)
      (frames_counted ps vl_table h.shared.first _ h.shared.written.tally.tally.totals)

  -- a further round follows on what the lanes know
  pub shared_follows : (vl_table : VlTable) (capture ledger : SinkView) (rings rings' : Rings) (outputs : Outputs W L) (flight : Option (Posted T JudgedRound)) (round : List Frame)
      (h : IsSharing w l ps vl_table capture ledger rings outputs flight) → HasTaken vl_table.late (h.cut ++ round) rings' → FollowsOn outputs.lanes.last round
  shared_follows vl_table capture ledger rings rings' outputs flight round h taken =
      subst (λ last. FollowsOn last round) (sym h.shared.lanes.last) (taken_follows vl_table.late h.cut round rings' taken)

  -- all was written that was shared
  pub settled_shared : (vl_table : VlTable) (capture ledger : SinkView) (cut : List Frame) (outputs : Outputs W L) (lanes : LanesState) (flight : Option (Posted T JudgedRound)) →
      outputs.lanes ≡ lanes → flight ≡ None → HasWritten w l ps vl_table capture ledger cut (outputs_of lanes outputs.capture outputs.ledger) →
      HasShared w l ps vl_table capture ledger cut outputs flight
  settled_shared vl_table capture ledger cut outputs lanes flight same none h =
      subst (λ (f : Option (Posted T JudgedRound)). HasShared w l ps vl_table capture ledger cut outputs f) (sym none)
      (none_shared w l ps vl_table capture ledger cut outputs
      (subst (λ (s : LanesState). HasWritten w l ps vl_table capture ledger cut (outputs_of s outputs.capture outputs.ledger)) (sym same) h))

pub whole_rounds : {W L : Type 0} (w : SinkMembers W) (l : SinkMembers L) (ps : Making) (vl_table : VlTable) (capture ledger : SinkView) (cut : List Frame)
    (outputs : Outputs W L) (lanes : LanesState) → HasWritten w l ps vl_table capture ledger cut (outputs_of lanes outputs.capture outputs.ledger) →
    HasWholeRounds ps vl_table cut capture ledger (sink_at w (sink_of outputs.capture)) (sink_at l (ledger_sink outputs.ledger))
whole_rounds w l ps vl_table capture ledger cut outputs lanes h = record {
  packets = h.packets;
  lines = h.lines;
  capture_failures = h.capture_failures;
  ledger_failures = h.ledger_failures;
}

-- a fault of writing is no source's
pub no_source : (P : Type 0) (fault : WatchFault) (ps : Making) (vl_table : VlTable) (capture ledger capture' ledger' : SinkView) (cut : List Frame) →
    StopsWriting (effect_of fault) ps vl_table capture ledger capture' ledger' cut → WhereFailed fault P
no_source P (watch.Read network) ps vl_table capture ledger capture' ledger' cut s = absurd s.fails
no_source P watch.Memory ps vl_table capture ledger capture' ledger' cut s = tt
no_source P watch.RingLost ps vl_table capture ledger capture' ledger' cut s = tt
no_source P watch.Workers ps vl_table capture ledger capture' ledger' cut s = tt
no_source P (watch.Header network fault) ps vl_table capture ledger capture' ledger' cut s = tt
no_source P watch.Spawn ps vl_table capture ledger capture' ledger' cut s = tt
no_source P (watch.Write out) ps vl_table capture ledger capture' ledger' cut s = tt
no_source P watch.Filters ps vl_table capture ledger capture' ledger' cut s = tt

-- no frame is safe of those that were taken
pub cut_safe : (late : ℕ) (cut : List Frame) (rings : Rings) → HasTaken late cut rings → safe_frames rings.merger ≡ [] → HasCutSafe late cut rings.a rings.b
cut_safe late cut rings h none = record { merger = rings.merger; late_is = h.late_is; follows = h.follows; none_safe = none }
