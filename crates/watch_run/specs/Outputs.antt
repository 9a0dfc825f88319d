-- The outputs of a run, round by round (this project's profile).
use Rattle.std.specs.Prelude.{◌≡◌, ◌⊎◌, ℕ, List, [], ◌++◌, length, take, IfSome, Option, ⊤}
use Rattle.std.specs.Option.{option_map_or}
use Rattle.std.specs.Io.KnownBytes.{Appends}
use Rattle.afdx_frame.specs.Frame.{Frame}
use Rattle.watch_run.specs.Filters.{Making, capture_by, entries_by, ledger_by, lines_by}
use Rattle.pcap_io.specs.Writer.{sink_of}
use Rattle.pcap_io.specs.declared.recording.Ending.{Ending}
use Rattle.verdict_ledger.specs.Ledger.{IsTallyOf, StandsAfter as LedgerStandsAfter, sink_of as ledger_sink}
use Rattle.verdict_ledger.specs.declared.tally.Tally.{Tally}
use Rattle.verdict_ledger.specs.declared.fault.LedgerFault.{LedgerFault}
use Rattle.verdict_ledger.specs.declared.fault.LedgerFault.TheVariants as ledger_faults
use Rattle.vl_config.specs.Document.{VlTable}
use Rattle.vl_judge.specs.Lanes.{LanesState, StandsAfter}
use Rattle.pcap_io.specs.declared.writer.CaptureWriter.{CaptureWriter}
use Rattle.verdict_ledger.specs.declared.ledger.Ledger.{Ledger}
use Rattle.run_fault.specs.Device.{SinkMembers, AppendsSome, SinkView}
use Rattle.run_fault.specs.Fault.{CaptureSink, Fails, LedgerSink}
use Rattle.run_fault.specs.declared.fault.Output.TheVariants as output
use Rattle.run_fault.specs.declared.fault.WatchFault.{WatchFault}
use Rattle.run_fault.specs.declared.fault.WatchFault.TheVariants as watch
use Rattle.watch_run.specs.Entries.{AreVerdicts}
use Rattle.watch_run.specs.declared.outputs.Outputs.{Outputs}
use Rattle.watch_run.specs.declared.shared.JudgedRound.{JudgedRound}
use Rattle.worker_pool.specs.Chunks.{Posted}

-- the run's fault by a fault of the ledger
abbrev pub ledger_fault : LedgerFault → WatchFault
ledger_fault ledger_faults.Device = watch.Write output.Ledger
ledger_fault ledger_faults.Memory = watch.Memory
ledger_fault ledger_faults.Failed = watch.Write output.Ledger

-- the outputs of a run, by their parts
abbrev pub outputs_of : {W L : Type 0} → LanesState → CaptureWriter W → Ledger L → Outputs W L
outputs_of lanes capture ledger = record { lanes = lanes; capture = capture; ledger = ledger }

-- the effect of a fault on the outputs: a worker's lost batch leaves what no memory leaves
abbrev pub effect_of : WatchFault → WatchFault
effect_of watch.RingLost = watch.Memory
effect_of fault = fault

-- The capture and the ledger of these frames were written, and the lanes know them.
pub record HasWritten {W L : Type 0} (w : SinkMembers W) (l : SinkMembers L)
    (ps : Making) (vl_table : VlTable) (capture ledger : SinkView) (frames : List Frame) (outputs : Outputs W L) : Type 0 where
  pub lanes : StandsAfter outputs.lanes vl_table frames
  pub tally : LedgerStandsAfter outputs.ledger vl_table (length ps.filters) (entries_by ps vl_table frames)
  pub packets : Appends capture.contents (w.contents (sink_of outputs.capture)) (capture_by ps vl_table frames)
  pub lines : Appends ledger.contents (l.contents (ledger_sink outputs.ledger)) (lines_by ps vl_table frames)
  pub capture_failures : w.failures (sink_of outputs.capture) ≡ capture.failures
  pub ledger_failures : l.failures (ledger_sink outputs.ledger) ≡ ledger.failures

-- the frames of a round that workers are at, none where they are at none
abbrev pub frames_at : {T : Type 0} → Option (Posted T JudgedRound) → List Frame
frames_at flight = option_map_or (λ p. p.round.frames) flight []

-- The lanes know these frames; all were written but for the last, a round that workers are at.
pub record HasShared {W L T : Type 0} (w : SinkMembers W) (l : SinkMembers L)
    (ps : Making) (vl_table : VlTable) (capture ledger : SinkView) (frames : List Frame) (outputs : Outputs W L)
    (flight : Option (Posted T JudgedRound)) : Type 0 where
  pub first : List Frame
  pub before : LanesState
  pub all : frames ≡ first ++ frames_at flight
  pub lanes : StandsAfter outputs.lanes vl_table frames
  pub written : HasWritten w l ps vl_table capture ledger first (outputs_of before outputs.capture outputs.ledger)
  pub judged : IfSome flight (λ p. AreVerdicts vl_table first p.round.frames p.round.verdicts.items)

-- a fault that writing finds, and this
abbrev pub OfWriting : WatchFault → Type 0 → Type 0
OfWriting (watch.Write out) P = P
OfWriting watch.Memory P = P
OfWriting fault P = ⊥

-- only the sink that the fault names failed, if it names one
abbrev pub SinkFails : WatchFault → ℕ → ℕ → ℕ → ℕ → Type 0
SinkFails fault c c' l l' = OfWriting fault (Fails fault CaptureSink c c' × Fails fault LedgerSink l l')

-- The capture has its file header and whole packets, those of the first so many of these frames.
abbrev pub HasPackets : Making → VlTable → List Frame → SinkView → SinkView → Type 0
HasPackets ps vl_table frames capture capture' = (n : ℕ) × Appends capture.contents capture'.contents (capture_by ps vl_table (take n frames))

-- The capture ends with a whole packet or its file header, unless it can't be written. Where memory is missing it may have nothing yet.
abbrev pub IsWholeAfter : WatchFault → Making → VlTable → List Frame → SinkView → SinkView → Type 0
IsWholeAfter (watch.Write output.Ledger) ps vl_table frames capture capture' = HasPackets ps vl_table frames capture capture'
IsWholeAfter watch.Memory ps vl_table frames capture capture' =
    Appends capture.contents capture'.contents [] ⊎ HasPackets ps vl_table frames capture capture'
IsWholeAfter fault ps vl_table frames capture capture' = ⊤

-- known bytes grow by the bytes, and then perhaps by more
abbrev pub AppendsAll : Option (List ℕ) → Option (List ℕ) → List ℕ → Type 0
AppendsAll old new bytes = (more : List ℕ) × Appends old new (bytes ++ more)

-- Packets come before lines. The ledger has nothing yet; or it has a prefix of its first line and the lines of the first so many of these frames,
-- and the capture has its file header and the packets of all these, whole.
abbrev pub HasPacketsFirst : Making → VlTable → List Frame → Option (List ℕ) → Option (List ℕ) → Option (List ℕ) → Option (List ℕ) → Type 0
HasPacketsFirst ps vl_table frames capture capture' ledger ledger' =
    Appends ledger ledger' []
    ⊎ ((m : ℕ) × AppendsAll capture capture' (capture_by ps vl_table (take m frames)) × AppendsSome ledger ledger' (lines_by ps vl_table (take m frames)))

-- Each sink has a prefix of what belongs to these frames. The capture is begun before the ledger, and has a round's packets before the ledger has
-- its lines: so no line stands in the ledger whose packet isn't in the capture.
-- Where the ledger can't be written, the capture ends with a whole packet or its file header.
pub record StopsWriting (fault : WatchFault) (ps : Making) (vl_table : VlTable) (capture ledger capture' ledger' : SinkView) (frames : List Frame) : Type 0 where
  pub packets : AppendsSome capture.contents capture'.contents (capture_by ps vl_table frames)
  pub lines : AppendsSome ledger.contents ledger'.contents (lines_by ps vl_table frames)
  pub packets_first : HasPacketsFirst ps vl_table frames capture.contents capture'.contents ledger.contents ledger'.contents
  pub whole : IsWholeAfter fault ps vl_table frames capture capture'
  pub fails : SinkFails fault capture.failures capture'.failures ledger.failures ledger'.failures

-- Both outputs are complete, with these counts.
pub record IsFinished (ps : Making) (vl_table : VlTable) (capture ledger capture' ledger' : SinkView) (frames : List Frame) (a b : Ending) (tally : Tally) : Type 0 where
  pub packets : Appends capture.contents capture'.contents (capture_by ps vl_table frames)
  pub text : Appends ledger.contents ledger'.contents (ledger_by ps vl_table frames a b)
  pub counts : IsTallyOf (entries_by ps vl_table frames) tally
  pub capture_failures : capture'.failures ≡ capture.failures
  pub ledger_failures : ledger'.failures ≡ ledger.failures

-- The capture is complete, and the ledger has a prefix of its text.
pub record StopsFinishing (fault : WatchFault) (ps : Making) (vl_table : VlTable) (capture ledger capture' ledger' : SinkView) (frames : List Frame) (a b : Ending) : Type 0 where
  pub packets : Appends capture.contents capture'.contents (capture_by ps vl_table frames)
  pub text : AppendsSome ledger.contents ledger'.contents (ledger_by ps vl_table frames a b)
  pub fails : SinkFails fault capture.failures capture'.failures ledger.failures ledger'.failures
