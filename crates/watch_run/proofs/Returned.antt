-- The remains of a run over two recordings, once its devices are given back.
use Rattle.std.proofs.Common.{◌≡◌, inr, ℕ, List, [], ◌∷◌, ◌++◌, length, ap, Some, refl, subst, sym, ◌∙◌}
use Rattle.std.proofs.lemmas.List.{append-nil}
use Rattle.std.specs.Prelude.{IfSome}
use Rattle.afdx_frame.specs.Frame.{Frame}
use Rattle.afdx_frame.specs.declared.key.Network.{Network}
use Rattle.afdx_frame.specs.declared.key.Network.TheVariants as networks
use Rattle.watch_run.specs.Filters.{Making, capture_by, ledger_by}
use Rattle.ordered_merge.specs.Merge.{Follows, MergerState}
use Rattle.ordered_merge.specs.Order.{IsOrder}
use Rattle.ordered_merge.proofs.Following.{follows_order, one_order}
use Rattle.pcap_io.specs.Device.{CountsFailure}
use Rattle.pcap_io.specs.Position.{Reading}
use Rattle.pcap_io.specs.declared.recording.Ending.{Ending}
use Rattle.verdict_ledger.specs.declared.tally.Tally.{Tally}
use Rattle.vl_config.specs.Document.{VlTable}
use Rattle.run_fault.specs.Recording.{IsRecording, LeavesUnread}
use Rattle.watch_run.specs.Outputs.{IsFinished, SinkFails, StopsFinishing}
use Rattle.watch_run.specs.Run.{StopsWatching, reading_view}
use Rattle.tap_merge.specs.Taps.{HasRead, ReadsPart}
use Rattle.run_fault.specs.Device.{AppendsSome, SourceView}
use Rattle.run_fault.specs.Recording.{IsReadPart, IsReadWhole}
use Rattle.watch_run.specs.Watch.{AbortsRun, HasFirstOfAll, HasLines, IsRunFault, StopsRun, IsWatched}
use Rattle.run_fault.specs.Opening.{FailsOnly, WatchDevices, watch_devices}
use Rattle.watch_run.specs.Round.{IsFilterCount}
use Rattle.run_fault.specs.declared.fault.Output.TheVariants as output
use Rattle.run_fault.specs.declared.fault.WatchFault.{WatchFault}
use Rattle.run_fault.specs.declared.fault.WatchFault.TheVariants as watch
use Rattle.tap_merge.proofs.TwoTaps.{part_of}
use Rattle.watch_run.proofs.Writing.{capture_all, packets_all}
use Rattle.tap_merge.proofs.TwoTaps.{read_whole}
use Rattle.watch_run.proofs.WholeOrder.{goes_on}

-- ---- the sources

part_given : (network : Network) (late : ℕ) (before after : SourceView) (frames : List Frame) (reading : Reading) (unread : List ℕ) →
    ReadsPart network late before frames reading → LeavesUnread unread reading.remaining after.remaining → IsReadPart network late before after frames
part_given network late before after frames reading unread part leaves = record {
  position = part.position;
  left = part.left;
  rest = reading.remaining;
  ahead = unread;
  read = part.read;
  gone = part.gone;
  unread = leaves;
}

ended_so : (network : Network) (late : ℕ) (before : SourceView) (frames : List Frame) (ending : Ending) (reading : Reading) →
    HasRead network late before frames (Some ending) reading → IfSome before.remaining (λ bytes. IsRecording network late before.told bytes frames ending)
ended_so network late before frames ending reading read =
    read_whole network late before frames ending reading read

pub whole_given : (network : Network) (late : ℕ) (before after : SourceView) (frames : List Frame) (ending : Ending) (reading : Reading) (unread : List ℕ) →
    HasRead network late before frames (Some ending) reading → LeavesUnread unread reading.remaining after.remaining → after.failures ≡ reading.failures →
    IsReadWhole network late before after frames ending
whole_given network late before after frames ending reading unread read leaves same = record {
  part = record {
    position = read.position;
    left = read.left;
    rest = reading.remaining;
    ahead = unread;
    read = read.read;
    gone = read.stands.gone;
    unread = leaves;
  };
  complete = ended_so network late before frames ending reading read;
  taken = read.stands.left;
  no_failure = same ∙ read.failures;
}

-- ---- only one device failed

fails_given : (fault : WatchFault) (before mid after : WatchDevices) → FailsOnly fault before mid →
    after.a.failures ≡ mid.a.failures → after.b.failures ≡ mid.b.failures → after.capture.failures ≡ mid.capture.failures → after.ledger.failures ≡ mid.ledger.failures →
    FailsOnly fault before after
fails_given (watch.Read networks.A) before mid after (a, b, c, l) sa sb sc sl = (subst (CountsFailure before.a.failures) (sym sa) a, sb ∙ b, sc ∙ c, sl ∙ l)
fails_given (watch.Read networks.B) before mid after (a, b, c, l) sa sb sc sl = (sa ∙ a, subst (CountsFailure before.b.failures) (sym sb) b, sc ∙ c, sl ∙ l)
fails_given (watch.Write output.Capture) before mid after (a, b, c, l) sa sb sc sl = (sa ∙ a, sb ∙ b, subst (CountsFailure before.capture.failures) (sym sc) c, sl ∙ l)
fails_given (watch.Write output.Ledger) before mid after (a, b, c, l) sa sb sc sl = (sa ∙ a, sb ∙ b, sc ∙ c, subst (CountsFailure before.ledger.failures) (sym sl) l)
fails_given watch.Memory before mid after (a, b, c, l) sa sb sc sl = (sa ∙ a, sb ∙ b, sc ∙ c, sl ∙ l)
fails_given watch.Workers before mid after (a, b, c, l) sa sb sc sl = (sa ∙ a, sb ∙ b, sc ∙ c, sl ∙ l)
fails_given (watch.Header network fault) before mid after (a, b, c, l) sa sb sc sl = (sa ∙ a, sb ∙ b, sc ∙ c, sl ∙ l)
fails_given watch.Spawn before mid after (a, b, c, l) sa sb sc sl = (sa ∙ a, sb ∙ b, sc ∙ c, sl ∙ l)
fails_given watch.RingLost before mid after (a, b, c, l) sa sb sc sl = (sa ∙ a, sb ∙ b, sc ∙ c, sl ∙ l)
fails_given watch.Filters before mid after (a, b, c, l) sa sb sc sl = (sa ∙ a, sb ∙ b, sc ∙ c, sl ∙ l)

-- ---- the whole run

-- the devices were given back after readers and sinks stood so
pub record Returned (a b : Reading) (unread_a unread_b : List ℕ) (after : WatchDevices) : Type 0 where
  pub a_left : LeavesUnread unread_a a.remaining after.a.remaining
  pub b_left : LeavesUnread unread_b b.remaining after.b.remaining
  pub a_failures : after.a.failures ≡ a.failures
  pub b_failures : after.b.failures ≡ b.failures

pub aborted : (fault : WatchFault) (ps : Making) (vl_table : VlTable) (before after : WatchDevices) (a b : Reading) (unread_a unread_b : List ℕ) →
    Returned a b unread_a unread_b after → StopsWatching fault ps vl_table before a b after.capture after.ledger → AbortsRun fault ps vl_table before after
aborted fault ps vl_table before after a b unread_a unread_b r s = (
  fails_given fault before (watch_devices (reading_view a) (reading_view b) after.capture after.ledger) after s.fails r.a_failures r.b_failures refl refl,
  s.run,
  record {
    frames_a = s.frames_a;
    frames_b = s.frames_b;
    frames = s.frames;
    read_a = part_given networks.A vl_table.late before.a after.a s.frames_a a unread_a s.read_a r.a_left;
    read_b = part_given networks.B vl_table.late before.b after.b s.frames_b b unread_b s.read_b r.b_left;
    order = s.order;
    capture = s.packets;
    ledger = s.lines;
    wholes = s.wholes;
    first = s.first;
  },
)

pub watched : (ps : Making) (vl_table : VlTable) (before after : WatchDevices) (fa fb cut : List Frame) (end_a end_b : Ending) (tally : Tally)
    (m : MergerState) (a b : Reading) (unread_a unread_b : List ℕ) → Returned a b unread_a unread_b after →
    HasRead networks.A vl_table.late before.a fa (Some end_a) a → HasRead networks.B vl_table.late before.b fb (Some end_b) b → Follows m fa fb cut → m.pending ≡ [] →
    IsFinished ps vl_table before.capture before.ledger after.capture after.ledger cut end_a end_b tally → IsFilterCount (length ps.filters) →
    IsWatched ps vl_table (end_a ∷ end_b ∷ []) tally before after
watched ps vl_table before after fa fb cut end_a end_b tally m a b unread_a unread_b r read_a read_b follows none f number = record {
  filters = number;
  a = end_a;
  b = end_b;
  endings_are = refl;
  frames_a = fa;
  frames_b = fb;
  frames = cut;
  read_a = whole_given networks.A vl_table.late before.a after.a fa end_a a unread_a read_a r.a_left r.a_failures;
  read_b = whole_given networks.B vl_table.late before.b after.b fb end_b b unread_b read_b r.b_left r.b_failures;
  order = follows_order m fa fb cut follows none;
  capture = f.packets;
  ledger = f.text;
  counts = f.counts;
  capture_failures = f.capture_failures;
  ledger_failures = f.ledger_failures;
}

-- why a run was aborted at the end of its ledger: all frames of both recordings had been read
pub record StopsAtEnd (fault : WatchFault) (ps : Making) (vl_table : VlTable) (before after : WatchDevices) (end_a end_b : Ending) : Type 0 where
  pub fails : FailsOnly fault before after
  pub run : IsRunFault fault
  pub stops : StopsRun fault ps vl_table before after
  pub whole_a : IsReadWhole networks.A vl_table.late before.a after.a stops.frames_a end_a
  pub whole_b : IsReadWhole networks.B vl_table.late before.b after.b stops.frames_b end_b

pub stopped_at_the_end : (fault : WatchFault) (ps : Making) (vl_table : VlTable) (before after : WatchDevices) (fa fb cut : List Frame) (end_a end_b : Ending)
    (m : MergerState) (a b : Reading) (unread_a unread_b : List ℕ) → Returned a b unread_a unread_b after →
    HasRead networks.A vl_table.late before.a fa (Some end_a) a → HasRead networks.B vl_table.late before.b fb (Some end_b) b → Follows m fa fb cut → m.pending ≡ [] →
    StopsFinishing fault ps vl_table before.capture before.ledger after.capture after.ledger cut end_a end_b →
    StopsAtEnd fault ps vl_table before after end_a end_b
stopped_at_the_end fault ps vl_table before after fa fb cut end_a end_b m a b unread_a unread_b r read_a read_b follows none s = by fault s.fails
  where
    sound_a : after.a.failures ≡ before.a.failures
    sound_a = r.a_failures ∙ read_a.failures

    sound_b : after.b.failures ≡ before.b.failures
    sound_b = r.b_failures ∙ read_b.failures

    some : AppendsSome before.capture.contents after.capture.contents (capture_by ps vl_table cut)
    some = capture_all ps vl_table cut before.capture.contents after.capture.contents s.packets

    -- the recordings are known, so they are those that were read
    first : HasFirstOfAll ps vl_table before after.capture after.ledger
    first = λ bytes_a bytes_b frames_a frames_b frames x y known_a known_b r_a r_b order.
        (let on_a = goes_on networks.A vl_table.late before.a fa frames_a (Some end_a) a bytes_a x known_a read_a r_a in
        let on_b = goes_on networks.B vl_table.late before.b fb frames_b (Some end_b) b bytes_b y known_b read_b r_b in
        let same_a : frames_a ≡ fa = on_a.all ∙ ap (λ (l : List Frame). fa ++ l) (on_a.ended refl).0 ∙ append-nil fa in
        let same_b : frames_b ≡ fb = on_b.all ∙ ap (λ (l : List Frame). fb ++ l) (on_b.ended refl).0 ∙ append-nil fb in
        let ends_a : end_a ≡ x = cc (on_a.ended refl).1 in
        let ends_b : end_b ≡ y = cc (on_b.ended refl).1 in
        let same : cut ≡ frames = one_order fa fb cut frames (follows_order m fa fb cut follows none)
        (subst (λ (l : List Frame). IsOrder l fb frames) same_a (subst (λ (l : List Frame). IsOrder frames_a l frames) same_b order)) in (
          subst (λ (l : List Frame). AppendsSome before.capture.contents after.capture.contents (capture_by ps vl_table l)) same some,
          subst (λ (l : List Frame). AppendsSome before.ledger.contents after.ledger.contents (ledger_by ps vl_table l x y)) same
              (subst (λ (e : Ending). AppendsSome before.ledger.contents after.ledger.contents (ledger_by ps vl_table cut e y)) ends_a
              (subst (λ (e : Ending). AppendsSome before.ledger.contents after.ledger.contents (ledger_by ps vl_table cut end_a e)) ends_b s.text)),
        ))

    lines : HasLines ps vl_table before fa fb cut after.capture after.ledger
    lines = inr (
      end_a,
      end_b,
      record {
        a_complete = ended_so networks.A vl_table.late before.a fa end_a a read_a;
        b_complete = ended_so networks.B vl_table.late before.b fb end_b b read_b;
      },
      s.packets,
      s.text,
    )

    by : (f : WatchFault) → SinkFails f before.capture.failures after.capture.failures before.ledger.failures after.ledger.failures → StopsAtEnd f ps vl_table before after end_a end_b
    by (watch.Write output.Capture) fails = record {
      fails = (sound_a, sound_b, fails.0, fails.1);
      run = tt;
      stops = record {
        frames_a = fa;
        frames_b = fb;
        frames = cut;
        read_a = part_given networks.A vl_table.late before.a after.a fa a unread_a (part_of networks.A vl_table.late before.a fa (Some end_a) a read_a) r.a_left;
        read_b = part_given networks.B vl_table.late before.b after.b fb b unread_b (part_of networks.B vl_table.late before.b fb (Some end_b) b read_b) r.b_left;
        order = follows_order m fa fb cut follows none;
        capture = some;
        ledger = lines;
        wholes = tt;
        first = first;
      };
      whole_a = whole_given networks.A vl_table.late before.a after.a fa end_a a unread_a read_a r.a_left r.a_failures;
      whole_b = whole_given networks.B vl_table.late before.b after.b fb end_b b unread_b read_b r.b_left r.b_failures;
    }
    by (watch.Write output.Ledger) fails = record {
      fails = (sound_a, sound_b, fails.0, fails.1);
      run = tt;
      stops = record {
        frames_a = fa;
        frames_b = fb;
        frames = cut;
        read_a = part_given networks.A vl_table.late before.a after.a fa a unread_a (part_of networks.A vl_table.late before.a fa (Some end_a) a read_a) r.a_left;
        read_b = part_given networks.B vl_table.late before.b after.b fb b unread_b (part_of networks.B vl_table.late before.b fb (Some end_b) b read_b) r.b_left;
        order = follows_order m fa fb cut follows none;
        capture = some;
        ledger = lines;
        wholes = packets_all ps vl_table cut before.capture after.capture s.packets;
        first = first;
      };
      whole_a = whole_given networks.A vl_table.late before.a after.a fa end_a a unread_a read_a r.a_left r.a_failures;
      whole_b = whole_given networks.B vl_table.late before.b after.b fb end_b b unread_b read_b r.b_left r.b_failures;
    }
    by watch.Memory fails = record {
      fails = (sound_a, sound_b, fails.0, fails.1);
      run = tt;
      stops = record {
        frames_a = fa;
        frames_b = fb;
        frames = cut;
        read_a = part_given networks.A vl_table.late before.a after.a fa a unread_a (part_of networks.A vl_table.late before.a fa (Some end_a) a read_a) r.a_left;
        read_b = part_given networks.B vl_table.late before.b after.b fb b unread_b (part_of networks.B vl_table.late before.b fb (Some end_b) b read_b) r.b_left;
        order = follows_order m fa fb cut follows none;
        capture = some;
        ledger = lines;
        wholes = inr (packets_all ps vl_table cut before.capture after.capture s.packets);
        first = first;
      };
      whole_a = whole_given networks.A vl_table.late before.a after.a fa end_a a unread_a read_a r.a_left r.a_failures;
      whole_b = whole_given networks.B vl_table.late before.b after.b fb end_b b unread_b read_b r.b_left r.b_failures;
    }
    by (watch.Read network) fails = absurd fails
    by watch.Workers fails = absurd fails
    by (watch.Header network fault) fails = absurd fails
    by watch.Spawn fails = absurd fails
    by watch.RingLost fails = absurd fails
    by watch.Filters fails = absurd fails
