-- A copy that stops at the packet of an accepted frame.
use Rattle.std.proofs.Common.{◌≡◌, ◌∙◌, ℕ, List, [], ◌∷◌, ◌++◌, Option, Ok, Err, subst, take, inr}
use Rattle.std.proofs.KnownBytes.{Appends-trans}
use Rattle.std.specs.Io.KnownBytes.{Appends}
use Rattle.afdx_frame.specs.Frame.{Frame}
use Rattle.bpf_isa.specs.declared.packed.Packed.{Packed}
use Rattle.packet_format.specs.Packets.{Format}
use Rattle.pcap_io.specs.Device.{CountsFailure}
use Rattle.pcap_io.specs.Position.{Reads}
use Rattle.pcap_io.specs.declared.position.Position.{Position}
use Rattle.run_fault.specs.declared.fault.Output.TheVariants as output
use Rattle.run_fault.specs.declared.fault.WatchFault.{WatchFault}
use Rattle.run_fault.specs.declared.fault.WatchFault.TheVariants as watch
use Rattle.capture_run.specs.OneCapture.{packet_of, packets_of}
use Rattle.capture_run.specs.Copy.{Copying, StopsCopy, WritesAccepted}

-- all that a call wrote, in the writer's first format and of the frame that was lent
pub written_in : (p : List Packed) (was format : Format) (lent frame : Frame) (old new : Option (List ℕ)) (before after : ℕ) → was ≡ format → lent ≡ frame
    → WritesAccepted was p lent (Ok tt) old new before after → Appends old new (packet_of format p frame) × (after ≡ before)
written_in p was format lent frame old new before after same is h =
    subst (λ (x : Frame). WritesAccepted format p x (Ok tt) old new before after) is
    (subst (λ (x : Format). WritesAccepted x p lent (Ok tt) old new before after) same h)

-- and what it left at a fault
pub left_in : (p : List Packed) (was format : Format) (lent frame : Frame) (fault : WatchFault) (old new : Option (List ℕ)) (before after : ℕ) → was ≡ format → lent ≡ frame
    → WritesAccepted was p lent (Err fault) old new before after → WritesAccepted format p frame (Err fault) old new before after
left_in p was format lent frame fault old new before after same is h =
    subst (λ (x : Frame). WritesAccepted format p x (Err fault) old new before after) is
    (subst (λ (x : Format). WritesAccepted x p lent (Err fault) old new before after) same h)

-- These frames were copied, and the packet of the next one wasn't written.
pub stopped_at : (format : Format) (p : List Packed) (fault : WatchFault) (frames : List Frame) (frame : Frame) (position : Position) (old new : Copying)
    (start : Option (List ℕ)) (failures : ℕ) → Appends old.contents start (packets_of format p frames)
    → Reads old.reading.position old.reading.remaining (frames ++ frame ∷ []) position new.reading.remaining
    → new.reading.failures ≡ old.reading.failures → failures ≡ old.failures
    → WritesAccepted format p frame (Err fault) start new.contents failures new.failures → StopsCopy format p fault old new
stopped_at format p watch.Workers frames frame position old new start failures wrote reads source sink h = absurd h
stopped_at format p (watch.Header network f) frames frame position old new start failures wrote reads source sink h = absurd h
stopped_at format p (watch.Read network) frames frame position old new start failures wrote reads source sink h = absurd h
stopped_at format p (watch.Write output.Capture) frames frame position old new start failures wrote reads source sink (part, counted) = record {
  frames = frames;
  frame = frame;
  position = position;
  count = part.0;
  within = part.1;
  reads = reads;
  written = Appends-trans old.contents start new.contents (packets_of format p frames) (take part.0 (packet_of format p frame)) wrote part.2;
  source = source;
  sink = subst (λ (x : ℕ). CountsFailure x new.failures) sink counted;
}
stopped_at format p (watch.Write output.Ledger) frames frame position old new start failures wrote reads source sink h = absurd h
stopped_at format p watch.Spawn frames frame position old new start failures wrote reads source sink h = absurd h
stopped_at format p watch.RingLost frames frame position old new start failures wrote reads source sink h = absurd h
stopped_at format p watch.Memory frames frame position old new start failures wrote reads source sink (pcapng, accepted, same, well) = inr (record {
  frames = frames;
  frame = frame;
  position = position;
  reads = reads;
  pcapng = pcapng;
  accepted = accepted;
  written = rw same wrote;
  source = source;
  sink = well ∙ sink;
})
stopped_at format p watch.Filters frames frame position old new start failures wrote reads source sink h = absurd h
