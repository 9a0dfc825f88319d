-- A session over commands, from what its parts came to.
use Rattle.std.proofs.Common.{◌∙◌, inr, ℕ, List, [], ◌++◌, length, Result, Ok, Err, refl, sym, subst, ap}
use Rattle.std.proofs.KnownBytes.{Appends-trans}
use Rattle.std.proofs.lemmas.List.{append-nil}
use Rattle.afdx_frame.specs.Frame.{Frame}
use Rattle.bpf_isa.specs.declared.packed.Packed.{Packed}
use Rattle.bpf_debugger.specs.Debugging.{SessionState, new_session}
use Rattle.bpf_debugger.specs.declared.fault.DebugFault.TheVariants as debug
use Rattle.pcap_io.specs.Device.{CountsFailure}
use Rattle.filter_run.specs.Sessions.{AnswersAll, AnswersSome, AreAnswered, AreCommands, IsBegun, IsSessionRun, TakesPrefix, frames_line, lines_of}
use Rattle.run_fault.specs.Device.{SinkView, SourceView}
use Rattle.command_line.specs.declared.fault.Fault.{Fault}
use Rattle.command_line.specs.declared.fault.Fault.TheVariants as fault
use Rattle.command_line.specs.declared.fault.FileOption.TheVariants as file
use Rattle.run_fault.proofs.Written.{prefix_after}

module _ (p : List Packed) (frames : List Frame) (commands commands' : SourceView) (text : List ℕ) (read : AreCommands commands commands' text) where
  pub not_begun : (f : Fault) (sink sink' : SinkView) → IsBegun p frames (Err f) sink sink' → IsSessionRun p frames (Err f) commands commands' sink sink'
  not_begun (fault.File file.Standard) sink sink' begun = inr (record {
    text = text;
    printed = [];
    last = new_session p frames;
    read = read;
    answers = ([], lines_of text, refl, (refl, refl));
    taken = subst (TakesPrefix sink sink') (sym (append-nil (frames_line (length frames)))) begun;
  })
  not_begun (fault.Debug debug.Memory) sink sink' begun = (inr (text, read), begun)
  not_begun _ sink sink' begun = absurd begun

  pub session_run : (r : Result (Unit {0}) Fault) (session last : SessionState) (sink mid sink' : SinkView) → IsBegun p frames (Ok session) sink mid →
      AreAnswered (lines_of text) r session last mid sink' → IsSessionRun p frames r commands commands' sink sink'
  session_run (Ok done) session last sink mid sink' begun answered = record {
    text = text;
    printed = answered.0;
    last = last;
    read = read;
    answers = subst (λ (s : SessionState). AnswersAll s (lines_of text) answered.0 last) begun.0 answered.1;
    taken = (
      Appends-trans sink.contents mid.contents sink'.contents (frames_line (length frames)) answered.0 begun.1.0 answered.2.0,
      answered.2.1 ∙ begun.1.1,
    );
  }
  session_run (Err (fault.File file.Standard)) session last sink mid sink' begun answered = inr (record {
    text = text;
    printed = answered.0;
    last = last;
    read = read;
    answers = subst (λ (s : SessionState). AnswersSome s (lines_of text) answered.0 last) begun.0 answered.1;
    taken = (
      prefix_after sink.contents mid.contents sink'.contents (frames_line (length frames)) answered.0 [] (frames_line (length frames) ++ answered.0) begun.1.0 answered.2.0
          (ap (λ (bytes : List ℕ). frames_line (length frames) ++ bytes) (sym (append-nil answered.0))),
      subst (λ n. CountsFailure n sink'.failures) begun.1.1 answered.2.1,
    );
  })
  session_run (Err _) session last sink mid sink' begun answered = absurd answered
