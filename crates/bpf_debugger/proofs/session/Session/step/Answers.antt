use Rattle.std.proofs.Common.{◌≡◌, ◌<◌, Option, Some, Ok, Err, ℕ, length, refl, sym, subst}
use Rattle.std.proofs.Common.{w64, to_z, of_z}
use Rattle.std.proofs.lemmas.Int.{to_z-of_z}
use Rattle.std.specs.Prelude.{slice_get}
use Rattle.std.proofs.lemmas.Option.{slice_get_read, slice_get_within}
use Rattle.bpf_debugger.specs.declared.command.Command.TheVariants as command
use Rattle.bpf_debugger.specs.declared.fault.DebugFault.TheVariants.{Memory}
use Rattle.bpf_debugger.specs.Debugging.{SessionState, Gives}
use Rattle.bpf_debugger.specs.Standing.{session_state}
use Rattle.bpf_debugger.proofs.Sessions.{frame_of, gives_step, refuses_step, reply_at}
use Rattle.bpf_debugger.proofs.session.Session.step.Goals as goal
use Rattle.bpf_debugger.proofs.session.Session.step.Goals.{in-Ok, in-Err}

pub returns : goal.returns
returns c =
    let s = c.self.inside in
    let n = c.in-Some.frame in
    let frame = c.index.result.now in
    let walk = c.step_by.new.self in
    let on = frame_of s.program s.frames.items s.walk s.selected n c.in-Some.is c.self.invariant.walks in
    let lt : n < length s.frames.items = slice_get_within s.frames.items n on.frame on.there in
    let there : slice_get s.frames.items n ≡ Some frame = slice_get_read s.frames.items (length s.frames.items) n frame refl lt c.index.ensures in
    let after = session_state s.program s.frames.items s.breakpoints.items s.selected walk in
    let before = session_state s.program s.frames.items s.breakpoints.items s.selected s.walk in
    let by : to_z w64 (of_z w64 c.args.by) ≡ c.args.by = to_z-of_z w64 c.args.by c.ranges.by in
    let cmd = (command.Step c.args.by) in
    elim c.match-step_by.branch [
      | in-Ok w ↦
          let gives : Gives before cmd (Ok (reply_at walk)) after =
          subst (λ (o : Option ℕ). Gives (session_state s.program s.frames.items s.breakpoints.items o s.walk) cmd (Ok (reply_at walk)) (session_state s.program s.frames.items s.breakpoints.items o walk))
          (sym c.in-Some.is) (gives_step s.program s.frames.items s.breakpoints.items n frame there s.walk walk c.args.by c.step_by.ensures.on (rw by at w.in-Ok.ensures.position)) in
          rw (w.result-is, w.reply_at.ensures) (subst (λ (state : SessionState). Gives state cmd (Ok (reply_at walk)) after) c.self.view_is gives)
      | in-Err w ↦
          let gives : Gives before cmd (Err Memory) after =
          subst (λ (o : Option ℕ). Gives (session_state s.program s.frames.items s.breakpoints.items o s.walk) cmd (Err Memory) (session_state s.program s.frames.items s.breakpoints.items o walk))
          (sym c.in-Some.is) (refuses_step s.program s.frames.items s.breakpoints.items n frame there s.walk walk c.args.by w.in-Err.ensures.unchanged (rw by at w.in-Err.ensures.memory)) in
          rw (w.result-is) (subst (λ (state : SessionState). Gives state cmd (Err Memory) after) c.self.view_is gives)
    ]
