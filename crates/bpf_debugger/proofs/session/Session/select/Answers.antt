use Rattle.std.proofs.Common.{◌<◌, arith, length, subst, Some, Ok}
use Rattle.bpf_debugger.specs.declared.command.Command.TheVariants as command
use Rattle.bpf_debugger.specs.Debugging.{SessionState, Gives}
use Rattle.bpf_debugger.specs.Standing.{session_state}
use Rattle.bpf_debugger.proofs.Sessions.{some_at, gives_select, reply_at}
use Rattle.bpf_debugger.proofs.session.Session.select.Goals as goal

pub invariant_of-self : goal.invariant_of-self
invariant_of-self c =
    let s = c.self.inside in
    let lt : c.args.frame < length s.frames.items = omega (arith, c.if-frame-len.false, c.len.ensures, s.frames.ok.0) in
    let found = some_at s.frames.items c.args.frame lt in
    record {
      loaded = c.self.invariant.loaded;
      each_insn = c.self.invariant.each_insn;
      walks = record { frame = found.0; there = found.1; on = c.restart.ensures.start s.program found.0 c.self.invariant.loaded };
    }

pub returns : goal.returns
returns c =
    let s = c.self.inside in
    let after = session_state s.program s.frames.items s.breakpoints.items (Some c.args.frame) c.restart.new.self in
    let lt : c.args.frame < length s.frames.items = omega (arith, c.if-frame-len.false, c.len.ensures, s.frames.ok.0) in
    let found = some_at s.frames.items c.args.frame lt in
    let gives : Gives (session_state s.program s.frames.items s.breakpoints.items s.selected s.walk) (command.Select c.args.frame) (Ok (reply_at c.restart.new.self)) after =
    gives_select s.program s.frames.items s.breakpoints.items c.args.frame found.0 found.1 s.selected s.walk c.restart.new.self lt (c.restart.ensures.start s.program found.0 c.self.invariant.loaded) c.restart.ensures.position in
    rw (c.reply_at.ensures) (subst (λ (before : SessionState). Gives before (command.Select c.args.frame) (Ok (reply_at c.restart.new.self)) after) c.self.view_is gives)
