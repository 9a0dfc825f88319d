-- Laws of a whole session.
use Rattle.std.specs.Prelude.{◌≡◌, List, [], ◌∷◌, fold, Result, Ok, Err}
use Rattle.bpf_debugger.specs.declared.command.Command.{Command}
use Rattle.bpf_debugger.specs.declared.reply.Reply.{Reply}
use Rattle.bpf_debugger.specs.declared.fault.DebugFault.{DebugFault}
use Rattle.bpf_debugger.specs.Debugging.{SessionState, state_after, Gives}

-- a command, and what it gave
pub record Answered : Type 0 where
  pub command : Command
  pub result : Result Reply DebugFault

-- these commands led from one state to another, one after the other
abbrev pub LeadsBy : SessionState → List Answered → SessionState → Type 0
LeadsBy s [] t = s ≡ t
LeadsBy s (one ∷ others) t = (u : SessionState) × Gives s one.command one.result u × LeadsBy u others t

-- a command onto those before it, unless it was refused
abbrev pub unless_refused : Command → Result Reply DebugFault → List Command → List Command
unless_refused cmd (Ok reply) cmds = cmd ∷ cmds
unless_refused cmd (Err fault) cmds = cmds

-- the commands that weren't refused
abbrev pub carried_out : List Answered → List Command
carried_out [] = []
carried_out (one ∷ others) = unless_refused one.command one.result (carried_out others)

-- the state after any commands is that after those which weren't refused
abbrev pub EachSessionIsAFold : Type 0
EachSessionIsAFold = (s t : SessionState) (log : List Answered) → LeadsBy s log t → t ≡ fold state_after s (carried_out log)
