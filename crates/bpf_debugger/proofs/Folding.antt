-- A session is a fold over the commands that weren't refused.
use Rattle.std.specs.Prelude.{◌≡◌, List, [], ◌∷◌, fold, Result, Ok, Err}
use Rattle.std.proofs.Common.{sym, ap, ◌∙◌}
use Rattle.bpf_debugger.specs.declared.command.Command.{Command}
use Rattle.bpf_debugger.specs.declared.reply.Reply.{Reply}
use Rattle.bpf_debugger.specs.declared.fault.DebugFault.{DebugFault}
use Rattle.bpf_debugger.specs.Debugging.{SessionState, state_after, Gives}
use Rattle.bpf_debugger.specs.Laws.{unless_refused, carried_out, EachSessionIsAFold}

-- one command before others
first : (s u : SessionState) (cmd : Command) (result : Result Reply DebugFault) (cmds : List Command) → Gives s cmd result u → fold state_after u cmds ≡ fold state_after s (unless_refused cmd result cmds)
first s u cmd (Ok reply) cmds gives = ap (λ (v : SessionState). fold state_after v cmds) gives.1
first s u cmd (Err fault) cmds gives = ap (λ (v : SessionState). fold state_after v cmds) gives.1

pub each_session_is_a_fold : EachSessionIsAFold
each_session_is_a_fold s t [] leads = sym leads
each_session_is_a_fold s t (one ∷ others) leads = each_session_is_a_fold leads.0 t others leads.2 ∙ first s leads.0 one.command one.result (carried_out others) leads.1
