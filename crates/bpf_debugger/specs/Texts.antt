-- The debugger's print (this project's profile): one line for each reply but the listing, which has one for each instruction.
use Rattle.std.specs.Prelude.{ℕ, Bool, true, false, List, ◌++◌, codes, decimal, string_bytes}
use Rattle.std.specs.List.{flat_map}
use Rattle.bpf_isa.specs.declared.state.State.{State}
use Rattle.bpf_isa.specs.declared.state.Outcome.TheVariants.{On, Done}
use Rattle.bpf_debugger.specs.declared.reply.Reply.{Reply}
use Rattle.bpf_debugger.specs.declared.reply.Reply.TheVariants.{At, Breakpoint, Listing, Tally, Bye}
use Rattle.bpf_debugger.specs.declared.fault.DebugFault.{DebugFault}
use Rattle.bpf_debugger.specs.declared.fault.DebugFault.TheVariants.{NoFrame, NoSuchFrame, NoSuchInsn, Memory}

-- a scratch memory slot, after a space
abbrev pub slot_text : ℕ → List ℕ
slot_text value = codes " " ++ decimal value

-- the state at a position
abbrev pub state_text : ℕ → State → List ℕ
state_text m s =
    codes "at " ++ decimal m ++ codes " pc " ++ decimal s.place ++ codes " A " ++ decimal s.a ++ codes " X " ++ decimal s.x ++ codes " M"
    ++ flat_map slot_text s.scratch ++ codes "\n"

abbrev pub breakpoint_text : Bool → List ℕ
breakpoint_text true = codes " set\n"
breakpoint_text false = codes " cleared\n"

-- the return value at the last position
abbrev pub done_text : ℕ → ℕ → List ℕ
done_text m answer = codes "at " ++ decimal m ++ codes " done " ++ decimal answer ++ codes "\n"

abbrev pub tally_text : ℕ → ℕ → List ℕ
tally_text accepted rejected = codes "tally accepted " ++ decimal accepted ++ codes " rejected " ++ decimal rejected ++ codes "\n"

abbrev pub reply_text : Reply → List ℕ
reply_text (At m (On s)) = state_text m s
reply_text (At m (Done answer)) = done_text m answer
reply_text (Breakpoint n set) = codes "breakpoint " ++ decimal n ++ breakpoint_text set
reply_text (Listing text) = string_bytes text
reply_text (Tally accepted rejected) = tally_text accepted rejected
reply_text Bye = codes "bye\n"

abbrev pub fault_text : DebugFault → List ℕ
fault_text NoFrame = codes "fault 1 NoFrame\n"
fault_text NoSuchFrame = codes "fault 2 NoSuchFrame\n"
fault_text NoSuchInsn = codes "fault 3 NoSuchInsn\n"
fault_text Memory = codes "fault 4 Memory\n"

-- of a line that is no command
abbrev pub bad_command_text : List ℕ
bad_command_text = codes "fault 0 BadCommand\n"
