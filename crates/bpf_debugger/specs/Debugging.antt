-- The debugger. A session has a selected frame, a position on the filter's one run on that frame, and breakpoints. Each
-- command that isn't refused leads from one such state to the next, and replies what is shown there.
use Rattle.std.specs.Prelude.{◌≡◌, ℕ, ◌<◌, Bool, false, not, List, [], length, replicate, count_by, slice_get, slice_index_or, slice_set, Option, Some, None, Result, MatchResult, nat_lt, if◌then◌else◌, string_bytes}
use Rattle.std.specs.Option.{option_map, option_map_or}
use Rattle.afdx_frame.specs.Frame.{Frame}
use Rattle.bpf_isa.specs.declared.packed.Packed.{Packed}
use Rattle.bpf_isa.specs.declared.state.Outcome.{Outcome}
use Rattle.bpf_machine.specs.Run.{answer_of}
use Rattle.bpf_asm.specs.Listing.{IsListing}
use Rattle.bpf_debugger.specs.declared.command.Command.{Command}
use Rattle.bpf_debugger.specs.declared.command.Command.TheVariants as command
use Rattle.bpf_debugger.specs.declared.reply.Reply.{Reply}
use Rattle.bpf_debugger.specs.declared.reply.Reply.TheVariants as reply
use Rattle.bpf_debugger.specs.declared.fault.DebugFault.{DebugFault}
use Rattle.bpf_debugger.specs.declared.fault.DebugFault.TheVariants.{NoFrame, NoSuchFrame, NoSuchInsn, Memory}
use Rattle.bpf_debugger.specs.Chain.{chain_of}
use Rattle.bpf_debugger.specs.Walking.{moved_by, next_stop}

-- a position on the run of the program on a frame
pub record Position : Type 0 where
  pub frame : ℕ
  -- the number of steps made
  pub m : ℕ

pub record SessionState : Type 0 where
  pub program : List Packed
  pub frames : List Frame
  -- none before the first frame is selected
  pub place : Option Position
  -- true if an instruction has a breakpoint, for each instruction
  pub breakpoints : List Bool

abbrev pub new_session : List Packed → List Frame → SessionState
new_session p frames = record { program = p; frames = frames; place = None; breakpoints = replicate (length p) false }

-- the run of the program on the frame of a position
abbrev pub chain_at : SessionState → Position → List Outcome
chain_at s place = option_map_or (λ frame. chain_of s.program frame) (slice_get s.frames place.frame) []

-- the state with a frame selected, before the first step
abbrev pub with_frame : SessionState → ℕ → SessionState
with_frame s n = record { program = s.program; frames = s.frames; place = Some (record { frame = n; m = 0 }); breakpoints = s.breakpoints }

-- the state at another position on the run
abbrev pub with_position : SessionState → (Position → ℕ) → SessionState
with_position s moved = record {
  program = s.program;
  frames = s.frames;
  place = option_map (λ place. record { frame = place.frame; m = moved place }) s.place;
  breakpoints = s.breakpoints;
}

-- true if an instruction has a breakpoint
abbrev pub has_breakpoint : SessionState → ℕ → Bool
has_breakpoint s n = slice_index_or s.breakpoints n false

-- the state with a breakpoint set, or cleared where it was set
abbrev pub with_toggled : SessionState → ℕ → SessionState
with_toggled s n = record { program = s.program; frames = s.frames; place = s.place; breakpoints = slice_set s.breakpoints n (not (has_breakpoint s n)) }

-- the state after a command that isn't refused
abbrev pub state_after : SessionState → Command → SessionState
state_after s (command.Select n) = with_frame s n
state_after s (command.Step d) = with_position s (λ place. moved_by d (chain_at s place) place.m)
state_after s command.Cont = with_position s (λ place. next_stop s.breakpoints (chain_at s place) place.m)
state_after s (command.Breakpoint n) = with_toggled s n
state_after s command.Disassemble = s
state_after s command.Tally = s
state_after s command.Quit = s

-- ---- replies

-- the entry of the run at the state's position
pub record Shows (s : SessionState) (r : Reply) : Type 0 where
  pub place : Position
  pub selected : s.place ≡ Some place
  pub shown : Outcome
  pub entry : slice_get (chain_at s place) place.m ≡ Some shown
  pub says : r ≡ reply.At place.m shown

-- the filter accepts the frame
abbrev pub accepts : List Packed → Frame → Bool
accepts p frame = nat_lt 0 (answer_of p frame.bytes frame.whole)

abbrev pub tally_of : SessionState → Reply
tally_of s = reply.Tally (count_by (accepts s.program) s.frames) (count_by (λ frame. not (accepts s.program frame)) s.frames)

-- the reply lists the program
abbrev pub Lists : SessionState → Reply → Type 0
Lists s (reply.Listing text) = IsListing s.program (string_bytes text)
Lists s _ = ⊥

-- the reply to a command, in the state that it leads to
abbrev pub RepliesIn : SessionState → Command → Reply → Type 0
RepliesIn s (command.Select n) r = Shows s r
RepliesIn s (command.Step d) r = Shows s r
RepliesIn s command.Cont r = Shows s r
RepliesIn s (command.Breakpoint n) r = r ≡ reply.Breakpoint n (has_breakpoint s n)
RepliesIn s command.Disassemble r = Lists s r
RepliesIn s command.Tally r = r ≡ tally_of s
RepliesIn s command.Quit r = r ≡ reply.Bye

-- ---- refusals

-- the fault of a command, if there is memory
abbrev pub fault_of : SessionState → Command → Option DebugFault
fault_of s (command.Select n) = if nat_lt n (length s.frames) then None else Some NoSuchFrame
fault_of s (command.Step d) = option_map_or (λ place. None) s.place (Some NoFrame)
fault_of s command.Cont = option_map_or (λ place. None) s.place (Some NoFrame)
fault_of s (command.Breakpoint n) = if nat_lt n (length s.program) then None else Some NoSuchInsn
fault_of s command.Disassemble = None
fault_of s command.Tally = None
fault_of s command.Quit = None

-- the second state is farther on the run than the first
abbrev pub IsFarther : Option Position → Option Position → Type 0
IsFarther (Some before) (Some after) = before.m < after.m
IsFarther _ _ = ⊥

-- the commands that allocate: those that make a step, and the listing
abbrev pub Allocates : SessionState → Command → Type 0
Allocates s (command.Step d) = IsFarther s.place (state_after s (command.Step d)).place
Allocates s command.Cont = IsFarther s.place (state_after s command.Cont).place
Allocates s command.Disassemble = Unit {0}
Allocates s _ = ⊥

-- the command is refused with this fault
abbrev pub Refuses : SessionState → Command → DebugFault → Type 0
Refuses s cmd Memory = (fault_of s cmd ≡ None) × Allocates s cmd
Refuses s cmd fault = fault_of s cmd ≡ Some fault

-- ---- commands

-- The result of a command: the reply, and the state that it leads to. A refused command leaves the state as it is.
abbrev pub Gives : SessionState → Command → Result Reply DebugFault → SessionState → Type 0
Gives before cmd result after =
    MatchResult result
    (λ r. (fault_of before cmd ≡ None) × (after ≡ state_after before cmd) × RepliesIn after cmd r)
    (λ fault. Refuses before cmd fault × (after ≡ before))
