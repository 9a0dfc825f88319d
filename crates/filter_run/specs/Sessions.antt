-- The command `debug`: what it reads, prints and leaves (this project's profile).
use Rattle.std.specs.Prelude.{◌≡◌, ◌⊎◌, ℕ, Bool, true, false, not, ◌==◌, List, [], ◌∷◌, ◌++◌, length, codes, decimal, string_bytes, Option, Some, None, Result, Ok, Err}
use Rattle.std.specs.Borrow.{Bor}
use Rattle.std.specs.List.{list_all, slice_split}
use Rattle.std.specs.Io.KnownBytes.{Appends}
use Rattle.afdx_frame.specs.Frame.{Frame}
use Rattle.bpf_isa.specs.declared.packed.Packed.{Packed}
use Rattle.bpf_debugger.specs.Debugging.{Gives, SessionState, new_session}
use Rattle.bpf_debugger.specs.Lines.{command_of, is_space, words_of}
use Rattle.bpf_debugger.specs.Texts.{bad_command_text, fault_text, reply_text}
use Rattle.bpf_debugger.specs.declared.command.Command.{Command}
use Rattle.bpf_debugger.specs.declared.command.Command.TheVariants as command
use Rattle.bpf_debugger.specs.declared.fault.DebugFault.{DebugFault}
use Rattle.bpf_debugger.specs.declared.fault.DebugFault.TheVariants as debug
use Rattle.bpf_debugger.specs.declared.reply.Reply.{Reply}
use Rattle.pcap_io.specs.Device.{AppendsPrefix, CountsFailure}
use Rattle.run_inputs.specs.Text.{IsTextRefusal, IsWholeText}
use Rattle.run_fault.specs.Device.{SinkView, SourceView}
use Rattle.filter_run.specs.declared.debug.Answer.{Answer}
use Rattle.filter_run.specs.declared.debug.Answer.TheVariants as answer
use Rattle.command_line.specs.declared.fault.Fault.{Fault}
use Rattle.command_line.specs.declared.fault.Fault.TheVariants as fault
use Rattle.command_line.specs.declared.fault.FileOption.TheVariants as file
use Rattle.run_inputs.specs.declared.text.TextRefusal.{TextRefusal}
use Rattle.run_inputs.specs.declared.text.TextRefusal.TheVariants as refusals

-- ---- one line of commands

-- The text of what a command gave: its reply, or its fault. A reply that there is no memory to render is told as that.
abbrev pub IsTextOf : Result Reply DebugFault → List ℕ → Type 0
IsTextOf (Ok reply) text = (text ≡ reply_text reply) ⊎ (text ≡ fault_text debug.Memory)
IsTextOf (Err f) text = text ≡ fault_text f

-- the text of an answer
abbrev pub text_of : Answer → List ℕ
text_of (answer.Fixed text) = text.now
text_of (answer.Rendered text) = string_bytes text

-- a command, the text that it is answered by, and the state that it leads to
abbrev pub AnswersCommand : SessionState → Option Command → List ℕ → SessionState → Type 0
AnswersCommand before None text after = (text ≡ bad_command_text) × (after ≡ before)
AnswersCommand before (Some cmd) text after = (result : Result Reply DebugFault) × Gives before cmd result after × IsTextOf result text

-- a line of spaces alone, or of nothing
abbrev pub is_blank : List ℕ → Bool
is_blank line = list_all is_space line

-- the command that a line writes
abbrev pub command_in : List ℕ → Option Command
command_in line = command_of (words_of line)

-- a line, which may be blank, the text that it is answered by, and the state that it leads to
abbrev pub AnswersLine : Bool → SessionState → List ℕ → List ℕ → SessionState → Type 0
AnswersLine true before line text after = (text ≡ []) × (after ≡ before)
AnswersLine false before line text after = AnswersCommand before (command_in line) text after

-- A line, the text that it is answered by, and the state that it leads to. A blank line is answered by nothing.
abbrev pub Answers : SessionState → List ℕ → List ℕ → SessionState → Type 0
Answers before line text after = AnswersLine (is_blank line) before line text after

abbrev pub is_quit : Option Command → Bool
is_quit (Some command.Quit) = true
is_quit _ = false

-- the session ends after the line
abbrev pub ends_session : List ℕ → Bool
ends_session line = is_quit (command_in line)

-- ---- all lines

-- the lines of a text: what stands between its newlines, and after the last
unfoldable pub lines_of : List ℕ → List (List ℕ)
lines_of text = slice_split (λ byte. byte == 10) text

-- the lines that follow a newline, if there is one
abbrev pub lines_left : Option (Bor (List ℕ)) → List (List ℕ)
lines_left None = []
lines_left (Some text) = lines_of text.now

-- all that follows a line: nothing after one that ends the session
abbrev pub Continues : Bool → SessionState → SessionState → List ℕ → Type 0 → Type 0
Continues true next after rest more = (rest ≡ []) × (after ≡ next)
Continues false next after rest more = more

-- The lines up to the first that ends the session are answered by this text, one after the other, and lead to this state.
abbrev pub AnswersAll : SessionState → List (List ℕ) → List ℕ → SessionState → Type 0
AnswersAll before [] text after = (text ≡ []) × (after ≡ before)
AnswersAll before (line ∷ lines) text after =
    (first : List ℕ) × (rest : List ℕ) × (next : SessionState) × Answers before line first next × (text ≡ first ++ rest)
    × Continues (ends_session line) next after rest (AnswersAll next lines rest after)

-- the first of these lines are answered by this text, and lead to this state
abbrev pub AnswersSome : SessionState → List (List ℕ) → List ℕ → SessionState → Type 0
AnswersSome before lines text after =
    (some : List (List ℕ)) × (others : List (List ℕ)) × (lines ≡ some ++ others) × AnswersAll before some text after

-- ---- all that is printed

-- the sink took these bytes
abbrev pub Takes : SinkView → SinkView → List ℕ → Type 0
Takes before after bytes = Appends before.contents after.contents bytes × (after.failures ≡ before.failures)

-- the sink failed once, after a prefix of these bytes
abbrev pub TakesPrefix : SinkView → SinkView → List ℕ → Type 0
TakesPrefix before after bytes = AppendsPrefix before.contents after.contents bytes × CountsFailure before.failures after.failures

-- a line was answered, and says whether the session goes on; or the sink failed within its text
abbrev pub IsAnswered : List ℕ → Result Bool Fault → SessionState → SessionState → SinkView → SinkView → Type 0
IsAnswered line (Ok goes_on) before after sink sink' =
    (goes_on ≡ not (ends_session line)) × ((text : List ℕ) × Answers before line text after × Takes sink sink' text)
IsAnswered line (Err (fault.File file.Standard)) before after sink sink' =
    (text : List ℕ) × Answers before line text after × TakesPrefix sink sink' text
IsAnswered line (Err f) before after sink sink' = ⊥

-- all lines were answered, or the sink failed within the text that answers some of them
abbrev pub AreAnswered : List (List ℕ) → Result (Unit {0}) Fault → SessionState → SessionState → SinkView → SinkView → Type 0
AreAnswered lines (Ok done) before after sink sink' = (text : List ℕ) × AnswersAll before lines text after × Takes sink sink' text
AreAnswered lines (Err (fault.File file.Standard)) before after sink sink' =
    (text : List ℕ) × AnswersSome before lines text after × TakesPrefix sink sink' text
AreAnswered lines (Err f) before after sink sink' = ⊥

-- the line that says how many frames there are
abbrev pub frames_line : ℕ → List ℕ
frames_line n = codes "frames " ++ decimal n ++ codes "\n"

-- a session of these frames was begun, which the sink has a line of, or wasn't, since memory is out or the sink failed
abbrev pub IsBegun : List Packed → List Frame → Result SessionState Fault → SinkView → SinkView → Type 0
IsBegun p frames (Ok session) sink sink' = (session ≡ new_session p frames) × Takes sink sink' (frames_line (length frames))
IsBegun p frames (Err (fault.Debug debug.Memory)) sink sink' = sink' ≡ sink
IsBegun p frames (Err (fault.File file.Standard)) sink sink' = TakesPrefix sink sink' (frames_line (length frames))
IsBegun p frames (Err f) sink sink' = ⊥

-- ---- a whole session

-- the fault of commands that weren't read
abbrev pub commands_fault : TextRefusal → Fault
commands_fault refusals.Device = fault.File file.Standard
commands_fault refusals.TooLong = fault.File file.Standard
commands_fault refusals.NotUtf8 = fault.File file.Standard
commands_fault refusals.Memory = fault.Debug debug.Memory

-- the commands weren't read, for this fault
abbrev pub AreUnread : Fault → SourceView → SourceView → Type 0
AreUnread f before after =
    (refusal : TextRefusal) × (f ≡ commands_fault refusal)
    × IsTextRefusal before.remaining after.remaining before.failures after.failures refusal

-- the commands were read whole, and are this text
abbrev pub AreCommands : SourceView → SourceView → List ℕ → Type 0
AreCommands before after text = IsWholeText before.remaining after.remaining text × (after.failures ≡ before.failures)

-- The commands were read, and answered after the line that says how many frames there are.
pub record IsSession (p : List Packed) (frames : List Frame) (commands commands' : SourceView) (sink sink' : SinkView) : Type 0 where
  pub text : List ℕ
  pub printed : List ℕ
  pub last : SessionState
  pub read : AreCommands commands commands' text
  pub answers : AnswersAll (new_session p frames) (lines_of text) printed last
  pub taken : Takes sink sink' (frames_line (length frames) ++ printed)

-- The commands were read. The sink failed within the line that says how many frames there are and the text that answers some of them.
pub record StopsSession (p : List Packed) (frames : List Frame) (commands commands' : SourceView) (sink sink' : SinkView) : Type 0 where
  pub text : List ℕ
  pub printed : List ℕ
  pub last : SessionState
  pub read : AreCommands commands commands' text
  pub answers : AnswersSome (new_session p frames) (lines_of text) printed last
  pub taken : TakesPrefix sink sink' (frames_line (length frames) ++ printed)

-- the outcome of a session over commands, and what it leaves
abbrev pub IsSessionRun : List Packed → List Frame → Result (Unit {0}) Fault → SourceView → SourceView → SinkView → SinkView → Type 0
IsSessionRun p frames (Ok done) commands commands' sink sink' = IsSession p frames commands commands' sink sink'
IsSessionRun p frames (Err (fault.File file.Standard)) commands commands' sink sink' =
    (AreUnread (fault.File file.Standard) commands commands' × (sink' ≡ sink)) ⊎ StopsSession p frames commands commands' sink sink'
IsSessionRun p frames (Err (fault.Debug debug.Memory)) commands commands' sink sink' =
    (AreUnread (fault.Debug debug.Memory) commands commands' ⊎ ((text : List ℕ) × AreCommands commands commands' text)) × (sink' ≡ sink)
IsSessionRun p frames (Err f) commands commands' sink sink' = ⊥
