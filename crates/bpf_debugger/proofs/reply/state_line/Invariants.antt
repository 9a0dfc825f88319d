use Rattle.std.proofs.Common.{◌≡◌, ◌++◌, take}
use Rattle.std.specs.List.{flat_map}
use Rattle.std.specs.String.{string_bytes}
use Rattle.bpf_debugger.specs.Texts.{slot_text}
use Rattle.bpf_debugger.proofs.reply.state_line.Given as goal

abbrev pub invariant-loop-slot : goal.invariant-loop-slot
invariant-loop-slot l = string_bytes l.text ≡ string_bytes l.initial.text ++ flat_map slot_text (take l.slot-index l.scratch)
