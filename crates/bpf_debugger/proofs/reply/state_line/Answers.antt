use Rattle.std.proofs.Common.{◌≡◌, ◌++◌, take, append_assoc, arith}
use Rattle.std.specs.Prelude.{string_bytes}
use Rattle.std.specs.List.{flat_map}
use Rattle.std.proofs.lemmas.List.{take_all}
use Rattle.bpf_debugger.specs.Texts.{slot_text}
use Rattle.bpf_debugger.proofs.reply.state_line.Goals as goal

pub returns : goal.returns
returns c =
    let scratch = c.args.state.now.scratch in
    let whole : take c.loop-slot.slot-index scratch ≡ scratch = take_all c.loop-slot.slot-index scratch (omega (arith, c.loop-slot-test.false, c.fits-state)) in
    let slots : string_bytes c.loop-slot.text ≡ string_bytes c.in_ok-text.text ++ flat_map slot_text scratch = rw whole at c.loop-slot.invariant in
    rw (c.in_ok-push_str.ensures.bytes, slots, c.in_ok-text.ensures.ok) (simp append_assoc)
