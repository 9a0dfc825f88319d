use Rattle.std.proofs.Common.{◌≡◌, Some, get_or, refl, sym, ap, ◌∙◌}
use Rattle.std.specs.Prelude.{slice_get, List}
use Rattle.std.proofs.lemmas.Option.{slice_get-get_or}
use Rattle.bpf_isa.specs.declared.packed.Packed.{Packed}
use Rattle.bpf_debugger.specs.Records.{slot_of}
use Rattle.bpf_debugger.proofs.Stores.{canonical_in, stored_in_range}
use Rattle.bpf_debugger.proofs.Reverting.{step_reverts}
use Rattle.bpf_debugger.proofs.record.Undo.of.Goals as goal

abbrev none : Packed
none = record { code = 0; jt = 0; jf = 0; k = 0 }

pub slot_of-slot-requires-clause-canonical : goal.slot_of-slot-requires-clause-canonical
slot_of-slot-requires-clause-canonical c =
    canonical_in c.insns.result.now c.args.state.now.place (get_or c.insns.result.now c.args.state.now.place none) (rw c.insns.ensures.value c.insns.ensures.loaded) (slice_get-get_or c.insns.result.now c.args.state.now.place none (rw c.insns.ensures.value c.requires))

pub slot_of-slot-requires-clause-in_range : goal.slot_of-slot-requires-clause-in_range
slot_of-slot-requires-clause-in_range c =
    stored_in_range c.insns.result.now c.args.state.now.place (get_or c.insns.result.now c.args.state.now.place none) (rw c.insns.ensures.value c.insns.ensures.loaded) (slice_get-get_or c.insns.result.now c.args.state.now.place none (rw c.insns.ensures.value c.requires))

pub returns-clause-record : goal.returns-clause-record
returns-clause-record c =
    let s = c.args.state.now in
    let p = c.args.program.now in
    let there : slice_get p s.place ≡ Some (get_or p s.place none) = slice_get-get_or p s.place none c.requires in
    let e : c.slot_of-slot.result ≡ slot_of s (slice_get p s.place) = c.slot_of-slot.ensures.slot ∙ ap (λ (ws : List Packed). slot_of s (Some (get_or ws s.place none))) c.insns.ensures.value ∙ ap (slot_of s) (sym there) in
    rw e refl

pub returns-clause-reverses : goal.returns-clause-reverses
returns-clause-reverses c = λ frame whole next e.
    let s = c.args.state.now in
    let p = c.args.program.now in
    let there : slice_get p s.place ≡ Some (get_or p s.place none) = slice_get-get_or p s.place none c.requires in
    let slot : c.slot_of-slot.result ≡ slot_of s (slice_get p s.place) = c.slot_of-slot.ensures.slot ∙ ap (λ (ws : List Packed). slot_of s (Some (get_or ws s.place none))) c.insns.ensures.value ∙ ap (slot_of s) (sym there) in
    rw slot (step_reverts p s next frame whole e)
