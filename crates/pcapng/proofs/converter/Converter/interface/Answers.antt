use Rattle.std.proofs.Common.{◌≡◌, ℕ, ◌+◌, List, length, slice_range, vec_len, Ok, Err, refl, sym, ap, ◌∙◌, arith}
use Rattle.std.proofs.lemmas.List.{length-map}
use Rattle.std.proofs.lemmas.Result.{err_from_is_err_and}
use Rattle.pcapng.proofs.Converting.{reads_interface}
use Rattle.pcapng.specs.Block.{interface_fault, unless}
use Rattle.pcapng.specs.File.{passed}
use Rattle.pcapng.specs.Interface.{described_of, interface_of}
use Rattle.pcapng.specs.Section.{Known, known_of, next_number}
use Rattle.pcapng.proofs.converter.Converter.interface.Goals as goal

pub returns-in_err-interface-clause-value : goal.returns-in_err-interface-clause-value
returns-in_err-interface-clause-value c =
    let v = c.args.self.now in
    let len = c.args.begun.now.len in
    let o = c.args.begun.now.order in
    let k : Known = known_of v.section in
    let bytes : List ℕ = slice_range v.block.items v.start (v.start + len) in
    let p = err_from_is_err_and c.from_residual-in_err-interface.result c.from_residual-in_err-interface.ensures.1 in
    let failed : c.from_residual-in_err-interface.result ≡ Err c.in_err-interface.field-0.0 = rw (p.1, p.2) refl in
    let items : vec_len v.section.interfaces ≡ length v.section.interfaces.items = omega arith in
    let count : vec_len v.section.interfaces ≡ length k.interfaces = items ∙ sym (length-map v.section.interfaces.items described_of) in
    let number : Ok c.in_ok-number.number ≡ next_number (length k.interfaces) = c.in_ok-number.ensures ∙ ap next_number count in
    let says : interface_of o c.in_ok-number.number bytes ≡ Err c.in_err-interface.field-0.0 =
    ap (λ (b : List ℕ). interface_of o c.in_ok-number.number (slice_range b v.start (v.start + len))) (sym c.deref.ensures.value) ∙ c.in_err-interface.ensures.value in
    reads_interface k o bytes c.in_ok-number.number _ (unless (interface_fault o bytes)) number says refl ∙ ap (passed k) (sym failed)

pub returns-in_err-check_interface_end-clause-value : goal.returns-in_err-check_interface_end-clause-value
returns-in_err-check_interface_end-clause-value c =
    let v = c.args.self.now in
    let len = c.args.begun.now.len in
    let o = c.args.begun.now.order in
    let k : Known = known_of v.section in
    let bytes : List ℕ = slice_range v.block.items v.start (v.start + len) in
    let p = err_from_is_err_and c.from_residual-in_err-check_interface_end.result c.from_residual-in_err-check_interface_end.ensures.1 in
    let failed : c.from_residual-in_err-check_interface_end.result ≡ Err c.in_err-check_interface_end.field-0.0 = rw (p.1, p.2) refl in
    let items : vec_len v.section.interfaces ≡ length v.section.interfaces.items = omega arith in
    let count : vec_len v.section.interfaces ≡ length k.interfaces = items ∙ sym (length-map v.section.interfaces.items described_of) in
    let number : Ok c.in_ok-number.number ≡ next_number (length k.interfaces) = c.in_ok-number.ensures ∙ ap next_number count in
    let says : interface_of o c.in_ok-number.number bytes ≡ Ok (described_of c.in_ok-interface.interface) =
    ap (λ (b : List ℕ). interface_of o c.in_ok-number.number (slice_range b v.start (v.start + len))) (sym c.deref.ensures.value) ∙ c.in_ok-interface.ensures.value in
    let ends : Err c.in_err-check_interface_end.field-0.0 ≡ unless (interface_fault o bytes) =
    c.in_err-check_interface_end.ensures ∙ ap (λ (b : List ℕ). unless (interface_fault o (slice_range b v.start (v.start + len)))) c.deref.ensures.value in
    reads_interface k o bytes c.in_ok-number.number _ _ number says ends ∙ ap (passed k) (sym failed)

pub returns-clause-value : goal.returns-clause-value
returns-clause-value c =
    let v = c.args.self.now in
    let len = c.args.begun.now.len in
    let o = c.args.begun.now.order in
    let k : Known = known_of v.section in
    let bytes : List ℕ = slice_range v.block.items v.start (v.start + len) in
    let items : vec_len v.section.interfaces ≡ length v.section.interfaces.items = omega arith in
    let count : vec_len v.section.interfaces ≡ length k.interfaces = items ∙ sym (length-map v.section.interfaces.items described_of) in
    let number : Ok c.in_ok-number.number ≡ next_number (length k.interfaces) = c.in_ok-number.ensures ∙ ap next_number count in
    let says : interface_of o c.in_ok-number.number bytes ≡ Ok (described_of c.in_ok-interface.interface) =
    ap (λ (b : List ℕ). interface_of o c.in_ok-number.number (slice_range b v.start (v.start + len))) (sym c.deref.ensures.value) ∙ c.in_ok-interface.ensures.value in
    let ends : Ok c.in_ok-check_interface_end.field-0 ≡ unless (interface_fault o bytes) =
    c.in_ok-check_interface_end.ensures ∙ ap (λ (b : List ℕ). unless (interface_fault o (slice_range b v.start (v.start + len)))) c.deref.ensures.value in
    reads_interface k o bytes c.in_ok-number.number _ _ number says ends ∙ ap (λ (m : Known). passed m (Ok tt)) (sym c.add.ensures)
