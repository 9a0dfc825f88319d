use Rattle.std.proofs.Common.{rules, arith, ◌∙◌, ap, sym, length, take, drop, ◌++◌, ◌+◌, ℕ, List, ◌≡◌, ◌≤◌}
use Rattle.std.proofs.lemmas.List.{drop_all}
use Rattle.pcap_io.proofs.Bytes.{bytes_of-consumed, bytes_of-end}
use Rattle.pcap_io.proofs.Transfers.{given, answered}
use Rattle.pcap_io.specs.Supply.{Supply}
use Rattle.pcap_io.proofs.mem_source.MemSourceTapSource.read.Goals as goal

pub returns-clause-bytes : goal.returns-clause-bytes
returns-clause-bytes c =
    let all = c.self.inside.bytes.items in
    let at = c.self.inside.at in
    let p = c.in_ok-passed.passed in
    let same = ap (λ (s : Supply). s.rest) (sym c.self.view_is) in
    let answer = answered c.self.inside.state c.min.result p (sym c.in_ok-passed.ensures.answer) in
    let copied : c.copy_from_slice.new.self ≡ take p (drop at all) =
    c.copy_from_slice.ensures.after ∙ (ap (λ (n : ℕ). take n (drop at c.deref.result.now)) (omega arith) ∙ ap (λ (l : List ℕ). take p (drop at l)) c.deref.ensures.value) in
    let within : at + p ≤ length all = search rules in
    (bytes_of-consumed _ (drop (at + p) all) (take p (c.copy_from_slice.new.self ++ drop p c.args.buf.now)) (same ∙ given all c.args.buf.now c.copy_from_slice.new.self at p copied within), λ none room. bytes_of-end (drop (at + p) all) (drop_all (at + p) all (omega (arith, answer.1 none, room))))
