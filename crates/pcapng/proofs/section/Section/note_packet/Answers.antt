use Rattle.std.proofs.Common.{◌≡◌, List, map, set, true, inl, inr, sym, ap, ◌∙◌}
use Rattle.std.proofs.Math.Seq.{map-set_same}
use Rattle.pcapng.specs.Interface.{Described, described_of}
use Rattle.pcapng.specs.Section.{Known, known_of, noted, with_taken}
use Rattle.pcapng.specs.declared.section.Role.{Role}
use Rattle.pcapng.proofs.section.Section.note_packet.Goals as goal

pub returns-in-Taken : goal.returns-in-Taken
returns-in-Taken c =
    let k : Known = known_of c.args.self.now in
    let y = record c.index_mut.result.now { has_packets = true } in
    let same : map described_of (set c.args.self.now.interfaces.items c.args.number y) ≡ k.interfaces =
    map-set_same described_of c.args.self.now.interfaces.items c.args.number y c.index_mut.result.now (ap described_of c.index_mut.ensures.value) in
    ap (λ (l : List Described). with_taken c.args.number (record k { interfaces = l })) same
    ∙ ap (λ (r : Role). noted c.args.number r k) (sym c.in-Taken.is)

pub returns-in-Counted : goal.returns-in-Counted
returns-in-Counted c =
    let k : Known = known_of c.args.self.now in
    let y = record c.index_mut.result.now { has_packets = true } in
    let same : map described_of (set c.args.self.now.interfaces.items c.args.number y) ≡ k.interfaces =
    map-set_same described_of c.args.self.now.interfaces.items c.args.number y c.index_mut.result.now (ap described_of c.index_mut.ensures.value) in
    let first : record k { interfaces = map described_of (set c.args.self.now.interfaces.items c.args.number y) } ≡ k =
    ap (λ (l : List Described). record k { interfaces = l }) same in
    elim c.in-Counted.is [
      | inl counted ↦ first ∙ ap (λ (r : Role). noted c.args.number r k) (sym counted)
      | inr skipped ↦ first ∙ ap (λ (r : Role). noted c.args.number r k) (sym skipped)
    ]
