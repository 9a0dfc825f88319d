use Rattle.std.proofs.Common.{◌≡◌, [], ℕ, List, Ok, Err, refl, sym, ap, ◌∙◌, rules}
use Rattle.std.proofs.lemmas.Result.{err_from_is_err_and}
use Rattle.pcapng.proofs.Converting.{reads_description, reads_packet, reads_section, reads_simple, unread_behind}
use Rattle.pcapng.specs.File.{read_with}
use Rattle.pcapng.specs.Handed.{block_of, pending_of}
use Rattle.pcapng.specs.Section.{Known, known_of}
use Rattle.pcapng.proofs.converter.Converter.whole_block.Goals as goal
use Rattle.pcapng.proofs.converter.Converter.whole_block.Goals.{in-Section+in_ok-later_section-in-Section, in-Interface+in_ok-interface-in-Interface, in-Other}

pub returns-in-Packet-clause-value : goal.returns-in-Packet-clause-value
returns-in-Packet-clause-value c =
    reads_packet (known_of c.args.self.now.section) c.args.begun.now (block_of c.args.self.now c.args.begun.now.len) c.in-Packet.is ∙ c.packet.ensures.value

pub returns-in-SimplePacket-clause-value : goal.returns-in-SimplePacket-clause-value
returns-in-SimplePacket-clause-value c =
    reads_simple (known_of c.args.self.now.section) c.args.begun.now (block_of c.args.self.now c.args.begun.now.len) c.in-SimplePacket.is

pub returns-in_err-later_section-in-Section-clause-value : goal.returns-in_err-later_section-in-Section-clause-value
returns-in_err-later_section-in-Section-clause-value c =
    let p = err_from_is_err_and c.from_residual.result c.from_residual.ensures.1 in
    let failed : c.from_residual.result ≡ Err c.in_err-later_section-in-Section.field-0.0 = rw (p.1, p.2) refl in
    let b = c.later_section.new.self in
    reads_section (known_of c.args.self.now.section) c.args.begun.now (block_of c.args.self.now c.args.begun.now.len) c.in-Section.is
    ∙ (c.in_err-later_section-in-Section.ensures.value ∙ ap (read_with (pending_of b) (known_of b.section)) (sym failed))

pub returns-in_err-interface-in-Interface-clause-value : goal.returns-in_err-interface-in-Interface-clause-value
returns-in_err-interface-in-Interface-clause-value c =
    let p = err_from_is_err_and c.from_residual-in_err-interface-in-Interface.result c.from_residual-in_err-interface-in-Interface.ensures.1 in
    let failed : c.from_residual-in_err-interface-in-Interface.result ≡ Err c.in_err-interface-in-Interface.field-0.0 = rw (p.1, p.2) refl in
    let b = c.interface.new.self in
    reads_description (known_of c.args.self.now.section) c.args.begun.now (block_of c.args.self.now c.args.begun.now.len) c.in-Interface.is
    ∙ (c.in_err-interface-in-Interface.ensures.value ∙ ap (read_with (pending_of b) (known_of b.section)) (sym failed))

pub returns-clause-value : goal.returns-clause-value
returns-clause-value c =
    let v = c.args.self.now in
    let k : Known = known_of v.section in
    let bytes : List ℕ = block_of v c.args.begun.now.len in
    elim c.match-begun.branch [
      | in-Section+in_ok-later_section-in-Section w ↦
          let b = w.later_section.new.self in
          let none : pending_of b ≡ [] = w.later_section.ensures.kept.4 ∙ c.requires.given in
          rw w.self-is
          (reads_section k c.args.begun.now bytes w.in-Section.is
          ∙ (w.in_ok-later_section-in-Section.ensures.value ∙ ap (λ (l : List ℕ). Ok (record { given = l; known = known_of b.section })) (sym none)))
      | in-Interface+in_ok-interface-in-Interface w ↦
          let b = w.interface.new.self in
          let none : pending_of b ≡ [] = w.interface.ensures.kept.4 ∙ c.requires.given in
          rw w.self-is
          (reads_description k c.args.begun.now bytes w.in-Interface.is
          ∙ (w.in_ok-interface-in-Interface.ensures.value ∙ ap (λ (l : List ℕ). Ok (record { given = l; known = known_of b.section })) (sym none)))
      | in-Other w ↦ absurd (c.requires.read w.in-Other.is)
    ]

pub returns-clause-passed : goal.returns-clause-passed
returns-clause-passed c =
    let v = c.args.self.now in
    elim c.match-begun.branch [
      | in-Section+in_ok-later_section-in-Section w ↦
          rw w.self-is ((w.later_section.ensures.kept.0, unread_behind v w.later_section.new.self c.args.begun.now.len w.later_section.ensures.kept c.requires.whole (search rules)))
      | in-Interface+in_ok-interface-in-Interface w ↦
          rw w.self-is ((w.interface.ensures.kept.0, unread_behind v w.interface.new.self c.args.begun.now.len w.interface.ensures.kept c.requires.whole (search rules)))
      | in-Other w ↦ absurd (c.requires.read w.in-Other.is)
    ]
