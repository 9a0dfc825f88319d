use Rattle.std.proofs.Common.{◌≡◌, ◌≢◌, ℕ, ◌+◌, ◌≤◌, List, slice_range, Ok, refl, sym, ap, ◌∙◌, rules, arith}
use Rattle.pcapng.proofs.Converting.{given_packet, passes_packet, takes_packet}
use Rattle.pcapng.proofs.Handed.{drop_slice}
use Rattle.pcapng.specs.Block.{fields_of, packet_fault, unless}
use Rattle.pcapng.specs.File.{packet_read}
use Rattle.pcapng.specs.Section.{Known, known_of, noted, role_of}
use Rattle.pcapng.specs.declared.section.Role.{Role}
use Rattle.pcapng.specs.declared.block.PacketFields.{PacketFields}
use Rattle.pcapng.specs.declared.section.Role.TheVariants as roles
use Rattle.pcapng.proofs.converter.Converter.packet.Goals as goal
use Rattle.pcapng.proofs.converter.Converter.packet.Goals.{then-eq+in_ok-stamp+else-fields-gt-MAX_SNAPLEN+in_ok-check_end, else-eq+in_ok-check_end-2+then-eq-2, else-eq+in_ok-check_end-2+else-eq-2}

pub returns-clause-value : goal.returns-clause-value
returns-clause-value c =
    let v = c.args.self.now in
    let len = c.args.begun.now.len in
    let o = c.args.begun.now.order in
    let k : Known = known_of v.section in
    let bytes : List ℕ = slice_range v.block.items v.start (v.start + len) in
    let f : PacketFields = c.read-fields.result in
    let fields : fields_of o c.args.begun.now.kind bytes ≡ f =
    sym (c.read-fields.ensures ∙ ap (λ (b : List ℕ). fields_of o c.args.begun.now.kind (slice_range b v.start (v.start + len))) c.deref.ensures.value) in
    let sound_as = λ (b : List ℕ). unless (packet_fault o f.captured_len (slice_range b v.start (v.start + len))) in
    ap (λ (g : PacketFields). packet_read k o g bytes) fields
    ∙ elim c.if-eq.branch [
      | then-eq+in_ok-stamp+else-fields-gt-MAX_SNAPLEN+in_ok-check_end w ↦
          let taken : c.in_ok-role.role ≡ roles.Taken = search rules in
          let role : Ok roles.Taken ≡ role_of k f.interface = ap (λ (r : Role). Ok r) (sym taken) ∙ c.in_ok-role.ensures.value in
          let sound : Ok tt ≡ unless (packet_fault o f.captured_len bytes) = w.in_ok-check_end.ensures.value ∙ ap sound_as c.deref.ensures.value in
          let within : 28 + f.captured_len ≤ len = search rules in
          let now : known_of c.note_packet.new.self ≡ noted f.interface roles.Taken k = (rw w.self-is at c.note_packet.ensures) ∙ ap (λ (r : Role). noted f.interface r k) taken in
          rw w.self-is
          (takes_packet k (known_of c.note_packet.new.self) o f bytes _ w.in_ok-stamp.stamp role w.in_ok-stamp.ensures.value (omega arith) sound
          (given_packet v.block.items w.packet_header-self.result f v.start len w.in_ok-stamp.stamp _ _ within w.packet_header-self.ensures (omega arith) (omega arith)) now)
      | else-eq+in_ok-check_end-2+then-eq-2 w ↦
          let other : c.in_ok-role.role ≢ roles.Taken = search rules in
          let sound : Ok tt ≡ unless (packet_fault o f.captured_len bytes) = w.in_ok-check_end-2.ensures.value ∙ ap sound_as c.deref.ensures.value in
          let now : known_of c.note_packet.new.self ≡ noted f.interface c.in_ok-role.role k = rw w.self-is at c.note_packet.ensures in
          rw w.self-is
          (passes_packet k (known_of c.note_packet.new.self) o f bytes _ c.in_ok-role.role other c.in_ok-role.ensures.value sound c.requires.given now)
      | else-eq+in_ok-check_end-2+else-eq-2 w ↦
          let other : c.in_ok-role.role ≢ roles.Taken = search rules in
          let sound : Ok tt ≡ unless (packet_fault o f.captured_len bytes) = w.in_ok-check_end-2.ensures.value ∙ ap sound_as c.deref.ensures.value in
          let now : known_of c.note_packet.new.self ≡ noted f.interface c.in_ok-role.role k = rw w.self-is at c.note_packet.ensures in
          rw w.self-is
          (passes_packet k (known_of c.note_packet.new.self) o f bytes _ c.in_ok-role.role other c.in_ok-role.ensures.value sound c.requires.given now)
    ]

pub returns-clause-passed : goal.returns-clause-passed
returns-clause-passed c = elim c.if-eq.branch [
  | then-eq+in_ok-stamp+else-fields-gt-MAX_SNAPLEN+in_ok-check_end w ↦ rw w.self-is ((refl, sym (drop_slice c.args.begun.now.len c.args.self.now.start c.args.self.now.end c.args.self.now.block.items c.requires.whole (search rules))))
  | else-eq+in_ok-check_end-2+then-eq-2 w ↦ rw w.self-is ((refl, sym (drop_slice c.args.begun.now.len c.args.self.now.start c.args.self.now.end c.args.self.now.block.items c.requires.whole (search rules))))
  | else-eq+in_ok-check_end-2+else-eq-2 w ↦ rw w.self-is ((refl, sym (drop_slice c.args.begun.now.len c.args.self.now.start c.args.self.now.end c.args.self.now.block.items c.requires.whole (search rules))))
]
