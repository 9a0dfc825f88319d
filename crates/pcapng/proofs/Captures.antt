-- The pcap that is given for a written capture.
use Rattle.std.proofs.Common.{◌≡◌, ℕ, zero, suc, ◌+◌, ◌-◌, ◌*◌, ◌^◌, ◌<◌, ◌≤◌, Bool, true, false, if◌then◌else◌, ◌==◌, List, [], ◌∷◌, ◌++◌, length, take, drop, filter, flat_map, Option, Some, None, Ok, inl, inr, refl, sym, ap, ◌∙◌, arith, append_assoc}
use Rattle.std.proofs.lemmas.Bool.{cases_Bool}
use Rattle.std.proofs.lemmas.List.{drop_at}
use Rattle.afdx_frame.specs.declared.bounds.TheConstants.{MAX_SNAPLEN}
use Rattle.afdx_frame.specs.declared.key.Network.{Network}
use Rattle.afdx_frame.specs.declared.key.Network.TheVariants.{A, B}
use Rattle.pcap_io.specs.declared.layout.ByteOrder.{ByteOrder}
use Rattle.pcap_io.specs.declared.layout.ByteOrder.TheVariants.{Little}
use Rattle.pcap_io.specs.declared.recording.BadReason.{BadReason}
use Rattle.pcapng.proofs.Converting.{passes_packet, reads_packet, takes_packet}
use Rattle.pcapng.proofs.Files.{first-settled}
use Rattle.pcapng.proofs.Reading.{given_opened, reads_first}
use Rattle.pcapng.specs.Block.{start_of, unless}
use Rattle.pcapng.specs.File.{Read, blocks_of, blocks_within, first_of, given_at, packet_read, read_of}
use Rattle.pcapng.specs.File as file
use Rattle.pcapng.specs.Handed.{given_of}
use Rattle.pcapng.specs.Options.{options_of, options_within}
use Rattle.pcapng.specs.Section.{Known, in_section, role_of, stamp_of, unknown, with_taken}
use Rattle.pcap_io.specs.Capture.{capture_header}
use Rattle.pcapng.specs.Text.{packet_header_bytes}
use Rattle.pcapng.specs.declared.block.BlockKind.TheVariants as kinds
use Rattle.pcapng.specs.declared.block.FirstSection.TheVariants.{Begins}
use Rattle.pcapng.specs.declared.block.PacketFields.{PacketFields}
use Rattle.pcapng.specs.declared.choice.Choice.{Choice}
use Rattle.pcapng.specs.declared.choice.Choice.TheVariants.{Any, Number}
use Rattle.pcapng.specs.declared.section.Role.TheVariants as roles
use Rattle.pcapng.proofs.PacketBlocks.{fields, fields_alone, fields_for, plain, sound, stamps, start_for, starts, whole_len}
use Rattle.pcapng.specs.Captures.{given_packet, is_of}
use Rattle.pcapng.proofs.Stepping.{kept_len}
use Rattle.pcapng.specs.Blocks.{Written, capture_bytes, descriptions_of, interface_description, interface_of, section_header, written_block}
use Rattle.pcapng.specs.Stepping.{AreWritable, IsWritable}
use Rattle.pcapng.specs.declared.interfaces.Interfaces.{Interfaces}
use Rattle.pcapng.specs.declared.interfaces.Interfaces.TheVariants.{Networks, One}
use Rattle.pcapng.specs.Given.{Given, followed}
use Rattle.pcapng.specs.Given as given
use Rattle.pcap_io.specs.declared.told.Told.TheVariants.{Nothing}

-- ---- a packet

-- the bytes that are given are those that were kept
packet_is : (interfaces : Interfaces) (p : Written) → IsWritable p
    → given_packet p ≡ file.packet_bytes (fields_for interfaces p) (written_block interfaces p) p.frame.stamp
packet_is interfaces p can =
    let b = written_block interfaces p in
    let kept = take p.keep p.frame.bytes in
    let size : length kept ≡ p.keep = kept_len p can in
    let count : (28 + p.keep) - 28 ≡ p.keep = omega arith in
    let there : take ((28 + p.keep) - 28) (drop 28 b) ≡ kept =
    ap (λ (n : ℕ). take n (drop 28 b)) (count ∙ sym size) ∙ (fields_alone interfaces p can).bytes_are in
    ap (λ (l : List ℕ). packet_header_bytes p.frame.stamp p.keep p.frame.whole ++ l) (sym there)

reads_as : (interfaces : Interfaces) (p : Written) (k : Known) → IsWritable p
    → read_of k (start_for interfaces p) (written_block interfaces p) ≡ packet_read k Little (fields_for interfaces p) (written_block interfaces p)
reads_as interfaces p k can =
    let b = written_block interfaces p in
    reads_packet k (start_for interfaces p) b (inl refl) ∙ ap (λ (f : PacketFields). packet_read k Little f b) (fields interfaces p can)

takes : (interfaces : Interfaces) (p : Written) (k : Known) → IsWritable p → Ok roles.Taken ≡ role_of k (interface_of interfaces p.frame.network)
    → Ok p.frame.stamp ≡ stamp_of k (interface_of interfaces p.frame.network) p.frame.stamp
    → read_of k (start_for interfaces p) (written_block interfaces p)
    ≡ Ok (record { given = given_packet p; known = with_taken (interface_of interfaces p.frame.network) k })
takes interfaces p k can role stamp =
    let b = written_block interfaces p in
    let few : p.keep ≤ MAX_SNAPLEN = omega (arith, can.within, can.fits.few_bytes) in
    reads_as interfaces p k can
    ∙ takes_packet k (with_taken (interface_of interfaces p.frame.network) k) Little (fields_for interfaces p) b (given_packet p) p.frame.stamp role stamp few
    (ap (λ (f : Option BadReason). unless f) (sym (sound interfaces p can))) (packet_is interfaces p can) refl

skips : (interfaces : Interfaces) (p : Written) (k : Known) → IsWritable p → Ok roles.Skipped ≡ role_of k (interface_of interfaces p.frame.network)
    → read_of k (start_for interfaces p) (written_block interfaces p) ≡ Ok (record { given = []; known = k })
skips interfaces p k can role =
    let b = written_block interfaces p in
    reads_as interfaces p k can
    ∙ passes_packet k k Little (fields_for interfaces p) b [] roles.Skipped (λ same. cc) role
    (ap (λ (f : Option BadReason). unless f) (sym (sound interfaces p can))) refl refl

-- a packet's block, and those after it
first_is : (interfaces : Interfaces) (p : Written) (k : Known) (read : Read) (more : List ℕ) → IsWritable p → k.order ≡ Little
    → read_of k (start_for interfaces p) (written_block interfaces p) ≡ Ok read → given_at k (written_block interfaces p ++ more) ≡ followed read.given (given_at read.known more)
first_is interfaces p k read more can order is =
    let b = written_block interfaces p in
    let size = whole_len interfaces p in
    let begun : start_of k.order b ≡ Ok (start_for interfaces p) = ap (λ (o : ByteOrder). start_of o b) order ∙ starts interfaces p can in
    reads_first k b more (start_for interfaces p) read (omega (arith, size)) begun (sym size) is

-- ---- the packets of one interface

-- all that is given for packets
abbrev all_given : List Written → Given
all_given ps = record { bytes = flat_map given_packet ps; told = Nothing }

taken_of : Bool → Option ℕ
taken_of false = None
taken_of true = Some 0

known_one : Bool → Known
unfolding taken_of
known_one some = record { choice = Any; order = Little; interfaces = plain 0 None ∷ []; taken = taken_of some; before = None; named = None; described = true }

takes_one : (some : Bool) → Ok roles.Taken ≡ role_of (known_one some) 0
unfolding taken_of known_one
takes_one false = refl
takes_one true = refl

one_given : (some : Bool) (ps : List Written) → AreWritable ps → given_at (known_one some) (flat_map (written_block One) ps) ≡ all_given ps
unfolding taken_of known_one blocks_of blocks_within
one_given some [] can = refl
one_given some (p ∷ ps) can =
    let k = known_one some in
    first_is One p k (record { given = given_packet p; known = with_taken 0 k }) (flat_map (written_block One) ps) can.0 refl
    (takes One p k can.0 (takes_one some) (sym (stamps 0 p.frame.stamp None can.0.fits.stamp_fits)))
    ∙ ap (followed (given_packet p)) (one_given true ps can.1)

-- ---- the frames of a network

known_both : ℕ → Option ℕ → Known
known_both number taken = record {
  choice = Number number;
  order = Little;
  interfaces = plain 0 (Some (65 ∷ [])) ∷ plain 1 (Some (66 ∷ [])) ∷ [];
  taken = taken;
  before = None;
  named = None;
  described = true;
}

role_both : (number : ℕ) (taken : Option ℕ) (network : Network)
    → role_of (known_both number taken) (interface_of Networks network) ≡ (if interface_of Networks network == number then Ok roles.Taken else Ok roles.Skipped)
unfolding known_both
role_both number taken A = refl
role_both number taken B = refl

stamp_both : (number : ℕ) (taken : Option ℕ) (network : Network) (stamp : ℕ) → stamp < 1000000000 * 2 ^ 32
    → Ok stamp ≡ stamp_of (known_both number taken) (interface_of Networks network) stamp
unfolding known_both
stamp_both number taken A stamp fits = sym (stamps 0 stamp (Some (65 ∷ [])) fits)
stamp_both number taken B stamp fits = sym (stamps 1 stamp (Some (66 ∷ [])) fits)

both_given : (number : ℕ) (taken : Option ℕ) (ps : List Written) → AreWritable ps
    → given_at (known_both number taken) (flat_map (written_block Networks) ps) ≡ all_given (filter (is_of number) ps)
unfolding known_both blocks_of blocks_within
both_given number taken [] can = refl
both_given number taken (p ∷ ps) can =
    let k = known_both number taken in
    let more = flat_map (written_block Networks) ps in
    let i = interface_of Networks p.frame.network in
    elim (cases_Bool (is_of number p)) [
      | inl own ↦
          let role : role_of k i ≡ Ok roles.Taken = role_both number taken p.frame.network ∙ rw own refl in
          rw own
          (first_is Networks p k (record { given = given_packet p; known = with_taken i k }) more can.0 refl
          (takes Networks p k can.0 (sym role) (stamp_both number taken p.frame.network p.frame.stamp can.0.fits.stamp_fits))
          ∙ ap (followed (given_packet p)) (both_given number (Some i) ps can.1))
      | inr other ↦
          let role : role_of k i ≡ Ok roles.Skipped = role_both number taken p.frame.network ∙ rw other refl in
          rw other
          (first_is Networks p k (record { given = []; known = k }) more can.0 refl (skips Networks p k can.0 (sym role)) ∙ both_given number taken ps can.1)
    ]

-- ---- whole captures

-- after the section header
header_given : (choice : Choice) (more : List ℕ) → given_of choice (section_header ++ more) ≡ followed capture_header (given_at (in_section Little (unknown choice Little)) more)
unfolding section_header first_of start_of options_of options_within
header_given choice more =
    let first = first-settled section_header more (Begins Little 28) (omega arith) refl tt in
    given_opened choice (section_header ++ more) (Begins Little 28) (omega arith, refl) first
    ∙ ap (λ (b : List ℕ). followed capture_header (given_at (in_section Little (unknown choice Little)) b)) (drop_at section_header more 28 refl)

one_described : (more : List ℕ) → given_at (in_section Little (unknown Any Little)) (descriptions_of One ++ more) ≡ given_at (known_one false) more
unfolding taken_of known_one descriptions_of start_of read_of options_of options_within
one_described more =
    let bytes = interface_description None in
    reads_first (in_section Little (unknown Any Little)) bytes more (record { order = Little; kind = kinds.Interface; len = length bytes })
    (record { given = []; known = known_one false }) (omega arith) refl refl refl

first_described : ℕ → Bool → Known
first_described number described =
    record { choice = Number number; order = Little; interfaces = plain 0 (Some (65 ∷ [])) ∷ []; taken = None; before = None; named = None; described = described }

both_described : (number : ℕ) (more : List ℕ) → number < 2
    → given_at (in_section Little (unknown (Number number) Little)) (descriptions_of Networks ++ more) ≡ given_at (known_both number None) more
unfolding known_both first_described descriptions_of start_of read_of options_of options_within
both_described zero more few =
    let a = interface_description (Some (65 ∷ [])) in
    let b = interface_description (Some (66 ∷ [])) in
    ap (given_at (in_section Little (unknown (Number 0) Little))) (append_assoc a b more)
    ∙ (reads_first (in_section Little (unknown (Number 0) Little)) a (b ++ more) (record { order = Little; kind = kinds.Interface; len = length a })
    (record { given = []; known = first_described 0 true }) (omega arith) refl refl refl
    ∙ reads_first (first_described 0 true) b more (record { order = Little; kind = kinds.Interface; len = length b })
    (record { given = []; known = known_both 0 None }) (omega arith) refl refl refl)
both_described (suc zero) more few =
    let a = interface_description (Some (65 ∷ [])) in
    let b = interface_description (Some (66 ∷ [])) in
    ap (given_at (in_section Little (unknown (Number 1) Little))) (append_assoc a b more)
    ∙ (reads_first (in_section Little (unknown (Number 1) Little)) a (b ++ more) (record { order = Little; kind = kinds.Interface; len = length a })
    (record { given = []; known = first_described 1 false }) (omega arith) refl refl refl
    ∙ reads_first (first_described 1 false) b more (record { order = Little; kind = kinds.Interface; len = length b })
    (record { given = []; known = known_both 1 None }) (omega arith) refl refl refl)
both_described (suc (suc number)) more few = absurd (omega arith)

pub capture_given : (packets : List Written) → AreWritable packets
    → given_of Any (capture_bytes One packets) ≡ given.plain (capture_header ++ flat_map given_packet packets)
capture_given packets can =
    let blocks = flat_map (written_block One) packets in
    ap (given_of Any) (append_assoc section_header (descriptions_of One) blocks)
    ∙ (header_given Any (descriptions_of One ++ blocks)
    ∙ ap (followed capture_header) (one_described blocks ∙ one_given false packets can))

pub network_given : (number : ℕ) (packets : List Written) → number < 2 → AreWritable packets
    → given_of (Number number) (capture_bytes Networks packets) ≡ given.plain (capture_header ++ flat_map given_packet (filter (is_of number) packets))
network_given number packets few can =
    let blocks = flat_map (written_block Networks) packets in
    ap (given_of (Number number)) (append_assoc section_header (descriptions_of Networks) blocks)
    ∙ (header_given (Number number) (descriptions_of Networks ++ blocks)
    ∙ ap (followed capture_header) (both_described number blocks few ∙ both_given number None packets can))
