-- How blocks are stepped over, and what a packet's reads back as.
use Rattle.std.proofs.Common.{◌≡◌, ℕ, suc, ◌+◌, ◌-◌, ◌%◌, ◌<◌, ◌≤◌, ◌^◌, List, [], ◌∷◌, ◌++◌, length, take, drop, Option, Some, None, IfSome, lit<, refl, sym, ap, ◌∙◌, subst, arith, append_assoc, length-append}
use Rattle.std.proofs.lemmas.List.{drop_at, drop-drop, length-take-le}
use Rattle.std.specs.List.{flat_map}
use Rattle.byteorder.specs.Endian.{little_bytes, little_number}
use Rattle.byteorder.specs.Numbers.{little_number-reads_back}
use Rattle.pcapng.specs.Blocks.{Written, block_bytes, capture_bytes, descriptions_of, end_of_options, interface_description, name_option, option_bytes, packet_block, packet_body, packet_options, padded, padding_len, section_header, written_block}
use Rattle.pcapng.specs.Stepping.{AreBlocks, AreWritable, BeginsWithBlock, IsWritable, count_of}
use Rattle.pcapng.specs.declared.comment.TheConstants.{MAX_COMMENT_LEN}
use Rattle.pcapng.specs.declared.interfaces.Interfaces.{Interfaces}
use Rattle.pcapng.specs.declared.interfaces.Interfaces.TheVariants.{One, Networks}

-- ---- padding

pub length-padded : (bytes : List ℕ) → length (padded bytes) ≡ length bytes + padding_len (length bytes)
length-padded bytes =
    let zeros : List ℕ = 0 ∷ 0 ∷ 0 ∷ [] in
    length-append bytes (take (padding_len (length bytes)) zeros)
    ∙ ap (λ (n : ℕ). length bytes + n) (length-take-le (padding_len (length bytes)) zeros (omega arith))

pub padded-aligned : (bytes : List ℕ) → length (padded bytes) % 4 ≡ 0
padded-aligned bytes = omega (arith, length-padded bytes)

-- ---- blocks

tail_is : (kind len : ℕ) (body more : List ℕ)
    → drop (8 + length body) ((little_bytes 4 kind ++ (little_bytes 4 len ++ (body ++ little_bytes 4 len))) ++ more) ≡ little_bytes 4 len ++ more
tail_is kind len body more =
    sym (drop-drop (length body) 8 ((little_bytes 4 kind ++ (little_bytes 4 len ++ (body ++ little_bytes 4 len))) ++ more))
    ∙ ap (drop (length body)) (append_assoc body (little_bytes 4 len) more)
    ∙ drop_at body (little_bytes 4 len ++ more) (length body) refl

pub block_len : (kind : ℕ) (body : List ℕ) → length (block_bytes kind body) ≡ 12 + length body
block_len kind body = omega (arith, length-append body (little_bytes 4 (12 + length body)))

pub begins : (kind : ℕ) (body more : List ℕ) → length body % 4 ≡ 0 → 12 + length body < 2 ^ 32
    → BeginsWithBlock (block_bytes kind body ++ more) (12 + length body)
begins kind body more aligned fits =
    let len : ℕ = 12 + length body in
    let place : len - 4 ≡ 8 + length body = omega arith in
    record {
      smallest = omega arith;
      whole = omega (arith, block_len kind body, length-append (block_bytes kind body) more);
      aligned = omega (arith, aligned);
      first = ap (little_number 4) (append_assoc (little_bytes 4 len) (body ++ little_bytes 4 len) more)
          ∙ little_number-reads_back 4 len ((body ++ little_bytes 4 len) ++ more) fits;
      again = ap (λ (n : ℕ). little_number 4 (drop n (block_bytes kind body ++ more))) place
          ∙ ap (little_number 4) (tail_is kind len body more) ∙ little_number-reads_back 4 len more fits;
    }

pub passed : (kind : ℕ) (body more : List ℕ) → drop (12 + length body) (block_bytes kind body ++ more) ≡ more
passed kind body more = drop_at (block_bytes kind body) more (12 + length body) (block_len kind body)

-- as many blocks as there are, before those that follow
pub more_blocks : (kind n : ℕ) (body more : List ℕ) → length body % 4 ≡ 0 → 12 + length body < 2 ^ 32 → AreBlocks n more
    → AreBlocks (suc n) (block_bytes kind body ++ more)
more_blocks kind n body more aligned fits rest =
    (12 + length body, begins kind body more aligned fits, subst (λ (b : List ℕ). AreBlocks n b) (sym (passed kind body more)) rest)

-- ---- packets

pub kept_len : (p : Written) → IsWritable p → length (take p.keep p.frame.bytes) ≡ p.keep
kept_len p can = length-take-le p.keep p.frame.bytes can.within

options_len : (comment : Option (List ℕ)) → IfSome comment (λ text. length text ≤ MAX_COMMENT_LEN)
    → (length (packet_options comment) % 4 ≡ 0) × (length (packet_options comment) ≤ 65546)
options_len None short = (refl, omega arith)
options_len (Some text) short =
    let size : length (packet_options (Some text)) ≡ 8 + length (padded text) = omega (arith, length-append (option_bytes 1 text) end_of_options) in
    (omega (arith, size, padded-aligned text), omega (arith, size, length-padded text))

body_len : (interfaces : Interfaces) (p : Written) → length (packet_body interfaces p.frame p.keep p.comment)
    ≡ 20 + (length (padded (take p.keep p.frame.bytes)) + length (packet_options p.comment))
body_len interfaces p = omega (arith, length-append (padded (take p.keep p.frame.bytes)) (packet_options p.comment))

body_aligned : (interfaces : Interfaces) (p : Written) → IsWritable p → length (packet_body interfaces p.frame p.keep p.comment) % 4 ≡ 0
body_aligned interfaces p can =
    omega (arith, body_len interfaces p, padded-aligned (take p.keep p.frame.bytes), (options_len p.comment can.short).0)

body_fits : (interfaces : Interfaces) (p : Written) → IsWritable p → 12 + length (packet_body interfaces p.frame p.keep p.comment) < 2 ^ 32
body_fits interfaces p can =
    omega (arith, body_len interfaces p, length-padded (take p.keep p.frame.bytes), kept_len p can, can.fits.few_bytes, (options_len p.comment can.short).1)

pub packets_are_blocks : (interfaces : Interfaces) (packets : List Written) → AreWritable packets
    → AreBlocks (length packets) (flat_map (written_block interfaces) packets)
unfolding packet_block
packets_are_blocks interfaces [] can = refl
packets_are_blocks interfaces (p ∷ ps) can =
    more_blocks 6 (length ps) (packet_body interfaces p.frame p.keep p.comment) (flat_map (written_block interfaces) ps)
    (body_aligned interfaces p can.0) (body_fits interfaces p can.0) (packets_are_blocks interfaces ps can.1)

-- ---- the head

abbrev section_body : List ℕ
section_body = little_bytes 4 0x1a2b3c4d ++ (little_bytes 2 1 ++ (little_bytes 2 0 ++ little_bytes 8 (2 ^ 64 - 1)))

abbrev interface_body : Option (List ℕ) → List ℕ
interface_body name = little_bytes 2 1 ++ (little_bytes 2 0 ++ (little_bytes 4 262144 ++ (name_option name ++ (option_bytes 9 (9 ∷ []) ++ end_of_options))))

one_interface : (name : Option (List ℕ)) (n : ℕ) (more : List ℕ) → length (interface_body name) % 4 ≡ 0 → 12 + length (interface_body name) < 2 ^ 32
    → AreBlocks n more → AreBlocks (suc n) (interface_description name ++ more)
one_interface name n more aligned fits rest = more_blocks 1 n (interface_body name) more aligned fits rest

described : (interfaces : Interfaces) (n : ℕ) (more : List ℕ) → AreBlocks n more → AreBlocks (count_of interfaces + n) (descriptions_of interfaces ++ more)
unfolding descriptions_of
described One n more rest =
    let count : suc n ≡ 1 + n = omega arith in
    subst (λ (k : ℕ). AreBlocks k (interface_description None ++ more)) count (one_interface None n more refl (lit< tt) rest)
described Networks n more rest =
    let a : List ℕ = interface_description (Some (65 ∷ [])) in
    let b : List ℕ = interface_description (Some (66 ∷ [])) in
    let second = one_interface (Some (66 ∷ [])) n more refl (lit< tt) rest in
    let both : AreBlocks (suc (suc n)) (a ++ (b ++ more)) = one_interface (Some (65 ∷ [])) (suc n) (b ++ more) refl (lit< tt) second in
    let count : suc (suc n) ≡ 2 + n = omega arith in
    subst (λ (k : ℕ). AreBlocks k ((a ++ b) ++ more)) count (subst (λ (x : List ℕ). AreBlocks (suc (suc n)) x) (sym (append_assoc a b more)) both)

pub whole_capture : (interfaces : Interfaces) (packets : List Written) → AreWritable packets
    → AreBlocks (1 + (count_of interfaces + length packets)) (capture_bytes interfaces packets)
unfolding section_header
whole_capture interfaces packets can =
    let more : List ℕ = flat_map (written_block interfaces) packets in
    let rest = described interfaces (length packets) more (packets_are_blocks interfaces packets can) in
    let all = more_blocks 0x0a0d0d0a (count_of interfaces + length packets) section_body (descriptions_of interfaces ++ more) refl (lit< tt) rest in
    let count : suc (count_of interfaces + length packets) ≡ 1 + (count_of interfaces + length packets) = omega arith in
    subst (λ (k : ℕ). AreBlocks k (capture_bytes interfaces packets)) count
    (subst (λ (x : List ℕ). AreBlocks (suc (count_of interfaces + length packets)) x) (sym (append_assoc section_header (descriptions_of interfaces) more)) all)
