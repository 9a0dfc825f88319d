-- The block of a written packet, and what it says to a reader.
use Rattle.std.proofs.Common.{◌≡◌, ℕ, ◌+◌, ◌-◌, ◌*◌, ◌/◌, ◌%◌, ◌^◌, ◌<◌, ◌≤◌, true, false, List, [], ◌++◌, length, take, drop, slice_range, nat_lt, nat_le, nat_eq, Option, Some, None, IfSome, Ok, refl, sym, ap, ◌∙◌, subst, arith, append_assoc, length-append}
use Rattle.std.proofs.lemmas.Bool.{eq-eqb, le-leb, le-ltb, lt-ltb}
use Rattle.std.proofs.lemmas.List.{append-nil, drop-drop, drop_at, take_at}
use Rattle.afdx_frame.specs.declared.bounds.TheConstants.{MAX_SNAPLEN}
use Rattle.byteorder.specs.Endian.{little_bytes}
use Rattle.byteorder.specs.Numbers.{little_number-reads_back}
use Rattle.pcap_io.specs.Layout.{number_in}
use Rattle.pcap_io.specs.declared.layout.ByteOrder.TheVariants.{Little}
use Rattle.pcapng.proofs.OptionFronts.{ends_there, more_there, none_left}
use Rattle.pcapng.specs.Block.{fields_of, is_length_of, kind_of, packet_fault, start_as, start_of, start_with}
use Rattle.pcapng.specs.Interface.{Described, in_range}
use Rattle.pcapng.specs.Options.{ended, fit, option_len, options_of, padded_len, value_len}
use Rattle.pcapng.specs.Section.{stamp_from, stamp_with}
use Rattle.pcapng.specs.declared.block.BlockKind.TheVariants as kinds
use Rattle.pcapng.specs.declared.block.BlockStart.{BlockStart}
use Rattle.pcapng.specs.declared.block.PacketFields.{PacketFields}
use Rattle.pcapng.specs.declared.block.TheConstants.{MAX_BLOCK_LEN}
use Rattle.pcapng.specs.declared.interface.Offset.TheVariants.{Later}
use Rattle.pcapng.specs.declared.interface.Resolution.TheVariants.{Decimal}
use Rattle.pcapng.proofs.WrittenReading.{fields_read_back}
use Rattle.pcapng.proofs.Stepping.{begins, block_len, kept_len, length-padded, padded-aligned}
use Rattle.pcapng.specs.Blocks.{Written, end_of_options, interface_of, option_bytes, packet_block, packet_body, packet_options, padded, padding_len, written_block}
use Rattle.pcapng.specs.Stepping.{BeginsWithBlock, BeginsWithPacket, IsWritable}
use Rattle.pcapng.specs.declared.comment.TheConstants.{MAX_COMMENT_LEN}
use Rattle.pcapng.specs.declared.interfaces.Interfaces.{Interfaces}

-- ---- sizes

abbrev pub body_of : Interfaces → Written → List ℕ
body_of interfaces p = packet_body interfaces p.frame p.keep p.comment

abbrev pub len_of : Interfaces → Written → ℕ
len_of interfaces p = 12 + length (body_of interfaces p)

options_len : (comment : Option (List ℕ)) → IfSome comment (λ text. length text ≤ MAX_COMMENT_LEN)
    → (length (packet_options comment) % 4 ≡ 0) × (length (packet_options comment) ≤ 65546)
options_len None short = (refl, omega arith)
options_len (Some text) short =
    let size : length (packet_options (Some text)) ≡ 8 + length (padded text) = omega (arith, length-append (option_bytes 1 text) end_of_options) in
    (omega (arith, size, padded-aligned text), omega (arith, size, length-padded text))

body_len : (interfaces : Interfaces) (p : Written) → length (body_of interfaces p) ≡ 20 + (length (padded (take p.keep p.frame.bytes)) + length (packet_options p.comment))
body_len interfaces p = omega (arith, length-append (padded (take p.keep p.frame.bytes)) (packet_options p.comment))

padded_size : (p : Written) → IsWritable p → length (padded (take p.keep p.frame.bytes)) ≡ padded_len p.keep
padded_size p can = length-padded (take p.keep p.frame.bytes) ∙ ap (λ (k : ℕ). k + padding_len k) (kept_len p can)

-- how long a block is
pub sizes : (interfaces : Interfaces) (p : Written) → IsWritable p
    → (length (body_of interfaces p) % 4 ≡ 0) × (len_of interfaces p ≡ (32 + padded_len p.keep) + length (packet_options p.comment)) × (len_of interfaces p ≤ MAX_BLOCK_LEN)
sizes interfaces p can =
    let size = body_len interfaces p in
    let data_size = padded_size p can in
    let options = options_len p.comment can.short in
    let few : p.keep ≤ MAX_SNAPLEN = omega (arith, can.within, can.fits.few_bytes) in (
      omega (arith, size, padded-aligned (take p.keep p.frame.bytes), options.0),
      omega (arith, size, data_size),
      omega (arith, size, data_size, options.1, few),
    )

-- the block alone
pub alone : (interfaces : Interfaces) (p : Written) → IsWritable p → BeginsWithBlock (written_block interfaces p) (len_of interfaces p)
unfolding packet_block
alone interfaces p can =
    let s = sizes interfaces p can in
    subst (λ (b : List ℕ). BeginsWithBlock b (len_of interfaces p)) (append-nil (written_block interfaces p))
    (begins 6 (body_of interfaces p) [] s.0 (omega (arith, s.2)))

pub whole_len : (interfaces : Interfaces) (p : Written) → length (written_block interfaces p) ≡ len_of interfaces p
unfolding packet_block
whole_len interfaces p = block_len 6 (body_of interfaces p)

pub fields_alone : (interfaces : Interfaces) (p : Written) → IsWritable p
    → BeginsWithPacket (written_block interfaces p) (interface_of interfaces p.frame.network) p.frame (take p.keep p.frame.bytes)
fields_alone interfaces p can =
    subst (λ (b : List ℕ). BeginsWithPacket b (interface_of interfaces p.frame.network) p.frame (take p.keep p.frame.bytes)) (append-nil (written_block interfaces p))
    (fields_read_back interfaces p [] can)

-- ---- the start

abbrev pub start_for : Interfaces → Written → BlockStart
start_for interfaces p = record { order = Little; kind = kinds.Packet; len = len_of interfaces p }

length_fits : (len : ℕ) → len % 4 ≡ 0 → 32 ≤ len → len ≤ MAX_BLOCK_LEN → is_length_of kinds.Packet len ≡ true
length_fits len aligned long short =
    let one : nat_eq (len % 4) 0 ≡ true = eq-eqb _ _ aligned in
    let two : nat_le 32 len ≡ true = le-leb 32 len long in
    let three : nat_le len MAX_BLOCK_LEN ≡ true = le-leb len MAX_BLOCK_LEN short in
    rw (one, two, three) refl

pub starts : (interfaces : Interfaces) (p : Written) → IsWritable p → start_of Little (written_block interfaces p) ≡ Ok (start_for interfaces p)
unfolding start_of
starts interfaces p can =
    let b = written_block interfaces p in
    let s = sizes interfaces p can in
    let begun = alone interfaces p can in
    let fields = fields_alone interfaces p can in
    let fits : is_length_of kinds.Packet (len_of interfaces p) ≡ true = length_fits (len_of interfaces p) begun.aligned (omega (arith, s.1)) s.2 in
    let found : start_with kinds.Packet Little (len_of interfaces p) ≡ Ok (start_for interfaces p) = rw fits refl in
    ap (λ (n : ℕ). start_as (kind_of n) Little b) fields.kind ∙ (ap (start_with kinds.Packet Little) begun.first ∙ found)

-- ---- the fields

abbrev pub fields_for : Interfaces → Written → PacketFields
fields_for interfaces p = record {
  interface = interface_of interfaces p.frame.network;
  timestamp = p.frame.stamp;
  captured_len = p.keep;
  original_len = p.frame.whole;
}

same_fields : (a b : PacketFields) → a.interface ≡ b.interface → a.timestamp ≡ b.timestamp → a.captured_len ≡ b.captured_len → a.original_len ≡ b.original_len → a ≡ b
same_fields a b e f g h =
    ap (λ (n : ℕ). record { interface = n; timestamp = a.timestamp; captured_len = a.captured_len; original_len = a.original_len }) e
    ∙ (ap (λ (n : ℕ). record { interface = b.interface; timestamp = n; captured_len = a.captured_len; original_len = a.original_len }) f
    ∙ (ap (λ (n : ℕ). record { interface = b.interface; timestamp = b.timestamp; captured_len = n; original_len = a.original_len }) g
    ∙ ap (λ (n : ℕ). record { interface = b.interface; timestamp = b.timestamp; captured_len = b.captured_len; original_len = n }) h))

pub fields : (interfaces : Interfaces) (p : Written) → IsWritable p → fields_of Little kinds.Packet (written_block interfaces p) ≡ fields_for interfaces p
fields interfaces p can =
    let f = fields_alone interfaces p can in
    same_fields (fields_of Little kinds.Packet (written_block interfaces p)) (fields_for interfaces p)
    f.interface_is f.stamp (f.captured ∙ kept_len p can) f.original

-- ---- the options

end_is : options_of Little end_of_options ≡ ended
end_is = ends_there Little end_of_options (omega arith) refl

comment-fits : (text : List ℕ) → length text ≤ MAX_COMMENT_LEN → fit (options_of Little (packet_options (Some text))) ≡ true
comment-fits text short =
    let xs = packet_options (Some text) in
    let len : value_len Little xs ≡ length text = little_number-reads_back 2 (length text) (padded text ++ end_of_options) (omega (arith, short)) in
    let size : option_len Little xs ≡ 4 + padded_len (length text) = ap (λ (n : ℕ). 4 + padded_len n) len in
    let first : length (option_bytes 1 text) ≡ 4 + padded_len (length text) = omega (arith, length-padded text) in
    let long : option_len Little xs ≤ length xs = omega (arith, size, first, length-append (option_bytes 1 text) end_of_options) in
    let rest : drop (option_len Little xs) xs ≡ end_of_options = drop_at (option_bytes 1 text) end_of_options (option_len Little xs) (first ∙ sym size) in
    ap fit (more_there Little xs (λ none. cc) long) ∙ ap (λ (l : List ℕ). fit (options_of Little l)) rest ∙ ap fit end_is

options-fit : (comment : Option (List ℕ)) → IfSome comment (λ text. length text ≤ MAX_COMMENT_LEN) → fit (options_of Little (packet_options comment)) ≡ true
options-fit None short = ap fit (none_left Little [] refl)
options-fit (Some text) short = comment-fits text short

-- the options stand after the padded bytes
options_there : (interfaces : Interfaces) (p : Written) → IsWritable p
    → slice_range (written_block interfaces p) (28 + padded_len p.keep) (length (written_block interfaces p) - 4) ≡ packet_options p.comment
unfolding packet_block
options_there interfaces p can =
    let b = written_block interfaces p in
    let kept = take p.keep p.frame.bytes in
    let options = packet_options p.comment in
    let tail : List ℕ = little_bytes 4 (len_of interfaces p) in
    let n = padded_len p.keep in
    let s = sizes interfaces p can in
    let count : (length b - 4) - (28 + n) ≡ length options = omega (arith, whole_len interfaces p, s.1) in
    let behind : drop (28 + n) b ≡ options ++ tail =
    sym (drop-drop n 28 b) ∙ (ap (drop n) (append_assoc (padded kept) options tail) ∙ drop_at (padded kept) (options ++ tail) n (padded_size p can)) in
    ap (λ (m : ℕ). take m (drop (28 + n) b)) count ∙ (ap (take (length options)) behind ∙ take_at options tail (length options) refl)

pub sound : (interfaces : Interfaces) (p : Written) → IsWritable p → packet_fault Little p.keep (written_block interfaces p) ≡ None
sound interfaces p can =
    let b = written_block interfaces p in
    let s = sizes interfaces p can in
    let size = whole_len interfaces p in
    let begun = alone interfaces p can in
    let one : nat_lt (length b) (32 + padded_len p.keep) ≡ false = le-ltb (length b) (32 + padded_len p.keep) (omega (arith, size, s.1)) in
    let two : fit (options_of Little (slice_range b (28 + padded_len p.keep) (length b - 4))) ≡ true =
    ap (λ (l : List ℕ). fit (options_of Little l)) (options_there interfaces p can) ∙ options-fit p.comment can.short in
    let last : number_in Little 4 (drop (length b - 4) b) ≡ length b = ap (λ (n : ℕ). number_in Little 4 (drop (n - 4) b)) size ∙ (begun.again ∙ sym size) in
    let three : nat_eq (number_in Little 4 (drop (length b - 4) b)) (length b) ≡ true = eq-eqb _ _ last in
    rw (one, two, three) refl

-- ---- the time

-- an interface of a written capture: its timestamps count nanoseconds
abbrev pub plain : ℕ → Option (List ℕ) → Described
plain number name = record { number = number; name = name; ethernet = true; resolution = Decimal 9; offset = Later 0 }

pub stamps : (number stamp : ℕ) (name : Option (List ℕ)) → stamp < 1000000000 * 2 ^ 32 → stamp_with (Some (plain number name)) stamp ≡ Ok stamp
stamps number stamp name fits =
    let time : stamp * 1000000000 / 1000000000 + 0 ≡ stamp = omega arith in
    let less : nat_lt stamp (2 ^ 32 * 1000000000) ≡ true = lt-ltb stamp (2 ^ 32 * 1000000000) (omega arith) in
    ap (λ (t : ℕ). stamp_from (in_range t)) time ∙ rw less refl
