-- The block of a packet, and what it reads back as.
use Rattle.std.proofs.Common.{◌≡◌, ℕ, ◌+◌, ◌/◌, ◌%◌, ◌<◌, ◌≤◌, ◌^◌, List, [], ◌∷◌, ◌++◌, length, take, drop, Option, Some, None, IfSome, lit<, refl, sym, ap, ◌∙◌, subst, arith, append_assoc}
use Rattle.std.proofs.lemmas.List.{drop_at, take_at, drop-drop}
use Rattle.byteorder.specs.Endian.{little_bytes, little_number}
use Rattle.byteorder.specs.Numbers.{little_number-reads_back}
use Rattle.afdx_frame.specs.Frame.{Frame}
use Rattle.afdx_frame.specs.declared.key.Network.{Network}
use Rattle.afdx_frame.specs.declared.key.Network.TheVariants.{A, B}
use Rattle.pcapng.specs.Blocks.{Written, end_of_options, interface_of, packet_block, packet_body, packet_options, padded, padding_len, written_block}
use Rattle.pcapng.specs.Stepping.{BeginsWithPacket, HasComment, IsWritable, options_at}
use Rattle.pcapng.specs.declared.comment.TheConstants.{MAX_COMMENT_LEN}
use Rattle.pcapng.specs.declared.interfaces.Interfaces.{Interfaces}
use Rattle.pcapng.specs.declared.interfaces.Interfaces.TheVariants.{One, Networks}
use Rattle.pcapng.proofs.Stepping.{kept_len, length-padded}

interface_fits : (interfaces : Interfaces) (network : Network) → interface_of interfaces network < 256 ^ 4
interface_fits One network = lit< tt
interface_fits Networks A = lit< tt
interface_fits Networks B = lit< tt

-- the bytes after the fields
abbrev rest_of : Interfaces → Written → List ℕ → List ℕ
rest_of interfaces p more =
    ((padded (take p.keep p.frame.bytes) ++ packet_options p.comment) ++ little_bytes 4 (12 + length (packet_body interfaces p.frame p.keep p.comment))) ++ more

taken : (kept zeros options tail more : List ℕ) (n : ℕ) → length kept ≡ n → take n ((((kept ++ zeros) ++ options) ++ tail) ++ more) ≡ kept
taken kept zeros options tail more n size =
    ap (take n) (append_assoc ((kept ++ zeros) ++ options) tail more ∙ append_assoc (kept ++ zeros) options (tail ++ more)
    ∙ append_assoc kept zeros (options ++ (tail ++ more)))
    ∙ take_at kept (zeros ++ (options ++ (tail ++ more))) n size

pub fields_read_back : (interfaces : Interfaces) (p : Written) (more : List ℕ) → IsWritable p
    → BeginsWithPacket (written_block interfaces p ++ more) (interface_of interfaces p.frame.network) p.frame (take p.keep p.frame.bytes)
unfolding packet_block
fields_read_back interfaces p more can =
    let b : List ℕ = written_block interfaces p ++ more in
    let f : Frame = p.frame in
    let kept : List ℕ = take p.keep f.bytes in
    let size : length kept ≡ p.keep = kept_len p can in
    let high : little_number 4 (drop 12 b) ≡ f.stamp / 2 ^ 32 = little_number-reads_back 4 (f.stamp / 2 ^ 32) (drop 16 b) (omega (arith, can.fits.stamp_fits)) in
    let low : little_number 4 (drop 16 b) ≡ f.stamp % 2 ^ 32 = little_number-reads_back 4 (f.stamp % 2 ^ 32) (drop 20 b) (omega arith) in
    let captured : little_number 4 (drop 20 b) ≡ p.keep = little_number-reads_back 4 p.keep (drop 24 b) (omega (arith, can.within, can.fits.few_bytes)) in
    record {
      kind = refl;
      interface_is = little_number-reads_back 4 (interface_of interfaces f.network) (drop 12 b) (interface_fits interfaces f.network);
      stamp = omega (arith, high, low);
      captured = captured ∙ sym size;
      original = little_number-reads_back 4 f.whole (drop 28 b) (omega (arith, can.whole_fits));
      bytes_are = taken kept (take (padding_len (length kept)) (0 ∷ 0 ∷ 0 ∷ [])) (packet_options p.comment)
          (little_bytes 4 (12 + length (packet_body interfaces f p.keep p.comment))) more (length kept) refl;
    }

-- all that follows the packet's bytes
past_bytes : (interfaces : Interfaces) (p : Written) (more : List ℕ) → IsWritable p
    → drop (options_at p.keep) (written_block interfaces p ++ more)
    ≡ packet_options p.comment ++ (little_bytes 4 (12 + length (packet_body interfaces p.frame p.keep p.comment)) ++ more)
unfolding packet_block
past_bytes interfaces p more can =
    let b : List ℕ = written_block interfaces p ++ more in
    let kept : List ℕ = take p.keep p.frame.bytes in
    let options : List ℕ = packet_options p.comment in
    let tail : List ℕ = little_bytes 4 (12 + length (packet_body interfaces p.frame p.keep p.comment)) in
    let n : ℕ = p.keep + padding_len p.keep in
    let size : length (padded kept) ≡ n = length-padded kept ∙ ap (λ (k : ℕ). k + padding_len k) (kept_len p can) in
    sym (drop-drop n 28 b)
    ∙ ap (drop n) (append_assoc (padded kept ++ options) tail more ∙ append_assoc (padded kept) options (tail ++ more))
    ∙ drop_at (padded kept) (options ++ (tail ++ more)) n size

comment_at : (text rest : List ℕ) → length text ≤ MAX_COMMENT_LEN → HasComment (packet_options (Some text) ++ rest) text
comment_at text rest short =
    let all : List ℕ = packet_options (Some text) ++ rest in
    let zeros : List ℕ = take (padding_len (length text)) (0 ∷ 0 ∷ 0 ∷ []) in
    record {
      code = refl;
      len = little_number-reads_back 2 (length text) (drop 4 all) (omega (arith, short));
      text_is = ap (take (length text)) (append_assoc (text ++ zeros) end_of_options rest ∙ append_assoc text zeros (end_of_options ++ rest))
          ∙ take_at text (zeros ++ (end_of_options ++ rest)) (length text) refl;
    }

comment_of : (comment : Option (List ℕ)) (rest : List ℕ) → IfSome comment (λ text. length text ≤ MAX_COMMENT_LEN)
    → IfSome comment (HasComment (packet_options comment ++ rest))
comment_of None rest short = tt
comment_of (Some text) rest short = comment_at text rest short

pub comment_reads_back : (interfaces : Interfaces) (p : Written) (more : List ℕ) → IsWritable p
    → IfSome p.comment (HasComment (drop (options_at p.keep) (written_block interfaces p ++ more)))
comment_reads_back interfaces p more can =
    subst (λ (o : List ℕ). IfSome p.comment (HasComment o)) (sym (past_bytes interfaces p more can))
    (comment_of p.comment (little_bytes 4 (12 + length (packet_body interfaces p.frame p.keep p.comment)) ++ more) can.short)
