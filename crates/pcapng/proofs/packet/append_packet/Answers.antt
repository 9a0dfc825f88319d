use Rattle.std.proofs.Common.{◌≡◌, ℕ, ◌+◌, List, ◌++◌, length, take, Option, sym, ap, ◌∙◌, arith, append_assoc, length-append}
use Rattle.afdx_frame.specs.Frame.{Frame}
use Rattle.byteorder.specs.Endian.{little_bytes}
use Rattle.pcapng.specs.Blocks.{interface_of, packet_block, packet_body, packet_options, padded, padding_len}
use Rattle.pcapng.specs.Comment.{text_of}
use Rattle.pcapng.specs.Parts.{packet_head}
use Rattle.pcapng.specs.declared.interfaces.Interfaces.{Interfaces}
use Rattle.pcapng.proofs.Joining.{joined_four}
use Rattle.pcapng.proofs.Stepping.{length-padded}
use Rattle.pcapng.proofs.packet.append_packet.Goals as goal

-- the parts are the block
block_is : (interfaces : Interfaces) (f : Frame) (keep total : ℕ) (comment : Option (List ℕ))
    → total ≡ 32 + (length (padded (take keep f.bytes)) + length (packet_options comment))
    → packet_head (interface_of interfaces f.network) f keep total ++ (padded (take keep f.bytes) ++ (packet_options comment ++ little_bytes 4 total))
    ≡ packet_block interfaces f keep comment
unfolding packet_block
block_is interfaces f keep total comment size =
    let kept : List ℕ = padded (take keep f.bytes) in
    let options : List ℕ = packet_options comment in
    let i : ℕ = interface_of interfaces f.network in
    let same : total ≡ 12 + length (packet_body interfaces f keep comment) = omega (arith, size, length-append kept options) in
    ap (λ (x : List ℕ). packet_head i f keep total ++ x) (sym (append_assoc kept options (little_bytes 4 total)))
    ∙ ap (λ (n : ℕ). packet_head i f keep n ++ ((kept ++ options) ++ little_bytes 4 n)) same

appended : (interfaces : Interfaces) (f : Frame) (keep total i : ℕ) (comment : Option (List ℕ)) (old one two three now head kept tail : List ℕ)
    → i ≡ interface_of interfaces f.network → head ≡ packet_head i f keep total → kept ≡ take keep f.bytes → tail ≡ little_bytes 4 total
    → total ≡ 32 + (length kept + padding_len (length kept) + length (packet_options comment))
    → one ≡ old ++ head → two ≡ one ++ padded kept → three ≡ two ++ packet_options comment → now ≡ three ++ tail
    → now ≡ old ++ packet_block interfaces f keep comment
appended interfaces f keep total i comment old one two three now head kept tail ei eh ed et size e1 e2 e3 e4 =
    let n : ℕ = interface_of interfaces f.network in
    let head_is : head ≡ packet_head n f keep total = eh ∙ ap (λ (x : ℕ). packet_head x f keep total) ei in
    let len : total ≡ 32 + (length (padded (take keep f.bytes)) + length (packet_options comment)) =
    omega (arith, size, length-padded kept, ap (λ (x : List ℕ). length (padded x)) ed) in
    joined_four old head (padded kept) (packet_options comment) tail one two three now e1 e2 e3 e4
    ∙ ap (λ (x : List ℕ). old ++ (x ++ (padded kept ++ (packet_options comment ++ tail)))) head_is
    ∙ ap (λ (x : List ℕ). old ++ (packet_head n f keep total ++ (padded x ++ (packet_options comment ++ tail)))) ed
    ∙ ap (λ (x : List ℕ). old ++ (packet_head n f keep total ++ (padded (take keep f.bytes) ++ (packet_options comment ++ x)))) et
    ∙ ap (λ (x : List ℕ). old ++ x) (block_is interfaces f keep total comment len)

pub returns-clause-block : goal.returns-clause-block
returns-clause-block c =
    let f = c.args.frame.now in
    let keep : ℕ = c.args.keep in
    let bytes : c.bytes.result.now ≡ f.bytes = c.bytes.ensures ∙ c.view.ensures.value in
    let kept : take keep c.bytes.result.now ≡ take keep f.bytes = ap (take keep) bytes in
    let interface = c.number-interface.ensures ∙ ap (interface_of c.args.interfaces) c.network.ensures in
    let options = c.options_len.ensures.value in
    let room = c.in_ok-reserve.ensures.items in
    let first = c.append.ensures.items ∙ ap (λ (x : List ℕ). x ++ c.packet_head.result) room in
    appended c.args.interfaces f keep _ c.number-interface.result (text_of c.args.comment) c.args.bytes.now.items c.append.new.bytes.items
    c.append_padded.new.bytes.items c.append_options.new.bytes.items _ c.packet_head.result _ _
    interface c.packet_head.ensures kept c.to_le_bytes.ensures (omega (arith, options, c.padding_len.ensures.value)) first c.append_padded.ensures.items c.append_options.ensures.items c.append-2.ensures.items
