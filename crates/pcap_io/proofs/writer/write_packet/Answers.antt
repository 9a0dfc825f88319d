use Rattle.std.proofs.Common.{◌≡◌, ℕ, List, ◌++◌, take, refl, ap, ◌∙◌}
use Rattle.afdx_frame.specs.Frame.{Frame}
use Rattle.pcap_io.specs.Capture.{packet_header, packet_text}
use Rattle.pcap_io.proofs.Transfers.{writes_first, writes_second}
use Rattle.pcap_io.proofs.writer.write_packet.Goals as goal

-- the header and the bytes make the packet
text : (f : Frame) (keep : ℕ) (head bytes : List ℕ) → head ≡ packet_header f keep → bytes ≡ f.bytes → head ++ take keep bytes ≡ packet_text f keep
unfolding packet_text
text f keep head bytes first second =
    ap (λ (h : List ℕ). h ++ take keep bytes) first ∙ ap (λ (b : List ℕ). packet_header f keep ++ take keep b) second

pub returns-in_err-write_all : goal.returns-in_err-write_all
returns-in_err-write_all g c =
    let f = c.args.frame.now in
    writes_first _ _ _ _ _ _ _ _ (take c.args.keep f.bytes) _ c.from_residual.ensures.0 c.in_err-write_all.was (text f c.args.keep _ f.bytes c.packet_header.ensures refl) c.write_all.ensures

pub returns : goal.returns
returns g c =
    let f = c.args.frame.now in
    writes_second _ _ _ _ _ _ _ _ _ _ _ _ c.in_ok-write_all.was (text f c.args.keep _ _ c.packet_header.ensures (c.bytes-bytes.ensures ∙ c.view.ensures.value)) c.write_all.ensures c.write_all-2.ensures
