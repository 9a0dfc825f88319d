-- The bytes that a copy has written, frame by frame.
use Rattle.std.proofs.Common.{◌≡◌, List, [], ◌∷◌, ◌++◌, Option, sym, ap, ◌∙◌, append_assoc, ℕ, subst, refl}
use Rattle.std.proofs.lemmas.List.{append-nil}
use Rattle.std.proofs.KnownBytes.{Appends-trans}
use Rattle.std.specs.Io.KnownBytes.{Appends}
use Rattle.afdx_frame.specs.Frame.{Frame}
use Rattle.bpf_isa.specs.declared.packed.Packed.{Packed}
use Rattle.packet_format.specs.Packets.{Format, head_by}
use Rattle.capture_run.specs.OneCapture.{capture_by, packet_of, packets_of}

pub packets_of-append : (format : Format) (p : List Packed) (fs gs : List Frame) → packets_of format p (fs ++ gs) ≡ packets_of format p fs ++ packets_of format p gs
packets_of-append format p [] gs = refl
packets_of-append format p (f ∷ fs) gs =
    ap (λ (x : List ℕ). packet_of format p f ++ x) (packets_of-append format p fs gs)
    ∙ sym (append_assoc (packet_of format p f) (packets_of format p fs) (packets_of format p gs))

-- one more frame
pub packets_of-snoc : (format : Format) (p : List Packed) (fs : List Frame) (f : Frame) → packets_of format p (fs ++ f ∷ []) ≡ packets_of format p fs ++ packet_of format p f
packets_of-snoc format p fs f =
    packets_of-append format p fs (f ∷ []) ∙ ap (λ (x : List ℕ). packets_of format p fs ++ x) (append-nil (packet_of format p f))

pub written_more : (format : Format) (p : List Packed) (a b c : Option (List ℕ)) (fs : List Frame) (f : Frame) → Appends a b (packets_of format p fs)
    → Appends b c (packet_of format p f) → Appends a c (packets_of format p (fs ++ f ∷ []))
written_more format p a b c fs f first next =
    subst (Appends a c) (sym (packets_of-snoc format p fs f)) (Appends-trans a b c (packets_of format p fs) (packet_of format p f) first next)

-- the head of a capture, and then the packets
pub written_after : (format : Format) (p : List Packed) (a b c : Option (List ℕ)) (fs : List Frame) → Appends a b (head_by format)
    → Appends b c (packets_of format p fs) → Appends a c (capture_by format p fs)
written_after format p a b c fs first next = Appends-trans a b c (head_by format) (packets_of format p fs) first next

-- and then a part of a packet
pub written_within : (format : Format) (p : List Packed) (a b c : Option (List ℕ)) (fs : List Frame) (part : List ℕ) → Appends a b (head_by format)
    → Appends b c (packets_of format p fs ++ part) → Appends a c (capture_by format p fs ++ part)
written_within format p a b c fs part first next =
    subst (Appends a c) (sym (append_assoc (head_by format) (packets_of format p fs) part))
    (Appends-trans a b c (head_by format) (packets_of format p fs ++ part) first next)
