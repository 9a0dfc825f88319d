-- The find of a reader's step, from what its reads found.
use Rattle.std.proofs.Common.{inr, ◌≡◌, ◌≢◌, ℕ, zero, suc, ◌-◌, ◌<◌, ◌≤◌, max, true, false, List, ◌++◌, length, take, drop, Option, Some, None, IfSome, nat_lt, nat_eq, refl, sym, ap, ◌∙◌, subst, arith}
use Rattle.std.proofs.lemmas.Bool.{le-ltb, lt-ltb, ne_eqb}
use Rattle.std.proofs.lemmas.List.{take_at, take_all, append-nil, length-append, length-take}
use Rattle.std.proofs.KnownBytes.{Consumes-trans, Consumes-kept}
use Rattle.std.specs.Io.KnownBytes.{Consumes, IsAtEnd, Keeps, prepend_known}
use Rattle.pcap_io.specs.Told.{StaysTold, Tells}
use Rattle.afdx_frame.specs.Frame.{Frame, frame_with}
use Rattle.pcap_io.specs.Block.{IsDrawFault}
use Rattle.pcap_io.specs.Bytes.{IsBytes}
use Rattle.pcap_io.specs.Device.{CountsFailure, TakesAtMost}
use Rattle.pcap_io.specs.Layout.{fractions_of}
use Rattle.pcap_io.specs.Recording.{header_bytes, header_fields, is_file_header, reason_at, stamp_at}
use Rattle.pcap_io.specs.Position.{EndsShort, IsReadFault, IsStart, IsStartOf, LacksBytes, LacksMemory, StartLeaves, TakesFrame, TakesHeader, ending_here, frame_at}
use Rattle.pcap_io.specs.declared.packet_header.PacketHeader.{PacketHeader}
use Rattle.pcap_io.specs.declared.recording.BadReason.{BadReason}
use Rattle.pcap_io.specs.declared.recording.Ending.{Ending}
use Rattle.pcap_io.specs.declared.recording.Ending.TheVariants.{Clean, Cut, Bad}
use Rattle.pcap_io.specs.declared.position.Position.{Position}
use Rattle.pcap_io.specs.declared.position.Start.{Start}
use Rattle.pcap_io.specs.declared.position.Start.TheVariants as starts
use Rattle.pcap_io.specs.declared.item.ReadFault.{ReadFault}
use Rattle.pcap_io.specs.declared.item.ReadFault.TheVariants as faults
use Rattle.pcap_io.specs.declared.told.Told.{Told}
use Rattle.pcap_io.specs.declared.told.Told.TheVariants.{Nothing}
use Rattle.pcap_io.proofs.PacketBytes.{header_bytes_read_back, header_with, fine_from_none, number_fits, IsBytes-drop}

-- 16 bytes whose fields are wrong end the recording, whatever follows
pub bad_at_head : (p : Position) (told : Told) (head more : List ℕ) (reason : BadReason) → length head ≡ 16 → p.count ≢ p.most
    → reason_at p.layout p.late p.high (header_fields p.layout head) ≡ Some reason → ending_here p told (head ++ more) ≡ Some (Bad p.count reason)
bad_at_head p told head more reason size few wrong =
    let rest : List ℕ = head ++ more in
    let len = length-append head more in
    let some : nat_eq (length rest) 0 ≡ false = ne_eqb (length rest) 0 (λ e. absurd (omega (arith, size, len, e))) in
    let other : nat_eq p.count p.most ≡ false = ne_eqb p.count p.most few in
    let long : nat_lt (length rest) 16 ≡ false = le-ltb (length rest) 16 (omega (arith, size, len)) in
    let reads : reason_at p.layout p.late p.high (header_fields p.layout (take 16 rest)) ≡ Some reason =
    ap (λ (h : List ℕ). reason_at p.layout p.late p.high (header_fields p.layout h)) (take_at head more 16 size) ∙ wrong in
    rw (some, other, long, reads) refl

-- fine fields that fewer bytes follow than they claim: the recording is truncated
pub cut_at_head : (p : Position) (told : Told) (head body : List ℕ) → length head ≡ 16 → p.count ≢ p.most
    → reason_at p.layout p.late p.high (header_fields p.layout head) ≡ None → length body < (header_fields p.layout head).captured_len
    → ending_here p told (head ++ body) ≡ Some (Cut p.count)
cut_at_head p told head body size few fine short =
    let rest : List ℕ = head ++ body in
    let len = length-append head body in
    let front = take_at head body 16 size in
    let some : nat_eq (length rest) 0 ≡ false = ne_eqb (length rest) 0 (λ e. absurd (omega (arith, size, len, e))) in
    let other : nat_eq p.count p.most ≡ false = ne_eqb p.count p.most few in
    let long : nat_lt (length rest) 16 ≡ false = le-ltb (length rest) 16 (omega (arith, size, len)) in
    let reads : reason_at p.layout p.late p.high (header_fields p.layout (take 16 rest)) ≡ None =
    ap (λ (h : List ℕ). reason_at p.layout p.late p.high (header_fields p.layout h)) front ∙ fine in
    let lacks : nat_lt (length rest - 16) (header_fields p.layout (take 16 rest)).captured_len ≡ true =
    ap (λ (h : List ℕ). nat_lt (length rest - 16) (header_fields p.layout h).captured_len) front ∙ lt-ltb (length rest - 16) _ (omega (arith, size, len, short)) in
    rw (some, other, long, reads, lacks) refl

-- the word of a source says nothing of bytes that are there
same_told : (p : Position) (told other : Told) (rest : List ℕ) → 0 < length rest → ending_here p told rest ≡ ending_here p other rest
same_told p told other rest some =
    let test : nat_eq (length rest) 0 ≡ false = ne_eqb (length rest) 0 (λ e. absurd (omega (arith, some, e))) in
    rw test refl

end_from : (p : Position) (told value : Told) (head ys : List ℕ) (came : ℕ) (e : Ending) → length head ≡ 16 → (came ≡ 0 → value ≡ told)
    → ending_here p value (take came head ++ ys) ≡ Some e → ending_here p told (take came head ++ ys) ≡ Some e
end_from p told value head ys zero e size tells found = subst (λ (t : Told). ending_here p t (take 0 head ++ ys) ≡ Some e) (tells refl) found
end_from p told value head ys (suc n) e size tells found =
    same_told p told value (take (suc n) head ++ ys) (omega (arith, length-append (take (suc n) head) ys, length-take (suc n) head, size)) ∙ found

-- the first reads found the bytes that stand there
pub start_from : (p : Position) (told value : Told) (before after : Option (List ℕ)) (head : List ℕ) (came : ℕ) (start : Start) → length head ≡ 16 → IsBytes head
    → Consumes before after (take came head) → (came < 16 → IsAtEnd after) → (came ≡ 0 → IfSome before (λ known. Tells after value told))
    → IsStartOf p value head came start → IsStart p told before after start
start_from p told value before after head came (starts.Header fields) size fits gone end tells (all, few, read, fine) = (
  head,
  record {
    size = size;
    are_bytes = fits;
    bounded = few;
    fine = subst (λ (h : PacketHeader). reason_at p.layout p.late p.high h ≡ None) read fine;
    gone = subst (Consumes before after) (take_all came head (omega (arith, size, all))) gone;
  },
  read,
)
start_from p told value None after head came (starts.End e) size fits gone end tells found = tt
start_from p told value (Some xs) None head came (starts.End e) size fits gone end tells found = absurd gone
start_from p told value (Some xs) (Some ys) head came (starts.End e) size fits gone end tells found =
    ap (ending_here p told) gone ∙ end_from p told value head ys came e size tells (found ys end)

pub stays_behind : (unread : List ℕ) (left : Option (List ℕ)) (old new : Told) → StaysTold left old new → StaysTold (prepend_known unread left) old new
stays_behind unread None old new stays = tt
stays_behind unread (Some ys) old new stays = stays

-- a source tells at the end of what it gave as it told before
pub tells_still : (before after : Option (List ℕ)) (value old new : Told) (bytes : List ℕ) → Consumes before after bytes → StaysTold before old new → Tells after value new
    → IfSome before (λ known. Tells after value old)
tells_still None after value old new bytes gone stays tells = tt
tells_still (Some xs) None value old new bytes gone stays tells = tt
tells_still (Some xs) (Some ys) value old new bytes gone stays tells = tells ∙ stays

-- bytes that were read ahead change nothing of what a source tells
pub tells_behind : (unread : List ℕ) (left : Option (List ℕ)) (value told : Told) → Tells left value told → Tells (prepend_known unread left) value told
tells_behind unread None value told tells = tt
tells_behind unread (Some ys) value told tells = tells

-- fine fields and their bytes are a good packet's frame
pub step_frame : (p : Position) (before mid after : Option (List ℕ)) (head body : List ℕ) (f : Frame) → p.count ≤ p.most → TakesHeader p before mid head
    → length body ≡ (header_fields p.layout head).captured_len → Consumes mid after body
    → f ≡ frame_at p (header_fields p.layout head) body
    → TakesFrame p before after f
step_frame p before mid after head body f within t size gone same =
    let h = header_fields p.layout head in
    let fine = fine_from_none p.layout p.late p.high h t.fine in
    let text = header_bytes_read_back p.layout head t.size t.are_bytes in
    let held : header_bytes p.layout h.seconds h.fraction (length body) h.original_len ≡ head = ap (λ (n : ℕ). header_bytes p.layout h.seconds h.fraction n h.original_len) size ∙ text in
    record {
      taken = record { seconds = h.seconds; fraction = h.fraction; original_len = h.original_len; bytes = body };
      good = record { few_bytes = omega (arith, size, fine.few); seconds_fit = number_fits p.layout.order head t.are_bytes; original_len_fits = number_fits p.layout.order (drop 12 head) (IsBytes-drop 12 head t.are_bytes); within_second = fine.within; no_file_header = ap (λ (n : ℕ). is_file_header (header_with h.seconds h.fraction n h.original_len)) size ∙ fine.no_file_header; in_time = fine.in_time };
      bounded = omega (arith, t.bounded);
      same = same;
      gone = subst (λ (l : List ℕ). Consumes before after (l ++ body)) (sym held) (Consumes-trans before mid after head body t.gone gone);
    }

-- at the end all is gone
gone_all : (xs : List ℕ) (after : Option (List ℕ)) (bytes : List ℕ) → Consumes (Some xs) after bytes → IsAtEnd after → xs ≡ bytes
gone_all xs None bytes gone end = absurd gone
gone_all xs (Some ys) bytes gone end = gone ∙ ap (λ (l : List ℕ). bytes ++ l) end ∙ append-nil bytes

-- fine fields and too few bytes at the end
pub step_cut : (p : Position) (told : Told) (before mid after : Option (List ℕ)) (head body : List ℕ) → TakesHeader p before mid head
    → Consumes mid after body → length body < (header_fields p.layout head).captured_len → IsAtEnd after
    → IfSome before (λ bytes. ending_here p told bytes ≡ Some (Cut p.count))
step_cut p told None mid after head body t gone short end = tt
step_cut p told (Some xs) mid after head body t gone short end =
    let all = gone_all xs after (head ++ body) (Consumes-trans (Some xs) mid after head body t.gone gone) end in
    ap (ending_here p told) all ∙ cut_at_head p told head body t.size t.bounded t.fine short

-- ---- how much a step takes

-- the fields of a packet that may stand here, and no more bytes after them than they claim
pub takes_packet : (p : Position) (before mid after : Option (List ℕ)) (fields : PacketHeader) → IsStart p Nothing before mid (starts.Header fields) → TakesAtMost fields.captured_len mid after
    → TakesAtMost 262160 before after
takes_packet p before mid after fields (head, t, same) (gone, few, rest) =
    let fine = fine_from_none p.layout p.late p.high (header_fields p.layout head) t.fine in
    let held = ap (λ (h : PacketHeader). h.captured_len) same in
    (head ++ gone, omega (arith, length-append head gone, t.size, held, few, fine.few), Consumes-trans before mid after head gone t.gone rest)

-- all that the first reads leave
pub start_leaves : (before after : Option (List ℕ)) (came : ℕ) (start : Start) → (came < 16 → IsAtEnd after) → TakesAtMost 16 before after → EndsShort came start
    → StartLeaves before after start
start_leaves before after came (starts.Header head) end taken short = tt
start_leaves before after came (starts.End (Clean n)) end taken short = end short
start_leaves before after came (starts.End (Cut n)) end taken short = end short
start_leaves before after came (starts.End (Bad n reason)) end taken short = taken

-- ---- a packet whose header was read

-- its fraction makes no second
pub within_second : (p q : Position) (before mid : Option (List ℕ)) (fields : PacketHeader) → q ≡ p → IsStart p Nothing before mid (starts.Header fields)
    → fields.fraction < fractions_of q.layout.precision
within_second p q before mid fields stands (head, t, same) =
    let fine = fine_from_none p.layout p.late p.high (header_fields p.layout head) t.fine in
    subst (λ (x : Position). fields.fraction < fractions_of x.layout.precision) (sym stands)
    (subst (λ (h : PacketHeader). h.fraction < fractions_of p.layout.precision) (sym same) fine.within)

-- all of its bytes came
pub frame_found : (p : Position) (before mid after : Option (List ℕ)) (fields : PacketHeader) (body : List ℕ) (f : Frame) → p.count ≤ p.most
    → IsStart p Nothing before mid (starts.Header fields) → length body ≡ fields.captured_len → Consumes mid after body → f ≡ frame_at p fields body
    → TakesFrame p before after f
frame_found p before mid after fields body f within (header, t, same) size gone made =
    step_frame p before mid after header body f within t (size ∙ ap (λ (h : PacketHeader). h.captured_len) same) gone (made ∙ ap (λ (h : PacketHeader). frame_at p h body) same)

-- too few came
pub cut_found : (p q : Position) (told : Told) (before mid after : Option (List ℕ)) (fields : PacketHeader) (body : List ℕ) → q ≡ p → IsStart p Nothing before mid (starts.Header fields)
    → Consumes mid after body → length body < fields.captured_len → IsAtEnd after → IfSome before (λ bytes. ending_here p told bytes ≡ Some (Cut q.count))
cut_found p q told before mid after fields body stands (header, t, same) gone short end =
    let size : length body < (header_fields p.layout header).captured_len = omega (arith, ap (λ (h : PacketHeader). h.captured_len) same) in
    let found : IfSome before (λ bytes. ending_here p told bytes ≡ Some (Cut p.count)) = step_cut p told before mid after header body t gone size end in
    subst (λ (n : ℕ). IfSome before (λ bytes. ending_here p told bytes ≡ Some (Cut n))) (sym (ap (λ (x : Position). x.count) stands)) found

-- the frame that is lent is the packet's
pub lent_same : (p q : Position) (fields : PacketHeader) (stamp whole : ℕ) (body : List ℕ) → q ≡ p → stamp ≡ stamp_at q.layout fields.seconds fields.fraction
    → whole ≡ max fields.original_len fields.captured_len → length body ≡ fields.captured_len → frame_with q.network q.count stamp whole body ≡ frame_at p fields body
lent_same p q fields stamp whole body stands came size held =
    ap (λ (s : ℕ). frame_with q.network q.count s whole body) came
    ∙ ap (λ (w : ℕ). frame_with q.network q.count (stamp_at q.layout fields.seconds fields.fraction) w body) (size ∙ ap (λ (n : ℕ). max fields.original_len n) (sym held))
    ∙ ap (λ (x : Position). frame_at x fields body) stands

kept_header : (p : Position) (before mid after : Option (List ℕ)) (header : List ℕ) → TakesHeader p before mid header → Keeps mid after → TakesHeader p before after header
kept_header p before mid after header t kept =
    record { size = t.size; are_bytes = t.are_bytes; bounded = t.bounded; fine = t.fine; gone = Consumes-kept before mid after header t.gone kept }

-- no memory for its bytes
pub lacks_memory : (p : Position) (before mid after : Option (List ℕ)) (fields : PacketHeader) → IsStart p Nothing before mid (starts.Header fields) → Keeps mid after
    → 0 < fields.captured_len → LacksMemory p before after
lacks_memory p before mid after fields (header, t, same) kept some =
    (header, kept_header p before mid after header t kept, omega (arith, ap (λ (h : PacketHeader). h.captured_len) same))

-- a fault as its bytes were drawn
pub body_fault : (p : Position) (before mid after : Option (List ℕ)) (old m new : ℕ) (fields : PacketHeader) (f : ReadFault) → IsStart p Nothing before mid (starts.Header fields)
    → Keeps mid after → m ≡ old → IsDrawFault fields.captured_len m new f → IsReadFault p before after old new f
body_fault p before mid after old m new fields faults.Device start kept same fault = subst (λ (n : ℕ). CountsFailure n new) same fault
body_fault p before mid after old m new fields faults.Memory start kept same fault =
    (fault.0 ∙ same, lacks_memory p before mid after fields start kept fault.1)
body_fault p before mid after old m new fields faults.Failed start kept same fault = absurd fault

pub lacks_body : (p : Position) (before mid after : Option (List ℕ)) (fields : PacketHeader) (unread : List ℕ) → IsStart p Nothing before mid (starts.Header fields) → Keeps mid after
    → length unread < fields.captured_len → LacksBytes p before after unread
lacks_body p before mid after fields unread (header, t, same) kept few =
    inr (header, kept_header p before mid after header t kept, omega (arith, few, ap (λ (h : PacketHeader). h.captured_len) same))

pub takes_head : (p : Position) (before mid after : Option (List ℕ)) (fields : PacketHeader) → IsStart p Nothing before mid (starts.Header fields) → Keeps mid after
    → TakesAtMost 262160 before after
takes_head p before mid after fields (header, t, same) kept = (header, omega (arith, t.size), (kept_header p before mid after header t kept).gone)
