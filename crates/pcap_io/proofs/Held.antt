-- A packet that stands whole among the unread bytes, and frames that are added to a batch.
use Rattle.std.proofs.Common.{◌≡◌, ℕ, ◌+◌, ◌-◌, ◌<◌, ◌≤◌, List, [], ◌∷◌, ◌++◌, length, slice_range, Option, None, Some, Ok, refl, sym, ap, ◌∙◌, subst, arith, append_assoc, append-nil}
use Rattle.std.proofs.lemmas.List.{map-append}
use Rattle.std.specs.Io.KnownBytes.{Consumes, prepend_known}
use Rattle.afdx_frame.specs.Frame.{Frame}
use Rattle.frame_batch.specs.Batch.{BatchState, batch_frames, record_frame}
use Rattle.frame_batch.specs.declared.frame_record.FrameRecord.{FrameRecord}
use Rattle.pcap_io.specs.Batches.{AddsFrame, AddsFrames, GivesFrames}
use Rattle.pcap_io.specs.Bytes.{IsBytes}
use Rattle.pcap_io.specs.Device.{TakesAtMost}
use Rattle.pcap_io.specs.Position.{Advances, IsStartOf, Reading, TakesFrame, TakesHeader, after_frame, frame_at}
use Rattle.pcap_io.specs.Recording.{reason_at}
use Rattle.pcap_io.specs.declared.item.Item.TheVariants as items
use Rattle.pcap_io.specs.declared.packet_header.PacketHeader.{PacketHeader}
use Rattle.pcap_io.specs.declared.position.Position.{Position}
use Rattle.pcap_io.specs.declared.position.Start.TheVariants as starts
use Rattle.pcap_io.specs.Told.{StaysTold}
use Rattle.pcap_io.specs.declared.told.Told.{Told}
use Rattle.pcap_io.specs.declared.told.Told.TheVariants.{Nothing}
use Rattle.pcap_io.proofs.Draws.{consumes_prefix, length-between, split_at}
use Rattle.pcap_io.proofs.Steps.{step_frame, takes_packet}

-- no more packets were read than are read at most
held_room : (p : Position) (head : List ℕ) (fields : PacketHeader) → p.count ≤ p.most → IsStartOf p Nothing head 16 (starts.Header fields) → p.count < p.most
held_room p head fields within (all, few, read, fine) = omega (arith, few)

-- where in the bytes of a block the header, the captured bytes and what is left stand
record Held (p : Position) (xs : List ℕ) (start from to end : ℕ) (fields : PacketHeader) : Type 0 where
  pub after_header : from ≡ start + 16
  pub ordered : from ≤ to
  pub unread : to ≤ end
  pub within : end ≤ length xs
  pub begins : IsStartOf p Nothing (slice_range xs start from) 16 (starts.Header fields)
  pub are_bytes : IsBytes (slice_range xs start from)
  pub size : to - from ≡ fields.captured_len

header_held : (p : Position) (source : Option (List ℕ)) (xs : List ℕ) (start from to end : ℕ) (fields : PacketHeader) → Held p xs start from to end fields
    → TakesHeader p (prepend_known (slice_range xs start end) source) (prepend_known (slice_range xs from end) source) (slice_range xs start from)
header_held p source xs start from to end fields h =
    let size : length (slice_range xs start from) ≡ 16 =
    omega (arith, length-between start from xs (omega (arith, h.unread, h.ordered, h.within)), h.after_header) in
    record {
      size = size;
      are_bytes = h.are_bytes;
      bounded = h.begins.1;
      fine = subst (λ (x : PacketHeader). reason_at p.layout p.late p.high x ≡ None) h.begins.2 h.begins.3;
      gone = consumes_prefix source _ _ _ (split_at start from end xs (omega (arith, h.after_header)) (omega (arith, h.ordered, h.unread)) h.within);
    }

body_held : (source : Option (List ℕ)) (xs : List ℕ) (from to end : ℕ) → from ≤ to → to ≤ end → end ≤ length xs
    → Consumes (prepend_known (slice_range xs from end) source) (prepend_known (slice_range xs to end) source) (slice_range xs from to)
body_held source xs from to end ordered unread within = consumes_prefix source _ _ _ (split_at from to end xs ordered unread within)

frame_held : (p : Position) (source : Option (List ℕ)) (xs : List ℕ) (start from to end : ℕ) (fields : PacketHeader) → p.count ≤ p.most → Held p xs start from to end fields
    → TakesFrame p (prepend_known (slice_range xs start end) source) (prepend_known (slice_range xs to end) source) (frame_at p fields (slice_range xs from to))
frame_held p source xs start from to end fields few h =
    let size : length (slice_range xs from to) ≡ fields.captured_len = length-between from to xs (omega (arith, h.unread, h.within)) ∙ h.size in
    step_frame p _ _ _ (slice_range xs start from) (slice_range xs from to) _ few (header_held p source xs start from to end fields h)
    (size ∙ ap (λ (x : PacketHeader). x.captured_len) h.begins.2) (body_held source xs from to end h.ordered h.unread h.within)
    (ap (λ (x : PacketHeader). frame_at p x (slice_range xs from to)) h.begins.2)

stays_same : (left : Option (List ℕ)) (old new : Told) → new ≡ old → StaysTold left old new
stays_same None old new e = tt
stays_same (Some xs) old new e = e

-- the frame of a packet that stands whole in the block is the next
held_advances : (p q : Position) (tells tells_on : Told) (source after : Option (List ℕ)) (xs : List ℕ) (start from to end failures still : ℕ) (fields : PacketHeader) (f : Frame) → p.count ≤ p.most
    → Held p xs start from to end fields → f ≡ frame_at p fields (slice_range xs from to) → q ≡ after_frame p f.stamp → after ≡ prepend_known (slice_range xs to end) source
    → still ≡ failures → tells_on ≡ tells
    → Advances (λ item. item) (record { position = p; remaining = prepend_known (slice_range xs start end) source; failures = failures; told = tells })
    (record { position = q; remaining = after; failures = still; told = tells_on }) (Ok (items.Frame f))
held_advances p q tells tells_on source after xs start from to end failures still fields f few h same place left count tells_same =
    let takes = frame_held p source xs start from to end fields few h in
    let body = body_held source xs from to end h.ordered h.unread h.within in
    let size : length (slice_range xs from to) ≡ fields.captured_len = length-between from to xs (omega (arith, h.unread, h.within)) ∙ h.size in
    record {
      item = λ _. subst (λ (x : Frame). TakesFrame p (prepend_known (slice_range xs start end) source) after x) (sym same)
          (subst (λ (x : Option (List ℕ)). TakesFrame p (prepend_known (slice_range xs start end) source) x (frame_at p fields (slice_range xs from to))) (sym left) takes);
      after = place;
      after_fault = tt;
      bounded = omega (arith, few, held_room p _ fields few h.begins, ap (λ (x : Position). x.count) place, ap (λ (x : Position). x.most) place);
      told = stays_same (prepend_known (slice_range xs start end) source) tells tells_on tells_same;
      no_failure = count;
      fault = tt;
      taken = subst (λ (x : Option (List ℕ)). TakesAtMost 262160 (prepend_known (slice_range xs start end) source) x) (sym left)
          (takes_packet p _ _ _ fields (slice_range xs start from, header_held p source xs start from to end fields h, h.begins.2)
          (slice_range xs from to, omega (arith, size), body));
      left = λ _. tt;
    }

-- the same of what a reader finds in the block and puts into a batch
pub held_added : (p q : Position) (tells tells_on : Told) (source after : Option (List ℕ)) (xs bytes block : List ℕ) (s e start from to end failures still stamp : ℕ) (fields : PacketHeader) (r : FrameRecord)
    → p.count ≤ p.most → start ≡ s → end ≡ e → bytes ≡ xs → block ≡ xs → from ≡ start + 16 → to ≡ from + fields.captured_len → from ≤ end → fields.captured_len ≤ end - from
    → end ≤ length xs → IsBytes (slice_range bytes start from) → IsStartOf p Nothing (slice_range bytes start from) 16 (starts.Header fields)
    → record_frame bytes r ≡ frame_at p fields (slice_range bytes from to) → q ≡ after_frame p stamp → stamp ≡ r.stamp.0
    → after ≡ prepend_known (slice_range xs (s + (16 + fields.captured_len)) e) source → still ≡ failures → tells_on ≡ tells
    → Advances (λ item. item) (record { position = p; remaining = prepend_known (slice_range xs s e) source; failures = failures; told = tells })
    (record { position = q; remaining = after; failures = still; told = tells_on }) (Ok (items.Frame (record_frame block r)))
held_added p q tells tells_on source after xs bytes block s e start from to end failures still stamp fields r few at_start at_end same_bytes same_block is_from is_to room enough within are begins frame place stamped left count tells_same =
    let to_is : s + (16 + fields.captured_len) ≡ to = omega (arith, at_start, is_from, is_to) in
    let head : slice_range bytes start from ≡ slice_range xs s from =
    ap (λ (b : List ℕ). slice_range b start from) same_bytes ∙ ap (λ (n : ℕ). slice_range xs n from) at_start in
    let held : Held p xs s from to e fields = record {
      after_header = omega (arith, at_start, is_from);
      ordered = omega (arith, is_to);
      unread = omega (arith, is_to, at_end, room, enough);
      within = omega (arith, at_end, within);
      begins = subst (λ (h : List ℕ). IsStartOf p Nothing h 16 (starts.Header fields)) head begins;
      are_bytes = subst IsBytes head are;
      size = omega (arith, is_to);
    } in
    held_advances p q tells tells_on source after xs s from to e failures still fields (record_frame block r) few held
    (ap (λ (b : List ℕ). record_frame b r) (same_block ∙ sym same_bytes) ∙ frame ∙ ap (λ (b : List ℕ). frame_at p fields (slice_range b from to)) same_bytes)
    (place ∙ ap (after_frame p) stamped) (left ∙ ap (λ (n : ℕ). prepend_known (slice_range xs n e) source) to_is) count tells_same

-- ---- frames one after another

gives_more : (a b c : Reading) (fs : List Frame) (f : Frame) → GivesFrames a fs b → Advances (λ item. item) b c (Ok (items.Frame f)) → GivesFrames a (fs ++ f ∷ []) c
gives_more a b c [] f given next = (c, subst (λ (r : Reading). Advances (λ item. item) r c (Ok (items.Frame f))) (sym given) next, refl)
gives_more a b c (g ∷ fs) f (mid, first, given) next = (mid, first, gives_more mid b c fs f given next)

pub adds_none : (a : Reading) (b : BatchState) → AddsFrames a a b b
adds_none a b = record { more = []; frames = sym (append-nil (batch_frames b)); gives = refl }

pub adds_more : (a b c : Reading) (x y z : BatchState) → AddsFrames a b x y → AddsFrame b c y z → AddsFrames a c x z
adds_more a b c x y z first next =
    let f = record_frame y.block next.added in
    record {
      more = first.more ++ f ∷ [];
      frames = ap batch_frames next.batch ∙ map-append (record_frame y.block) y.left (next.added ∷ []) ∙ ap (λ (l : List Frame). l ++ f ∷ []) first.frames
          ∙ append_assoc (batch_frames x) first.more (f ∷ []);
      gives = gives_more a b c first.more f first.gives next.gives;
    }

-- the first frame alone
pub gives_one : (a b : Reading) (block : List ℕ) (first : FrameRecord) (new : BatchState) → new ≡ record { block = block; left = first ∷ [] }
    → Advances (λ item. item) a b (Ok (items.Frame (record_frame block first))) → GivesFrames a (batch_frames new) b
gives_one a b block first new is one = subst (λ (l : List Frame). GivesFrames a l b) (sym (ap batch_frames is)) (b, one, refl)

-- the first frame, and those after it
pub gives_all : (a b c : Reading) (block : List ℕ) (first : FrameRecord) (old new : BatchState) → old ≡ record { block = block; left = first ∷ [] }
    → Advances (λ item. item) a b (Ok (items.Frame (record_frame block first))) → AddsFrames b c old new → GivesFrames a (batch_frames new) c
gives_all a b c block first old new is one adds =
    subst (λ (l : List Frame). GivesFrames a l c) (sym (adds.frames ∙ ap (λ (x : BatchState). batch_frames x ++ adds.more) is)) (b, one, adds.gives)
