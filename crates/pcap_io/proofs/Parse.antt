-- Each list of bytes has one parse, and only one, and a reader's calls give it.
use Rattle.std.specs.Prelude.{◌≡◌, ◌≢◌, ℕ, zero, suc, ◌+◌, ◌-◌, ◌<◌, ◌≤◌, max, List, [], ◌∷◌, ◌++◌, length, take, drop, flat_map, Option, Some, None, IfSome}
use Rattle.std.proofs.Common.{refl, sym, ap, ◌∙◌, subst, arith, add-zero, inl, inr, ◌⊎◌, lit<}
use Rattle.std.proofs.lemmas.Bool.{cases_lt, ltb-false, eqb-false}
use Rattle.std.proofs.lemmas.List.{append_assoc, append_cancel_left, length-append, take_at, drop_at, take-append-drop, length-take-le, length-drop, length-take, get_or-take, get_or_past}
use Rattle.afdx_frame.specs.Frame.{Frame}
use Rattle.pcap_io.specs.Bytes.{IsBytes}
use Rattle.pcap_io.specs.Recording.{Packet, IsGood, Parses, packet_bytes, stamp_of, high_after, frames_of, frame_of, header_fields, is_file_header, ending_after, ending_at, header_bytes}
use Rattle.pcap_io.proofs.PacketBytes.{good_goes_on, header-packet_bytes, header_with, length-packet_bytes, fractions_fit, fine_from_none, IsFine, header_bytes_read_back, number_fits, none_of, IsBytes-drop}
use Rattle.pcap_io.specs.Position.{Holds, IsNext, Reads, TakesFrame, after_frame, after_item, ending_here}
use Rattle.pcap_io.specs.declared.layout.Layout.{Layout}
use Rattle.pcap_io.specs.declared.packet_header.PacketHeader.{PacketHeader}
use Rattle.pcap_io.specs.declared.recording.BadReason.{BadReason}
use Rattle.pcap_io.specs.declared.recording.Ending.{Ending}
use Rattle.pcap_io.specs.declared.position.Position.{Position}
use Rattle.pcap_io.specs.declared.item.Item.TheVariants as items
use Rattle.pcap_io.specs.declared.told.Told.{Told}

-- ---- one more packet before the others

pub parses_end : (l : Layout) (most late : ℕ) (told : Told) (n high : ℕ) (bytes : List ℕ) (e : Ending) → n ≤ most → ending_at l most late told n high bytes ≡ Some e
    → Parses l most late told n high bytes [] bytes e
parses_end l most late told n high bytes e few ends = record { complete = refl; good = tt; bounded = omega arith; ends = rw add-zero ends }

pub parses_more : (l : Layout) (most late : ℕ) (told : Told) (n high : ℕ) (r : Packet) (bytes : List ℕ) (rs : List Packet) (rest : List ℕ) (e : Ending) → IsGood l late high r
    → Parses l most late told (n + 1) (max high (stamp_of l r)) bytes rs rest e → Parses l most late told n high (packet_bytes l r ++ bytes) (r ∷ rs) rest e
parses_more l most late told n high r bytes rs rest e good s = record {
  complete = ap (λ (b : List ℕ). packet_bytes l r ++ b) s.complete ∙ sym (append_assoc (packet_bytes l r) (flat_map (packet_bytes l) rs) rest);
  good = (good, s.good);
  bounded = omega (arith, s.bounded);
  ends = subst (λ (m : ℕ). ending_at l most late told m (high_after l (max high (stamp_of l r)) rs) rest ≡ Some e) (omega arith) s.ends;
}

-- ---- only one parse

abbrev packet_with : ℕ → ℕ → ℕ → List ℕ → Packet
packet_with s f w b = record { seconds = s; fraction = f; original_len = w; bytes = b }

same_packet : (s f w s' f' w' : ℕ) (b b' : List ℕ) → s ≡ s' → f ≡ f' → w ≡ w' → b ≡ b' → packet_with s f w b ≡ packet_with s' f' w' b'
same_packet s f w s' f' w' b b' p q r t =
    ap (λ (x : ℕ). packet_with x f w b) p ∙ ap (λ (x : ℕ). packet_with s' x w b) q ∙ ap (λ (x : ℕ). packet_with s' f' x b) r ∙ ap (λ (x : List ℕ). packet_with s' f' w' x) t

-- no good packet's text begins another's
pub same_front : (l : Layout) (late high : ℕ) (r s : Packet) (x y : List ℕ) → IsGood l late high r → IsGood l late high s
    → packet_bytes l r ++ x ≡ packet_bytes l s ++ y → (r ≡ s) × (x ≡ y)
same_front l late high r s x y good fine e =
    let a = header-packet_bytes l r x good.seconds_fit (fractions_fit l.precision r.fraction good.within_second) (omega (arith, good.few_bytes)) good.original_len_fits in
    let b = header-packet_bytes l s y fine.seconds_fit (fractions_fit l.precision s.fraction fine.within_second) (omega (arith, fine.few_bytes)) fine.original_len_fits in
    let heads : header_with r.seconds r.fraction (length r.bytes) r.original_len ≡ header_with s.seconds s.fraction (length s.bytes) s.original_len =
    sym a ∙ ap (λ (t : List ℕ). header_fields l (take 16 t)) e ∙ b in
    let seconds : r.seconds ≡ s.seconds = ap (λ (h : PacketHeader). h.seconds) heads in
    let fraction : r.fraction ≡ s.fraction = ap (λ (h : PacketHeader). h.fraction) heads in
    let size : length r.bytes ≡ length s.bytes = ap (λ (h : PacketHeader). h.captured_len) heads in
    let wire : r.original_len ≡ s.original_len = ap (λ (h : PacketHeader). h.original_len) heads in
    let text : header_bytes l r.seconds r.fraction (length r.bytes) r.original_len ≡ header_bytes l s.seconds s.fraction (length s.bytes) s.original_len =
    ap (λ (h : PacketHeader). header_bytes l h.seconds h.fraction h.captured_len h.original_len) heads in
    let bodies : r.bytes ++ x ≡ s.bytes ++ y =
    append_cancel_left (header_bytes l s.seconds s.fraction (length s.bytes) s.original_len) (r.bytes ++ x) (s.bytes ++ y)
    (ap (λ (t : List ℕ). t ++ (r.bytes ++ x)) (sym text) ∙ sym (append_assoc _ r.bytes x) ∙ e ∙ append_assoc _ s.bytes y) in
    let body : r.bytes ≡ s.bytes = sym (take_at r.bytes x (length r.bytes) refl) ∙ ap (take (length r.bytes)) bodies ∙ take_at s.bytes y (length r.bytes) (sym size) in
    let behind : x ≡ y = sym (drop_at r.bytes x (length r.bytes) refl) ∙ ap (drop (length r.bytes)) bodies ∙ drop_at s.bytes y (length r.bytes) (sym size) in
    (same_packet _ _ _ _ _ _ _ _ seconds fraction wire body, behind)

-- the same packets, the same rest and the same ending
pub record IsSame (rs ss : List Packet) (rest other : List ℕ) (e f : Ending) : Type 0 where
  pub same_packets : rs ≡ ss
  pub same_rest : rest ≡ other
  pub same_ending : e ≡ f

some_same : {A : Type 0} (x y : A) → Some x ≡ Some y → x ≡ y
some_same x y e = cc

none_some : {A : Type 0} (o : Option A) (x : A) → o ≡ None → o ≡ Some x → ⊥
none_some o x p q = cc

-- the parse after the first packet
pub tail_parse : (l : Layout) (most late : ℕ) (told : Told) (n high : ℕ) (bytes : List ℕ) (r : Packet) (rs : List Packet) (rest : List ℕ) (e : Ending)
    → Parses l most late told n high bytes (r ∷ rs) rest e → Parses l most late told (n + 1) (max high (stamp_of l r)) (flat_map (packet_bytes l) rs ++ rest) rs rest e
tail_parse l most late told n high bytes r rs rest e s = record {
  complete = refl;
  good = s.good.1;
  bounded = omega (arith, s.bounded);
  ends = subst (λ (m : ℕ). ending_at l most late told m (high_after l (max high (stamp_of l r)) rs) rest ≡ Some e) (omega arith) s.ends;
}

pub same_parse : (l : Layout) (most late : ℕ) (told : Told) (n high : ℕ) (bytes : List ℕ) (rs ss : List Packet) (rest other : List ℕ) (e f : Ending)
    → Parses l most late told n high bytes rs rest e → Parses l most late told n high bytes ss other f → IsSame rs ss rest other e f
same_parse l most late told n high bytes [] [] rest other e f s t =
    let same : rest ≡ other = sym s.complete ∙ t.complete in
    record { same_packets = refl; same_rest = same; same_ending = some_same e f (sym s.ends ∙ ap (λ (x : List ℕ). ending_at l most late told (n + 0) high x) same ∙ t.ends) }
same_parse l most late told n high bytes [] (q ∷ ss) rest other e f s t =
    let text : rest ≡ packet_bytes l q ++ (flat_map (packet_bytes l) ss ++ other) = sym s.complete ∙ t.complete ∙ append_assoc (packet_bytes l q) (flat_map (packet_bytes l) ss) other in
    let goes = good_goes_on l most late told (n + 0) high q (flat_map (packet_bytes l) ss ++ other) t.good.0 (omega (arith, t.bounded)) in
    absurd (none_some _ e (ap (ending_at l most late told (n + 0) high) text ∙ goes) s.ends)
same_parse l most late told n high bytes (r ∷ rs) [] rest other e f s t =
    let text : other ≡ packet_bytes l r ++ (flat_map (packet_bytes l) rs ++ rest) = sym t.complete ∙ s.complete ∙ append_assoc (packet_bytes l r) (flat_map (packet_bytes l) rs) rest in
    let goes = good_goes_on l most late told (n + 0) high r (flat_map (packet_bytes l) rs ++ rest) s.good.0 (omega (arith, s.bounded)) in
    absurd (none_some _ f (ap (ending_at l most late told (n + 0) high) text ∙ goes) t.ends)
same_parse l most late told n high bytes (r ∷ rs) (q ∷ ss) rest other e f s t =
    let first = same_front l late high r q (flat_map (packet_bytes l) rs ++ rest) (flat_map (packet_bytes l) ss ++ other) s.good.0 t.good.0
    (sym (append_assoc (packet_bytes l r) (flat_map (packet_bytes l) rs) rest) ∙ sym s.complete ∙ t.complete ∙ append_assoc (packet_bytes l q) (flat_map (packet_bytes l) ss) other) in
    let left : Parses l most late told (n + 1) (max high (stamp_of l r)) (flat_map (packet_bytes l) rs ++ rest) rs rest e = tail_parse l most late told n high bytes r rs rest e s in
    let right : Parses l most late told (n + 1) (max high (stamp_of l q)) (flat_map (packet_bytes l) ss ++ other) ss other f = tail_parse l most late told n high bytes q ss other f t in
    let moved : Parses l most late told (n + 1) (max high (stamp_of l r)) (flat_map (packet_bytes l) rs ++ rest) ss other f =
    subst (λ (x : List ℕ). Parses l most late told (n + 1) (max high (stamp_of l r)) x ss other f) (sym first.1)
    (subst (λ (x : Packet). Parses l most late told (n + 1) (max high (stamp_of l x)) (flat_map (packet_bytes l) ss ++ other) ss other f) (sym first.0) right) in
    let more = same_parse l most late told (n + 1) (max high (stamp_of l r)) (flat_map (packet_bytes l) rs ++ rest) rs ss rest other e f left moved in
    record { same_packets = ap (λ (x : Packet). x ∷ rs) first.0 ∙ ap (λ (xs : List Packet). q ∷ xs) more.same_packets; same_rest = more.same_rest; same_ending = more.same_ending }

-- ---- some parse

-- where nothing ends, a good packet stands
pub record StandsGood (l : Layout) (most late n high : ℕ) (bytes : List ℕ) : Type 0 where
  pub first : Packet
  pub more : List ℕ
  pub good : IsGood l late high first
  pub few : n ≢ most
  pub same : bytes ≡ packet_bytes l first ++ more

none_behind : (n : ℕ) (head : PacketHeader) (left : ℕ) (o : Option BadReason) → ending_after n head left o ≡ None → (o ≡ None) × (head.captured_len ≤ left)
none_behind n head left (Some reason) e = cc
none_behind n head left None e = (refl, ltb-false left head.captured_len (none_of _ _ _ e).0)

pub IsBytes-take : (n : ℕ) (bytes : List ℕ) → IsBytes bytes → IsBytes (take n bytes)
IsBytes-take n bytes fits i = elim (cases_lt i n) [
  | inl below ↦ subst (λ (x : ℕ). x < 256) (sym (get_or-take n bytes i 0 below)) (fits i)
  | inr past ↦ subst (λ (x : ℕ). x < 256) (sym (get_or_past (take n bytes) i 0 (omega (arith, length-take n bytes)))) (lit< tt)
]

-- the state where nothing ends
record Standing (l : Layout) (most late n high : ℕ) (bytes : List ℕ) : Type 0 where
  enough : 16 ≤ length bytes
  few : n ≢ most
  fine : IsFine l late high (header_fields l (take 16 bytes))
  whole : (header_fields l (take 16 bytes)).captured_len ≤ length bytes - 16

standing : (l : Layout) (most late : ℕ) (told : Told) (n high : ℕ) (bytes : List ℕ) → ending_at l most late told n high bytes ≡ None → Standing l most late n high bytes
standing l most late told n high bytes e =
    let some = none_of _ _ _ e in
    let other = none_of _ _ _ some.1 in
    let long = none_of _ _ _ other.1 in
    let behind = none_behind n (header_fields l (take 16 bytes)) (length bytes - 16) _ long.1 in
    record {
      enough = ltb-false (length bytes) 16 long.0;
      few = eqb-false n most other.0;
      fine = fine_from_none l late high (header_fields l (take 16 bytes)) behind.0;
      whole = behind.1;
    }

pub goes_on : (l : Layout) (most late : ℕ) (told : Told) (n high : ℕ) (bytes : List ℕ) → IsBytes bytes → ending_at l most late told n high bytes ≡ None → StandsGood l most late n high bytes
goes_on l most late told n high bytes fits e =
    let stands = standing l most late told n high bytes e in
    let head : List ℕ = take 16 bytes in
    let fields : PacketHeader = header_fields l head in
    let size : length head ≡ 16 = length-take-le 16 bytes stands.enough in
    let head_fits : IsBytes head = IsBytes-take 16 bytes fits in
    let rest : List ℕ = drop 16 bytes in
    let body : List ℕ = take fields.captured_len rest in
    let held : length body ≡ fields.captured_len = length-take-le fields.captured_len rest (omega (arith, length-drop 16 bytes, stands.whole)) in
    let text : header_bytes l fields.seconds fields.fraction (length body) fields.original_len ≡ head =
    ap (λ (h : ℕ). header_bytes l fields.seconds fields.fraction h fields.original_len) held ∙ header_bytes_read_back l head size head_fits in
    record {
      first = record { seconds = fields.seconds; fraction = fields.fraction; original_len = fields.original_len; bytes = body };
      more = drop fields.captured_len rest;
      good = record {
        few_bytes = omega (arith, held, stands.fine.few);
        seconds_fit = number_fits l.order head head_fits;
        original_len_fits = number_fits l.order (drop 12 head) (IsBytes-drop 12 head head_fits);
        within_second = stands.fine.within;
        no_file_header = ap (λ (n : ℕ). is_file_header (header_with fields.seconds fields.fraction n fields.original_len)) held ∙ stands.fine.no_file_header;
        in_time = stands.fine.in_time;
      };
      few = stands.few;
      same =
          sym (take-append-drop 16 bytes) ∙ ap (λ (x : List ℕ). x ++ rest) (sym text)
          ∙ ap (λ (x : List ℕ). header_bytes l fields.seconds fields.fraction (length body) fields.original_len ++ x) (sym (take-append-drop fields.captured_len rest))
          ∙ sym (append_assoc (header_bytes l fields.seconds fields.fraction (length body) fields.original_len) body (drop fields.captured_len rest));
    }

-- a parse
abbrev pub HasParse : Layout → ℕ → ℕ → Told → ℕ → ℕ → List ℕ → Type 0
HasParse l most late told n high bytes = (packets : List Packet) × (rest : List ℕ) × (ending : Ending) × Parses l most late told n high bytes packets rest ending

option_cases : {A : Type 0} (o : Option A) → ((x : A) × (o ≡ Some x)) ⊎ (o ≡ None)
option_cases None = inr refl
option_cases (Some x) = inl (x, refl)

shorter : (l : Layout) (most late n high fuel : ℕ) (bytes : List ℕ) (g : StandsGood l most late n high bytes) → length bytes ≤ fuel → length g.more + 16 ≤ fuel
shorter l most late n high fuel bytes g short =
    omega (arith, ap length g.same, length-append (packet_bytes l g.first) g.more, length-packet_bytes l g.first)

more_fit : (l : Layout) (most late n high : ℕ) (bytes : List ℕ) (g : StandsGood l most late n high bytes) → IsBytes bytes → IsBytes g.more
more_fit l most late n high bytes g fits =
    let behind : drop (length (packet_bytes l g.first)) bytes ≡ g.more = ap (drop (length (packet_bytes l g.first))) g.same ∙ drop_at (packet_bytes l g.first) g.more (length (packet_bytes l g.first)) refl in
    subst IsBytes behind (IsBytes-drop (length (packet_bytes l g.first)) bytes fits)

pub some_parse : (fuel : ℕ) (l : Layout) (most late : ℕ) (told : Told) (n high : ℕ) (bytes : List ℕ) → length bytes ≤ fuel → IsBytes bytes → n ≤ most → HasParse l most late told n high bytes
some_parse zero l most late told n high bytes short fits within = elim (option_cases (ending_at l most late told n high bytes)) [
  | inl found ↦ ([], bytes, found.0, parses_end l most late told n high bytes found.0 within found.1)
  | inr none ↦ let g = goes_on l most late told n high bytes fits none in absurd (omega (arith, shorter l most late n high 0 bytes g short))
]
some_parse (suc fuel) l most late told n high bytes short fits within = elim (option_cases (ending_at l most late told n high bytes)) [
  | inl found ↦ ([], bytes, found.0, parses_end l most late told n high bytes found.0 within found.1)
  | inr none ↦
      let g = goes_on l most late told n high bytes fits none in
      let size = shorter l most late n high (suc fuel) bytes g short in
      let next = some_parse fuel l most late told (n + 1) (max high (stamp_of l g.first)) g.more (omega (arith, size)) (more_fit l most late n high bytes g fits) (omega (arith, g.few)) in (
        g.first ∷ next.0,
        next.1,
        next.2,
        subst (λ (x : List ℕ). Parses l most late told n high x (g.first ∷ next.0) next.1 next.2) (sym g.same)
            (parses_more l most late told n high g.first g.more next.0 next.1 next.2 g.good next.3),
      )
]

-- ---- a reader's calls

pub holds_end : (p : Position) (told : Told) (bytes : List ℕ) (e : Ending) → p.count ≤ p.most → ending_here p told bytes ≡ Some e → Holds p told bytes [] e
holds_end p told bytes e within ends = record {
  packets = [];
  rest = bytes;
  parse = parses_end p.layout p.most p.late told p.count p.high bytes e within ends;
  same = refl;
}

-- a frame that was read comes before those that follow it
pub holds_more : (p : Position) (told : Told) (bytes more : List ℕ) (f : Frame) (fs : List Frame) (e : Ending) → TakesFrame p (Some bytes) (Some more) f
    → Holds (after_item p (items.Frame f)) told more fs e → Holds p told bytes (f ∷ fs) e
holds_more p told bytes more f fs e t h =
    let l = p.layout in
    let stamp : f.stamp ≡ stamp_of l t.taken = ap (λ (x : Frame). x.stamp) t.same in
    let parse : Parses l p.most p.late told (p.count + 1) (max p.high (stamp_of l t.taken)) more h.packets h.rest e =
    subst (λ (x : ℕ). Parses l p.most p.late told (p.count + 1) (max p.high x) more h.packets h.rest e) stamp h.parse in
    record {
      packets = t.taken ∷ h.packets;
      rest = h.rest;
      parse = subst (λ (x : List ℕ). Parses l p.most p.late told p.count p.high x (t.taken ∷ h.packets) h.rest e) (sym t.gone)
          (parses_more l p.most p.late told p.count p.high t.taken more h.packets h.rest e t.good parse);
      same = ap (λ (x : Frame). x ∷ fs) t.same ∙ ap (λ (xs : List Frame). frame_of p.network l p.count t.taken ∷ xs) h.same;
    }

-- no others are held
pub one_holds : (p : Position) (told : Told) (bytes : List ℕ) (fs gs : List Frame) (e d : Ending) → Holds p told bytes fs e → Holds p told bytes gs d → (fs ≡ gs) × (e ≡ d)
one_holds p told bytes fs gs e d h k =
    let one = same_parse p.layout p.most p.late told p.count p.high bytes h.packets k.packets h.rest k.rest e d h.parse k.parse in
    (h.same ∙ ap (frames_of p.network p.layout p.count) one.same_packets ∙ sym k.same, one.same_ending)

-- after the first frame the others are held
pub tail_holds : (p : Position) (told : Told) (bytes more : List ℕ) (f : Frame) (all : List Frame) (e : Ending) (rs : List Packet) (rest : List ℕ) → TakesFrame p (Some bytes) (Some more) f
    → Parses p.layout p.most p.late told p.count p.high bytes rs rest e → all ≡ frames_of p.network p.layout p.count rs
    → (others : List Frame) × (all ≡ f ∷ others) × Holds (after_frame p f.stamp) told more others e
tail_holds p told bytes more f all e [] rest t s same =
    let l = p.layout in
    let text : rest ≡ packet_bytes l t.taken ++ more = sym s.complete ∙ t.gone in
    let goes = good_goes_on l p.most p.late told (p.count + 0) p.high t.taken more t.good (omega (arith, t.bounded)) in
    absurd (none_some _ e (ap (ending_at l p.most p.late told (p.count + 0) p.high) text ∙ goes) s.ends)
tail_holds p told bytes more f all e (r ∷ rs) rest t s same =
    let l = p.layout in
    let behind : List ℕ = flat_map (packet_bytes l) rs ++ rest in
    let first = same_front l p.late p.high r t.taken behind more s.good.0 t.good (sym (append_assoc (packet_bytes l r) (flat_map (packet_bytes l) rs) rest) ∙ sym s.complete ∙ t.gone) in
    let frame : frame_of p.network l p.count r ≡ f = ap (frame_of p.network l p.count) first.0 ∙ sym t.same in
    let stamp : stamp_of l r ≡ f.stamp = ap (λ (x : Frame). x.stamp) frame in
    let tail : Parses l p.most p.late told (p.count + 1) (max p.high (stamp_of l r)) behind rs rest e = tail_parse l p.most p.late told p.count p.high bytes r rs rest e s in
    let moved : Parses l p.most p.late told (p.count + 1) (max p.high f.stamp) more rs rest e =
    subst (λ (x : ℕ). Parses l p.most p.late told (p.count + 1) (max p.high x) more rs rest e) stamp
    (subst (λ (b : List ℕ). Parses l p.most p.late told (p.count + 1) (max p.high (stamp_of l r)) b rs rest e) first.1 tail) in (
      frames_of p.network l (p.count + 1) rs,
      same ∙ ap (λ (x : Frame). x ∷ frames_of p.network l (p.count + 1) rs) frame,
      record { packets = rs; rest = rest; parse = moved; same = refl },
    )

-- calls up to an ending
pub reads_to_end : (p q : Position) (told : Told) (bytes : List ℕ) (left after : Option (List ℕ)) (frames : List Frame) (e : Ending) → p.count ≤ p.most
    → Reads p (Some bytes) frames q left → IsNext q told left after (items.End e) → Holds p told bytes frames e
reads_to_end p q told bytes left after [] e within (here, all) next =
    let stands : IsNext p told left after (items.End e) = subst (λ (x : Position). IsNext x told left after (items.End e)) (sym here) next in
    let found : IsNext p told (Some bytes) after (items.End e) = subst (λ (x : Option (List ℕ)). IsNext p told x after (items.End e)) (sym all) stands in
    holds_end p told bytes e within found
reads_to_end p q told bytes left after (f ∷ fs) e within (None, t, more) next = absurd t.gone
reads_to_end p q told bytes left after (f ∷ fs) e within (Some mid, t, more) next =
    holds_more p told bytes mid f fs e t (reads_to_end (after_frame p f.stamp) q told mid left after fs e (omega (arith, t.bounded)) more next)

-- calls that come to no ending
pub reads_prefix : (p q : Position) (told : Told) (bytes : List ℕ) (left : Option (List ℕ)) (frames all : List Frame) (e : Ending) → Reads p (Some bytes) frames q left
    → Holds p told bytes all e → (others : List Frame) × (all ≡ frames ++ others) × IfSome left (λ rest. Holds q told rest others e)
reads_prefix p q told bytes left [] all e (here, same) held =
    let moved : Holds q told bytes all e = subst (λ (x : Position). Holds x told bytes all e) here held in
    (all, refl, subst (λ (x : Option (List ℕ)). IfSome x (λ rest. Holds q told rest all e)) same moved)
reads_prefix p q told bytes left (f ∷ fs) all e (None, t, more) held = absurd t.gone
reads_prefix p q told bytes left (f ∷ fs) all e (Some mid, t, more) held =
    let tail = tail_holds p told bytes mid f all e held.packets held.rest t held.parse held.same in
    let next = reads_prefix (after_frame p f.stamp) q told mid left fs tail.0 e more tail.2 in
    (next.0, tail.1 ∙ ap (λ (x : List Frame). f ∷ x) next.1, next.2)

-- one more call that gave a frame
pub reads_more : (p q : Position) (before mid after : Option (List ℕ)) (frames : List Frame) (f : Frame) → Reads p before frames q mid → TakesFrame q mid after f
    → Reads p before (frames ++ f ∷ []) (after_frame q f.stamp) after
reads_more p q before mid after [] f (here, same) t =
    let moved : TakesFrame p before after f =
    subst (λ (x : Position). TakesFrame x before after f) (sym here) (subst (λ (x : Option (List ℕ)). TakesFrame q x after f) (sym same) t) in
    (after, moved, (ap (λ (x : Position). after_frame x f.stamp) here, refl))
reads_more p q before mid after (g ∷ gs) f (next, u, more) t = (next, u, reads_more (after_frame p g.stamp) q next mid after gs f more t)
