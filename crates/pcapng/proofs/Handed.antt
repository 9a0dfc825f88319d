-- The effect of steps on what is given.
use Rattle.std.proofs.Common.{◌≡◌, ℕ, ◌+◌, ◌-◌, ◌<◌, ◌≤◌, min, Bool, true, false, List, [], ◌∷◌, ◌++◌, length, take, drop, slice_range, nat_lt, nat_eq, Option, Some, None, Result, Ok, Err, IsErr, IfOk, IfSome, ◌⊎◌, inl, inr, refl, sym, ap, ◌∙◌, subst, arith, append_assoc}
use Rattle.std.proofs.KnownBytes.{Consumes-trans}
use Rattle.std.proofs.lemmas.Bool.{cases_lt, eqb-true, le-ltb}
use Rattle.std.proofs.lemmas.List.{length-append, take_at, drop_at, drop_all, take_all, take-append-drop}
use Rattle.std.specs.Io.KnownBytes.{Consumes, IsAtEnd, Keeps, ReadConsumes, prepend_known}
use Rattle.byteorder.specs.Endian.{big_number}
use borrow.Rule.Slice.PartMut.{put_mid}
use Rattle.pcap_io.specs.Bytes.{IsBytes, are_bytes, bytes_of, known_bytes}
use Rattle.pcap_io.specs.Told.{StaysTold}
use Rattle.pcapng.proofs.GivenBytes.{given_of-known}
use Rattle.pcap_io.specs.declared.layout.ByteOrder.TheVariants.{Little}
use Rattle.pcap_io.specs.declared.device.DeviceFault.{DeviceFault}
use Rattle.pcap_io.proofs.Bytes.{known_bytes-consumed, known_bytes-end, known_bytes-kept}
use Rattle.pcap_io.proofs.Draws.{split, length-between, keeps_more}
use Rattle.pcap_io.proofs.Transfers.{take-read}
use Rattle.pcapng.specs.File.{pcap_of}
use Rattle.pcapng.specs.Given.{Given, followed, plain}
use Rattle.pcapng.specs.Handed.{KeepsGiven, bytes_in, given_as, given_from, given_of, handed, handed_known, known_at, pending_of, rest_at, told_in, unread_of}
use Rattle.pcap_io.specs.declared.told.Told.{Told}
use Rattle.pcap_io.specs.declared.told.Told.TheVariants as tolds
use Rattle.pcapng.specs.Section.{Known, known_of, unknown}
use Rattle.pcapng.specs.declared.choice.Choice.{Choice}
use Rattle.pcapng.specs.declared.section.Section.{Section}
use Rattle.pcapng.specs.declared.converter.Converter.{Converter}
use Rattle.pcapng.specs.declared.converter.Reached.{Reached}
use Rattle.pcapng.specs.declared.converter.Reached.TheVariants as stages

which : (b : Bool) → (b ≡ true) ⊎ (b ≡ false)
which true = inl refl
which false = inr refl

pub none_first : (xs ys : List ℕ) → xs ++ ys ≡ [] → xs ≡ []
none_first [] ys e = refl
none_first (x ∷ xs) ys e = cc

keeps_equal : (x y : Given) → y ≡ x → KeepsGiven (Some x) (Some y)
keeps_equal x y e = (ap (λ (g : Given). g.bytes) e, ap (λ (g : Given). g.told) e)

-- the next bytes stay, and the knowledge, and the unread bytes with those of the source
pub keeps_at : (p q : List ℕ) (st to : Reached) (k m : Known) (u v : List ℕ) (r s : Option (List ℕ)) → q ≡ p → to ≡ st → m ≡ k
    → Keeps (prepend_known u r) (prepend_known v s) → KeepsGiven (known_at p st k u r) (known_at q to m v s)
keeps_at p q st to k m u v None s e t f h = (tt, tt)
keeps_at p q st to k m u v (Some x) None e t f h = absurd h
keeps_at p q st to k m u v (Some x) (Some y) e t f h =
    keeps_equal (followed p (rest_at st k (u ++ x))) (followed q (rest_at to m (v ++ y)))
    (ap (λ (l : List ℕ). followed l (rest_at to m (v ++ y))) e
    ∙ (ap (λ (a : Reached). followed p (rest_at a m (v ++ y))) t
    ∙ (ap (λ (n : Known). followed p (rest_at st n (v ++ y))) f ∙ ap (λ (l : List ℕ). followed p (rest_at st k l)) h)))

pub gives_known : (c d : Converter) (front : List ℕ) (r : Option (List ℕ)) → pending_of c ≡ front ++ pending_of d → d.stage ≡ c.stage
    → unread_of d ≡ unread_of c → d.section ≡ c.section → Consumes (bytes_in (handed_known c r)) (bytes_in (handed_known d r)) front × StaysTold (bytes_in (handed_known c r)) (told_in (handed_known c r)) (told_in (handed_known d r))
gives_known c d front None p t u f = (tt, tt)
gives_known c d front (Some x) p t u f =
    let same : rest_at d.stage (known_of d.section) (unread_of d ++ x) ≡ rest_at c.stage (known_of c.section) (unread_of c ++ x) =
    ap (λ (st : Reached). rest_at st (known_of d.section) (unread_of d ++ x)) t
    ∙ (ap (λ (s : Section). rest_at c.stage (known_of s) (unread_of d ++ x)) f ∙ ap (λ (l : List ℕ). rest_at c.stage (known_of c.section) (l ++ x)) u) in
    let rest = (rest_at c.stage (known_of c.section) (unread_of c ++ x)).bytes in (
      ap (λ (l : List ℕ). l ++ rest) p ∙ (append_assoc front (pending_of d) rest ∙ ap (λ (g : Given). front ++ (pending_of d ++ g.bytes)) (sym same)),
      ap (λ (g : Given). g.told) same,
    )

-- the given bytes stay, for a source that stays
pub hands_known : (c d : Converter) (r : Option (List ℕ)) → ((left : List ℕ) → handed d left ≡ handed c left) → KeepsGiven (handed_known c r) (handed_known d r)
hands_known c d None h = (tt, tt)
hands_known c d (Some x) h = keeps_equal (handed c x) (handed d x) (h x)

-- where nothing is left of what is given next, it is what the rest stands for
pub at_stage : (c : Converter) (st : Reached) (left : List ℕ) → c.stage ≡ st → pending_of c ≡ []
    → handed c left ≡ rest_at st (known_of c.section) (unread_of c ++ left)
at_stage c st left t p =
    ap (λ (l : List ℕ). followed l (rest_at c.stage (known_of c.section) (unread_of c ++ left))) p
    ∙ ap (λ (s : Reached). rest_at s (known_of c.section) (unread_of c ++ left)) t

-- ---- the first four bytes

-- four unread bytes are the first four
pub first_four : (k : Known) (items left : List ℕ) (s e : ℕ) → s + 4 ≤ e → e ≤ length items
    → given_from k (slice_range items s e ++ left) ≡ given_as (big_number 4 (slice_range items s (s + 4))) k (slice_range items s e ++ left)
first_four k items left s e four within =
    let a = slice_range items s (s + 4) in
    let b = slice_range items (s + 4) e in
    let whole : slice_range items s e ++ left ≡ a ++ (b ++ left) = ap (λ (l : List ℕ). l ++ left) (split s 4 e items four within) ∙ append_assoc a b left in
    let size : length a ≡ 4 = omega (arith, length-between s (s + 4) items (omega arith)) in
    let front : take 4 (slice_range items s e ++ left) ≡ a = ap (take 4) whole ∙ take_at a (b ++ left) 4 size in
    let long : nat_lt (length (slice_range items s e ++ left)) 4 ≡ false =
    le-ltb (length (slice_range items s e ++ left)) 4 (omega (arith, length-append (slice_range items s e) left, length-between s e items within)) in
    rw (long, front) refl

-- ---- reads

pub from_start : (e : ℕ) (xs : List ℕ) → slice_range xs 0 e ≡ take e xs
from_start e xs =
    let all : e - 0 ≡ e = omega arith in
    ap (λ (m : ℕ). take m (drop 0 xs)) all

pub read_more : (r : Result ℕ DeviceFault) (a b : Option (List ℕ)) (end k : ℕ) (block got : List ℕ) → end ≤ length block → IfOk r (λ n. n ≤ length got)
    → ReadConsumes a b r got
    → IfOk r (λ n. Keeps (prepend_known (slice_range block 0 end) a) (prepend_known (slice_range (put_mid end k block got) 0 (end + n)) b))
read_more (Ok n) a b end k block got within fits read =
    keeps_more a b _ _ (take n got)
    (from_start (end + n) (put_mid end k block got) ∙ (take-read end n k block got within fits ∙ ap (λ (l : List ℕ). l ++ take n got) (sym (from_start end block))))
    read.0
read_more (Err x) a b end k block got within fits read = tt

pub keeps_prepend : (a b : Option (List ℕ)) (xs ys : List ℕ) → ys ≡ xs → Keeps a b → Keeps (prepend_known xs a) (prepend_known ys b)
keeps_prepend None b xs ys e h = tt
keeps_prepend (Some x) None xs ys e h = absurd h
keeps_prepend (Some x) (Some y) xs ys e h = ap (λ (l : List ℕ). l ++ y) e ∙ ap (λ (l : List ℕ). xs ++ l) h

-- nothing is left of a header and of other bytes
pub none_given : (hs bs items : List ℕ) → hs ++ bs ≡ [] → hs ++ slice_range items 0 0 ≡ []
none_given hs bs items e = ap (λ (l : List ℕ). l ++ []) (none_first hs bs e)

-- a recording that is handed on, of which nothing is read ahead
untouched : (c : Converter) (r : Option (List ℕ)) → pending_of c ≡ [] → unread_of c ≡ [] → c.stage ≡ stages.Untouched → bytes_in (handed_known c r) ≡ r
untouched c None p u t = refl
untouched c (Some x) p u t = ap Some (ap (λ (g : Given). g.bytes) (at_stage c stages.Untouched x t p) ∙ ap (λ (l : List ℕ). l ++ x) u)

-- of which nothing is told
pub untold : (c : Converter) (r : Option (List ℕ)) → c.stage ≡ stages.Untouched → told_in (handed_known c r) ≡ tolds.Nothing
untold c None t = refl
untold c (Some x) t = ap (λ (s : Reached). (rest_at s (known_of c.section) (unread_of c ++ x)).told) t

pub passes : (c : Converter) (a b : Option (List ℕ)) (n : ℕ) (buf : List ℕ) → pending_of c ≡ [] → unread_of c ≡ [] → c.stage ≡ stages.Untouched
    → Consumes a b (take n buf) × (n ≡ 0 → 0 < length buf → IsAtEnd b)
    → Consumes (known_bytes (bytes_in (handed_known c a))) (known_bytes (bytes_in (handed_known c b))) (take n buf) × (n ≡ 0 → 0 < length buf → IsAtEnd (known_bytes (bytes_in (handed_known c b))))
passes c a b n buf p u t h =
    let one : bytes_in (handed_known c a) ≡ a = untouched c a p u t in
    let two : bytes_in (handed_known c b) ≡ b = untouched c b p u t in (
      subst (λ (o : Option (List ℕ)). Consumes (known_bytes (bytes_in (handed_known c a))) (known_bytes o) (take n buf)) (sym two)
          (subst (λ (o : Option (List ℕ)). Consumes (known_bytes o) (known_bytes b) (take n buf)) (sym one) (known_bytes-consumed a b (take n buf) h.0)),
      λ none room. subst (λ (o : Option (List ℕ)). IsAtEnd (known_bytes o)) (sym two) (known_bytes-end b (h.1 none room)),
    )

-- ---- all that is given

pub drop_slice : (n s e : ℕ) (xs : List ℕ) → s + n ≤ e → e ≤ length xs → drop n (slice_range xs s e) ≡ slice_range xs (s + n) e
drop_slice n s e xs le within =
    let size : length (slice_range xs s (s + n)) ≡ n = omega (arith, length-between s (s + n) xs (omega arith)) in
    ap (drop n) (split s n e xs le within) ∙ drop_at (slice_range xs s (s + n)) (slice_range xs (s + n) e) n size

-- a header is given first, and then its packet's bytes, as many as there is room for
pub two_given : (h b n : ℕ) (hs bs : List ℕ) → h ≡ min (length hs) n → b ≡ min (length bs) (n - h)
    → hs ++ bs ≡ (take h hs ++ take b bs) ++ (drop h hs ++ drop b bs)
two_given h b n hs bs eh eb = elim (cases_lt n (length hs)) [
  | inl less ↦
      let none : b ≡ 0 = omega (arith, eh, eb, less) in
      rw none (ap (λ (l : List ℕ). l ++ bs) (sym (take-append-drop h hs))
      ∙ (append_assoc (take h hs) (drop h hs) bs ∙ sym (append_assoc (take h hs) [] (drop h hs ++ bs))))
  | inr more ↦
      let all : h ≡ length hs = omega (arith, eh, more) in
      let first : take h hs ≡ hs = take_all h hs (omega (arith, all)) in
      let gone : drop h hs ≡ [] = drop_all h hs (omega (arith, all)) in
      rw (first, gone) (ap (λ (l : List ℕ). hs ++ l) (sym (take-append-drop b bs)) ∙ sym (append_assoc hs (take b bs) (drop b bs)))
]

-- ---- the beginning

-- the number in the first four bytes decides
begun_at : (c : Converter) (left : List ℕ) → c.stage ≡ stages.Start → pending_of c ≡ [] → c.start + 4 ≤ c.end → c.end ≤ length c.block.items
    → handed c left ≡ given_as (big_number 4 (slice_range c.block.items c.start (c.start + 4))) (known_of c.section) (unread_of c ++ left)
begun_at c left t p four within = at_stage c stages.Start left t p ∙ first_four (known_of c.section) c.block.items left c.start c.end four within

pub begins_section : (c : Converter) (left : List ℕ) → c.stage ≡ stages.Start → pending_of c ≡ [] → c.start + 4 ≤ c.end → c.end ≤ length c.block.items
    → big_number 4 (slice_range c.block.items c.start (c.start + 4)) ≡ 0x0a0d0d0a
    → followed (slice_range c.header c.header_from c.header_to ++ slice_range c.block.items 0 0) (pcap_of (known_of c.section) (unread_of c ++ left)) ≡ handed c left
begins_section c left t p four within magic =
    let rest = pcap_of (known_of c.section) (unread_of c ++ left) in
    ap (λ (l : List ℕ). followed l rest) (none_given (slice_range c.header c.header_from c.header_to) (slice_range c.block.items c.body_from c.body_to) c.block.items p)
    ∙ sym (begun_at c left t p four within ∙ ap (λ (m : ℕ). given_as m (known_of c.section) (unread_of c ++ left)) magic)

no_number : (m n : ℕ) → (m ≡ n → ⊥) → nat_eq m n ≡ false
no_number m n differs = elim (which (nat_eq m n)) [
  | inl t ↦ absurd (differs (eqb-true m n t))
  | inr f ↦ f
]

pub begins_plain : (c : Converter) (left : List ℕ) → c.stage ≡ stages.Start → pending_of c ≡ [] → c.start + 4 ≤ c.end → c.end ≤ length c.block.items
    → (big_number 4 (slice_range c.block.items c.start (c.start + 4)) ≡ 0x0a0d0d0a → ⊥)
    → followed (slice_range c.header c.header_from c.header_to ++ slice_range c.block.items 0 0) (plain (unread_of c ++ left)) ≡ handed c left
begins_plain c left t p four within section =
    let m = big_number 4 (slice_range c.block.items c.start (c.start + 4)) in
    let one : nat_eq m 0x0a0d0d0a ≡ false = no_number m 0x0a0d0d0a section in
    let same : given_as m (known_of c.section) (unread_of c ++ left) ≡ plain (unread_of c ++ left) = rw one refl in
    ap (λ (l : List ℕ). followed l (plain (unread_of c ++ left)))
    (none_given (slice_range c.header c.header_from c.header_to) (slice_range c.block.items c.body_from c.body_to) c.block.items p)
    ∙ sym (begun_at c left t p four within ∙ same)

-- ---- a source

pub hands_source : (c d : Converter) (r : Option (List ℕ)) → ((left : List ℕ) → handed d left ≡ handed c left)
    → Keeps (known_bytes (bytes_in (handed_known c r))) (known_bytes (bytes_in (handed_known d r)))
hands_source c d r h = known_bytes-kept (bytes_in (handed_known c r)) (bytes_in (handed_known d r)) (hands_known c d r h).0

pub gives_source : (c d : Converter) (front : List ℕ) (r : Option (List ℕ)) → pending_of c ≡ front ++ pending_of d → d.stage ≡ c.stage
    → unread_of d ≡ unread_of c → d.section ≡ c.section → Consumes (known_bytes (bytes_in (handed_known c r))) (known_bytes (bytes_in (handed_known d r))) front
gives_source c d front r p t u f = known_bytes-consumed (bytes_in (handed_known c r)) (bytes_in (handed_known d r)) front (gives_known c d front r p t u f).0

-- the word stays, where its bytes are all bytes
pub stays_known : (left : Option (List ℕ)) (old new : Told) → StaysTold left old new → StaysTold (known_bytes left) old new
stays_known None old new stays = tt
stays_known (Some xs) old new stays = elim (which (are_bytes xs)) [
  | inl all ↦ rw all stays
  | inr some ↦ rw some tt
]

pub hands_told : (c d : Converter) (r : Option (List ℕ)) → ((left : List ℕ) → handed d left ≡ handed c left)
    → StaysTold (known_bytes (bytes_in (handed_known c r))) (told_in (handed_known c r)) (told_in (handed_known d r))
hands_told c d r h = stays_known (bytes_in (handed_known c r)) _ _ (hands_known c d r h).1

pub gives_told : (c d : Converter) (front : List ℕ) (r : Option (List ℕ)) → pending_of c ≡ front ++ pending_of d → d.stage ≡ c.stage
    → unread_of d ≡ unread_of c → d.section ≡ c.section → StaysTold (known_bytes (bytes_in (handed_known c r))) (told_in (handed_known c r)) (told_in (handed_known d r))
gives_told c d front r p t u f = stays_known (bytes_in (handed_known c r)) _ _ (gives_known c d front r p t u f).1

pub keeps_told : (a b : Option Given) → KeepsGiven a b → StaysTold (known_bytes (bytes_in a)) (told_in a) (told_in b)
keeps_told a b kept = stays_known (bytes_in a) _ _ kept.1

pub keeps_bytes : (a b : Option Given) → KeepsGiven a b → Keeps (known_bytes (bytes_in a)) (known_bytes (bytes_in b))
keeps_bytes a b kept = known_bytes-kept (bytes_in a) (bytes_in b) kept.0

-- of what is handed on nothing is told
pub passes_told : (c : Converter) (a b left : Option (List ℕ)) → c.stage ≡ stages.Untouched → StaysTold left (told_in (handed_known c a)) (told_in (handed_known c b))
passes_told c a b None t = tt
passes_told c a b (Some xs) t = untold c b t ∙ sym (untold c a t)

-- all that is given for the known bytes is known
pub starts_whole : (c : Converter) (choice : Choice) (r : Option (List ℕ)) → IfSome r IsBytes → c.stage ≡ stages.Start → pending_of c ≡ [] → unread_of c ≡ []
    → known_of c.section ≡ unknown choice Little
    → IfSome r (λ bytes. (known_bytes (bytes_in (handed_known c r)) ≡ Some (given_of choice bytes).bytes) × (told_in (handed_known c r) ≡ (given_of choice bytes).told))
starts_whole c choice None fits t p u k = tt
starts_whole c choice (Some x) fits t p u k =
    let whole : handed c x ≡ given_of choice x =
    at_stage c stages.Start x t p ∙ (ap (λ (l : List ℕ). given_from (known_of c.section) (l ++ x)) u ∙ ap (λ (m : Known). given_from m x) k) in (
      ap (λ (g : Given). bytes_of g.bytes) whole ∙ given_of-known choice (Some x) fits,
      ap (λ (g : Given). g.told) whole,
    )

-- nothing follows
pub ends_there : (c : Converter) (told : Told) (r : Option (List ℕ)) → c.stage ≡ stages.Ended told → pending_of c ≡ [] → IsAtEnd (known_bytes (bytes_in (handed_known c r)))
ends_there c told None t p = tt
ends_there c told (Some x) t p =
    known_bytes-end (Some (handed c x).bytes) (ap (λ (g : Given). g.bytes) (at_stage c (stages.Ended told) x t p))

-- ---- reads, one after another

-- nothing was given yet
pub keeps_after : (a b c : Option (List ℕ)) (front : List ℕ) → front ≡ [] → Consumes a b front → Keeps b c → Keeps a c
keeps_after None b c front e p q = tt
keeps_after (Some x) None c front e p q = absurd p
keeps_after (Some x) (Some y) None front e p q = absurd q
keeps_after (Some x) (Some y) (Some z) front e p q = q ∙ sym (p ∙ ap (λ (l : List ℕ). l ++ y) e)

pub reads_after : (a b c : Option (List ℕ)) (r : Result ℕ DeviceFault) (buf front : List ℕ) → front ≡ [] → Consumes a b front
    → ReadConsumes b c r buf → ReadConsumes a c r buf
reads_after a b c (Ok n) buf front e p q =
    (subst (Consumes a c) (ap (λ (l : List ℕ). l ++ take n buf) e) (Consumes-trans a b c front (take n buf) p q.0), q.1)
reads_after a b c (Err x) buf front e p q = keeps_after a b c front e p q

pub err_reads : (a c : Option (List ℕ)) (r : Result ℕ DeviceFault) (buf : List ℕ) → IsErr r → Keeps a c → ReadConsumes a c r buf
err_reads a c (Ok n) buf e h = cc
err_reads a c (Err x) buf e h = h
