-- The blocks of a file, and what is given for them.
use Rattle.std.proofs.Common.{◌≡◌, ◌≢◌, ℕ, zero, suc, ◌+◌, ◌*◌, ◌^◌, ◌%◌, ◌<◌, ◌≤◌, Bool, true, false, ◌&&◌, if◌then◌else◌, ◌==◌, List, [], ◌∷◌, ◌++◌, length, get_or, take, drop, nat_lt, nat_le, nat_eq, Option, Some, None, Result, Ok, Err, IfOk, inl, inr, refl, sym, ap, ◌∙◌, subst, arith}
use Rattle.std.proofs.lemmas.Bool.{cases_Bool, cases_lt, eq-eqb, le-ltb, leb-true, lt-ltb, ltb-false, ne_eqb}
use Rattle.std.proofs.lemmas.List.{drop-append-le, get_or_append_left, length-append, length-drop, take-append-le}
use Rattle.byteorder.specs.Endian.{big_from, little_from}
use Rattle.pcap_io.specs.Layout.{number_in}
use Rattle.pcap_io.specs.declared.layout.ByteOrder.{ByteOrder}
use Rattle.pcap_io.specs.declared.layout.ByteOrder.TheVariants.{Little, Big}
use Rattle.pcap_io.specs.declared.layout.HeaderFault.{HeaderFault}
use Rattle.pcap_io.specs.declared.layout.HeaderFault.TheVariants.{Magic}
use Rattle.pcap_io.specs.declared.told.Told.TheVariants as tolds
use Rattle.pcapng.specs.Block.{is_length_of, is_short, kind_of, order_of, order_of_magic, section_fault, shortest_of, start_as, start_header_fault, start_in, start_of, start_reason, start_with, unless}
use Rattle.pcapng.specs.File.{Blocks, block, blocks_from, blocks_of, blocks_within, cut, end_given, ended, first_as, first_of, first_with, given_after, given_at, given_for, opened, pcap_of, read_of, section_begun, section_within}
use Rattle.pcapng.specs.Section.{Known, in_section}
use Rattle.pcapng.specs.Given.{followed, only}
use Rattle.pcap_io.specs.Capture.{capture_header}
use Rattle.pcapng.specs.declared.block.BlockKind.{BlockKind}
use Rattle.pcapng.specs.declared.block.BlockKind.TheVariants as kinds
use Rattle.pcapng.specs.declared.block.BlockStart.{BlockStart}
use Rattle.pcapng.specs.declared.block.FirstSection.{FirstSection}
use Rattle.pcapng.specs.declared.block.FirstSection.TheVariants as firsts
use Rattle.pcapng.specs.declared.block.StartFault.{StartFault}
use Rattle.pcapng.specs.declared.block.StartFault.TheVariants as starts

-- ---- numbers that longer bytes begin with

big_from-append : (i n : ℕ) (xs ys : List ℕ) → i + n ≤ length xs → big_from i n (xs ++ ys) ≡ big_from i n xs
big_from-append i zero xs ys h = refl
big_from-append i (suc n) xs ys h =
    let here : get_or (xs ++ ys) i 0 ≡ get_or xs i 0 = get_or_append_left xs ys 0 i (omega arith) in
    let rest : big_from (suc i) n (xs ++ ys) ≡ big_from (suc i) n xs = big_from-append (suc i) n xs ys (omega arith) in
    ap (λ (m : ℕ). m * 256 ^ n + big_from (suc i) n (xs ++ ys)) here ∙ ap (λ (m : ℕ). get_or xs i 0 * 256 ^ n + m) rest

little_from-append : (i n : ℕ) (xs ys : List ℕ) → i + n ≤ length xs → little_from i n (xs ++ ys) ≡ little_from i n xs
little_from-append i zero xs ys h = refl
little_from-append i (suc n) xs ys h =
    let here : get_or (xs ++ ys) i 0 ≡ get_or xs i 0 = get_or_append_left xs ys 0 i (omega arith) in
    let rest : little_from (suc i) n (xs ++ ys) ≡ little_from (suc i) n xs = little_from-append (suc i) n xs ys (omega arith) in
    ap (λ (m : ℕ). m + 256 * little_from (suc i) n (xs ++ ys)) here ∙ ap (λ (m : ℕ). get_or xs i 0 + 256 * m) rest

pub number_in-append : (o : ByteOrder) (n : ℕ) (xs ys : List ℕ) → n ≤ length xs → number_in o n (xs ++ ys) ≡ number_in o n xs
number_in-append Little n xs ys h = little_from-append 0 n xs ys (omega arith)
number_in-append Big n xs ys h = big_from-append 0 n xs ys (omega arith)

pub number_at-append : (o : ByteOrder) (n at : ℕ) (xs ys : List ℕ) → at + n ≤ length xs
    → number_in o n (drop at (xs ++ ys)) ≡ number_in o n (drop at xs)
number_at-append o n at xs ys h =
    ap (number_in o n) (drop-append-le at xs ys (omega arith))
    ∙ number_in-append o n (drop at xs) ys (omega (arith, length-drop at xs))

-- ---- the start of a block

order_of-append : (kind : BlockKind) (order : ByteOrder) (xs ys : List ℕ) → 12 ≤ length xs → order_of kind order (xs ++ ys) ≡ order_of kind order xs
order_of-append kinds.Section order xs ys h = ap order_of_magic (number_at-append Big 4 8 xs ys (omega arith))
order_of-append kind order xs ys h = refl

start_in-append : (kind : BlockKind) (o : Option ByteOrder) (xs ys : List ℕ) → 12 ≤ length xs → start_in kind (xs ++ ys) o ≡ start_in kind xs o
start_in-append kind None xs ys h = refl
start_in-append kind (Some o) xs ys h = ap (start_with kind o) (number_at-append o 4 4 xs ys (omega arith))

start_as-append : (kind : BlockKind) (order : ByteOrder) (xs ys : List ℕ) → 12 ≤ length xs → start_as kind order (xs ++ ys) ≡ start_as kind order xs
start_as-append kind order xs ys h =
    ap (start_in kind (xs ++ ys)) (order_of-append kind order xs ys h) ∙ start_in-append kind (order_of kind order xs) xs ys h

pub start_of-append : (order : ByteOrder) (xs ys : List ℕ) → 12 ≤ length xs → start_of order (xs ++ ys) ≡ start_of order xs
unfolding start_of
start_of-append order xs ys h =
    ap (λ (n : ℕ). start_as (kind_of n) order (xs ++ ys)) (number_in-append order 4 xs ys (omega arith))
    ∙ start_as-append (kind_of (number_in order 4 xs)) order xs ys h

shortest_long : (kind : BlockKind) → 12 ≤ shortest_of kind
shortest_long kinds.Section = omega arith
shortest_long kinds.Interface = omega arith
shortest_long kinds.Packet = omega arith
shortest_long kinds.ObsoletePacket = omega arith
shortest_long kinds.SimplePacket = omega arith
shortest_long kinds.Other = omega arith

begun_when : (b : Bool) (start found : BlockStart) (fault : StartFault) → (if b then Ok start else Err fault) ≡ Ok found → (b ≡ true) × (found ≡ start)
begun_when true start found fault e = (refl, cc)
begun_when false start found fault e = cc

middle_true : (a b c : Bool) → (a && b && c) ≡ true → b ≡ true
middle_true true true c e = refl
middle_true true false c e = cc
middle_true false true c e = cc
middle_true false false c e = cc

start_with-facts : (kind : BlockKind) (o : ByteOrder) (len : ℕ) (found : BlockStart) → start_with kind o len ≡ Ok found
    → (12 ≤ found.len) × (found.kind ≡ kind) × (found.order ≡ o)
start_with-facts kind o len found e =
    let start : BlockStart = record { order = o; kind = kind; len = len } in
    let w : (is_length_of kind len ≡ true) × (found ≡ start) = begun_when (is_length_of kind len) start found starts.Length e in
    let long : shortest_of kind ≤ len = leb-true (shortest_of kind) len (middle_true (len % 4 == 0) (nat_le (shortest_of kind) len) (is_short kind len) w.0) in
    let least : 12 ≤ shortest_of kind = shortest_long kind in
    let size : found.len ≡ len = ap (λ (s : BlockStart). s.len) w.1 in
    (omega arith, ap (λ (s : BlockStart). s.kind) w.1, ap (λ (s : BlockStart). s.order) w.1)

start_in-facts : (kind : BlockKind) (bytes : List ℕ) (o : Option ByteOrder) (found : BlockStart) → start_in kind bytes o ≡ Ok found
    → (12 ≤ found.len) × (found.kind ≡ kind) × (o ≡ Some found.order)
start_in-facts kind bytes None found e = cc
start_in-facts kind bytes (Some order) found e =
    let w = start_with-facts kind order (number_in order 4 (drop 4 bytes)) found e in
    (w.0, w.1, ap Some (sym w.2))

own_order : (kind : BlockKind) (order : ByteOrder) (bytes : List ℕ) → kind ≢ kinds.Section → order_of kind order bytes ≡ Some order
own_order kinds.Section order bytes other = absurd (other refl)
own_order kind order bytes other = refl

-- no block is shorter than 12 bytes, and only a section header has a byte order of its own
pub start_facts : (order : ByteOrder) (bytes : List ℕ) (found : BlockStart) → start_of order bytes ≡ Ok found
    → (12 ≤ found.len) × (found.kind ≢ kinds.Section → found.order ≡ order)
unfolding start_of
start_facts order bytes found e =
    let kind = kind_of (number_in order 4 bytes) in
    let w = start_in-facts kind bytes (order_of kind order bytes) found e in (
      w.0,
      λ other.
          let same : Some order ≡ Some found.order = sym (own_order kind order bytes (λ section. other (w.1 ∙ section))) ∙ w.2 in
          cc,
    )

ok_from : {A E : Type 0} (r : Result A E) (P : A → Type 0) → ((x : A) → r ≡ Ok x → P x) → IfOk r P
ok_from (Ok x) P h = h x refl
ok_from (Err e) P h = tt

long_start : (order : ByteOrder) (bytes : List ℕ) → IfOk (start_of order bytes) (λ found. 12 ≤ found.len)
long_start order bytes = ok_from (start_of order bytes) (λ found. 12 ≤ found.len) (λ found e. (start_facts order bytes found e).0)

-- ---- the blocks of bytes

blocks_from-same : (r : Result BlockStart StartFault) (bytes : List ℕ) (f g : ByteOrder → List ℕ → Blocks) → IfOk r (λ found. 12 ≤ found.len)
    → 12 ≤ length bytes → ((o : ByteOrder) (rest : List ℕ) → length rest < length bytes → f o rest ≡ g o rest)
    → blocks_from r bytes f ≡ blocks_from r bytes g
blocks_from-same (Err fault) bytes f g long some same = refl
blocks_from-same (Ok start) bytes f g long some same =
    let fewer : length (drop start.len bytes) < length bytes = omega (arith, length-drop start.len bytes) in
    ap (λ (b : Blocks). if nat_lt (length bytes) start.len then cut else block start (take start.len bytes) b)
    (same start.order (drop start.len bytes) fewer)

-- more than there are bytes changes nothing
more_blocks : (n m : ℕ) (order : ByteOrder) (bytes : List ℕ) → length bytes ≤ n → length bytes ≤ m → blocks_within n order bytes ≡ blocks_within m order bytes
unfolding blocks_within
more_blocks zero zero order bytes p q = refl
more_blocks zero (suc m) order bytes p q = rw (eq-eqb (length bytes) 0 (omega arith)) refl
more_blocks (suc n) zero order bytes p q = rw (eq-eqb (length bytes) 0 (omega arith)) refl
more_blocks (suc n) (suc m) order bytes p q = elim (cases_Bool (nat_lt (length bytes) 12)) [
  | inl short ↦ rw short refl
  | inr long ↦
      let some : 12 ≤ length bytes = ltb-false (length bytes) 12 long in
      ap (λ (b : Blocks). if length bytes == 0 then ended else if nat_lt (length bytes) 12 then cut else b)
      (blocks_from-same (start_of order bytes) bytes (blocks_within n) (blocks_within m) (long_start order bytes) some
      (λ o rest fewer. more_blocks n m o rest (omega arith) (omega arith)))
]

blocks_at : (order : ByteOrder) (bytes : List ℕ) → 12 ≤ length bytes → blocks_of order bytes ≡ blocks_from (start_of order bytes) bytes blocks_of
unfolding blocks_of blocks_within
blocks_at order [] some = absurd (omega arith)
blocks_at order (x ∷ xs) some =
    let long : nat_lt (length (x ∷ xs)) 12 ≡ false = le-ltb (length (x ∷ xs)) 12 some in
    let there : nat_eq (length (x ∷ xs)) 0 ≡ false = ne_eqb (length (x ∷ xs)) 0 (λ none. omega arith) in
    rw (there, long)
    (blocks_from-same (start_of order (x ∷ xs)) (x ∷ xs) (blocks_within (length xs)) blocks_of (long_start order (x ∷ xs)) some
    (λ o rest fewer. more_blocks (length xs) (length rest) o rest (omega arith) (omega arith)))

-- ---- all that is given

-- too few bytes for a block's start
pub given_few : (k : Known) (bytes : List ℕ) → length bytes < 12 → given_at k bytes ≡ (if length bytes == 0 then end_given k else only tolds.Cut)
unfolding blocks_of blocks_within
given_few k [] few = refl
given_few k (x ∷ xs) few =
    let there : nat_eq (length (x ∷ xs)) 0 ≡ false = ne_eqb (length (x ∷ xs)) 0 (λ none. omega arith) in
    rw (there, lt-ltb (length (x ∷ xs)) 12 few) refl

given_from_start : (k : Known) (u l : List ℕ) (r : Result BlockStart StartFault) → 12 ≤ length u → start_of k.order u ≡ r
    → given_at k (u ++ l) ≡ given_for k (blocks_from r (u ++ l) blocks_of)
given_from_start k u l r some e =
    ap (given_for k) (blocks_at k.order (u ++ l) (omega (arith, length-append u l))
    ∙ ap (λ (s : Result BlockStart StartFault). blocks_from s (u ++ l) blocks_of) (start_of-append k.order u l some ∙ e))

-- the bytes there start no block
pub given_wrong : (k : Known) (u l : List ℕ) (fault : StartFault) → 12 ≤ length u → start_of k.order u ≡ Err fault
    → given_at k (u ++ l) ≡ only (tolds.Bad (start_reason fault))
given_wrong k u l fault some e = given_from_start k u l (Err fault) some e

-- the bytes end within the block
pub given_part : (k : Known) (u l : List ℕ) (start : BlockStart) → 12 ≤ length u → start_of k.order u ≡ Ok start → length (u ++ l) < start.len
    → given_at k (u ++ l) ≡ only tolds.Cut
given_part k u l start some e part = given_from_start k u l (Ok start) some e ∙ rw (lt-ltb (length (u ++ l)) start.len part) refl

-- the bytes begin with the whole block
pub given_whole : (k : Known) (u l : List ℕ) (start : BlockStart) → 12 ≤ length u → start_of k.order u ≡ Ok start → start.len ≤ length (u ++ l)
    → given_at k (u ++ l) ≡ given_after (read_of k start (take start.len (u ++ l))) (λ known. given_for known (blocks_of start.order (drop start.len (u ++ l))))
given_whole k u l start some e whole = given_from_start k u l (Ok start) some e ∙ rw (le-ltb (length (u ++ l)) start.len whole) refl

-- ---- the first section header

-- the word on a section header stays, whatever follows
abbrev IsSettled : FirstSection → Type 0
IsSettled (firsts.Needs needed) = ⊥
IsSettled (firsts.Wrong fault) = Unit {0}
IsSettled (firsts.Begins order len) = Unit {0}

within-settled : (start : BlockStart) (xs ys : List ℕ) (first : FirstSection) → section_within start xs ≡ first → IsSettled first
    → section_within start (xs ++ ys) ≡ first
within-settled start xs ys first e settled = elim (cases_lt (length xs) start.len) [
  | inl part ↦
      let needs : section_within start xs ≡ firsts.Needs start.len = rw (lt-ltb (length xs) start.len part) refl in
      absurd (subst IsSettled (sym e ∙ needs) settled)
  | inr whole ↦
      let one : nat_lt (length xs) start.len ≡ false = le-ltb (length xs) start.len whole in
      let two : nat_lt (length (xs ++ ys)) start.len ≡ false = le-ltb (length (xs ++ ys)) start.len (omega (arith, length-append xs ys)) in
      let front : take start.len (xs ++ ys) ≡ take start.len xs = take-append-le start.len xs ys whole in
      let here : section_within start xs ≡ section_begun start.order start.len (unless (section_fault start.order (take start.len xs))) = rw one refl in
      rw two (ap (λ (l : List ℕ). section_begun start.order start.len (unless (section_fault start.order l))) front ∙ (sym here ∙ e))
]

as-settled : (kind : BlockKind) (start : BlockStart) (xs ys : List ℕ) (first : FirstSection) → first_as kind start xs ≡ first → IsSettled first
    → first_as kind start (xs ++ ys) ≡ first
as-settled kinds.Section start xs ys first e settled = within-settled start xs ys first e settled
as-settled kind start xs ys first e settled = e

with-settled : (r : Result BlockStart StartFault) (xs ys : List ℕ) (first : FirstSection) → first_with r xs ≡ first → IsSettled first
    → first_with r (xs ++ ys) ≡ first
with-settled (Err fault) xs ys first e settled = e
with-settled (Ok start) xs ys first e settled = as-settled start.kind start xs ys first e settled

pub first-settled : (xs ys : List ℕ) (first : FirstSection) → 12 ≤ length xs → first_of xs ≡ first → IsSettled first → first_of (xs ++ ys) ≡ first
unfolding first_of
first-settled xs ys first some e settled =
    ap (λ (r : Result BlockStart StartFault). first_with r (xs ++ ys)) (start_of-append Little xs ys some) ∙ with-settled (start_of Little xs) xs ys first e settled

pub opened_as : (k : Known) (bytes : List ℕ) (first : FirstSection) → 12 ≤ length bytes → first_of bytes ≡ first → pcap_of k bytes ≡ opened first k bytes
opened_as k bytes first some e = rw (le-ltb (length bytes) 12 some) (ap (λ (f : FirstSection). opened f k bytes) e)

-- something is wrong with it
pub opened_wrong : (k : Known) (u l : List ℕ) (fault : HeaderFault) → 12 ≤ length u → first_of u ≡ firsts.Wrong fault
    → pcap_of k (u ++ l) ≡ only (tolds.NoHeader fault)
opened_wrong k u l fault some e =
    opened_as k (u ++ l) (firsts.Wrong fault) (omega (arith, length-append u l)) (first-settled u l (firsts.Wrong fault) some e tt)

-- a section begins
pub opened_whole : (k : Known) (u l : List ℕ) (order : ByteOrder) (len : ℕ) → 12 ≤ length u → len ≤ length u → first_of u ≡ firsts.Begins order len
    → pcap_of k (u ++ l) ≡ followed capture_header (given_at (in_section order k) (drop len u ++ l))
opened_whole k u l order len some whole e =
    opened_as k (u ++ l) (firsts.Begins order len) (omega (arith, length-append u l)) (first-settled u l (firsts.Begins order len) some e tt)
    ∙ ap (λ (b : List ℕ). followed capture_header (given_at (in_section order k) b)) (drop-append-le len u l whole)

-- ---- how it is found

first_begun : (bytes : List ℕ) (r : Result BlockStart StartFault) → r ≡ start_of Little bytes → first_with r bytes ≡ first_of bytes
unfolding first_of
first_begun bytes r e = ap (λ (s : Result BlockStart StartFault). first_with s bytes) e

pub first_wrong : (bytes : List ℕ) (fault : StartFault) → Err fault ≡ start_of Little bytes → firsts.Wrong (start_header_fault fault) ≡ first_of bytes
first_wrong bytes fault e = first_begun bytes (Err fault) e

as_other : (kind : BlockKind) (start : BlockStart) (bytes : List ℕ) → kind ≢ kinds.Section → firsts.Wrong Magic ≡ first_as kind start bytes
as_other kinds.Section start bytes other = absurd (other refl)
as_other kind start bytes other = refl

pub first_other : (bytes : List ℕ) (start : BlockStart) → Ok start ≡ start_of Little bytes → start.kind ≢ kinds.Section → firsts.Wrong Magic ≡ first_of bytes
first_other bytes start e other = as_other start.kind start bytes other ∙ first_begun bytes (Ok start) e

first_section : (bytes : List ℕ) (start : BlockStart) → Ok start ≡ start_of Little bytes → start.kind ≡ kinds.Section → section_within start bytes ≡ first_of bytes
first_section bytes start e section =
    ap (λ (kind : BlockKind). first_as kind start bytes) (sym section) ∙ first_begun bytes (Ok start) e

pub first_part : (bytes : List ℕ) (start : BlockStart) → Ok start ≡ start_of Little bytes → start.kind ≡ kinds.Section → length bytes < start.len
    → firsts.Needs start.len ≡ first_of bytes
first_part bytes start e section part =
    let needs : section_within start bytes ≡ firsts.Needs start.len = rw (lt-ltb (length bytes) start.len part) refl in
    sym needs ∙ first_section bytes start e section

pub first_checked : (bytes front : List ℕ) (start : BlockStart) (r : Result (Unit {0}) HeaderFault) → Ok start ≡ start_of Little bytes → start.kind ≡ kinds.Section
    → start.len ≤ length bytes → front ≡ take start.len bytes → r ≡ unless (section_fault start.order front) → section_begun start.order start.len r ≡ first_of bytes
first_checked bytes front start r e section whole all checked =
    let here : section_within start bytes ≡ section_begun start.order start.len (unless (section_fault start.order (take start.len bytes))) =
    rw (le-ltb (length bytes) start.len whole) refl in
    ap (section_begun start.order start.len) (checked ∙ ap (λ (l : List ℕ). unless (section_fault start.order l)) all) ∙ (sym here ∙ first_section bytes start e section)
