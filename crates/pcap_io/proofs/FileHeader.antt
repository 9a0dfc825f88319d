-- The first bytes of a recording, and what they say of all of them.
use Rattle.std.proofs.Common.{◌≡◌, ℕ, ◌≤◌, false, List, ◌++◌, length, take, drop, nat_lt, Option, Some, None, IfSome, Result, Ok, refl, sym, ap, ◌∙◌, arith}
use Rattle.std.proofs.lemmas.Bool.{le-ltb}
use Rattle.std.proofs.lemmas.List.{take_at, drop_at, take_all, length-append}
use Rattle.std.specs.Io.KnownBytes.{Consumes}
use Rattle.byteorder.specs.Endian.{big_number}
use Rattle.pcap_io.specs.Position.{Opens}
use Rattle.pcap_io.specs.Layout.{layout_of_magic, checked, header_of}
use Rattle.pcap_io.specs.declared.layout.Layout.{Layout}
use Rattle.pcap_io.specs.declared.layout.HeaderFault.{HeaderFault}
use Rattle.pcap_io.specs.declared.told.Told.{Told}

abbrev opened : List ℕ → Result Layout HeaderFault
opened header = checked header (layout_of_magic (big_number 4 header))

long_header : (told : Told) (bytes : List ℕ) → 24 ≤ length bytes → header_of told bytes ≡ opened (take 24 bytes)
long_header told bytes long =
    let test : nat_lt (length bytes) 24 ≡ false = le-ltb (length bytes) 24 long in
    rw test refl

-- a header says the same whatever follows
pub header-append : (told : Told) (header more : List ℕ) → length header ≡ 24 → header_of told (header ++ more) ≡ header_of told header
header-append told header more size =
    long_header told (header ++ more) (omega (arith, size, length-append header more))
    ∙ ap opened (take_at header more 24 size ∙ sym (take_all 24 header (omega (arith, size))))
    ∙ sym (long_header told header (omega (arith, size)))

pub header_from : (told : Told) (before after : Option (List ℕ)) (header : List ℕ) (came : ℕ) (r : Result Layout HeaderFault) → length header ≡ 24 → 24 ≤ came
    → Consumes before after (take came header) → header_of told header ≡ r → IfSome before (λ bytes. header_of told bytes ≡ r)
header_from told None after header came r size all gone read = tt
header_from told (Some xs) None header came r size all gone read = absurd gone
header_from told (Some xs) (Some ys) header came r size all gone read =
    ap (header_of told) (gone ∙ ap (λ (h : List ℕ). h ++ ys) (take_all came header (omega (arith, size, all)))) ∙ header-append told header ys size ∙ read

pub opens_from : (told : Told) (before after : Option (List ℕ)) (header : List ℕ) (came : ℕ) (layout : Layout) → length header ≡ 24 → 24 ≤ came
    → Consumes before after (take came header) → header_of told header ≡ Ok layout → Opens told before after layout
opens_from told None after header came layout size all gone read = tt
opens_from told (Some xs) None header came layout size all gone read = absurd gone
opens_from told (Some xs) (Some ys) header came layout size all gone read =
    let split : xs ≡ header ++ ys = gone ∙ ap (λ (h : List ℕ). h ++ ys) (take_all came header (omega (arith, size, all))) in
    (header_from told (Some xs) (Some ys) header came (Ok layout) size all gone read, ap Some (sym (ap (drop 24) split ∙ drop_at header ys 24 size)))
