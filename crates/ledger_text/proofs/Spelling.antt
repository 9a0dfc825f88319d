-- Each word has one value.
use Rattle.std.proofs.Common.{◌≡◌, ◌∙◌, ℕ, zero, suc, ◌+◌, ◌-◌, ◌*◌, ◌^◌, ◌/◌, ◌%◌, ◌<◌, ◌≤◌, cond, nat_lt, List, [], ◌∷◌, Option, None, Some, IfSome, subst, length, get_or, refl, sym, ap, arith}
use Rattle.std.specs.Fmt.{decimal}
use Rattle.std.proofs.lemmas.Fmt.{decimal_injective}
use Rattle.afdx_frame.specs.declared.key.Network.{Network}
use Rattle.afdx_frame.specs.declared.key.Network.TheVariants.{A, B}
use Rattle.vl_config.specs.declared.class.Class.{Class}
use Rattle.vl_config.specs.declared.class.Class.TheVariants.{Cut, Runt, Oversize, Foreign, Unconfigured, TooLong, Regular}
use Rattle.policing.specs.declared.verdict.Policing.{Policing}
use Rattle.policing.specs.declared.verdict.Policing.TheVariants.{Within, Excess}
use Rattle.integrity.specs.declared.verdict.Integrity.{Integrity}
use Rattle.integrity.specs.declared.verdict.Integrity.TheVariants.{First, Reset, Next, Skip, Off, Out}
use Rattle.redundancy.specs.declared.verdict.Redundancy.{Redundancy}
use Rattle.redundancy.specs.declared.verdict.Redundancy.TheVariants.{Deliver, Copy, Both}
use Rattle.redundancy.specs.Word.{redundancy_word}
use Rattle.integrity.specs.Word.{integrity_word}
use Rattle.policing.specs.Word.{policing_word}
use Rattle.vl_config.specs.Class.{class_word}
use Rattle.afdx_frame.specs.Frame.{network_letter}
use Rattle.verdict_ledger.specs.Text.{mask_text, hex_digit}
use Rattle.std.specs.Str.Parse.{AllDigits}
use Rattle.std.proofs.lemmas.Fmt.{digits_decimal}
use Rattle.afdx_frame.specs.declared.key.VlId.{VlId}
use Rattle.ledger_text.specs.Reads.{dash_or, Below}
use Rattle.ledger_text.specs.Fields.{first_field, next_fields}
use Rattle.ledger_text.proofs.Decimals.{own}
use Rattle.ledger_text.specs.FrameText.{IsFrameLine, frame_fields, length_fields, link_fits, link_text}
use Rattle.verdict_ledger.specs.declared.version.LedgerVersion.{LedgerVersion}
use Rattle.ledger_text.specs.declared.frame.FrameLine.{FrameLine}

-- the length and the first two letters of a word, which tell the words of one kind apart
abbrev code : List ℕ → ℕ
code word = length word * 65536 + get_or word 0 0 * 256 + get_or word 1 0

pub one_network : (x y : Network) → network_letter x ≡ network_letter y → x ≡ y
one_network A A e = refl
one_network B B e = refl
one_network _ _ e = absurd (omega (arith, ap code e))

pub one_class : (x y : Class) → class_word x ≡ class_word y → x ≡ y
one_class Cut Cut e = refl
one_class Runt Runt e = refl
one_class Oversize Oversize e = refl
one_class Foreign Foreign e = refl
one_class Unconfigured Unconfigured e = refl
one_class TooLong TooLong e = refl
one_class Regular Regular e = refl
one_class _ _ e = absurd (omega (arith, ap code e))

pub one_policing : (x y : Option Policing) → dash_or policing_word x ≡ dash_or policing_word y → x ≡ y
one_policing None None e = refl
one_policing (Some Within) (Some Within) e = refl
one_policing (Some Excess) (Some Excess) e = refl
one_policing None (Some Within) e = absurd (omega (arith, ap code e))
one_policing None (Some Excess) e = absurd (omega (arith, ap code e))
one_policing (Some Within) None e = absurd (omega (arith, ap code e))
one_policing (Some Within) (Some Excess) e = absurd (omega (arith, ap code e))
one_policing (Some Excess) None e = absurd (omega (arith, ap code e))
one_policing (Some Excess) (Some Within) e = absurd (omega (arith, ap code e))

one_valid : (x y : Integrity) → integrity_word x ≡ integrity_word y → x ≡ y
one_valid First First e = refl
one_valid Reset Reset e = refl
one_valid Next Next e = refl
one_valid Skip Skip e = refl
one_valid Off Off e = refl
one_valid Out Out e = refl
one_valid _ _ e = absurd (omega (arith, ap code e))

pub one_integrity : (x y : Option Integrity) → dash_or integrity_word x ≡ dash_or integrity_word y → x ≡ y
one_integrity None None e = refl
one_integrity None (Some First) e = absurd (omega (arith, ap code e))
one_integrity (Some First) None e = absurd (omega (arith, ap code e))
one_integrity None (Some Reset) e = absurd (omega (arith, ap code e))
one_integrity (Some Reset) None e = absurd (omega (arith, ap code e))
one_integrity None (Some Next) e = absurd (omega (arith, ap code e))
one_integrity (Some Next) None e = absurd (omega (arith, ap code e))
one_integrity None (Some Skip) e = absurd (omega (arith, ap code e))
one_integrity (Some Skip) None e = absurd (omega (arith, ap code e))
one_integrity None (Some Off) e = absurd (omega (arith, ap code e))
one_integrity (Some Off) None e = absurd (omega (arith, ap code e))
one_integrity None (Some Out) e = absurd (omega (arith, ap code e))
one_integrity (Some Out) None e = absurd (omega (arith, ap code e))
one_integrity (Some x) (Some y) e = ap Some (one_valid x y e)

one_delivery : (x y : Redundancy) → redundancy_word x ≡ redundancy_word y → x ≡ y
one_delivery Deliver Deliver e = refl
one_delivery Copy Copy e = refl
one_delivery Both Both e = refl
one_delivery _ _ e = absurd (omega (arith, ap code e))

pub one_redundancy : (x y : Option Redundancy) → dash_or redundancy_word x ≡ dash_or redundancy_word y → x ≡ y
one_redundancy None None e = refl
one_redundancy None (Some Deliver) e = absurd (omega (arith, ap code e))
one_redundancy (Some Deliver) None e = absurd (omega (arith, ap code e))
one_redundancy None (Some Copy) e = absurd (omega (arith, ap code e))
one_redundancy (Some Copy) None e = absurd (omega (arith, ap code e))
one_redundancy None (Some Both) e = absurd (omega (arith, ap code e))
one_redundancy (Some Both) None e = absurd (omega (arith, ap code e))
one_redundancy (Some x) (Some y) e = ap Some (one_delivery x y e)

dash_is_no_number : (n : ℕ) → n < 2 ^ 64 → decimal n ≡ 45 ∷ [] → ⊥
dash_is_no_number n h e =
    let digits : AllDigits 10 (45 ∷ []) = subst (AllDigits 10) e (digits_decimal own n h) in
    absurd (omega (arith, digits.0))

pub one_number : (x y : Option ℕ) → IfSome x (Below (2 ^ 64)) → IfSome y (Below (2 ^ 64)) → dash_or decimal x ≡ dash_or decimal y → x ≡ y
one_number None None a b e = refl
one_number (Some x) None a b e = absurd (dash_is_no_number x a e)
one_number None (Some y) a b e = absurd (dash_is_no_number y b (sym e))
one_number (Some x) (Some y) a b e = ap Some (decimal_injective x y a b e)

pub one_link : (x y : Option VlId) → IfSome x link_fits → IfSome y link_fits → dash_or link_text x ≡ dash_or link_text y → x ≡ y
one_link None None a b e = refl
one_link (Some x) None a b e = absurd (dash_is_no_number x.0 (omega arith) e)
one_link None (Some y) a b e = absurd (dash_is_no_number y.0 (omega arith) (sym e))
one_link (Some x) (Some y) a b e =
    let same : x.0 ≡ y.0 = decimal_injective x.0 y.0 (omega arith) (omega arith) e in
    ap (λ (n : ℕ). Some (record { 0 = n })) same

abbrev pub make : ℕ → Network → ℕ → Option VlId → Option ℕ → Class → Option Policing → Option Integrity → Option Redundancy → Option ℕ → ℕ → Option ℕ → FrameLine
make s n i l q c p t r k m o = record {
  stamp = record { 0 = s };
  network = n;
  number = i;
  link = l;
  sequence = q;
  verdict = record { class = c; policing = p; integrity = t; redundancy = r };
  kept = k;
  mask = m;
  length = o;
}

pub wider : (o : Option ℕ) (k : ℕ) → k ≤ 2 ^ 64 → IfSome o (Below k) → IfSome o (Below (2 ^ 64))
wider None k le h = tt
wider (Some n) k le h = omega arith

-- the value of a digit
abbrev unhex : ℕ → ℕ
unhex digit = cond (nat_lt digit 58) (digit - 48) (digit - 87)

hex_back : (n : ℕ) → n < 16 → unhex (hex_digit n) ≡ n
hex_back zero h = refl
hex_back (suc zero) h = refl
hex_back (suc (suc zero)) h = refl
hex_back (suc (suc (suc zero))) h = refl
hex_back (suc (suc (suc (suc zero)))) h = refl
hex_back (suc (suc (suc (suc (suc zero))))) h = refl
hex_back (suc (suc (suc (suc (suc (suc zero)))))) h = refl
hex_back (suc (suc (suc (suc (suc (suc (suc zero))))))) h = refl
hex_back (suc (suc (suc (suc (suc (suc (suc (suc zero)))))))) h = refl
hex_back (suc (suc (suc (suc (suc (suc (suc (suc (suc zero))))))))) h = refl
hex_back (suc (suc (suc (suc (suc (suc (suc (suc (suc (suc zero)))))))))) h = refl
hex_back (suc (suc (suc (suc (suc (suc (suc (suc (suc (suc (suc zero))))))))))) h = refl
hex_back (suc (suc (suc (suc (suc (suc (suc (suc (suc (suc (suc (suc zero)))))))))))) h = refl
hex_back (suc (suc (suc (suc (suc (suc (suc (suc (suc (suc (suc (suc (suc zero))))))))))))) h = refl
hex_back (suc (suc (suc (suc (suc (suc (suc (suc (suc (suc (suc (suc (suc (suc zero)))))))))))))) h = refl
hex_back (suc (suc (suc (suc (suc (suc (suc (suc (suc (suc (suc (suc (suc (suc (suc zero))))))))))))))) h = refl
hex_back (suc (suc (suc (suc (suc (suc (suc (suc (suc (suc (suc (suc (suc (suc (suc (suc n)))))))))))))))) h = absurd (omega arith)

one_hex : (m n : ℕ) → m < 16 → n < 16 → hex_digit m ≡ hex_digit n → m ≡ n
one_hex m n a b e = sym (hex_back m a) ∙ (ap unhex e ∙ hex_back n b)

pub one_mask : (m n : ℕ) → m < 2 ^ 8 → n < 2 ^ 8 → mask_text m ≡ mask_text n → m ≡ n
one_mask m n a b e =
    let high : m / 16 ≡ n / 16 = one_hex (m / 16) (n / 16) (omega arith) (omega arith) (ap (λ (l : List ℕ). get_or l 0 0) e) in
    let low : m % 16 ≡ n % 16 = one_hex (m % 16) (n % 16) (omega arith) (omega arith) (ap (λ (l : List ℕ). get_or l 1 0) e) in
    omega arith

one_length : (x y : Option ℕ) → IfSome x (Below (2 ^ 32)) → IfSome y (Below (2 ^ 32)) → length_fields x ≡ length_fields y → x ≡ y
one_length None None a b e = refl
one_length (Some x) None a b e = absurd (omega (arith, ap (λ (l : List (List ℕ)). length l) e))
one_length None (Some y) a b e = absurd (omega (arith, ap (λ (l : List (List ℕ)). length l) e))
one_length (Some x) (Some y) a b e = ap Some (decimal_injective x y (omega arith) (omega arith) (ap first_field e))

pub one_line : (version : LedgerVersion) (v w : FrameLine) → IsFrameLine version v → IsFrameLine version w → frame_fields v ≡ frame_fields w → v ≡ w
one_line version v w p q e =
    let e0 = ap first_field e in
    let e1 = ap (λ (l : List (List ℕ)). first_field (next_fields l)) e in
    let e2 = ap (λ (l : List (List ℕ)). first_field (next_fields (next_fields l))) e in
    let e3 = ap (λ (l : List (List ℕ)). first_field (next_fields (next_fields (next_fields l)))) e in
    let e4 = ap (λ (l : List (List ℕ)). first_field (next_fields (next_fields (next_fields (next_fields l))))) e in
    let e5 = ap (λ (l : List (List ℕ)). first_field (next_fields (next_fields (next_fields (next_fields (next_fields l)))))) e in
    let e6 = ap (λ (l : List (List ℕ)). first_field (next_fields (next_fields (next_fields (next_fields (next_fields (next_fields l))))))) e in
    let e7 = ap (λ (l : List (List ℕ)). first_field (next_fields (next_fields (next_fields (next_fields (next_fields (next_fields (next_fields l)))))))) e in
    let e8 = ap (λ (l : List (List ℕ)). first_field (next_fields (next_fields (next_fields (next_fields (next_fields (next_fields (next_fields (next_fields l))))))))) e in
    let e9 = ap (λ (l : List (List ℕ)). first_field (next_fields (next_fields (next_fields (next_fields (next_fields (next_fields (next_fields (next_fields (next_fields l)))))))))) e in
    let e10 = ap (λ (l : List (List ℕ)). first_field (next_fields (next_fields (next_fields (next_fields (next_fields (next_fields (next_fields (next_fields (next_fields (next_fields l))))))))))) e in
    let e11 = ap (λ (l : List (List ℕ)). next_fields (next_fields (next_fields (next_fields (next_fields (next_fields (next_fields (next_fields (next_fields (next_fields (next_fields l))))))))))) e in
    let s = decimal_injective v.stamp.0 w.stamp.0 (omega (arith, p.stamp)) (omega (arith, q.stamp)) e0 in
    let n = one_network v.network w.network e1 in
    let i = decimal_injective v.number w.number (omega (arith, p.number)) (omega (arith, q.number)) e2 in
    let l = one_link v.link w.link p.link.fits q.link.fits e3 in
    let x = one_number v.sequence w.sequence (wider v.sequence (2 ^ 8) (omega arith) p.sequence.fits) (wider w.sequence (2 ^ 8) (omega arith) q.sequence.fits) e4 in
    let c = one_class v.verdict.class w.verdict.class e5 in
    let g = one_policing v.verdict.policing w.verdict.policing e6 in
    let t = one_integrity v.verdict.integrity w.verdict.integrity e7 in
    let r = one_redundancy v.verdict.redundancy w.verdict.redundancy e8 in
    let k = one_number v.kept w.kept (wider v.kept (2 ^ 32) (omega arith) p.kept) (wider w.kept (2 ^ 32) (omega arith) q.kept) e9 in
    let m = one_mask v.mask w.mask p.mask.small q.mask.small e10 in
    let o = one_length v.length w.length p.length.fits q.length.fits e11 in
    let same : make v.stamp.0 v.network v.number v.link v.sequence v.verdict.class v.verdict.policing v.verdict.integrity v.verdict.redundancy v.kept v.mask v.length
    ≡ make w.stamp.0 w.network w.number w.link w.sequence w.verdict.class w.verdict.policing w.verdict.integrity w.verdict.redundancy w.kept w.mask w.length = cc in
    same
