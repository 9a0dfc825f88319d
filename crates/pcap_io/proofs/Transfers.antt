-- One more read or write, and what it adds to those before it.
use Rattle.std.proofs.Common.{◌≡◌, ℕ, ◌+◌, ◌-◌, ◌^◌, ◌≤◌, min, max, Bool, true, false, ◌||◌, List, ◌++◌, length, take, drop, Option, Result, Ok, Err, IsErr, refl, sym, ap, ◌∙◌, subst, arith, inl, inr, ◌⊎◌, Some, None}
use Rattle.std.proofs.lemmas.List.{length-take-le, take-append-le, take_at, take-append-drop, take_min, drop-drop, length-drop, length-append}
use Rattle.std.proofs.Math.Seq.{take-append-add}
use Rattle.std.proofs.KnownBytes.{Consumes-trans, Appends-trans}
use Rattle.std.specs.Io.KnownBytes.{Appends, Consumes, Keeps, prepend_known}
use Rattle.std.proofs.lemmas.Bool.{eqb-false}
use borrow.Rule.Slice.PartMut.{put_mid, post_of}
use Rattle.pcap_io.specs.Device.{AppendsPrefix, Writes}
use Rattle.pcap_io.specs.Script.{fails, answer_of}
use Rattle.pcap_io.specs.declared.script.ScriptState.{ScriptState}
use Rattle.pcap_io.specs.declared.device.DeviceFault.{DeviceFault}
use Rattle.pcap_io.specs.Told.{StaysTold}
use Rattle.pcap_io.specs.declared.told.Told.{Told}

-- a buffer whose prefix stands, once more was read after it
pub take-read : (done n k : ℕ) (buf got : List ℕ) → done ≤ length buf → n ≤ length got
    → take (done + n) (put_mid done k buf got) ≡ take done buf ++ take n got
take-read done n k buf got within fits =
    let after : List ℕ = post_of done k buf in
    let front : List ℕ = take done buf in
    let size : length front ≡ done = length-take-le done buf within in
    ap (λ (m : ℕ). take (m + n) (front ++ (got ++ after))) (sym size) ∙ take-append-add front (got ++ after) n ∙ ap (λ (l : List ℕ). front ++ l) (take-append-le n got after fits)

pub fill_more : (a b c : Option (List ℕ)) (done n k : ℕ) (buf got : List ℕ) → done ≤ length buf → n ≤ length got
    → Consumes a b (take done buf) → Consumes b c (take n got) → Consumes a c (take (done + n) (put_mid done k buf got))
fill_more a b c done n k buf got within fits first next =
    subst (Consumes a c) (sym (take-read done n k buf got within fits)) (Consumes-trans a b c _ _ first next)

-- a prefix, and a prefix of what follows it
pub take-front : (done n : ℕ) (bytes : List ℕ) → done ≤ length bytes → take (done + n) bytes ≡ take done bytes ++ take n (drop done bytes)
take-front done n bytes within =
    let front : List ℕ = take done bytes in
    let size : length front ≡ done = length-take-le done bytes within in
    ap (take (done + n)) (sym (take-append-drop done bytes)) ∙ ap (λ (m : ℕ). take (m + n) (front ++ drop done bytes)) (sym size)
    ∙ take-append-add front (drop done bytes) n

pub write_more : (a b c : Option (List ℕ)) (done n : ℕ) (bytes : List ℕ) → done ≤ length bytes
    → Appends a b (take done bytes) → Appends b c (take n (drop done bytes)) → Appends a c (take (done + n) bytes)
write_more a b c done n bytes within first next =
    subst (Appends a c) (sym (take-front done n bytes within)) (Appends-trans a b c _ _ first next)

-- a source over memory loses at its front what it gives
pub given : (all buf got : List ℕ) (at p : ℕ) → got ≡ take p (drop at all) → at + p ≤ length all
    → drop at all ≡ take p (got ++ drop p buf) ++ drop (at + p) all
given all buf got at p e within =
    let size : length got ≡ p = ap length e ∙ length-take-le p (drop at all) (omega (arith, length-drop at all)) in
    sym (take-append-drop p (drop at all))
    ∙ ap (λ (l : List ℕ). l ++ drop p (drop at all)) (sym e ∙ sym (take_at got (drop p buf) p size))
    ∙ ap (λ (l : List ℕ). take p (got ++ drop p buf) ++ l) (drop-drop p at all)

both_false : (a b : Bool) → (a || b) ≡ false → (a ≡ false) × (b ≡ false)
both_false true b e = cc
both_false false b e = (refl, e)

which : (b : Bool) → (b ≡ true) ⊎ (b ≡ false)
which true = inl refl
which false = inr refl

same_ok : (a b : ℕ) → ◌≡◌ {A = Result ℕ DeviceFault} (Ok a) (Ok b) → a ≡ b
same_ok a b e = cc

-- the bytes that a device over memory passes: none only where none is asked for
pub answered : (c : ScriptState) (asked p : ℕ) → answer_of c asked ≡ Ok p → (p ≤ asked) × (p ≡ 0 → asked ≡ 0)
answered c asked p e = elim (which (fails c)) [
  | inl t ↦ let no = rw t at e in cc
  | inr f ↦
      let some = eqb-false c.left 0 (both_false _ _ (both_false _ _ f).0).0 in
      let same : min asked (min c.left (max c.piece 1)) ≡ p = same_ok _ _ (rw f at e) in
      (omega arith, λ z. omega (arith, z))
]

-- ---- two writes

-- the first failed
pub prefix_first : (a b : Option (List ℕ)) (first second : List ℕ) → AppendsPrefix a b first → AppendsPrefix a b (first ++ second)
prefix_first a b first second (n, lt, h) =
    let m = min n (length first) in
    let same : take n first ≡ take m (first ++ second) = sym (take_min n first) ∙ sym (take-append-le m first second (omega arith)) in
    (m, omega (arith, lt, length-append first second), subst (Appends a b) same h)

-- the second failed
pub prefix_second : (a b c : Option (List ℕ)) (first second : List ℕ) → Appends a b first → AppendsPrefix b c second → AppendsPrefix a c (first ++ second)
prefix_second a b c first second whole (n, lt, h) =
    (length first + n, omega (arith, lt, length-append first second), subst (Appends a c) (sym (take-append-add first second n)) (Appends-trans a b c first (take n second) whole h))

-- the first failed
pub writes_first : {T U E F : Type 0} (q : Result T E) (r : Result U F) (f : F) (a b : Option (List ℕ)) (m n : ℕ) (first second all : List ℕ)
    → IsErr q → r ≡ Err f → first ++ second ≡ all → Writes r a b m n first → Writes q a b m n all
writes_first (Ok x) r f a b m n first second all q_err r_err e w = cc
writes_first (Err x) (Ok y) f a b m n first second all q_err r_err e w = cc
writes_first (Err x) (Err y) f a b m n first second all q_err r_err e w = record {
  complete = tt;
  prefix = subst (AppendsPrefix a b) e (prefix_first a b first second w.prefix);
  no_failure = tt;
  fault = w.fault;
}

-- the second came to this
pub writes_second : {T U E F : Type 0} (q : Result T E) (r : Result U F) (y : U) (a b c : Option (List ℕ)) (m n o : ℕ) (first second all : List ℕ)
    → r ≡ Ok y → first ++ second ≡ all → Writes r a b m n first → Writes q b c n o second → Writes q a c m o all
writes_second q (Err z) y a b c m n o first second all r_ok e w v = cc
writes_second (Ok x) (Ok z) y a b c m n o first second all r_ok e w v = record {
  complete = subst (Appends a c) e (Appends-trans a b c first second w.complete v.complete);
  prefix = tt;
  no_failure = v.no_failure ∙ w.no_failure;
  fault = tt;
}
writes_second (Err x) (Ok z) y a b c m n o first second all r_ok e w v = record {
  complete = tt;
  prefix = subst (AppendsPrefix a c) e (prefix_second a b c first second w.complete v.prefix);
  no_failure = tt;
  fault = v.fault ∙ ap (λ (k : ℕ). min (k + 1) (2 ^ 64 - 1)) w.no_failure;
}

-- ---- all that is told

-- a source that gave bytes still exposes them
pub stays_consumed : (a b : Option (List ℕ)) (x y z : Told) (bytes : List ℕ) → Consumes a b bytes → StaysTold a x y → StaysTold b y z → StaysTold a x z
stays_consumed None b x y z bytes gone one two = tt
stays_consumed (Some u) None x y z bytes gone one two = absurd gone
stays_consumed (Some u) (Some v) x y z bytes gone one two = two ∙ one

pub stays_prepended : (a b : Option (List ℕ)) (x y z : Told) (us vs : List ℕ) → Keeps (prepend_known us a) (prepend_known vs b) → StaysTold a x y → StaysTold b y z → StaysTold a x z
stays_prepended None b x y z us vs kept one two = tt
stays_prepended (Some u) None x y z us vs kept one two = absurd kept
stays_prepended (Some u) (Some v) x y z us vs kept one two = two ∙ one
