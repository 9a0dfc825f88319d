-- The effect of draws and reads on the bytes that were read ahead.
use Rattle.std.proofs.Common.{◌≡◌, ℕ, ◌+◌, ◌-◌, ◌≤◌, List, [], ◌++◌, length, take, drop, slice_range, Option, Some, None, Result, Ok, Err, OnErr, refl, sym, ap, ◌∙◌, arith, append_assoc, drop-drop}
use Rattle.std.proofs.lemmas.List.{length-drop, length-append, length-take, length-take-le, take_at}
use borrow.Rule.Slice.PartMut.{put_mid}
use Rattle.std.specs.Io.KnownBytes.{Keeps, Consumes, prepend_known}
use Rattle.pcap_io.specs.Device.{TakesAtMost, TakesFewer}
use Rattle.pcap_io.proofs.Transfers.{take-front, take-read}

-- unread bytes, of which the first n are drawn
pub split : (s n e : ℕ) (xs : List ℕ) → s + n ≤ e → e ≤ length xs → slice_range xs s e ≡ slice_range xs s (s + n) ++ slice_range xs (s + n) e
split s n e xs le fits =
    let all : e - s ≡ n + (e - (s + n)) = omega arith in
    let first : n ≡ s + n - s = omega arith in
    ap (λ (m : ℕ). take m (drop s xs)) all
    ∙ (take-front n (e - (s + n)) (drop s xs) (omega (arith, length-drop s xs))
    ∙ (ap (λ (m : ℕ). take m (drop s xs) ++ take (e - (s + n)) (drop n (drop s xs))) first
    ∙ ap (λ (l : List ℕ). slice_range xs s (s + n) ++ take (e - (s + n)) l) (drop-drop n s xs)))

-- bytes in two parts
pub split_at : (s m e : ℕ) (xs : List ℕ) → s ≤ m → m ≤ e → e ≤ length xs → slice_range xs s e ≡ slice_range xs s m ++ slice_range xs m e
split_at s m e xs first second fits =
    let all : s + (m - s) ≡ m = omega arith in
    rw all at (split s (m - s) e xs (omega arith) fits)

-- a prefix of the unread bytes is drawn
pub consumes_prefix : (a : Option (List ℕ)) (old new front : List ℕ) → old ≡ front ++ new → Consumes (prepend_known old a) (prepend_known new a) front
consumes_prefix None old new front e = tt
consumes_prefix (Some x) old new front e = ap (λ (l : List ℕ). l ++ x) e ∙ append_assoc front new x

-- all unread bytes are drawn, and more came from the source
pub consumes_across : (a b : Option (List ℕ)) (old new more all : List ℕ) → new ≡ [] → all ≡ old ++ more → Consumes a b more
    → Consumes (prepend_known old a) (prepend_known new b) all
consumes_across None b old new more all none e p = tt
consumes_across (Some x) None old new more all none e p = absurd p
consumes_across (Some x) (Some y) old new more all none e p =
    ap (λ (l : List ℕ). old ++ l) p ∙ sym (append_assoc old more y) ∙ ap (λ (l : List ℕ). l ++ y) (sym e) ∙ ap (λ (l : List ℕ). all ++ (l ++ y)) (sym none)

-- all unread bytes are gone, and some of the source's
pub takes_across : (a b : Option (List ℕ)) (old new : List ℕ) (n : ℕ) → new ≡ [] → TakesAtMost n a b
    → TakesAtMost (length old + n) (prepend_known old a) (prepend_known new b)
takes_across a b old new n none (gone, few, p) =
    (old ++ gone, omega (arith, length-append old gone), consumes_across a b old new gone (old ++ gone) none refl p)

pub takes_fewer : (a b : Option (List ℕ)) (n m : ℕ) → n ≤ m → TakesAtMost n a b → TakesAtMost m a b
takes_fewer a b n m le (gone, few, p) = (gone, omega arith, p)

-- as many as a buffer has
pub takes_of : (a b : Option (List ℕ)) (n m : ℕ) (bytes : List ℕ) → length bytes ≤ m → Consumes a b (take n bytes) → TakesAtMost m a b
takes_of a b n m bytes le p = (take n bytes, omega (arith, length-take n bytes), p)

pub none_between : (e : ℕ) (xs : List ℕ) → slice_range xs e e ≡ []
none_between e xs =
    let none : e - e ≡ 0 = omega arith in
    ap (λ (m : ℕ). take m (drop e xs)) none

pub length-between : (s e : ℕ) (xs : List ℕ) → e ≤ length xs → length (slice_range xs s e) ≡ e - s
length-between s e xs fits = length-take-le (e - s) (drop s xs) (omega (arith, length-drop s xs))

-- a buffer that has the unread bytes, and what was read after them
pub across : (u n k : ℕ) (old copied buf got : List ℕ) → copied ≡ old → length old ≡ u → u ≤ length buf → n ≤ length got
    → take (u + n) (put_mid u k (copied ++ drop u buf) got) ≡ old ++ take n got
across u n k old copied buf got same size within fits =
    let len : length copied ≡ u = ap length same ∙ size in
    take-read u n k (copied ++ drop u buf) got (omega (arith, length-append copied (drop u buf), len)) fits
    ∙ ap (λ (l : List ℕ). l ++ take n got) (take_at copied (drop u buf) u len ∙ same)

-- all that was read after the bytes that stand there
pub keeps_more : (a b : Option (List ℕ)) (old new bs : List ℕ) → new ≡ old ++ bs → Consumes a b bs → Keeps (prepend_known old a) (prepend_known new b)
keeps_more None b old new bs e p = tt
keeps_more (Some x) None old new bs e p = absurd p
keeps_more (Some x) (Some y) old new bs e p = ap (λ (l : List ℕ). l ++ y) e ∙ (append_assoc old bs y ∙ ap (λ (l : List ℕ). old ++ l) (sym p))

kept_consumes : (a b c : Option (List ℕ)) (bs : List ℕ) → Keeps a b → Consumes b c bs → Consumes a c bs
kept_consumes None b c bs p q = tt
kept_consumes (Some x) None c bs p q = absurd p
kept_consumes (Some x) (Some y) None bs p q = absurd q
kept_consumes (Some x) (Some y) (Some z) bs p q = sym p ∙ q

-- all that is drawn from the start of the block, where all was kept
pub draws : (a b : Option (List ℕ)) (start m e : ℕ) (xs : List ℕ) → start ≡ 0 → m ≤ e → e ≤ length xs
    → Keeps a (prepend_known (slice_range xs start e) b) → Consumes a (prepend_known (slice_range xs m e) b) (slice_range xs 0 m)
draws a b start m e xs zero le fits kept =
    let none : 0 + m ≡ m = omega arith in
    kept_consumes a _ _ _ (rw zero at kept) (consumes_prefix b _ _ _ (rw none at (split 0 m e xs (omega arith) fits)))

pub on_err_from : {T E Q : Type 0} (r : Result T E) → Q → OnErr r Q
on_err_from (Ok x) q = tt
on_err_from (Err e) q = q

-- all unread bytes are gone, and fewer of the source's
pub fewer_across : (a b : Option (List ℕ)) (old new : List ℕ) (n : ℕ) → new ≡ [] → TakesFewer n a b
    → TakesFewer (length old + n) (prepend_known old a) (prepend_known new b)
fewer_across a b old new n none (gone, few, p) =
    (old ++ gone, omega (arith, few, length-append old gone), consumes_across a b old new gone (old ++ gone) none refl p)

-- bytes that were drawn stand before the unread ones again
pub undrawn : (a b : Option (List ℕ)) (unread both bytes : List ℕ) → both ≡ bytes ++ unread → Consumes a (prepend_known unread b) bytes
    → Keeps a (prepend_known both b)
undrawn None b unread both bytes e p = tt
undrawn (Some x) None unread both bytes e p = absurd p
undrawn (Some x) (Some y) unread both bytes e p = ap (λ (l : List ℕ). l ++ y) e ∙ (append_assoc bytes unread y ∙ sym p)
