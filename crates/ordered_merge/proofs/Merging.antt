-- The pending frames of both taps, and which of them are safe.
use Rattle.std.proofs.Common.{◌≡◌, ℕ, zero, suc, ◌+◌, ◌-◌, ◌<◌, ◌≤◌, ◌^◌, min, Bool, true, false, cond, ◌||◌, nat_lt, nat_le, List, [], ◌∷◌, ◌++◌, Option, Some, None, Result, Ok, Err, length, take, drop, filter, count_by, slice_get, refl, sym, ap, ◌∙◌, subst, arith}
use Rattle.std.proofs.lemmas.Bool.{and_from, and_parts, false≢true, leb-true, le-leb, lt-ltb, ltb-true}
use Rattle.std.proofs.lemmas.Cmp.{ranked}
use Rattle.std.proofs.lemmas.List.{length-take, take_more}
use Rattle.std.proofs.lemmas.List.Sums.{length-filter}
use Rattle.std.proofs.lemmas.Option.{get_or_from_slice_get, slice_get-get_or, slice_get_within}
use Rattle.std.specs.List.{AllByRecursion}
use Rattle.std.specs.Option.{option_map_or}
use Rattle.std.specs.Result.{OnOk, OnErr}
use Rattle.std.specs.Ordering.{MatchOrdering, nat_cmp, ordering_then}
use Rattle.std.specs.declared.cmp.Ordering.{Ordering}
use Rattle.std.specs.declared.cmp.Ordering.TheVariants.{Less, Equal, Greater}
use Rattle.afdx_frame.specs.Frame.{Frame, network_cmp}
use Rattle.afdx_frame.specs.declared.key.Network.{Network}
use Rattle.afdx_frame.specs.declared.key.Network.TheVariants.{A, B}
use Rattle.ordered_merge.specs.Order.{IsBefore, IsRising, insert_frame, insert_frames}
use Rattle.ordered_merge.specs.Merge.{CanFetchAll, MergerState, change_tap, tap_after, tap_of, fetched, fetched_all, reaches, passes, is_safe, is_safe_of, safe_frames, cut_frames, without_first}
use Rattle.ordered_merge.specs.Buffer.{AreNumbered, BufferState, is_below, pushed, pushed_all}
use Rattle.ordered_merge.proofs.Rising.{each_insert, each_weaker, Differs, same_network, insert_into_first, insert_into_second, rising_insert_frames}
use Rattle.ordered_merge.proofs.Buffers.{before_stamp, count_cons, count_insert_frames, number_differs}

abbrev pub OfNetwork : Network → List Frame → Type 0
OfNetwork network l = AllByRecursion (λ f. f.network ≡ network) l

-- ---- networks that differ

abbrev Other : Network → Network → Type 0
Other m n = m ≡ n → ⊥

a_not_b : A ≡ B → ⊥
a_not_b e = cc

pub networks_differ : (m n : Network) (f : Frame) (l : List Frame) → (m ≡ n → ⊥) → f.network ≡ m → OfNetwork n l → AllByRecursion (Differs f) l
networks_differ m n f l other e h =
    each_weaker (λ g. g.network ≡ n) (Differs f) (λ g k s. other (sym e ∙ same_network f g s ∙ k)) l h

both_rise : (a b : List Frame) → IsRising a → IsRising b → OfNetwork A a → OfNetwork B b → IsRising (insert_frames b a)
both_rise a b r s h k =
    rising_insert_frames b a s r
    (each_weaker (λ f. f.network ≡ B) (λ f. AllByRecursion (Differs f) a) (λ f e. networks_differ B A f a (λ t. cc) e h) b k)

-- ---- the state by its buffers

abbrev pub state_of : ℕ → BufferState → BufferState → MergerState
state_of late x y = record { late = late; pending = insert_frames y.frames x.frames; a = x.tap; b = y.tap }

pub fetched_a : (late : ℕ) (x y : BufferState) (f : Frame) → f.network ≡ A → OfNetwork B y.frames → state_of late (pushed x f) y ≡ fetched (state_of late x y) f
fetched_a late x y f e h =
    let into = insert_into_second f y.frames x.frames (networks_differ A B f y.frames a_not_b e h) in
    ap (λ (l : List Frame). record (state_of late x y) { pending = l; a = tap_after f.stamp x.tap }) into
    ∙ ap (λ (n : Network). record (change_tap (tap_after f.stamp) n (state_of late x y)) { pending = insert_frame f (insert_frames y.frames x.frames) }) (sym e)

pub fetched_b : (late : ℕ) (x y : BufferState) (f : Frame) → f.network ≡ B → AllByRecursion (λ g. g.number < f.number) y.frames
    → state_of late x (pushed y f) ≡ fetched (state_of late x y) f
fetched_b late x y f e numbers =
    let into = insert_into_first f y.frames x.frames (each_weaker (λ g. g.number < f.number) (Differs f) (number_differs f) y.frames numbers) in
    ap (λ (l : List Frame). record (state_of late x y) { pending = l; b = tap_after f.stamp y.tap }) into
    ∙ ap (λ (n : Network). record (change_tap (tap_after f.stamp) n (state_of late x y)) { pending = insert_frame f (insert_frames y.frames x.frames) }) (sym e)

-- ---- frames one after another

next_after : (network : Network) (s : MergerState) (f : Frame) → f.network ≡ network → (tap_of (fetched s f) network).next ≡ (tap_of s network).next + 1
next_after A s f e = ap (λ (n : Network). (change_tap (tap_after f.stamp) n s).a.next) e
next_after B s f e = ap (λ (n : Network). (change_tap (tap_after f.stamp) n s).b.next) e

pub numbered_from : (network : Network) (s : MergerState) (fs : List Frame) → CanFetchAll network s fs → AreNumbered (tap_of s network).next fs
numbered_from network s [] h = tt
numbered_from network s (f ∷ fs) (is, can, rest) = (
  can.number ∙ ap (λ (n : Network). (tap_of s n).next) is,
  subst (λ (n : ℕ). AreNumbered n fs) (next_after network s f is) (numbered_from network (fetched s f) fs rest),
)

pub all_of : (network : Network) (s : MergerState) (fs : List Frame) → CanFetchAll network s fs → OfNetwork network fs
all_of network s [] h = tt
all_of network s (f ∷ fs) (is, can, rest) = (is, all_of network (fetched s f) fs rest)

pub numbered_front : (n : ℕ) (xs ys : List Frame) → AreNumbered n (xs ++ ys) → AreNumbered n xs
numbered_front n [] ys h = tt
numbered_front n (f ∷ xs) ys h = (h.0, numbered_front (n + 1) xs ys h.1)

pub each_pushed : (P : Frame → Type 0) (s : BufferState) (fs : List Frame) → AllByRecursion P fs → AllByRecursion P s.frames → AllByRecursion P (pushed_all s fs).frames
each_pushed P s [] h k = k
each_pushed P s (f ∷ fs) h k = each_pushed P (pushed s f) fs h.1 (each_insert P f s.frames h.0 k)

pub fetched_all_a : (late : ℕ) (x y : BufferState) (fs : List Frame) → OfNetwork A fs → OfNetwork B y.frames
    → state_of late (pushed_all x fs) y ≡ fetched_all (state_of late x y) fs
fetched_all_a late x y [] h k = refl
fetched_all_a late x y (f ∷ fs) h k =
    fetched_all_a late (pushed x f) y fs h.1 k ∙ ap (λ (s : MergerState). fetched_all s fs) (fetched_a late x y f h.0 k)

pub fetched_all_b : (late : ℕ) (x y : BufferState) (fs : List Frame) → OfNetwork B fs → AreNumbered y.tap.next fs
    → AllByRecursion (λ g. g.number < y.tap.next) y.frames → state_of late x (pushed_all y fs) ≡ fetched_all (state_of late x y) fs
fetched_all_b late x y [] h numbered below = refl
fetched_all_b late x y (f ∷ fs) h numbered below =
    let number : f.number ≡ y.tap.next = numbered.0 in
    let next = each_insert (λ g. g.number < y.tap.next + 1) f y.frames (omega arith)
    (each_weaker (λ g. g.number < y.tap.next) (λ g. g.number < y.tap.next + 1) (λ g less. omega (arith, less)) y.frames below) in
    fetched_all_b late x (pushed y f) fs h.1 numbered.1 next
    ∙ ap (λ (s : MergerState). fetched_all s fs)
    (fetched_b late x y f h.0 (subst (λ (n : ℕ). AllByRecursion (λ g. g.number < n) y.frames) (sym number) below))

-- a claim on a buffer after a push holds whatever the push returned
pub kept_on : {E : Type 0} (r : Result (Unit {0}) E) (P : BufferState → Type 0) (old next new : BufferState) → OnOk r (new ≡ next) → OnErr r (new ≡ old) → P next → P old → P new
kept_on (Ok x) P old next new e f p q = subst P (sym e) p
kept_on (Err x) P old next new e f p q = subst P (sym f) q

-- ---- safe frames are the first ones

by_test : (b : Bool) (P : Type 0) → (b ≡ true → P) → (b ≡ false → P) → P
by_test true P f g = f refl
by_test false P f g = g refl

reaches_down : (ended : Bool) (high : Option ℕ) (i j : ℕ) → i ≤ j → (ended || option_map_or (λ h. nat_le j h) high false) ≡ true
    → (ended || option_map_or (λ h. nat_le i h) high false) ≡ true
reaches_down true high i j l t = refl
reaches_down false None i j l t = absurd (false≢true t)
reaches_down false (Some h) i j l t = le-leb i h (omega (arith, leb-true j h t))

passes_down : (ended : Bool) (high : Option ℕ) (i j : ℕ) → i ≤ j → (ended || option_map_or (λ h. nat_lt j h) high false) ≡ true
    → (ended || option_map_or (λ h. nat_lt i h) high false) ≡ true
passes_down true high i j l t = refl
passes_down false None i j l t = absurd (false≢true t)
passes_down false (Some h) i j l t = lt-ltb i h (omega (arith, ltb-true j h t))

passes_reaches : (ended : Bool) (high : Option ℕ) (i j : ℕ) → i ≤ j → (ended || option_map_or (λ h. nat_lt j h) high false) ≡ true
    → (ended || option_map_or (λ h. nat_le i h) high false) ≡ true
passes_reaches true high i j l t = refl
passes_reaches false None i j l t = absurd (false≢true t)
passes_reaches false (Some h) i j l t = le-leb i h (omega (arith, ltb-true j h t))

reaches_passes : (ended : Bool) (high : Option ℕ) (i j : ℕ) → i < j → (ended || option_map_or (λ h. nat_le j h) high false) ≡ true
    → (ended || option_map_or (λ h. nat_lt i h) high false) ≡ true
reaches_passes true high i j l t = refl
reaches_passes false None i j l t = absurd (false≢true t)
reaches_passes false (Some h) i j l t = lt-ltb i h (omega (arith, leb-true j h t))

safe_down_at : (m n : Network) (s : MergerState) (i j : ℕ) → i ≤ j → (m ≡ B → n ≡ A → i < j) → is_safe_of n s j ≡ true → is_safe_of m s i ≡ true
safe_down_at A A s i j l k t =
    (let p = and_parts (reaches j s.a) (reaches j s.b) t in
    and_from (reaches i s.a) (reaches i s.b) (reaches_down s.a.ended s.a.high i j l p.0) (reaches_down s.b.ended s.b.high i j l p.1))
safe_down_at A B s i j l k t =
    (let p = and_parts (reaches j s.b) (passes j s.a) t in
    and_from (reaches i s.a) (reaches i s.b) (passes_reaches s.a.ended s.a.high i j l p.1) (reaches_down s.b.ended s.b.high i j l p.0))
safe_down_at B A s i j l k t =
    (let p = and_parts (reaches j s.a) (reaches j s.b) t in
    and_from (reaches i s.b) (passes i s.a) (reaches_down s.b.ended s.b.high i j l p.1) (reaches_passes s.a.ended s.a.high i j (k refl refl) p.0))
safe_down_at B B s i j l k t =
    (let p = and_parts (reaches j s.b) (passes j s.a) t in
    and_from (reaches i s.b) (passes i s.a) (reaches_down s.b.ended s.b.high i j l p.0) (passes_down s.a.ended s.a.high i j l p.1))

less_first : (o p : Ordering) → ordering_then o (ordering_then Greater p) ≡ Less → o ≡ Less
less_first Less p e = refl
less_first Equal p e = cc
less_first Greater p e = cc

less_numbers : (m n : ℕ) → nat_cmp m n ≡ Less → m < n
less_numbers m n e = let P : Ordering → Type 0 = λ o. MatchOrdering o (m < n) (m ≡ n) (n < m) in subst P e (ranked m n (nat_cmp m n) refl)

pub b_before_a : (f g : Frame) → IsBefore f g → f.network ≡ B → g.network ≡ A → f.stamp < g.stamp
b_before_a f g e m n =
    less_numbers f.stamp g.stamp
    (less_first (nat_cmp f.stamp g.stamp) (nat_cmp f.number g.number)
    (subst (λ (x : Network). ordering_then (nat_cmp f.stamp g.stamp) (ordering_then (network_cmp B x) (nat_cmp f.number g.number)) ≡ Less) n
    (subst (λ (x : Network). ordering_then (nat_cmp f.stamp g.stamp) (ordering_then (network_cmp x g.network) (nat_cmp f.number g.number)) ≡ Less) m e)))

pub safe_down : (s : MergerState) (f g : Frame) → IsBefore f g → is_safe s g ≡ true → is_safe s f ≡ true
safe_down s f g e t =
    let stamps = before_stamp f g e in
    safe_down_at f.network g.network s (f.stamp + s.late) (g.stamp + s.late) (omega arith)
    (λ m n. (let strict = b_before_a f g e m n in omega arith)) t

unsafe_after : (s : MergerState) (f : Frame) (l : List Frame) → AllByRecursion (IsBefore f) l → is_safe s f ≡ false → AllByRecursion (λ g. is_safe s g ≡ false) l
unsafe_after s f l h t =
    each_weaker (IsBefore f) (λ g. is_safe s g ≡ false)
    (λ g e. by_test (is_safe s g) (is_safe s g ≡ false) (λ u. absurd (false≢true (sym t ∙ safe_down s f g e u))) (λ u. u)) l h

filter_none : (p : Frame → Bool) (l : List Frame) → AllByRecursion (λ g. p g ≡ false) l → filter p l ≡ []
filter_none p [] h = refl
filter_none p (f ∷ l) h = ap (λ (b : Bool). cond b (f ∷ filter p l) (filter p l)) h.0 ∙ filter_none p l h.1

-- in a list in order they are its first
pub safe_first : (s : MergerState) (l : List Frame) → IsRising l → take (length (filter (is_safe s) l)) l ≡ filter (is_safe s) l
safe_first s [] r = refl
safe_first s (f ∷ l) r =
    by_test (is_safe s f) (take (length (filter (is_safe s) (f ∷ l))) (f ∷ l) ≡ filter (is_safe s) (f ∷ l))
    (λ t. (let e : filter (is_safe s) (f ∷ l) ≡ f ∷ filter (is_safe s) l = ap (λ (b : Bool). cond b (f ∷ filter (is_safe s) l) (filter (is_safe s) l)) t in
    ap (λ (xs : List Frame). take (length xs) (f ∷ l)) e ∙ ap (λ (xs : List Frame). f ∷ xs) (safe_first s l r.1) ∙ sym e))
    (λ t. (let e : filter (is_safe s) (f ∷ l) ≡ filter (is_safe s) l = ap (λ (b : Bool). cond b (f ∷ filter (is_safe s) l) (filter (is_safe s) l)) t in
    let none = e ∙ filter_none (is_safe s) l (unsafe_after s f l r.0 t) in
    ap (λ (xs : List Frame). take (length xs) (f ∷ l)) none ∙ sym none))

omega_min_zero : (n : ℕ) → min 0 n ≡ 0
omega_min_zero n = omega arith

omega_zero_min : (m : ℕ) → min (suc m) 0 ≡ 0
omega_zero_min m = omega arith

omega_suc_min : (m n : ℕ) → min (suc m) (suc n) ≡ suc (min m n)
omega_suc_min m n = omega arith

take_min_take : {X : Type 0} (m n : ℕ) (l : List X) → take (min m n) l ≡ take m (take n l)
take_min_take zero n l = ap (λ (k : ℕ). take k l) (omega_min_zero n)
take_min_take (suc m) zero l = ap (λ (k : ℕ). take k l) (omega_zero_min m)
take_min_take (suc m) (suc n) [] = ap (λ (k : ℕ). take k []) (omega_suc_min m n)
take_min_take (suc m) (suc n) (x ∷ l) = ap (λ (k : ℕ). take k (x ∷ l)) (omega_suc_min m n) ∙ ap (λ xs. x ∷ xs) (take_min_take m n l)

pub length_cut : (s : MergerState) (most : ℕ) → length (cut_frames s most) ≡ min most (count_by (is_safe s) s.pending)
length_cut s most = length-take most (safe_frames s) ∙ ap (min most) (length-filter (is_safe s) s.pending)

-- the frames that a cut takes stand first
pub cut_first : (s : MergerState) (most : ℕ) → IsRising s.pending → take (length (cut_frames s most)) s.pending ≡ cut_frames s most
cut_first s most r =
    ap (λ (n : ℕ). take n s.pending) (length-take most (safe_frames s))
    ∙ take_min_take most (length (safe_frames s)) s.pending
    ∙ ap (take most) (safe_first s s.pending r)

-- ---- how many are safe

count_agree : (p q : Frame → Bool) (l : List Frame) → AllByRecursion (λ f. p f ≡ q f) l → count_by p l ≡ count_by q l
count_agree p q [] h = refl
count_agree p q (f ∷ l) h =
    count_cons p f l ∙ ap (λ (b : Bool). cond b 1 0 + count_by p l) h.0 ∙ ap (λ (n : ℕ). cond (q f) 1 0 + n) (count_agree p q l h.1) ∙ sym (count_cons q f l)

each_both : (P Q : Frame → Type 0) (l : List Frame) → AllByRecursion P l → AllByRecursion Q l → AllByRecursion (λ f. P f × Q f) l
each_both P Q [] p q = tt
each_both P Q (f ∷ l) p q = ((p.0, q.0), each_both P Q l p.1 q.1)

abbrev pub Bounds : MergerState → Network → ℕ → Type 0
Bounds s network bound = (stamp : ℕ) → stamp < 2 ^ 63 → nat_lt stamp bound ≡ is_safe_of network s (stamp + s.late)

pub count_bound : (s : MergerState) (network : Network) (bound : ℕ) (l : List Frame) → Bounds s network bound → OfNetwork network l
    → AllByRecursion (λ f. f.stamp < 2 ^ 63) l → count_by (is_below bound) l ≡ count_by (is_safe s) l
count_bound s network bound l h k fits =
    count_agree (is_below bound) (is_safe s) l
    (each_weaker (λ f. (f.network ≡ network) × (f.stamp < 2 ^ 63)) (λ f. is_below bound f ≡ is_safe s f)
    (λ f p. h f.stamp p.1 ∙ ap (λ (n : Network). is_safe_of n s (f.stamp + s.late)) (sym p.0)) l
    (each_both (λ f. f.network ≡ network) (λ f. f.stamp < 2 ^ 63) l k fits))

pub count_is : (late most m n bound_a bound_b : ℕ) (x y : BufferState) → OfNetwork A x.frames → OfNetwork B y.frames
    → AllByRecursion (λ f. f.stamp < 2 ^ 63) x.frames → AllByRecursion (λ f. f.stamp < 2 ^ 63) y.frames
    → Bounds (state_of late x y) A bound_a → Bounds (state_of late x y) B bound_b
    → m ≡ min most (count_by (is_below bound_a) x.frames) → n ≡ min (most - m) (count_by (is_below bound_b) y.frames)
    → m + n ≡ length (cut_frames (state_of late x y) most)
count_is late most m n bound_a bound_b x y h k fits_a fits_b bounds_a bounds_b e f =
    let s = state_of late x y in
    let of_a = count_bound s A bound_a x.frames bounds_a h fits_a in
    let of_b = count_bound s B bound_b y.frames bounds_b k fits_b in
    let both = count_insert_frames (is_safe s) y.frames x.frames in
    let all = length_cut s most in
    omega arith

pub pending_rises : (late : ℕ) (x y : BufferState) → IsRising x.frames → IsRising y.frames → OfNetwork A x.frames → OfNetwork B y.frames → IsRising (state_of late x y).pending
pending_rises late x y r s h k = both_rise x.frames y.frames r s h k

-- ---- frames that are taken out one after another

one_more : (n : ℕ) → suc (n + 1) ≡ suc n + 1
one_more n = omega arith

pub drop_one : {X : Type 0} (n : ℕ) (l : List X) → drop 1 (drop n l) ≡ drop (n + 1) l
drop_one zero l = refl
drop_one (suc n) [] = ap (λ (k : ℕ). drop k []) (one_more n)
drop_one (suc n) (x ∷ l) = drop_one n l ∙ ap (λ (k : ℕ). drop k (x ∷ l)) (one_more n)

slice_get_drop : {X : Type 0} (n : ℕ) (l : List X) → slice_get (drop n l) 0 ≡ slice_get l n
slice_get_drop zero l = refl
slice_get_drop (suc n) [] = refl
slice_get_drop (suc n) (x ∷ l) = slice_get_drop n l

pub one_more_taken : (s t : MergerState) (n : ℕ) (r : Option Frame) (f : Frame) → t ≡ without_first n s → r ≡ slice_get t.pending 0 → r ≡ Some f
    → take n s.pending ++ f ∷ [] ≡ take (n + 1) s.pending
one_more_taken s t n r f e g h =
    let at : slice_get s.pending n ≡ Some f = sym (slice_get_drop n s.pending) ∙ sym (ap (λ (u : MergerState). slice_get u.pending 0) e) ∙ sym g ∙ h in
    let within : n < length s.pending = slice_get_within s.pending n f at in
    ap (λ (x : Frame). take n s.pending ++ x ∷ []) (sym (get_or_from_slice_get s.pending n f f at)) ∙ sym (take_more s.pending n f within)

pub one_more_gone : (s t : MergerState) (n : ℕ) → t ≡ without_first n s → without_first 1 t ≡ without_first (n + 1) s
one_more_gone s t n e = ap (without_first 1) e ∙ ap (λ (l : List Frame). record s { pending = l }) (drop_one n s.pending)

get_or_first : {X : Type 0} (l : List X) (n : ℕ) → n < length l → X
get_or_first [] n h = absurd (omega arith)
get_or_first (x ∷ l) n h = x

pub some_is_there : (s t : MergerState) (most n : ℕ) (r : Option Frame) → take (length (cut_frames s most)) s.pending ≡ cut_frames s most
    → n < length (cut_frames s most) → t ≡ without_first n s → r ≡ slice_get t.pending 0 → r ≡ None → ⊥
some_is_there s t most n r cut few e g none =
    let sizes = length-take (length (cut_frames s most)) s.pending in
    let same = ap length cut in
    let within : n < length s.pending = omega arith in
    (let there = slice_get-get_or s.pending n (get_or_first s.pending n within) within in
    let at = sym (slice_get_drop n s.pending) ∙ sym (ap (λ (u : MergerState). slice_get u.pending 0) e) ∙ sym g ∙ none in
    cc)
