-- Whole runs of a merger.
use Rattle.std.proofs.Common.{◌≡◌, ℕ, zero, suc, ◌+◌, ◌<◌, ◌≤◌, ◌⊎◌, max, Bool, true, false, ◌==◌, cond, ◌||◌, nat_lt, nat_le, List, [], ◌∷◌, ◌++◌, Option, Some, None, length, take, drop, filter, refl, sym, ap, ◌∙◌, subst, arith, inl, inr, append_assoc}
use Rattle.std.proofs.lemmas.Bool.{cond_both, and_parts, and_from, false≢true, leb-true, le-leb, lt-ltb, ltb-false, ltb-true}
use Rattle.std.proofs.lemmas.Cmp.{nat_cmp_total, tied_itself}
use Rattle.std.proofs.lemmas.List.{append-nil, take-append-drop}
use Rattle.std.proofs.lemmas.List.Elements.{All-from_recursion, recursion_from_All, filter-append, filter_agree}
use Rattle.std.proofs.lemmas.List.Sorted.{All-permutation, IsPermutation-refl, IsPermutation-sym, IsPermutation-trans, IsPermutation-cons, IsPermutation-middle, IsPermutation-to_front, IsPermutation-append_right}
use Rattle.std.specs.List.{AllByRecursion}
use Rattle.std.specs.List.Sorted.{IsPermutation}
use Rattle.std.specs.Option.{ForSome, option_map_or}
use Rattle.std.specs.Ordering.{nat_cmp, ordering_then}
use Rattle.std.specs.declared.cmp.Ordering.{Ordering}
use Rattle.std.specs.declared.cmp.Ordering.TheVariants.{Less, Equal, Greater}
use Rattle.afdx_frame.specs.Frame.{Frame, network_cmp}
use Rattle.afdx_frame.specs.declared.key.Network.{Network}
use Rattle.afdx_frame.specs.declared.key.Network.TheVariants.{A, B}
use Rattle.ordered_merge.specs.Order.{IsBefore, IsRising, IsOrder, insert_frame}
use Rattle.ordered_merge.specs.Merge.{Tap, MergerState, new_tap, new_state, tap_of, change_tap, IsInTime, CanFetch, MayCome, highest, tap_after, fetched, ended, reaches, passes, is_safe, is_safe_of, safe_frames, cut_frames, without_first, after_cut, AreOfTap, Follows}
use Rattle.ordered_merge.specs.Laws.{Cuts, joined}
use Rattle.ordered_merge.proofs.Rising.{each_append, each_weaker, each_front, each_back, each_insert, Differs, not_back, test_from_before, rising_insert, permutation_insert, same_network, same_number}
use Rattle.ordered_merge.proofs.Merging.{cut_first}

by_test : (b : Bool) (P : Type 0) → (b ≡ true → P) → (b ≡ false → P) → P
by_test true P f g = f refl
by_test false P f g = g refl

-- ---- lists in order, one after another

rising_front : (xs ys : List Frame) → IsRising (xs ++ ys) → IsRising xs
rising_front [] ys r = tt
rising_front (x ∷ xs) ys r = (each_front (IsBefore x) xs ys r.0, rising_front xs ys r.1)

pub rising_back : (xs ys : List Frame) → IsRising (xs ++ ys) → IsRising ys
rising_back [] ys r = r
rising_back (x ∷ xs) ys r = rising_back xs ys r.1

-- each frame of the first comes before each of the second
rising_between : (xs ys : List Frame) → IsRising (xs ++ ys) → AllByRecursion (λ x. AllByRecursion (IsBefore x) ys) xs
rising_between [] ys r = tt
rising_between (x ∷ xs) ys r = (each_back (IsBefore x) xs ys r.0, rising_between xs ys r.1)

rising_join : (xs ys : List Frame) → IsRising xs → IsRising ys → AllByRecursion (λ x. AllByRecursion (IsBefore x) ys) xs → IsRising (xs ++ ys)
rising_join [] ys r s h = s
rising_join (x ∷ xs) ys r s h = (each_append (IsBefore x) xs ys r.0 h.0, rising_join xs ys r.1 s h.1)

pub each_permutation : {X : Type 0} (P : X → Type 0) (xs ys : List X) → IsPermutation xs ys → AllByRecursion P xs → AllByRecursion P ys
each_permutation P xs ys p h = recursion_from_All P ys (All-permutation P xs ys p (All-from_recursion P xs h))

-- ---- before, by parts of the keys

less_cmp : (m n : ℕ) → m < n → nat_cmp m n ≡ Less
less_cmp m n h = ap (λ (b : Bool). cond b Less (cond (m == n) Equal Greater)) (lt-ltb m n h)

same_cmp : (m n : ℕ) → m ≡ n → nat_cmp m n ≡ Equal
same_cmp m n e = ap (nat_cmp m) (sym e) ∙ tied_itself nat_cmp_total m

lower_or_same : (m n : ℕ) → m ≤ n → (m < n) ⊎ (m ≡ n)
lower_or_same m n h = by_test (nat_lt m n) ((m < n) ⊎ (m ≡ n)) (λ t. inl (ltb-true m n t)) (λ t. inr (let k = ltb-false m n t in omega arith))

pub before_by_stamp : (f g : Frame) → f.stamp < g.stamp → IsBefore f g
before_by_stamp f g h =
    ap (λ (o : Ordering). ordering_then o (ordering_then (network_cmp f.network g.network) (nat_cmp f.number g.number))) (less_cmp f.stamp g.stamp h)

before_by_rest : (f g : Frame) → f.stamp ≤ g.stamp → ordering_then (network_cmp f.network g.network) (nat_cmp f.number g.number) ≡ Less → IsBefore f g
before_by_rest f g h e =
    elim (lower_or_same f.stamp g.stamp h) [
      | inl less ↦ before_by_stamp f g less
      | inr same ↦ ap (λ (o : Ordering). ordering_then o (ordering_then (network_cmp f.network g.network) (nat_cmp f.number g.number))) (same_cmp f.stamp g.stamp same) ∙ e
    ]

network_itself : (n : Network) → network_cmp n n ≡ Equal
network_itself A = refl
network_itself B = refl

before_by_number : (f g : Frame) → f.stamp ≤ g.stamp → f.network ≡ g.network → f.number < g.number → IsBefore f g
before_by_number f g h e k =
    before_by_rest f g h
    (ap (λ (o : Ordering). ordering_then o (nat_cmp f.number g.number)) (ap (network_cmp f.network) (sym e) ∙ network_itself f.network) ∙ less_cmp f.number g.number k)

before_by_network : (f g : Frame) → f.stamp ≤ g.stamp → f.network ≡ A → g.network ≡ B → IsBefore f g
before_by_network f g h e k =
    before_by_rest f g h
    (ap (λ (n : Network). ordering_then (network_cmp n g.network) (nat_cmp f.number g.number)) e
    ∙ ap (λ (n : Network). ordering_then (network_cmp A n) (nat_cmp f.number g.number)) k)

-- ---- a tap's frames

of_tap_next : (network : Network) (late : ℕ) (tap : Tap) (l : List Frame) (last : Tap) → AreOfTap network late tap l last → tap.next ≤ last.next
of_tap_next network late tap [] last h = omega arith
of_tap_next network late tap (f ∷ l) last h = (let rest = of_tap_next network late (tap_after f.stamp tap) l last h.3 in omega arith)

pub of_tap_numbers : (network : Network) (late : ℕ) (tap : Tap) (l : List Frame) (last : Tap) → AreOfTap network late tap l last
    → AllByRecursion (λ f. (f.network ≡ network) × (f.number < last.next)) l
of_tap_numbers network late tap [] last h = tt
of_tap_numbers network late tap (f ∷ l) last h =
    let rest = of_tap_next network late (tap_after f.stamp tap) l last h.3 in
    let number = h.1 in
    ((h.0, omega arith), of_tap_numbers network late (tap_after f.stamp tap) l last h.3)

pub of_tap_same : (network : Network) (late : ℕ) (tap : Tap) (l : List Frame) (last other : Tap) → last.next ≡ other.next → last.high ≡ other.high
    → AreOfTap network late tap l last → AreOfTap network late tap l other
of_tap_same network late tap [] last other e g h = (h.0 ∙ e, h.1 ∙ g)
of_tap_same network late tap (f ∷ l) last other e g h = (h.0, h.1, h.2, of_tap_same network late (tap_after f.stamp tap) l last other e g h.3)

pub of_tap_append : (network : Network) (late : ℕ) (tap : Tap) (l : List Frame) (last : Tap) (f : Frame) → AreOfTap network late tap l last
    → f.network ≡ network → f.number ≡ last.next → IsInTime late last f → AreOfTap network late tap (l ++ f ∷ []) (tap_after f.stamp last)
of_tap_append network late tap [] last f h e n t = (
  e,
  n ∙ sym h.0,
  λ high is. t high (sym h.1 ∙ is),
  (ap (λ (k : ℕ). k + 1) h.0, ap (λ (high : Option ℕ). Some (highest high f.stamp)) h.1),
)
of_tap_append network late tap (g ∷ l) last f h e n t =
    (h.0, h.1, h.2, of_tap_append network late (tap_after g.stamp tap) l last f h.3 e n t)

-- ---- a tap goes on

pub record Grows (before after : Tap) : Type 0 where
  pub ended : before.ended ≡ true → after.ended ≡ true
  pub next : before.next ≤ after.next
  pub high : (h : ℕ) → before.high ≡ Some h → (k : ℕ) × (after.high ≡ Some k) × (h ≤ k)

le_itself : (n : ℕ) → n ≤ n
le_itself n = omega arith

stays : (tap : Tap) → Grows tap tap
stays tap = record { ended = λ e. e; next = omega arith; high = λ h e. (h, e, le_itself h) }

grows_after : (stamp : ℕ) (tap : Tap) → Grows tap (tap_after stamp tap)
grows_after stamp tap = record {
  ended = λ e. e;
  next = omega arith;
  high = λ h e. (highest tap.high stamp, refl, (let is : highest tap.high stamp ≡ max h stamp = ap (λ (o : Option ℕ). highest o stamp) e in omega arith));
}

grows_ended : (tap : Tap) → Grows tap (record tap { ended = true })
grows_ended tap = record { ended = λ e. refl; next = omega arith; high = λ h e. (h, e, le_itself h) }

abbrev StateGrows : MergerState → MergerState → Type 0
StateGrows s t = (network : Network) → Grows (tap_of s network) (tap_of t network)

may_come_before : (s t : MergerState) (f : Frame) → StateGrows s t → t.late ≡ s.late → MayCome t f → MayCome s f
may_come_before s t f grows late may =
    let g = grows f.network in
    record {
      going = by_test (tap_of s f.network).ended ((tap_of s f.network).ended ≡ false)
          (λ e. absurd (false≢true (sym may.going ∙ g.ended e))) (λ e. e);
      number = omega (arith, g.next, may.number);
      in_time = λ h e. (let later = g.high h e in
          let bound = may.in_time later.0 later.1 in
          let order = later.2 in
          omega arith);
    }

reach_on : (ended other : Bool) (high later : Option ℕ) (moment : ℕ) → (ended ≡ true → other ≡ true)
    → ((h : ℕ) → high ≡ Some h → (k : ℕ) × (later ≡ Some k) × (h ≤ k))
    → (ended || option_map_or (λ h. nat_le moment h) high false) ≡ true → (other || option_map_or (λ h. nat_le moment h) later false) ≡ true
reach_on true other high later moment e h t = ap (λ (b : Bool). b || option_map_or (λ k. nat_le moment k) later false) (e refl)
reach_on false true high later moment e h t = refl
reach_on false false None later moment e h t = absurd (false≢true t)
reach_on false false (Some n) later moment e h t =
    (let k = h n refl in
    ap (λ (o : Option ℕ). option_map_or (λ j. nat_le moment j) o false) k.1 ∙ le-leb moment k.0 (omega (arith, leb-true moment n t, k.2)))

pass_on : (ended other : Bool) (high later : Option ℕ) (moment : ℕ) → (ended ≡ true → other ≡ true)
    → ((h : ℕ) → high ≡ Some h → (k : ℕ) × (later ≡ Some k) × (h ≤ k))
    → (ended || option_map_or (λ h. nat_lt moment h) high false) ≡ true → (other || option_map_or (λ h. nat_lt moment h) later false) ≡ true
pass_on true other high later moment e h t = ap (λ (b : Bool). b || option_map_or (λ k. nat_lt moment k) later false) (e refl)
pass_on false true high later moment e h t = refl
pass_on false false None later moment e h t = absurd (false≢true t)
pass_on false false (Some n) later moment e h t =
    (let k = h n refl in
    ap (λ (o : Option ℕ). option_map_or (λ j. nat_lt moment j) o false) k.1 ∙ lt-ltb moment k.0 (omega (arith, ltb-true moment n t, k.2)))

grows_reaches : (x y : Tap) (moment : ℕ) → Grows x y → reaches moment x ≡ true → reaches moment y ≡ true
grows_reaches x y moment g t = reach_on x.ended y.ended x.high y.high moment g.ended g.high t

grows_passes : (x y : Tap) (moment : ℕ) → Grows x y → passes moment x ≡ true → passes moment y ≡ true
grows_passes x y moment g t = pass_on x.ended y.ended x.high y.high moment g.ended g.high t

safe_of_on : (network : Network) (s t : MergerState) (moment : ℕ) → StateGrows s t → is_safe_of network s moment ≡ true → is_safe_of network t moment ≡ true
safe_of_on A s t moment g h =
    (let p = and_parts (reaches moment s.a) (reaches moment s.b) h in
    and_from (reaches moment t.a) (reaches moment t.b) (grows_reaches s.a t.a moment (g A) p.0) (grows_reaches s.b t.b moment (g B) p.1))
safe_of_on B s t moment g h =
    (let p = and_parts (reaches moment s.b) (passes moment s.a) h in
    and_from (reaches moment t.b) (passes moment t.a) (grows_reaches s.b t.b moment (g B) p.0) (grows_passes s.a t.a moment (g A) p.1))

safe_on : (s t : MergerState) (f : Frame) → StateGrows s t → t.late ≡ s.late → is_safe s f ≡ true → is_safe t f ≡ true
safe_on s t f g late h =
    ap (λ (n : ℕ). is_safe_of f.network t (f.stamp + n)) late ∙ safe_of_on f.network s t (f.stamp + s.late) g h

each_below_on : (s t : MergerState) (out : List Frame) → StateGrows s t → t.late ≡ s.late → ((f : Frame) → MayCome s f → AllByRecursion (λ g. IsBefore g f) out)
    → (f : Frame) → MayCome t f → AllByRecursion (λ g. IsBefore g f) out
each_below_on s t out g late below = λ f may. below f (may_come_before s t f g late may)

each_safe_on : (s t : MergerState) (out : List Frame) → StateGrows s t → t.late ≡ s.late → AllByRecursion (λ g. is_safe s g ≡ true) out
    → AllByRecursion (λ g. is_safe t g ≡ true) out
each_safe_on s t out g late h = each_weaker (λ f. is_safe s f ≡ true) (λ f. is_safe t f ≡ true) (λ f. safe_on s t f g late) out h

-- ---- a safe frame lies below each that may come

reach_bound : (ended : Bool) (high : Option ℕ) (moment limit : ℕ) → (ended || option_map_or (λ h. nat_le moment h) high false) ≡ true → ended ≡ false
    → ForSome high (λ h. h ≤ limit) → moment ≤ limit
reach_bound true high moment limit t going h = absurd (false≢true (sym going))
reach_bound false None moment limit t going h = absurd (false≢true t)
reach_bound false (Some n) moment limit t going h = (let bound = h n refl in omega (arith, leb-true moment n t))

pass_bound : (ended : Bool) (high : Option ℕ) (moment limit : ℕ) → (ended || option_map_or (λ h. nat_lt moment h) high false) ≡ true → ended ≡ false
    → ForSome high (λ h. h ≤ limit) → moment < limit
pass_bound true high moment limit t going h = absurd (false≢true (sym going))
pass_bound false None moment limit t going h = absurd (false≢true t)
pass_bound false (Some n) moment limit t going h = (let bound = h n refl in omega (arith, ltb-true moment n t))

safe_below_at : (m n : Network) (s : MergerState) (g f : Frame) → g.network ≡ m → f.network ≡ n → (tap_of s n).ended ≡ false → (tap_of s n).next ≤ f.number
    → IsInTime s.late (tap_of s n) f → is_safe_of m s (g.stamp + s.late) ≡ true → g.number < (tap_of s m).next → IsBefore g f
safe_below_at A A s g f e k going number in_time t known =
    (let p = and_parts (reaches (g.stamp + s.late) s.a) (reaches (g.stamp + s.late) s.b) t in
    let bound = reach_bound s.a.ended s.a.high (g.stamp + s.late) (f.stamp + s.late) p.0 going in_time in
    before_by_number g f (omega arith) (e ∙ sym k) (omega arith))
safe_below_at A B s g f e k going number in_time t known =
    (let p = and_parts (reaches (g.stamp + s.late) s.a) (reaches (g.stamp + s.late) s.b) t in
    let bound = reach_bound s.b.ended s.b.high (g.stamp + s.late) (f.stamp + s.late) p.1 going in_time in
    before_by_network g f (omega arith) e k)
safe_below_at B A s g f e k going number in_time t known =
    (let p = and_parts (reaches (g.stamp + s.late) s.b) (passes (g.stamp + s.late) s.a) t in
    let bound = pass_bound s.a.ended s.a.high (g.stamp + s.late) (f.stamp + s.late) p.1 going in_time in
    before_by_stamp g f (omega arith))
safe_below_at B B s g f e k going number in_time t known =
    (let p = and_parts (reaches (g.stamp + s.late) s.b) (passes (g.stamp + s.late) s.a) t in
    let bound = reach_bound s.b.ended s.b.high (g.stamp + s.late) (f.stamp + s.late) p.0 going in_time in
    before_by_number g f (omega arith) (e ∙ sym k) (omega arith))

-- the frame came
abbrev pub Came : MergerState → Frame → Type 0
Came s g = g.number < (tap_of s g.network).next

pub safe_below : (s : MergerState) (g f : Frame) → is_safe s g ≡ true → Came s g → MayCome s f → IsBefore g f
safe_below s g f t known may = safe_below_at g.network f.network s g f refl refl may.going may.number may.in_time t known

came_of : (network : Network) (s : MergerState) (g : Frame) → g.network ≡ network → g.number < (tap_of s network).next → Came s g
came_of network s g e h = (let same : (tap_of s g.network).next ≡ (tap_of s network).next = ap (λ (n : Network). (tap_of s n).next) e in omega arith)

pub all_came : (s : MergerState) (fa fb out : List Frame) → Follows s fa fb out → AllByRecursion (Came s) (out ++ s.pending)
all_came s fa fb out f =
    each_permutation (Came s) (fa ++ fb) (out ++ s.pending) f.order.frames
    (each_append (Came s) fa fb
    (each_weaker (λ g. (g.network ≡ A) × (g.number < s.a.next)) (Came s) (λ g h. came_of A s g h.0 h.1) fa (of_tap_numbers A s.late new_tap fa s.a f.a))
    (each_weaker (λ g. (g.network ≡ B) × (g.number < s.b.next)) (Came s) (λ g h. came_of B s g h.0 h.1) fb (of_tap_numbers B s.late new_tap fb s.b f.b)))

-- ---- the steps of a run

both : {X : Type 0} (P Q : X → Type 0) (l : List X) → AllByRecursion P l → AllByRecursion Q l → AllByRecursion (λ x. P x × Q x) l
both P Q [] p q = tt
both P Q (x ∷ l) p q = ((p.0, q.0), both P Q l p.1 q.1)

pub follows_new : (late : ℕ) → Follows (new_state late) [] [] []
follows_new late = record {
  order = record { rising = tt; frames = IsPermutation-refl [] };
  a = (refl, refl);
  b = (refl, refl);
  below = λ f may. tt;
  safe = tt;
}

may_come : (s : MergerState) (f : Frame) → CanFetch s f → MayCome s f
may_come s f can = record { going = can.going; number = omega (arith, can.number); in_time = can.in_time }

came_differs : (s : MergerState) (f g : Frame) → CanFetch s f → Came s g → Differs f g
came_differs s f g can came = λ e.
    (let networks : (tap_of s f.network).next ≡ (tap_of s g.network).next = ap (λ (n : Network). (tap_of s n).next) (same_network f g e) in
    let numbers = same_number f g e in
    let next = can.number in
    absurd (omega arith))

rising_more : (s : MergerState) (fa fb out : List Frame) (f : Frame) → Follows s fa fb out → CanFetch s f → IsRising (out ++ insert_frame f s.pending)
rising_more s fa fb out f fol can =
    let pending = rising_back out s.pending fol.order.rising in
    let differ = each_weaker (Came s) (Differs f) (λ g. came_differs s f g can) s.pending (each_back (Came s) out s.pending (all_came s fa fb out fol)) in
    rising_join out (insert_frame f s.pending) (rising_front out s.pending fol.order.rising) (rising_insert f s.pending pending differ)
    (each_weaker (λ x. IsBefore x f × AllByRecursion (IsBefore x) s.pending) (λ x. AllByRecursion (IsBefore x) (insert_frame f s.pending))
    (λ x h. each_insert (IsBefore x) f s.pending h.0 h.1) out
    (both (λ x. IsBefore x f) (λ x. AllByRecursion (IsBefore x) s.pending) out (fol.below f (may_come s f can)) (rising_between out s.pending fol.order.rising)))

-- the permutation, with a frame more
frames_more : (all out pending : List Frame) (f : Frame) → IsPermutation all (out ++ pending) → IsPermutation (f ∷ all) (out ++ insert_frame f pending)
frames_more all out pending f p =
    IsPermutation-trans (f ∷ all) (f ∷ (out ++ pending)) (out ++ insert_frame f pending) (IsPermutation-cons f all (out ++ pending) p)
    (IsPermutation-trans (f ∷ (out ++ pending)) (out ++ f ∷ pending) (out ++ insert_frame f pending)
    (IsPermutation-sym (out ++ f ∷ pending) (f ∷ (out ++ pending)) (IsPermutation-middle out f pending))
    (IsPermutation-append_right out (f ∷ pending) (insert_frame f pending) (permutation_insert f pending)))

grows_a : (s : MergerState) (f : Frame) (network : Network) → Grows (tap_of s network) (tap_of (record s { pending = insert_frame f s.pending; a = tap_after f.stamp s.a }) network)
grows_a s f A = grows_after f.stamp s.a
grows_a s f B = stays s.b

grows_b : (s : MergerState) (f : Frame) (network : Network) → Grows (tap_of s network) (tap_of (record s { pending = insert_frame f s.pending; b = tap_after f.stamp s.b }) network)
grows_b s f A = stays s.a
grows_b s f B = grows_after f.stamp s.b

pub follows_fetch_a : (s : MergerState) (fa fb out : List Frame) (f : Frame) → Follows s fa fb out → CanFetch s f → f.network ≡ A
    → Follows (fetched s f) (fa ++ f ∷ []) fb out
follows_fetch_a s fa fb out f fol can e =
    let t : MergerState = record s { pending = insert_frame f s.pending; a = tap_after f.stamp s.a } in
    let is : t ≡ fetched s f = ap (λ (n : Network). record (change_tap (tap_after f.stamp) n s) { pending = insert_frame f s.pending }) (sym e) in
    let same : f.number ≡ s.a.next = can.number ∙ ap (λ (n : Network). (tap_of s n).next) e in
    let in_time : IsInTime s.late s.a f = subst (λ (n : Network). IsInTime s.late (tap_of s n) f) e can.in_time in
    subst (λ (u : MergerState). Follows u (fa ++ f ∷ []) fb out) is record {
      order = record {
        rising = rising_more s fa fb out f fol can;
        frames = subst (λ (l : List Frame). IsPermutation l (out ++ insert_frame f s.pending)) (sym (append_assoc fa (f ∷ []) fb))
            (IsPermutation-trans (fa ++ f ∷ fb) (f ∷ (fa ++ fb)) (out ++ insert_frame f s.pending) (IsPermutation-middle fa f fb)
            (frames_more (fa ++ fb) out s.pending f fol.order.frames));
      };
      a = of_tap_append A s.late new_tap fa s.a f fol.a e same in_time;
      b = fol.b;
      below = each_below_on s t out (grows_a s f) refl fol.below;
      safe = each_safe_on s t out (grows_a s f) refl fol.safe;
    }

pub follows_fetch_b : (s : MergerState) (fa fb out : List Frame) (f : Frame) → Follows s fa fb out → CanFetch s f → f.network ≡ B
    → Follows (fetched s f) fa (fb ++ f ∷ []) out
follows_fetch_b s fa fb out f fol can e =
    let t : MergerState = record s { pending = insert_frame f s.pending; b = tap_after f.stamp s.b } in
    let is : t ≡ fetched s f = ap (λ (n : Network). record (change_tap (tap_after f.stamp) n s) { pending = insert_frame f s.pending }) (sym e) in
    let same : f.number ≡ s.b.next = can.number ∙ ap (λ (n : Network). (tap_of s n).next) e in
    let in_time : IsInTime s.late s.b f = subst (λ (n : Network). IsInTime s.late (tap_of s n) f) e can.in_time in
    subst (λ (u : MergerState). Follows u fa (fb ++ f ∷ []) out) is record {
      order = record {
        rising = rising_more s fa fb out f fol can;
        frames = subst (λ (l : List Frame). IsPermutation l (out ++ insert_frame f s.pending)) (append_assoc fa fb (f ∷ []))
            (IsPermutation-trans ((fa ++ fb) ++ f ∷ []) (f ∷ (fa ++ fb)) (out ++ insert_frame f s.pending) (IsPermutation-to_front (fa ++ fb) f)
            (frames_more (fa ++ fb) out s.pending f fol.order.frames));
      };
      a = fol.a;
      b = of_tap_append B s.late new_tap fb s.b f fol.b e same in_time;
      below = each_below_on s t out (grows_b s f) refl fol.below;
      safe = each_safe_on s t out (grows_b s f) refl fol.safe;
    }

grows_end : (s : MergerState) (ends network : Network) → Grows (tap_of s network) (tap_of (ended s ends) network)
grows_end s A A = grows_ended s.a
grows_end s A B = stays s.b
grows_end s B A = stays s.a
grows_end s B B = grows_ended s.b

pub follows_end : (s : MergerState) (fa fb out : List Frame) (network : Network) → Follows s fa fb out → Follows (ended s network) fa fb out
follows_end s fa fb out A fol = record {
  order = fol.order;
  a = of_tap_same A s.late new_tap fa s.a (record s.a { ended = true }) refl refl fol.a;
  b = fol.b;
  below = each_below_on s (ended s A) out (grows_end s A) refl fol.below;
  safe = each_safe_on s (ended s A) out (grows_end s A) refl fol.safe;
}
follows_end s fa fb out B fol = record {
  order = fol.order;
  a = fol.a;
  b = of_tap_same B s.late new_tap fb s.b (record s.b { ended = true }) refl refl fol.b;
  below = each_below_on s (ended s B) out (grows_end s B) refl fol.below;
  safe = each_safe_on s (ended s B) out (grows_end s B) refl fol.safe;
}

each_filter : {X : Type 0} (P : X → Type 0) (p : X → Bool) (l : List X) → AllByRecursion P l → AllByRecursion P (filter p l)
each_filter P p [] h = tt
each_filter P p (x ∷ l) h = cond_both (p x) (x ∷ filter p l) (filter p l) (AllByRecursion P) (λ _. (h.0, each_filter P p l h.1)) (λ _. each_filter P p l h.1)

each_passes : {X : Type 0} (p : X → Bool) (l : List X) → AllByRecursion (λ x. p x ≡ true) (filter p l)
each_passes p [] = tt
each_passes p (x ∷ l) = cond_both (p x) (x ∷ filter p l) (filter p l) (AllByRecursion (λ y. p y ≡ true)) (λ t. (t, each_passes p l)) (λ _. each_passes p l)

each_take : {X : Type 0} (P : X → Type 0) (n : ℕ) (l : List X) → AllByRecursion P l → AllByRecursion P (take n l)
each_take P zero l h = tt
each_take P (suc n) [] h = tt
each_take P (suc n) (x ∷ l) h = (h.0, each_take P n l h.1)

pub cut_is_safe : (s : MergerState) (most : ℕ) → AllByRecursion (λ g. is_safe s g ≡ true) (cut_frames s most)
cut_is_safe s most = each_take (λ g. is_safe s g ≡ true) most (safe_frames s) (each_passes (is_safe s) s.pending)

pub cut_and_rest : (s : MergerState) (most : ℕ) → IsRising s.pending → cut_frames s most ++ drop (length (cut_frames s most)) s.pending ≡ s.pending
cut_and_rest s most r =
    ap (λ (l : List Frame). l ++ drop (length (cut_frames s most)) s.pending) (sym (cut_first s most r)) ∙ take-append-drop (length (cut_frames s most)) s.pending

grows_cut : (s : MergerState) (n : ℕ) (network : Network) → Grows (tap_of s network) (tap_of (without_first n s) network)
grows_cut s n A = stays s.a
grows_cut s n B = stays s.b

grows_back : (s : MergerState) (n : ℕ) (network : Network) → Grows (tap_of (without_first n s) network) (tap_of s network)
grows_back s n A = stays s.a
grows_back s n B = stays s.b

pub follows_cut : (s : MergerState) (fa fb out : List Frame) (most : ℕ) → Follows s fa fb out → Follows (after_cut s most) fa fb (out ++ cut_frames s most)
follows_cut s fa fb out most fol =
    let cut = cut_frames s most in
    let t = after_cut s most in
    let same : out ++ s.pending ≡ (out ++ cut) ++ drop (length cut) s.pending =
    ap (λ (l : List Frame). out ++ l) (sym (cut_and_rest s most (rising_back out s.pending fol.order.rising))) ∙ sym (append_assoc out cut (drop (length cut) s.pending)) in
    let came = each_take (Came s) most (safe_frames s) (each_filter (Came s) (is_safe s) s.pending (each_back (Came s) out s.pending (all_came s fa fb out fol))) in
    record {
      order = record {
        rising = subst IsRising same fol.order.rising;
        frames = subst (IsPermutation (fa ++ fb)) same fol.order.frames;
      };
      a = fol.a;
      b = fol.b;
      below = λ f may. (let before = may_come_before s t f (grows_cut s (length cut)) refl may in
          each_append (λ g. IsBefore g f) out cut (fol.below f before)
          (each_weaker (λ g. (is_safe s g ≡ true) × Came s g) (λ g. IsBefore g f) (λ g h. safe_below s g f h.0 h.1 before) cut
          (both (λ g. is_safe s g ≡ true) (Came s) cut (cut_is_safe s most) came)));
      safe = each_append (λ g. is_safe t g ≡ true) out cut (each_safe_on s t out (grows_cut s (length cut)) refl fol.safe)
          (each_safe_on s t cut (grows_cut s (length cut)) refl (cut_is_safe s most));
    }

pub follows_order : (s : MergerState) (fa fb out : List Frame) → Follows s fa fb out → s.pending ≡ [] → IsOrder fa fb out
follows_order s fa fb out fol none = subst (IsOrder fa fb) (ap (λ (l : List Frame). out ++ l) none ∙ append-nil out) fol.order

all_pass : (p : Frame → Bool) (l : List Frame) → AllByRecursion (λ f. p f ≡ true) l → filter p l ≡ l
all_pass p [] h = refl
all_pass p (f ∷ l) h = ap (λ (b : Bool). cond b (f ∷ filter p l) (filter p l)) h.0 ∙ ap (λ (xs : List Frame). f ∷ xs) (all_pass p l h.1)

ended_safe_of : (network : Network) (s : MergerState) (moment : ℕ) → s.a.ended ≡ true → s.b.ended ≡ true → is_safe_of network s moment ≡ true
ended_safe_of A s moment a b =
    and_from (reaches moment s.a) (reaches moment s.b) (ap (λ (e : Bool). e || option_map_or (λ h. nat_le moment h) s.a.high false) a)
    (ap (λ (e : Bool). e || option_map_or (λ h. nat_le moment h) s.b.high false) b)
ended_safe_of B s moment a b =
    and_from (reaches moment s.b) (passes moment s.a) (ap (λ (e : Bool). e || option_map_or (λ h. nat_le moment h) s.b.high false) b)
    (ap (λ (e : Bool). e || option_map_or (λ h. nat_lt moment h) s.a.high false) a)

each_of : {X : Type 0} (P : X → Type 0) → ((x : X) → P x) → (l : List X) → AllByRecursion P l
each_of P f [] = tt
each_of P f (x ∷ l) = (f x, each_of P f l)

pub ended_is_safe : (s : MergerState) → s.a.ended ≡ true → s.b.ended ≡ true → safe_frames s ≡ s.pending
ended_is_safe s a b =
    all_pass (is_safe s) s.pending (each_of (λ f. is_safe s f ≡ true) (λ f. ended_safe_of f.network s (f.stamp + s.late) a b) s.pending)

-- ---- one order

abbrev Has : List Frame → Frame → Type 0
Has [] x = ⊥
Has (y ∷ l) x = (x ≡ y) ⊎ Has l x

each_has : (l : List Frame) → AllByRecursion (Has l) l
each_has [] = tt
each_has (x ∷ l) = (inl refl, each_weaker (Has l) (Has (x ∷ l)) (λ y h. inr h) l (each_has l))

has_each : (P : Frame → Type 0) (l : List Frame) (x : Frame) → AllByRecursion P l → Has l x → P x
has_each P [] x h k = absurd k
has_each P (y ∷ l) x h k = elim k [ inl e ↦ subst P (sym e) h.0 | inr more ↦ has_each P l x h.1 more ]

not_both : (x y : Frame) → IsBefore x y → IsBefore y x → ⊥
not_both x y e f = false≢true (sym (not_back x y e) ∙ test_from_before y x f)

not_itself : (x y : Frame) → IsBefore x y → x ≡ y → ⊥
not_itself x y e f = (let back : IsBefore y x = subst (λ (z : Frame). IsBefore z x) f (subst (λ (z : Frame). IsBefore x z) (sym f) e) in not_both x y e back)

tail_has : (x y : Frame) (l m : List Frame) → x ≡ y → AllByRecursion (IsBefore x) l → AllByRecursion (Has (y ∷ m)) l → AllByRecursion (Has m) l
tail_has x y [] m e h k = tt
tail_has x y (z ∷ l) m e h k =
    (elim k.0 [ inl same ↦ absurd (not_itself x z h.0 (e ∙ sym same)) | inr more ↦ more ], tail_has x y l m e h.1 k.1)

heads : (x y : Frame) (l m : List Frame) → AllByRecursion (IsBefore x) l → AllByRecursion (IsBefore y) m → Has (y ∷ m) x → Has (x ∷ l) y → x ≡ y
heads x y l m r s h k =
    elim h [
      | inl e ↦ e
      | inr in_m ↦ elim k [ inl e ↦ sym e | inr in_l ↦ absurd (not_both x y (has_each (IsBefore x) l y r in_l) (has_each (IsBefore y) m x s in_m)) ]
    ]

rising_unique : (l m : List Frame) → IsRising l → IsRising m → AllByRecursion (Has m) l → AllByRecursion (Has l) m → l ≡ m
rising_unique [] [] r s h k = refl
rising_unique [] (y ∷ m) r s h k = absurd k.0
rising_unique (x ∷ l) [] r s h k = absurd h.0
rising_unique (x ∷ l) (y ∷ m) r s h k =
    let same = heads x y l m r.0 s.0 h.0 k.0 in
    ap (λ (z : Frame). z ∷ l) same
    ∙ ap (λ (t : List Frame). y ∷ t)
    (rising_unique l m r.1 s.1 (tail_has x y l m same r.0 h.1) (tail_has y x m l (sym same) s.0 k.1))

pub one_order : (fa fb l m : List Frame) → IsOrder fa fb l → IsOrder fa fb m → l ≡ m
one_order fa fb l m o p =
    let across = IsPermutation-trans l (fa ++ fb) m (IsPermutation-sym (fa ++ fb) l o.frames) p.frames in
    rising_unique l m o.rising p.rising
    (each_permutation (Has m) m l (IsPermutation-sym l m across) (each_has m))
    (each_permutation (Has l) l m across (each_has l))

-- ---- cuts of any sizes

same_safe_of : (network : Network) (s : MergerState) (n moment : ℕ) → is_safe_of network (without_first n s) moment ≡ is_safe_of network s moment
same_safe_of A s n moment = refl
same_safe_of B s n moment = refl

same_safe : (s : MergerState) (n : ℕ) (f : Frame) → is_safe (without_first n s) f ≡ is_safe s f
same_safe s n f = same_safe_of f.network s n (f.stamp + s.late)

safe_in_parts : (s : MergerState) (most : ℕ) → IsRising s.pending → safe_frames s ≡ cut_frames s most ++ safe_frames (after_cut s most)
safe_in_parts s most r =
    let cut = cut_frames s most in
    let rest = drop (length cut) s.pending in
    ap (filter (is_safe s)) (sym (cut_and_rest s most r))
    ∙ filter-append (is_safe s) cut rest
    ∙ ap (λ (l : List Frame). l ++ filter (is_safe s) rest) (all_pass (is_safe s) cut (cut_is_safe s most))
    ∙ ap (λ (l : List Frame). cut ++ l) (sym (filter_agree (is_safe (after_cut s most)) (is_safe s) (same_safe s (length cut)) rest))

pub rounds_joined : (s t : MergerState) (rounds : List (List Frame)) → IsRising s.pending → Cuts s rounds t
    → (s.pending ≡ joined rounds ++ t.pending) × (safe_frames t ≡ [] → joined rounds ≡ safe_frames s)
rounds_joined s t [] r c = (ap (λ (u : MergerState). u.pending) (sym c), λ none. sym (ap safe_frames (sym c) ∙ none))
rounds_joined s t (round ∷ rounds) r c =
    let u = after_cut s c.0 in
    let whole = cut_and_rest s c.0 r in
    let rises : IsRising u.pending = rising_back (cut_frames s c.0) u.pending (subst IsRising (sym whole) r) in
    let rest = rounds_joined u t rounds rises c.2 in (
      sym whole ∙ ap (λ (l : List Frame). cut_frames s c.0 ++ l) rest.0 ∙ sym (append_assoc (cut_frames s c.0) (joined rounds) t.pending)
          ∙ ap (λ (l : List Frame). (l ++ joined rounds) ++ t.pending) (sym c.1),
      λ none. ap (λ (l : List Frame). l ++ joined rounds) c.1 ∙ ap (λ (l : List Frame). cut_frames s c.0 ++ l) (rest.1 none) ∙ sym (safe_in_parts s c.0 r),
    )
