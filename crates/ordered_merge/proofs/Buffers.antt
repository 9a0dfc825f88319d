-- The queue and the map of one tap's pending frames.
use Rattle.std.proofs.Common.{◌≡◌, ℕ, zero, suc, ◌+◌, ◌-◌, ◌^◌, ◌<◌, ◌≤◌, min, Bool, true, false, cond, List, [], ◌∷◌, ◌++◌, Option, Some, None, length, drop, take, get_or, count_by, slice_get, refl, sym, ap, ◌∙◌, subst, append_assoc, length-append, arith}
use Rattle.std.proofs.Math.ListN.{drop_of_length-le}
use Rattle.std.proofs.Math.Seq.{drop-cons}
use Rattle.std.proofs.lemmas.Bool.{cond_both, false≢true, ltb-false, le-ltb}
use Rattle.std.proofs.lemmas.Cmp.{ranked}
use Rattle.std.proofs.lemmas.List.{get_or_append_left, length-drop, take_more}
use Rattle.std.proofs.lemmas.List.Sums.{sum_by-cons}
use Rattle.std.proofs.lemmas.Option.{get_or_from_slice_get, same_Some, slice_get-get_or, slice_get_within}
use Rattle.std.specs.List.{AllByRecursion, prefix_len}
use Rattle.std.specs.Option.{option_map_or}
use Rattle.std.specs.Ordering.{MatchOrdering, nat_cmp, ordering_then}
use Rattle.std.specs.declared.cmp.Ordering.{Ordering}
use Rattle.std.specs.declared.cmp.Ordering.TheVariants.{Less, Equal, Greater}
use Rattle.afdx_frame.specs.Frame.{Frame, key_of, key_cmp, network_cmp}
use Rattle.afdx_frame.specs.declared.key.Key.{Key}
use Rattle.frame_batch.specs.Batch.{BatchState}
use Rattle.frame_batch.specs.Queue.{IsBlockOf}
use Rattle.ordered_merge.specs.Order.{is_before, IsBefore, IsRising, insert_frame, insert_frames, leads}
use Rattle.ordered_merge.specs.Merge.{highest}
use Rattle.ordered_merge.specs.Buffer.{AreInOrder, AreNumbered, BufferState, IsBuffer, NoneLate, buffered, IsKept, is_below, is_late, pushed, pushed_all}
use Rattle.ordered_merge.proofs.Rising.{each_append, each_weaker, before_from_test, by_test, insert_first, insert_no, test_from_before, Differs, same_number, before_trans, before_from_not, insert_last, insert_into_first, insert_into_second, rising_insert, each_insert, each_insert_frames, leading_rest, other_rest}

-- ---- numbers that differ

pub number_differs : (f g : Frame) → g.number < f.number → Differs f g
number_differs f g lt = λ e. (let same : f.number ≡ g.number = same_number f g e in absurd (omega arith))

numbers_differ : (f : Frame) (l : List Frame) → AllByRecursion (IsKept f.number) l → AllByRecursion (Differs f) l
numbers_differ f l h = each_weaker (IsKept f.number) (Differs f) (λ g k. number_differs f g k.0) l h

numbers_more : (n : ℕ) (l : List Frame) → AllByRecursion (IsKept n) l → AllByRecursion (IsKept (n + 1)) l
numbers_more n l h = each_weaker (IsKept n) (IsKept (n + 1)) (λ g k. (omega arith, k.1)) l h

-- ---- a frame that comes late

pub late_frames : (queue late : List Frame) (f : Frame) → IsBuffer queue late f.number → buffered queue (insert_frame f late) ≡ insert_frame f (buffered queue late)
late_frames queue late f b = insert_into_first f late queue (numbers_differ f late b.late_kept)

pub late_buffer : (queue late : List Frame) (f : Frame) → f.stamp < 2 ^ 63 → IsBuffer queue late f.number → IsBuffer queue (insert_frame f late) (f.number + 1)
late_buffer queue late f fits b =
    let d = numbers_differ f late b.late_kept in
    let all = each_insert_frames (Differs f) late queue d (numbers_differ f queue b.queue_kept) in
    record {
      queue_rises = b.queue_rises;
      late_rises = rising_insert f late b.late_rises d;
      rises = subst IsRising (sym (late_frames queue late f b)) (rising_insert f (buffered queue late) b.rises all);
      queue_kept = numbers_more f.number queue b.queue_kept;
      late_kept = each_insert (IsKept (f.number + 1)) f late (omega arith, fits) (numbers_more f.number late b.late_kept);
    }

-- ---- a frame that comes in order

rising_append : (l : List Frame) (f : Frame) → IsRising l → AllByRecursion (λ g. IsBefore g f) l → IsRising (l ++ f ∷ [])
rising_append [] f r h = (tt, tt)
rising_append (g ∷ l) f r h = (each_append (IsBefore g) l (f ∷ []) r.0 (h.0, tt), rising_append l f r.1 h.1)

below_last : (g : Frame) (l : List Frame) (f last : Frame) → IsRising (g ∷ l) → last ≡ get_or (g ∷ l) (length l) last → IsBefore last f
    → AllByRecursion (λ h. IsBefore h f) (g ∷ l)
below_last g [] f last r e b = (subst (λ (h : Frame). IsBefore h f) e b, tt)
below_last g (h ∷ l) f last r e b =
    let rest = below_last h l f last r.1 e b in
    (before_trans g h f r.0.0 rest.0, rest)

number_of_last : (g : Frame) (l : List Frame) (f last : Frame) → AllByRecursion (IsKept f.number) (g ∷ l) → last ≡ get_or (g ∷ l) (length l) last → last.number < f.number
number_of_last g [] f last h e = subst (λ (x : Frame). x.number < f.number) (sym e) h.0.0
number_of_last g (k ∷ l) f last h e = number_of_last k l f last h.1 e

get_or_same : {X : Type 0} (xs : List X) (i : ℕ) (d e : X) → i < length xs → get_or xs i d ≡ get_or xs i e
get_or_same xs i d e h = same_Some (get_or xs i d) (get_or xs i e) (sym (slice_get-get_or xs i d h) ∙ slice_get-get_or xs i e h)

pub in_order : (queue : List Frame) (f : Frame) → IsRising queue → AllByRecursion (IsKept f.number) queue → is_late queue f ≡ false
    → AllByRecursion (λ g. IsBefore g f) queue
in_order [] f r numbers t = tt
in_order (g ∷ l) f r numbers t =
    let at : length (g ∷ l) - 1 ≡ length l = omega arith in
    let last = get_or (g ∷ l) (length l) g in
    let within : length l < length (g ∷ l) = omega arith in
    let e : last ≡ get_or (g ∷ l) (length l) last = get_or_same (g ∷ l) (length l) g last within in
    let read : slice_get (g ∷ l) (length (g ∷ l) - 1) ≡ Some last = ap (slice_get (g ∷ l)) at ∙ slice_get-get_or (g ∷ l) (length l) g within in
    let among : AllByRecursion (IsKept f.number) (g ∷ l) = numbers in
    let later : is_before f last ≡ false = sym (ap (λ (o : Option Frame). option_map_or (is_before f) o false) read) ∙ t in
    below_last g l f last r e (before_from_not f last later (number_differs f last (number_of_last g l f last among e)))

pub queued_frames : (queue : List Frame) (late : List Frame) (f : Frame) → IsBuffer queue late f.number → AllByRecursion (λ g. IsBefore g f) queue
    → buffered (queue ++ f ∷ []) late ≡ insert_frame f (buffered queue late)
queued_frames queue late f b h =
    ap (insert_frames late) (sym (insert_last f queue h))
    ∙ insert_into_second f late queue (numbers_differ f late b.late_kept)

pub queued_buffer : (queue : List Frame) (late : List Frame) (f : Frame) → f.stamp < 2 ^ 63 → IsBuffer queue late f.number → AllByRecursion (λ g. IsBefore g f) queue
    → IsBuffer (queue ++ f ∷ []) late (f.number + 1)
queued_buffer queue late f fits b h =
    let all = each_insert_frames (Differs f) late queue (numbers_differ f late b.late_kept) (numbers_differ f queue b.queue_kept) in
    record {
      queue_rises = rising_append queue f b.queue_rises h;
      late_rises = b.late_rises;
      rises = subst IsRising (sym (queued_frames queue late f b h)) (rising_insert f (buffered queue late) b.rises all);
      queue_kept = each_append (IsKept (f.number + 1)) queue (f ∷ []) (numbers_more f.number queue b.queue_kept) ((omega arith, fits), tt);
      late_kept = numbers_more f.number late b.late_kept;
    }

-- ---- timestamps

then_less : (o p : Ordering) → ordering_then o p ≡ Less → (o ≡ Greater → ⊥)
then_less Less p e = λ g. cc
then_less Equal p e = λ g. cc
then_less Greater p e = cc

stamp_order : (o : Ordering) (m n : ℕ) → MatchOrdering o (m < n) (m ≡ n) (n < m) → (o ≡ Greater → ⊥) → m ≤ n
stamp_order Less m n h d = omega arith
stamp_order Equal m n h d = omega arith
stamp_order Greater m n h d = absurd (d refl)

pub before_stamp : (f g : Frame) → IsBefore f g → f.stamp ≤ g.stamp
before_stamp f g e =
    stamp_order (nat_cmp f.stamp g.stamp) f.stamp g.stamp (ranked f.stamp g.stamp (nat_cmp f.stamp g.stamp) refl)
    (then_less (nat_cmp f.stamp g.stamp) (ordering_then (network_cmp f.network g.network) (nat_cmp f.number g.number)) e)

-- ---- frames that come in order, one after another

pub take_next : (xs : List Frame) (i : ℕ) (f : Frame) → i < length xs → f ≡ get_or xs i f → take (i + 1) xs ≡ take i xs ++ f ∷ []
take_next xs i f h e = take_more xs i f h ∙ ap (λ (x : Frame). take i xs ++ x ∷ []) (sym e)

in_order_more : (xs : List Frame) (f g : Frame) → AreInOrder (xs ++ f ∷ []) → is_before g f ≡ false → AreInOrder ((xs ++ f ∷ []) ++ g ∷ [])
in_order_more [] f g h t = (t, tt)
in_order_more (x ∷ []) f g h t = (h.0, (t, tt))
in_order_more (x ∷ y ∷ xs) f g h t = (h.0, in_order_more (y ∷ xs) f g h.1 t)

pub in_order_next : (xs : List Frame) (i : ℕ) (f g : Frame) → 0 < i → i < length xs → f ≡ get_or xs (i - 1) f → g ≡ get_or xs i g → is_before g f ≡ false
    → AreInOrder (take i xs) → AreInOrder (take (i + 1) xs)
in_order_next xs i f g some within before here t h =
    let at : i - 1 + 1 ≡ i = omega arith in
    let last : take i xs ≡ take (i - 1) xs ++ f ∷ [] =
    ap (λ (k : ℕ). take k xs) (sym at) ∙ take_next xs (i - 1) f (omega arith) before in
    subst AreInOrder (ap (λ (l : List Frame). l ++ g ∷ []) (sym last) ∙ sym (take_next xs i g within here))
    (in_order_more (take (i - 1) xs) f g (subst AreInOrder last h) t)

pub in_order_first : (xs : List Frame) → AreInOrder (take 1 xs)
in_order_first [] = tt
in_order_first (f ∷ xs) = tt

abbrev last_of : Frame → List Frame → Frame
last_of f [] = f
last_of f (g ∷ l) = last_of g l

last_is : (f : Frame) (l : List Frame) (last : Frame) → last ≡ get_or (f ∷ l) (length l) last → last ≡ last_of f l
last_is f [] last e = e
last_is f (g ∷ l) last e = last_is g l last e

last_get : (queue : List Frame) (f : Frame) → slice_get (queue ++ f ∷ []) (length queue) ≡ Some f
last_get [] f = refl
last_get (g ∷ queue) f = last_get queue f

not_late : (queue : List Frame) (f g : Frame) → is_before g f ≡ false → is_late (queue ++ f ∷ []) g ≡ false
not_late queue f g t =
    let at : length (queue ++ f ∷ []) - 1 ≡ length queue = omega (arith, length-append queue (f ∷ [])) in
    ap (λ (o : Option Frame). option_map_or (is_before g) o false) (ap (slice_get (queue ++ f ∷ [])) at ∙ last_get queue f) ∙ t

stamps_rise : (f : Frame) (l : List Frame) → AreNumbered f.number (f ∷ l) → AreInOrder (f ∷ l) → f.stamp ≤ (last_of f l).stamp
stamps_rise f [] numbered order = omega arith
stamps_rise f (g ∷ l) numbered order =
    let number : g.number ≡ f.number + 1 = numbered.1.0 in
    let less : f.number < g.number = omega arith in
    let first = before_stamp f g (before_from_not g f order.0 (number_differs g f less)) in
    let rest = stamps_rise g l (refl, subst (λ (n : ℕ). AreNumbered (n + 1) l) (sym number) numbered.1.1) order.1 in
    omega arith

highest_both : (high : Option ℕ) (m n : ℕ) → m ≤ n → highest (Some (highest high m)) n ≡ highest high n
highest_both None m n less = omega arith
highest_both (Some h) m n less = omega arith

pub pushed_all_more : (s : BufferState) (fs : List Frame) (f : Frame) → pushed_all s (fs ++ f ∷ []) ≡ pushed (pushed_all s fs) f
pushed_all_more s [] f = refl
pushed_all_more s (g ∷ fs) f = pushed_all_more (pushed s g) fs f

abbrev state_with : Bool → ℕ → Option ℕ → List Frame → BufferState
state_with ended next high frames = record { tap = record { ended = ended; next = next; high = high }; frames = frames }

queued_all : (ended : Bool) (high : Option ℕ) (queue : List Frame) (late : List Frame) (f : Frame) (l : List Frame) → IsBuffer queue late f.number
    → AreNumbered f.number (f ∷ l) → AllByRecursion (λ g. g.stamp < 2 ^ 63) (f ∷ l) → is_late queue f ≡ false → AreInOrder (f ∷ l)
    → IsBuffer (queue ++ f ∷ l) late ((last_of f l).number + 1)
    × (state_with ended ((last_of f l).number + 1) (Some (highest high (last_of f l).stamp)) (buffered (queue ++ f ∷ l) late)
    ≡ pushed_all (state_with ended f.number high (buffered queue late)) (f ∷ l))
queued_all ended high queue late f [] b numbered fits t order =
    let below = in_order queue f b.queue_rises b.queue_kept t in (
      queued_buffer queue late f fits.0 b below,
      ap (state_with ended (f.number + 1) (Some (highest high f.stamp))) (queued_frames queue late f b below),
    )
queued_all ended high queue late f (g ∷ l) b numbered fits t order =
    let below = in_order queue f b.queue_rises b.queue_kept t in
    let number : g.number ≡ f.number + 1 = numbered.1.0 in
    let next = subst (IsBuffer (queue ++ f ∷ []) late) (sym number) (queued_buffer queue late f fits.0 b below) in
    let rest_numbered : AreNumbered g.number (g ∷ l) = (refl, subst (λ (n : ℕ). AreNumbered (n + 1) l) (sym number) numbered.1.1) in
    let rest = queued_all ended (Some (highest high f.stamp)) (queue ++ f ∷ []) late g l next rest_numbered fits.1 (not_late queue f g order.0) order.1 in
    let joined : (queue ++ f ∷ []) ++ g ∷ l ≡ queue ++ f ∷ g ∷ l = append_assoc queue (f ∷ []) (g ∷ l) in
    let last = last_of g l in (
      subst (λ (q : List Frame). IsBuffer q late (last.number + 1)) joined rest.0,
      ap (λ (h : ℕ). state_with ended (last.number + 1) (Some h) (buffered (queue ++ f ∷ g ∷ l) late)) (sym (highest_both high f.stamp last.stamp (stamps_rise f (g ∷ l) numbered order)))
          ∙ ap (λ (q : List Frame). state_with ended (last.number + 1) (Some (highest (Some (highest high f.stamp)) last.stamp)) (buffered q late)) (sym joined)
          ∙ rest.1
          ∙ ap (λ (n : ℕ). pushed_all (state_with ended n (Some (highest high f.stamp)) (buffered (queue ++ f ∷ []) late)) (g ∷ l)) number
          ∙ ap (λ (q : List Frame). pushed_all (state_with ended (f.number + 1) (Some (highest high f.stamp)) q) (g ∷ l)) (queued_frames queue late f b below),
    )

pub queued_list : (ended : Bool) (next : ℕ) (high : Option ℕ) (queue : List Frame) (late : List Frame) (fs : List Frame) (last : Frame) → IsBuffer queue late next
    → AreNumbered next fs → AllByRecursion (λ g. g.stamp < 2 ^ 63) fs → NoneLate queue fs → 0 < length fs → last ≡ get_or fs (length fs - 1) last
    → IsBuffer (queue ++ fs) late (last.number + 1)
    × (record { tap = record { ended = ended; next = last.number + 1; high = Some (highest high last.stamp) }; frames = buffered (queue ++ fs) late }
    ≡ pushed_all (record { tap = record { ended = ended; next = next; high = high }; frames = buffered queue late }) fs)
queued_list ended next high queue late [] last b numbered fits none some is = absurd (omega (arith, some))
queued_list ended next high queue late (f ∷ l) last b numbered fits none some is =
    let at : length (f ∷ l) - 1 ≡ length l = omega arith in
    let same : last ≡ last_of f l = last_is f l last (is ∙ ap (λ (k : ℕ). get_or (f ∷ l) k last) at) in
    let first : next ≡ f.number = sym numbered.0 in
    let P : Frame → ℕ → Type 0 = λ x n.
    IsBuffer (queue ++ f ∷ l) late (x.number + 1)
    × (state_with ended (x.number + 1) (Some (highest high x.stamp)) (buffered (queue ++ f ∷ l) late)
    ≡ pushed_all (state_with ended n high (buffered queue late)) (f ∷ l)) in
    subst (λ (n : ℕ). P last n) numbered.0
    (subst (λ (x : Frame). P x f.number) (sym same)
    (queued_all ended high queue late f l (subst (IsBuffer queue late) first b) (subst (λ (n : ℕ). AreNumbered n (f ∷ l)) first numbered) fits none.0 none.1))

-- ---- how many

prefix_step : (b : Bool) (n m k : ℕ) → m ≡ min n k → cond b (1 + m) 0 ≡ min (suc n) (cond b (1 + k) 0)
prefix_step true n m k e = omega arith
prefix_step false n m k e = omega arith

pub prefix_take : {X : Type 0} (p : X → Bool) (n : ℕ) (xs : List X) → prefix_len p (take n xs) ≡ min n (prefix_len p xs)
prefix_take p zero xs = omega arith
prefix_take p (suc n) [] = omega arith
prefix_take p (suc n) (x ∷ xs) = prefix_step (p x) n (prefix_len p (take n xs)) (prefix_len p xs) (prefix_take p n xs)

pub count_cons : {X : Type 0} (p : X → Bool) (x : X) (xs : List X) → count_by p (x ∷ xs) ≡ cond (p x) 1 0 + count_by p xs
count_cons p x xs = sum_by-cons (λ y. cond (p y) 1 0) x xs

none_pass : {X : Type 0} (p : X → Bool) (xs : List X) → AllByRecursion (λ x. p x ≡ false) xs → count_by p xs ≡ 0
none_pass p [] h = refl
none_pass p (x ∷ xs) h = count_cons p x xs ∙ ap (λ (b : Bool). cond b 1 0 + count_by p xs) h.0 ∙ (let rest = none_pass p xs h.1 in omega arith)

above_bound : (bound : ℕ) (f : Frame) (l : List Frame) → AllByRecursion (IsBefore f) l → is_below bound f ≡ false → AllByRecursion (λ g. is_below bound g ≡ false) l
above_bound bound f l h t =
    each_weaker (IsBefore f) (λ g. is_below bound g ≡ false)
    (λ g e. (let s = before_stamp f g e in le-ltb g.stamp bound (omega (arith, ltb-false f.stamp bound t)))) l h

prefix_count_step : (b : Bool) (m n : ℕ) → m ≡ n → (b ≡ false → n ≡ 0) → cond b (1 + m) 0 ≡ cond b 1 0 + n
prefix_count_step true m n e z = omega arith
prefix_count_step false m n e z = (let none = z refl in omega arith)

pub prefix_is_count : (bound : ℕ) (l : List Frame) → IsRising l → prefix_len (is_below bound) l ≡ count_by (is_below bound) l
prefix_is_count bound [] r = refl
prefix_is_count bound (f ∷ l) r =
    prefix_count_step (is_below bound f) (prefix_len (is_below bound) l) (count_by (is_below bound) l) (prefix_is_count bound l r.1)
    (λ t. none_pass (is_below bound) l (above_bound bound f l r.0 t))
    ∙ sym (count_cons (is_below bound) f l)

pub count_insert : (p : Frame → Bool) (f : Frame) (l : List Frame) → count_by p (insert_frame f l) ≡ count_by p (f ∷ l)
count_insert p f [] = refl
count_insert p f (g ∷ l) =
    cond_both (is_before f g) (f ∷ g ∷ l) (g ∷ insert_frame f l) (λ xs. count_by p xs ≡ count_by p (f ∷ g ∷ l))
    (λ _. refl)
    (λ _. (let a = count_cons p g (insert_frame f l) in
    let b = count_insert p f l in
    let d = count_cons p f l in
    let e = count_cons p f (g ∷ l) in
    let h = count_cons p g l in
    omega arith))

pub count_insert_frames : (p : Frame → Bool) (fs l : List Frame) → count_by p (insert_frames fs l) ≡ count_by p fs + count_by p l
count_insert_frames p [] l = omega arith
count_insert_frames p (f ∷ fs) l =
    let a = count_insert p f (insert_frames fs l) in
    let b = count_cons p f (insert_frames fs l) in
    let d = count_insert_frames p fs l in
    let e = count_cons p f fs in
    omega arith

pub count_both : (bound most : ℕ) (queue late : List Frame) (m n : ℕ) → IsRising queue → IsRising late → m ≡ prefix_len (is_below bound) (take most queue)
    → n ≡ prefix_len (is_below bound) (take (most - m) late) → m + n ≡ min most (count_by (is_below bound) (insert_frames late queue))
count_both bound most queue late m n r s e f =
    let a = prefix_take (is_below bound) most queue in
    let b = prefix_take (is_below bound) (most - m) late in
    let d = prefix_is_count bound queue r in
    let g = prefix_is_count bound late s in
    let h = count_insert_frames (is_below bound) late queue in
    omega arith

-- ---- without the first frame

pub late_rest : (queue late : List Frame) (n : ℕ) → IsBuffer queue late n → leads late queue ≡ true → buffered queue (drop 1 late) ≡ drop 1 (buffered queue late)
late_rest queue late n b t = leading_rest late queue b.late_rises b.queue_rises t

each_drop : {X : Type 0} (P : X → Type 0) (xs : List X) → AllByRecursion P xs → AllByRecursion P (drop 1 xs)
each_drop P [] h = tt
each_drop P (x ∷ xs) h = h.1

pub rising_drop : (l : List Frame) → IsRising l → IsRising (drop 1 l)
rising_drop [] r = tt
rising_drop (f ∷ l) r = r.1

-- after one that came late is taken out
pub late_buffer_popped : (queue late : List Frame) (n : ℕ) → IsBuffer queue late n → leads late queue ≡ true → IsBuffer queue (drop 1 late) n
late_buffer_popped queue late n b t = record {
  queue_rises = b.queue_rises;
  late_rises = rising_drop late b.late_rises;
  rises = subst IsRising (sym (late_rest queue late n b t)) (rising_drop (buffered queue late) b.rises);
  queue_kept = b.queue_kept;
  late_kept = each_drop (IsKept n) late b.late_kept;
}

-- after the queue's first is taken out, if there is one
pub queue_buffer_popped : (queue late : List Frame) (n : ℕ) → IsBuffer queue late n → leads late queue ≡ false → IsBuffer (drop 1 queue) late n
queue_buffer_popped queue late n b t = record {
  queue_rises = rising_drop queue b.queue_rises;
  late_rises = b.late_rises;
  rises = subst IsRising (sym (other_rest late queue b.late_rises t)) (rising_drop (buffered queue late) b.rises);
  queue_kept = each_drop (IsKept n) queue b.queue_kept;
  late_kept = b.late_kept;
}

-- after so many of the queue's first are taken out, where none came late
pub queue_skipped : (count : ℕ) (queue late : List Frame) (n : ℕ) → late ≡ [] → IsBuffer queue late n → IsBuffer (drop count queue) late n
queue_skipped zero queue late n none b = b
queue_skipped (suc count) [] late n none b = b
queue_skipped (suc count) (f ∷ queue) late n none b =
    let leads : leads late (f ∷ queue) ≡ false = ap (λ (l : List Frame). leads l (f ∷ queue)) none in
    queue_skipped count queue late n none (queue_buffer_popped (f ∷ queue) late n b leads)

-- ---- all that is kept of each

pub buffered_fit : (queue : List Frame) (late : List Frame) (n : ℕ) → IsBuffer queue late n → AllByRecursion (λ f. f.stamp < 2 ^ 63) (buffered queue late)
buffered_fit queue late n b =
    each_insert_frames (λ f. f.stamp < 2 ^ 63) late queue
    (each_weaker (IsKept n) (λ f. f.stamp < 2 ^ 63) (λ f k. k.1) late b.late_kept)
    (each_weaker (IsKept n) (λ f. f.stamp < 2 ^ 63) (λ f k. k.1) queue b.queue_kept)

pub buffered_numbers : (queue : List Frame) (late : List Frame) (n : ℕ) → IsBuffer queue late n → AllByRecursion (λ f. f.number < n) (buffered queue late)
buffered_numbers queue late n b =
    each_insert_frames (λ f. f.number < n) late queue
    (each_weaker (IsKept n) (λ f. f.number < n) (λ f k. k.0) late b.late_kept)
    (each_weaker (IsKept n) (λ f. f.number < n) (λ f k. k.0) queue b.queue_kept)

-- ---- a place among frames in order

-- a frame that isn't before a frame isn't before those before that one
none_before : (f g : Frame) (l : List Frame) → is_before f g ≡ false → AllByRecursion (λ h. IsBefore h g) l → AllByRecursion (λ h. is_before f h ≡ false) l
none_before f g l t h =
    each_weaker (λ h. IsBefore h g) (λ h. is_before f h ≡ false)
    (λ h e. by_test (is_before f h) (is_before f h ≡ false) (λ u. absurd (false≢true (sym t ∙ test_from_before f g (before_trans f h g (before_from_test f h u) e)))) (λ u. u)) l h

-- the frames before an index stand before the frame, and those from it on after it
pub placed_at : (f : Frame) (l : List Frame) (k : ℕ) → AllByRecursion (λ g. is_before f g ≡ false) (take k l) → AllByRecursion (IsBefore f) (drop k l)
    → insert_frame f l ≡ take k l ++ f ∷ drop k l
placed_at f l zero before after = insert_first f l after
placed_at f [] (suc k) before after = refl
placed_at f (g ∷ l) (suc k) before after =
    insert_no f g l before.0 ∙ ap (λ (m : List Frame). g ∷ m) (placed_at f l k before.1 after)

pub each_at : {X : Type 0} (P : X → Type 0) (l : List X) (k : ℕ) (x : X) → AllByRecursion P l → slice_get l k ≡ Some x → P x
each_at P [] k x h e = cc
each_at P (y ∷ l) zero x h e = let same : y ≡ x = cc in subst P same h.0
each_at P (y ∷ l) (suc k) x h e = each_at P l k x h.1 e

-- a frame that isn't before the one at an index isn't before those up to it
pub stops_here : (l : List Frame) (k : ℕ) (h f : Frame) → IsRising l → slice_get l k ≡ Some h → is_before f h ≡ false
    → AllByRecursion (λ g. is_before f g ≡ false) (take (k + 1) l)
stops_here [] k h f r e t = cc
stops_here (g ∷ l) zero h f r e t =
    let same : h ≡ g = cc in
    (subst (λ (x : Frame). is_before f x ≡ false) same t, tt)
stops_here (g ∷ l) (suc k) h f r e t =
    let at : suc (k + 1) ≡ suc k + 1 = omega arith in
    let before = each_at (IsBefore g) l k h r.0 e in
    let first : is_before f g ≡ false =
    by_test (is_before f g) (is_before f g ≡ false) (λ u. absurd (false≢true (sym t ∙ test_from_before f h (before_trans f g h (before_from_test f g u) before)))) (λ u. u) in
    subst (λ (n : ℕ). AllByRecursion (λ x. is_before f x ≡ false) (take n (g ∷ l))) at (first, stops_here l k h f r.1 e t)

abbrev pub AreAbove : Key → List Frame → Type 0
AreAbove key l = AllByRecursion (λ g. key_cmp key (key_of g) ≡ Less) l

pub above_frame : (f : Frame) (key : Key) (l : List Frame) → key_of f ≡ key → AreAbove key l → AllByRecursion (IsBefore f) l
above_frame f key l e h = subst (λ (k : Key). AreAbove k l) (sym e) h

-- one more from the end is above
pub one_more_above : (key : Key) (l : List Frame) (k : ℕ) (h : Frame) → 0 < k → slice_get l (k - 1) ≡ Some h → key_cmp key (key_of h) ≡ Less → AreAbove key (drop k l)
    → AreAbove key (drop (k - 1) l)
one_more_above key l k h some here less all =
    let at : suc (k - 1) ≡ k = omega (arith, some) in
    let within = slice_get_within l (k - 1) h here in
    let first : get_or l (k - 1) h ≡ h = get_or_from_slice_get l (k - 1) h h here in
    subst (AreAbove key) (sym (drop-cons l (k - 1) h within ∙ ap (λ (n : ℕ). get_or l (k - 1) h ∷ drop n l) at))
    (subst (λ (x : Frame). key_cmp key (key_of x) ≡ Less) (sym first) less, all)

pub numbered_first : (n : ℕ) (l : List Frame) (f : Frame) → AreNumbered n l → slice_get l 0 ≡ Some f → f.number ≡ n
numbered_first n [] f h e = cc
numbered_first n (g ∷ l) f h e = let same : f ≡ g = cc in ap (λ (x : Frame). x.number) same ∙ h.0

pub each_first : {X : Type 0} (P : X → Type 0) (xs : List X) (x : X) → slice_get xs 0 ≡ Some x → P x → AllByRecursion P (take 1 xs)
each_first P [] x e h = tt
each_first P (y ∷ xs) x e h = let same : x ≡ y = cc in (subst P same h, tt)

pub same_one : {X : Type 0} (xs ys : List X) → slice_get xs 0 ≡ slice_get ys 0 → take 1 xs ≡ take 1 ys
same_one [] [] e = refl
same_one [] (y ∷ ys) e = cc
same_one (x ∷ xs) [] e = cc
same_one (x ∷ xs) (y ∷ ys) e = let same : x ≡ y = cc in ap (λ z. z ∷ []) same

pub only_one : {X : Type 0} (xs : List X) (x : X) → slice_get xs 0 ≡ Some x → take 1 xs ≡ x ∷ []
only_one [] x e = cc
only_one (y ∷ xs) x e = let same : y ≡ x = cc in ap (λ z. z ∷ []) same

pub first_and_rest : {X : Type 0} (xs : List X) (x : X) → slice_get xs 0 ≡ Some x → xs ≡ x ∷ drop 1 xs
first_and_rest [] x e = cc
first_and_rest (y ∷ xs) x e = let same : y ≡ x = cc in ap (λ z. z ∷ xs) same

-- ---- a block that is known in a draft is known in one with more blocks

pub among_more : (blocks more : List (List ℕ)) (bs : List BatchState) (k : ℕ) (known : Option ℕ) → IsBlockOf blocks bs k known → IsBlockOf (blocks ++ more) bs k known
among_more blocks more bs k None h = tt
among_more blocks more bs k (Some j) h = λ b e. (
    let here = h b e in
    (omega (arith, here.0, length-append blocks more), get_or_append_left blocks more [] j here.0 ∙ here.1))

-- ---- the first of those that came late

leads_some : (l m : List Frame) → leads l m ≡ true → 0 < length l
leads_some [] m t = absurd (false≢true t)
leads_some (f ∷ l) m t = omega arith

pub late_there : (late queue : List Frame) (k : ℕ) → leads (drop k late) queue ≡ true → k < length late
late_there late queue k t =
    let some = leads_some (drop k late) queue t in
    omega (arith, some, length-drop k late)

pub first_dropped : {X : Type 0} (xs : List X) (k : ℕ) (x : X) → k < length xs → x ≡ get_or xs k x → slice_get (drop k xs) 0 ≡ Some x
first_dropped xs k x within e = ap (λ l. slice_get l 0) (drop-cons xs k x within) ∙ ap Some (sym e)

pub only_first : {X : Type 0} (xs : List X) (x : X) → slice_get xs 0 ≡ Some x → length xs ≤ 1 → xs ≡ x ∷ []
only_first xs x e few = first_and_rest xs x e ∙ ap (λ l. x ∷ l) (drop_of_length-le xs {i = 1} few)

pub take_one_more : {X : Type 0} (xs : List X) (n : ℕ) → n < length xs → take n xs ++ take 1 (drop n xs) ≡ take (n + 1) xs
take_one_more [] n less = absurd (omega (arith, less))
take_one_more (x ∷ xs) zero less = refl
take_one_more (x ∷ xs) (suc n) less =
    let at : suc (n + 1) ≡ suc n + 1 = omega arith in
    ap (λ l. x ∷ l) (take_one_more xs n (omega (arith, less))) ∙ ap (λ (k : ℕ). take k (x ∷ xs)) at
