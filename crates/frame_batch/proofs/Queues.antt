-- Batches one after another.
use Rattle.std.proofs.Common.{◌≡◌, ℕ, zero, suc, ◌+◌, ◌-◌, ◌<◌, ◌≤◌, min, Bool, true, false, cond, nat_lt, List, [], ◌∷◌, ◌++◌, Option, Some, None, IfSome, length, take, drop, get_or, slice_get, slice_set, refl, sym, ap, ◌∙◌, subst, arith}
use Rattle.std.proofs.Math.ListN.{drop_of_length-le}
use Rattle.std.proofs.Math.Seq.{drop-append_seam, take-length}
use Rattle.std.proofs.lemmas.Bool.{ltb-false, ltb-true}
use Rattle.std.proofs.lemmas.List.{append-nil, drop-append-le, drop-drop, drop-map, length-append, length-drop, length-map, length-take, take-append-drop, take_more}
use Rattle.std.proofs.lemmas.Grind.{flat_map-append}
use Rattle.std.proofs.lemmas.List.Sums.{prefix_len-le-length}
use Rattle.std.proofs.lemmas.Option.{get_or_from_slice_get, slice_get-get_or, slice_get_within, slice_get-map}
use Rattle.std.specs.List.{prefix_len}
use Rattle.std.specs.Option.{ForSome, option_map, option_map_or}
use Rattle.afdx_frame.specs.Frame.{Frame}
use Rattle.frame_batch.specs.Batch.{BatchState, batch_frames, record_frame}
use Rattle.frame_batch.specs.Queue.{IsBlockOf, comes_below, count_in, queue_frames}
use Rattle.frame_batch.specs.Round.{IsBlockAt}
use Rattle.frame_batch.specs.declared.frame_record.FrameRecord.{FrameRecord}

by_bool : (b : Bool) (P : Type 0) → (b ≡ true → P) → (b ≡ false → P) → P
by_bool true P f g = f refl
by_bool false P f g = g refl

-- ---- places in lists

pub get_front : {X : Type 0} (xs ys : List X) (k : ℕ) (x : X) → slice_get xs k ≡ Some x → slice_get (xs ++ ys) k ≡ Some x
get_front [] ys k x e = cc
get_front (y ∷ xs) ys zero x e = e
get_front (y ∷ xs) ys (suc k) x e = get_front xs ys k x e

pub get_back : {X : Type 0} (xs ys : List X) (k : ℕ) → slice_get (xs ++ ys) (length xs + k) ≡ slice_get ys k
get_back [] ys k = let at : 0 + k ≡ k = omega arith in ap (slice_get ys) at
get_back (x ∷ xs) ys k =
    let at : length (x ∷ xs) + k ≡ suc (length xs + k) = omega arith in
    ap (slice_get (x ∷ xs ++ ys)) at ∙ get_back xs ys k

pub get_drop : {X : Type 0} (xs : List X) (i k : ℕ) → slice_get (drop i xs) k ≡ slice_get xs (i + k)
get_drop [] zero k = refl
get_drop [] (suc i) k = refl
get_drop (x ∷ xs) zero k = let at : k ≡ 0 + k = omega arith in ap (slice_get (x ∷ xs)) at
get_drop (x ∷ xs) (suc i) k =
    let at : suc (i + k) ≡ suc i + k = omega arith in
    get_drop xs i k ∙ ap (slice_get (x ∷ xs)) at

pub drop_at : {X : Type 0} (xs : List X) (k : ℕ) (x : X) → slice_get xs k ≡ Some x → drop k xs ≡ x ∷ drop (k + 1) xs
drop_at [] k x e = cc
drop_at (y ∷ xs) zero x e = cc
drop_at (y ∷ xs) (suc k) x e =
    let at : suc (k + 1) ≡ suc k + 1 = omega arith in
    drop_at xs k x e ∙ ap (λ (n : ℕ). x ∷ drop n (y ∷ xs)) at

-- ---- ends

pub front_of : (bs : List BatchState) (b : BatchState) (f : Frame) → slice_get bs 0 ≡ Some b → slice_get (batch_frames b) 0 ≡ Some f
    → slice_get (queue_frames bs) 0 ≡ Some f
front_of [] b f here first = cc
front_of (x ∷ bs) b f here first =
    let same : x ≡ b = cc in
    get_front (batch_frames x) (queue_frames bs) 0 f (ap (λ (y : BatchState). slice_get (batch_frames y) 0) same ∙ first)

pub back_of : (bs : List BatchState) (b : BatchState) (f : Frame) → slice_get bs (length bs - 1) ≡ Some b
    → slice_get (batch_frames b) (length (batch_frames b) - 1) ≡ Some f → slice_get (queue_frames bs) (length (queue_frames bs) - 1) ≡ Some f
back_of [] b f here last = cc
back_of (x ∷ []) b f here last =
    let same : x ≡ b = cc in
    let all : queue_frames (x ∷ []) ≡ batch_frames b = append-nil (batch_frames x) ∙ ap batch_frames same in
    ap (λ (l : List Frame). slice_get l (length l - 1)) all ∙ last
back_of (x ∷ y ∷ bs) b f here last =
    let n : suc (length (y ∷ bs) - 1) ≡ length (x ∷ y ∷ bs) - 1 = omega arith in
    let rest = back_of (y ∷ bs) b f (ap (slice_get (x ∷ y ∷ bs)) n ∙ here) last in
    let more = queue_frames (y ∷ bs) in
    let some = slice_get_within more (length more - 1) f rest in
    let at : length (batch_frames x ++ more) - 1 ≡ length (batch_frames x) + (length more - 1) = omega (arith, some, length-append (batch_frames x) more) in
    ap (slice_get (batch_frames x ++ more)) at ∙ get_back (batch_frames x) more (length more - 1) ∙ rest

-- the first batch goes whole, and so many frames with it
pub first_gone : (bs : List BatchState) (b : BatchState) (left : ℕ) → slice_get bs 0 ≡ Some b → length b.left ≤ left
    → drop (left - length b.left) (queue_frames (drop 1 bs)) ≡ drop left (queue_frames bs)
first_gone [] b left here few = cc
first_gone (x ∷ bs) b left here few =
    let same : x ≡ b = cc in
    let size : length (batch_frames x) ≡ length b.left = length-map x.left (record_frame x.block) ∙ ap (λ (y : BatchState). length y.left) same in
    let all : length (batch_frames x) + (left - length b.left) ≡ left = omega (arith, few, size) in
    ap (drop (left - length b.left)) (sym (drop-append_seam (batch_frames x) (queue_frames bs)))
    ∙ drop-drop (left - length b.left) (length (batch_frames x)) (batch_frames x ++ queue_frames bs)
    ∙ ap (λ (n : ℕ). drop n (batch_frames x ++ queue_frames bs)) all

-- the first batch stays, and has more frames than go
pub first_shorter : (bs : List BatchState) (b : BatchState) (left : ℕ) → slice_get bs 0 ≡ Some b → left < length b.left
    → queue_frames (slice_set bs 0 (record b { left = drop left b.left })) ≡ drop left (queue_frames bs)
first_shorter [] b left here few = cc
first_shorter (x ∷ bs) b left here few =
    let same : x ≡ b = cc in
    let size : length (batch_frames b) ≡ length b.left = length-map b.left (record_frame b.block) in
    ap (λ (l : List Frame). l ++ queue_frames bs) (sym (drop-map (record_frame b.block) left b.left))
    ∙ sym (drop-append-le left (batch_frames b) (queue_frames bs) (omega (arith, few, size)))
    ∙ ap (λ (y : BatchState). drop left (batch_frames y ++ queue_frames bs)) (sym same)

-- ---- a place

pub item_here : {X : Type 0} (xs : List X) (k : ℕ) (x : X) → k < length xs → x ≡ get_or xs k x → slice_get xs k ≡ Some x
item_here xs k x within e = slice_get-get_or xs k x within ∙ ap Some (sym e)

pub count_here : (bs : List BatchState) (k : ℕ) (b : BatchState) → slice_get bs k ≡ Some b → count_in bs k ≡ length b.left
count_here bs k b here = ap (λ (o : Option BatchState). option_map_or (λ (b : BatchState). length b.left) o 0) here

-- the frames from a place of a batch on
pub left_here : (bs : List BatchState) (k at : ℕ) (b : BatchState) → slice_get bs k ≡ Some b
    → drop at (queue_frames (drop k bs)) ≡ drop at (batch_frames b ++ queue_frames (drop (k + 1) bs))
left_here bs k at b here = ap (λ (l : List BatchState). drop at (queue_frames l)) (drop_at bs k b here)

pub first_left : (bs : List BatchState) (k at : ℕ) (b : BatchState) (f : Frame) → slice_get bs k ≡ Some b → slice_get (batch_frames b) at ≡ Some f
    → slice_get (drop at (queue_frames (drop k bs))) 0 ≡ Some f
first_left bs k at b f here there =
    let zero_more : at + 0 ≡ at = omega arith in
    ap (λ (l : List Frame). slice_get l 0) (left_here bs k at b here)
    ∙ get_drop (batch_frames b ++ queue_frames (drop (k + 1) bs)) at 0
    ∙ ap (slice_get (batch_frames b ++ queue_frames (drop (k + 1) bs))) zero_more
    ∙ get_front (batch_frames b) (queue_frames (drop (k + 1) bs)) at f there

-- the frames after that one
pub next_left : (bs : List BatchState) (k at : ℕ) → drop (at + 1) (queue_frames (drop k bs)) ≡ drop 1 (drop at (queue_frames (drop k bs)))
next_left bs k at = sym (drop-drop 1 at (queue_frames (drop k bs)))

pub next_batch : (bs : List BatchState) (k at : ℕ) (b : BatchState) → slice_get bs k ≡ Some b → at + 1 ≡ length b.left
    → drop 0 (queue_frames (drop (k + 1) bs)) ≡ drop 1 (drop at (queue_frames (drop k bs)))
next_batch bs k at b here last =
    let size : length (batch_frames b) ≡ at + 1 = length-map b.left (record_frame b.block) ∙ sym last in
    sym (drop-append_seam (batch_frames b) (queue_frames (drop (k + 1) bs)))
    ∙ ap (λ (n : ℕ). drop n (batch_frames b ++ queue_frames (drop (k + 1) bs))) size
    ∙ sym (left_here bs k (at + 1) b here)
    ∙ next_left bs k at

-- the block that a draft is known to have is that of the batch
pub among_here : (blocks : List (List ℕ)) (bs : List BatchState) (k : ℕ) (b : BatchState) (known : Option ℕ) → slice_get bs k ≡ Some b
    → IsBlockOf blocks bs k known → IfSome known (λ j. IsBlockAt blocks j b.block)
among_here blocks bs k b None here among = tt
among_here blocks bs k b (Some j) here among = subst (λ (o : Option BatchState). ForSome o (λ (b : BatchState). IsBlockAt blocks j b.block)) here among b refl

pub is_among : (blocks : List (List ℕ)) (bs : List BatchState) (k j : ℕ) (b : BatchState) → slice_get bs k ≡ Some b → IsBlockAt blocks j b.block
    → IsBlockOf blocks bs k (Some j)
is_among blocks bs k j b here there x e =
    let same : b ≡ x = cc in
    subst (λ (y : BatchState). IsBlockAt blocks j y.block) same there

-- where frames are left there is a batch
pub some_there : (bs : List BatchState) (k at : ℕ) → 0 < length (drop at (queue_frames (drop k bs))) → k < length bs
some_there bs k at some =
    by_bool (nat_lt k (length bs)) (k < length bs) (λ t. ltb-true k (length bs) t)
    (λ t. (let none = drop_of_length-le bs {i = k} (ltb-false k (length bs) t) in
    absurd (omega (arith, some, length-drop at (queue_frames (drop k bs)), ap (λ (l : List BatchState). length (queue_frames l)) none))))

pub take_first : {X : Type 0} (xs : List X) (x : X) → slice_get xs 0 ≡ Some x → take 1 xs ≡ x ∷ []
take_first [] x e = cc
take_first (y ∷ xs) x e = cc

pub joined : (new mid old one same : List Frame) → new ≡ mid ++ one → mid ≡ old → one ≡ same → new ≡ old ++ same
joined new mid old one same more kept is = more ∙ ap (λ (l : List Frame). l ++ one) kept ∙ ap (λ (l : List Frame). old ++ l) is

-- the frame of a record
pub frame_here : (b : BatchState) (k : ℕ) (r : FrameRecord) → slice_get b.left k ≡ Some r → slice_get (batch_frames b) k ≡ Some (record_frame b.block r)
frame_here b k r e = slice_get-map (record_frame b.block) b.left k ∙ ap (option_map (record_frame b.block)) e

-- ---- frames below a moment

-- the elements before an index pass, and so does the one there
pub one_more_below : {X : Type 0} (p : X → Bool) (xs : List X) (k : ℕ) (x : X) → prefix_len p (take k xs) ≡ k → slice_get xs k ≡ Some x → p x ≡ true
    → prefix_len p (take (k + 1) xs) ≡ k + 1
one_more_below p [] k x all here t = cc
one_more_below p (y ∷ xs) zero x all here t =
    let same : y ≡ x = cc in
    ap (λ (b : Bool). cond b (1 + prefix_len p (take 0 xs)) 0) (ap p same ∙ t)
one_more_below p (y ∷ xs) (suc k) x all here t =
    by_bool (p y) (prefix_len p (take (suc k + 1) (y ∷ xs)) ≡ suc k + 1)
    (λ pass. (let rest : prefix_len p (take k xs) ≡ k = omega (arith, sym (ap (λ (b : Bool). cond b (1 + prefix_len p (take k xs)) 0) pass) ∙ all) in
    let at : suc k + 1 ≡ suc (k + 1) = omega arith in
    let more = one_more_below p xs k x rest here t in
    ap (λ (n : ℕ). prefix_len p (take n (y ∷ xs))) at ∙ ap (λ (b : Bool). cond b (1 + prefix_len p (take (k + 1) xs)) 0) pass ∙ omega (arith, more)))
    (λ stop. (let none : 0 ≡ suc k = sym (ap (λ (b : Bool). cond b (1 + prefix_len p (take k xs)) 0) stop) ∙ all in absurd (omega (arith, none))))

-- the elements before an index pass, and the one there doesn't
pub stops_there : {X : Type 0} (p : X → Bool) (xs : List X) (k most : ℕ) (x : X) → prefix_len p (take k xs) ≡ k → k < most → slice_get xs k ≡ Some x
    → p x ≡ false → prefix_len p (take most xs) ≡ k
stops_there p [] k most x all less here t = cc
stops_there p (y ∷ xs) k zero x all less here t = absurd (omega (arith, less))
stops_there p (y ∷ xs) zero (suc most) x all less here t =
    let same : y ≡ x = cc in
    ap (λ (b : Bool). cond b (1 + prefix_len p (take most xs)) 0) (ap p same ∙ t)
stops_there p (y ∷ xs) (suc k) (suc most) x all less here t =
    by_bool (p y) (prefix_len p (take (suc most) (y ∷ xs)) ≡ suc k)
    (λ pass. (let rest : prefix_len p (take k xs) ≡ k = omega (arith, sym (ap (λ (b : Bool). cond b (1 + prefix_len p (take k xs)) 0) pass) ∙ all) in
    let there = stops_there p xs k most x rest (omega (arith, less)) here t in
    ap (λ (b : Bool). cond b (1 + prefix_len p (take most xs)) 0) pass ∙ omega (arith, there)))
    (λ stop. (let none : 0 ≡ suc k = sym (ap (λ (b : Bool). cond b (1 + prefix_len p (take k xs)) 0) stop) ∙ all in absurd (omega (arith, none))))

pub take_min : {X : Type 0} (n : ℕ) (xs : List X) → take (min n (length xs)) xs ≡ take n xs
take_min zero [] = refl
take_min (suc n) [] = let at : min (suc n) 0 ≡ 0 = omega arith in ap (λ (k : ℕ). take k []) at
take_min zero (x ∷ xs) = let at : min 0 (length (x ∷ xs)) ≡ 0 = omega arith in ap (λ (k : ℕ). take k (x ∷ xs)) at
take_min (suc n) (x ∷ xs) =
    let at : min (suc n) (length (x ∷ xs)) ≡ suc (min n (length xs)) = omega arith in
    ap (λ (k : ℕ). take k (x ∷ xs)) at ∙ ap (λ (l : List _). x ∷ l) (take_min n xs)

-- a prefix that stops within the first list stops there whatever follows
pub stops_within : {X : Type 0} (p : X → Bool) (n : ℕ) (xs ys : List X) → prefix_len p (take n xs) < length xs
    → prefix_len p (take n (xs ++ ys)) ≡ prefix_len p (take n xs)
stops_within p n [] ys less = absurd (omega (arith, less))
stops_within p zero (x ∷ xs) ys less = refl
stops_within p (suc n) (x ∷ xs) ys less =
    by_bool (p x) (prefix_len p (take (suc n) (x ∷ xs ++ ys)) ≡ prefix_len p (take (suc n) (x ∷ xs)))
    (λ pass. (let size = ap (λ (b : Bool). cond b (1 + prefix_len p (take n xs)) 0) pass in
    let rest = stops_within p n xs ys (omega (arith, size, less)) in
    ap (λ (b : Bool). cond b (1 + prefix_len p (take n (xs ++ ys))) 0) pass ∙ ap (λ (k : ℕ). 1 + k) rest ∙ sym size))
    (λ stop. ap (λ (b : Bool). cond b (1 + prefix_len p (take n (xs ++ ys))) 0) stop ∙ sym (ap (λ (b : Bool). cond b (1 + prefix_len p (take n xs)) 0) stop))

-- where all of the first list pass, those of the second follow
pub goes_past : {X : Type 0} (p : X → Bool) (n : ℕ) (xs ys : List X) → prefix_len p xs ≡ length xs → length xs ≤ n
    → prefix_len p (take n (xs ++ ys)) ≡ length xs + prefix_len p (take (n - length xs) ys)
goes_past p n [] ys all less =
    let at : n ≡ n - 0 = omega arith in
    let sum : prefix_len p (take (n - 0) ys) ≡ 0 + prefix_len p (take (n - 0) ys) = omega arith in
    ap (λ (k : ℕ). prefix_len p (take k ys)) at ∙ sum
goes_past p zero (x ∷ xs) ys all less = absurd (omega (arith, less))
goes_past p (suc n) (x ∷ xs) ys all less =
    by_bool (p x) (prefix_len p (take (suc n) (x ∷ xs ++ ys)) ≡ length (x ∷ xs) + prefix_len p (take (suc n - length (x ∷ xs)) ys))
    (λ pass. (let rest : prefix_len p xs ≡ length xs = omega (arith, sym (ap (λ (b : Bool). cond b (1 + prefix_len p xs) 0) pass) ∙ all) in
    let at : n - length xs ≡ suc n - length (x ∷ xs) = omega arith in
    let more = goes_past p n xs ys rest (omega (arith, less)) in
    ap (λ (b : Bool). cond b (1 + prefix_len p (take n (xs ++ ys))) 0) pass
    ∙ omega (arith, more)
    ∙ ap (λ (k : ℕ). length (x ∷ xs) + prefix_len p (take k ys)) at))
    (λ stop. (let none : 0 ≡ length (x ∷ xs) = sym (ap (λ (b : Bool). cond b (1 + prefix_len p xs) 0) stop) ∙ all in absurd (omega (arith, none))))

pub take_all : {X : Type 0} (n : ℕ) (xs : List X) → length xs ≤ n → take n xs ≡ xs
take_all n xs less =
    let at : min n (length xs) ≡ length xs = omega (arith, less) in
    sym (take_min n xs) ∙ ap (λ (k : ℕ). take k xs) at ∙ take-length xs

all_append : {X : Type 0} (p : X → Bool) (xs ys : List X) → prefix_len p xs ≡ length xs → prefix_len p ys ≡ length ys
    → prefix_len p (xs ++ ys) ≡ length (xs ++ ys)
all_append p xs ys a b =
    let n = length (xs ++ ys) in
    let size = length-append xs ys in
    let rest : prefix_len p (take (n - length xs) ys) ≡ length ys = ap (prefix_len p) (take_all (n - length xs) ys (omega (arith, size))) ∙ b in
    ap (prefix_len p) (sym (take_all n (xs ++ ys) (omega arith))) ∙ goes_past p n xs ys a (omega (arith, size)) ∙ omega (arith, rest, size)

-- so many of a batch as are looked at are at most so many
pub few_below : {X : Type 0} (p : X → Bool) (n : ℕ) (xs : List X) → prefix_len p (take n xs) ≤ min n (length xs)
few_below p n xs = omega (arith, prefix_len-le-length p (take n xs), length-take n xs)

pub one_more_batch : (bs : List BatchState) (k : ℕ) (b : BatchState) → slice_get bs k ≡ Some b
    → queue_frames (take (k + 1) bs) ≡ queue_frames (take k bs) ++ batch_frames b
one_more_batch bs k b here =
    let within = slice_get_within bs k b here in
    ap queue_frames (take_more bs k b within ∙ ap (λ (x : BatchState). take k bs ++ x ∷ []) (get_or_from_slice_get bs k b b here))
    ∙ flat_map-append batch_frames (take k bs) (b ∷ [])
    ∙ ap (λ (l : List Frame). queue_frames (take k bs) ++ l) (append-nil (batch_frames b))

pub all_batches : (bs : List BatchState) (k : ℕ) (b : BatchState) → slice_get bs k ≡ Some b
    → queue_frames bs ≡ queue_frames (take k bs) ++ (batch_frames b ++ queue_frames (drop (k + 1) bs))
all_batches bs k b here =
    ap queue_frames (sym (take-append-drop k bs) ∙ ap (λ (l : List BatchState). take k bs ++ l) (drop_at bs k b here))
    ∙ flat_map-append batch_frames (take k bs) (b ∷ drop (k + 1) bs)

-- the first frame of a batch that isn't below the moment, or the last that is looked at, ends the count
pub ends_here : (bs : List BatchState) (k bound most count more : ℕ) (b : BatchState) → slice_get bs k ≡ Some b
    → count ≡ length (queue_frames (take k bs)) → prefix_len (comes_below bound) (queue_frames (take k bs)) ≡ count → count ≤ most
    → more ≡ prefix_len (comes_below bound) (take (most - count) (batch_frames b)) → more < length b.left
    → count + more ≡ prefix_len (comes_below bound) (take most (queue_frames bs))
ends_here bs k bound most count more b here size all few is less =
    let p = comes_below bound in
    let before = queue_frames (take k bs) in
    let after = queue_frames (drop (k + 1) bs) in
    let here_size = length-map b.left (record_frame b.block) in
    let at : most - count ≡ most - length before = ap (λ (n : ℕ). most - n) size in
    let within = stops_within p (most - length before) (batch_frames b) after (omega (arith, is, less, here_size, ap (λ (n : ℕ). prefix_len p (take n (batch_frames b))) at)) in
    let past = goes_past p most before (batch_frames b ++ after) (all ∙ size) (omega (arith, size, few)) in
    let sum : count + more ≡ length before + prefix_len p (take (most - length before) (batch_frames b ++ after)) =
    omega (arith, size, is, within, ap (λ (n : ℕ). prefix_len p (take n (batch_frames b))) at) in
    sum ∙ sym past ∙ ap (λ (l : List Frame). prefix_len p (take most l)) (sym (all_batches bs k b here))

pub record GoesOn (bs : List BatchState) (k bound most count : ℕ) : Type 0 where
  pub size : count ≡ length (queue_frames (take k bs))
  pub all : prefix_len (comes_below bound) (queue_frames (take k bs)) ≡ count
  pub few : count ≤ most

-- a batch of which all are below the moment
pub goes_on : (bs : List BatchState) (k bound most count more : ℕ) (b : BatchState) → slice_get bs k ≡ Some b
    → count ≡ length (queue_frames (take k bs)) → prefix_len (comes_below bound) (queue_frames (take k bs)) ≡ count → count ≤ most
    → more ≡ prefix_len (comes_below bound) (take (most - count) (batch_frames b)) → length b.left ≤ more → GoesOn bs (k + 1) bound most (count + more)
goes_on bs k bound most count more b here size all few is whole =
    let p = comes_below bound in
    let before = queue_frames (take k bs) in
    let here_size = length-map b.left (record_frame b.block) in
    let most_here = few_below p (most - count) (batch_frames b) in
    let same : more ≡ length (batch_frames b) = omega (arith, is, whole, here_size, most_here) in
    let passed : prefix_len p (batch_frames b) ≡ length (batch_frames b) =
    ap (prefix_len p) (sym (take_all (most - count) (batch_frames b) (omega (arith, is, whole, here_size, most_here)))) ∙ sym is ∙ same in
    let next = one_more_batch bs k b here in
    let sizes = ap length next ∙ length-append before (batch_frames b) in
    let both = all_append p before (batch_frames b) (all ∙ size) passed in
    record {
      size = omega (arith, sizes, size, same);
      all = ap (prefix_len p) next ∙ both ∙ omega (arith, length-append before (batch_frames b), size, same);
      few = omega (arith, is, most_here, few);
    }
