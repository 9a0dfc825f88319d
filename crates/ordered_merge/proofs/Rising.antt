-- The order of frames, and lists in that order.
use Rattle.std.proofs.Common.{◌≡◌, ℕ, ◌<◌, Bool, true, false, cond, List, [], ◌∷◌, ◌++◌, drop, slice_get, refl, sym, ap, ◌∙◌, subst}
use Rattle.std.proofs.lemmas.Bool.{cond_both, false≢true}
use Rattle.std.proofs.lemmas.Cmp.{ranked, nat_cmp_total, on_total, then_total}
use Rattle.std.proofs.lemmas.List.Sorted.{IsPermutation-refl, IsPermutation-trans, IsPermutation-cons, IsPermutation-middle}
use Rattle.std.specs.Cmp.{IsTotalOrder}
use Rattle.std.specs.List.{AllByRecursion}
use Rattle.std.specs.List.Sorted.{IsPermutation}
use Rattle.std.specs.Ordering.{MatchOrdering, nat_cmp, ordering_then, ordering_reverse, is_lt}
use Rattle.std.specs.declared.cmp.Ordering.{Ordering}
use Rattle.std.specs.declared.cmp.Ordering.TheVariants.{Less, Equal, Greater}
use Rattle.afdx_frame.specs.Frame.{Frame, key_of, key_cmp, network_cmp}
use Rattle.afdx_frame.specs.declared.key.Network.{Network}
use Rattle.afdx_frame.specs.declared.key.Network.TheVariants.{A, B}
use Rattle.afdx_frame.specs.declared.key.Key.{Key}
use Rattle.ordered_merge.specs.Order.{is_before, IsBefore, IsRising, insert_frame, insert_frames, leads}

-- ---- each element

pub each_append : {X : Type 0} (P : X → Type 0) (xs ys : List X) → AllByRecursion P xs → AllByRecursion P ys → AllByRecursion P (xs ++ ys)
each_append P [] ys p q = q
each_append P (x ∷ xs) ys p q = (p.0, each_append P xs ys p.1 q)

pub each_weaker : {X : Type 0} (P Q : X → Type 0) → ((x : X) → P x → Q x) → (xs : List X) → AllByRecursion P xs → AllByRecursion Q xs
each_weaker P Q f [] p = tt
each_weaker P Q f (x ∷ xs) p = (f x p.0, each_weaker P Q f xs p.1)

pub each_front : {X : Type 0} (P : X → Type 0) (xs ys : List X) → AllByRecursion P (xs ++ ys) → AllByRecursion P xs
each_front P [] ys p = tt
each_front P (x ∷ xs) ys p = (p.0, each_front P xs ys p.1)

pub each_back : {X : Type 0} (P : X → Type 0) (xs ys : List X) → AllByRecursion P (xs ++ ys) → AllByRecursion P ys
each_back P [] ys p = p
each_back P (x ∷ xs) ys p = each_back P xs ys p.1

-- ---- the order of keys

network_antisymm : (m n : Network) → network_cmp m n ≡ ordering_reverse (network_cmp n m)
network_antisymm A A = refl
network_antisymm A B = refl
network_antisymm B A = refl
network_antisymm B B = refl

network_trans : (l m n : Network) → network_cmp l m ≡ Less → network_cmp m n ≡ Less → network_cmp l n ≡ Less
network_trans A A n e f = f
network_trans A B A e f = cc
network_trans A B B e f = e
network_trans B A n e f = cc
network_trans B B n e f = f

network_congr : (l m n : Network) → network_cmp l m ≡ Equal → network_cmp l n ≡ network_cmp m n
network_congr A A n e = refl
network_congr A B n e = cc
network_congr B A n e = cc
network_congr B B n e = refl

network_total : IsTotalOrder network_cmp
network_total = record { antisymm = network_antisymm; trans = network_trans; congr = network_congr }

pub key_total : IsTotalOrder key_cmp
key_total =
    then_total (on_total (λ (k : Key). k.stamp.0) nat_cmp_total)
    (then_total (on_total (λ (k : Key). k.network) network_total) (on_total (λ (k : Key). k.number) nat_cmp_total))

pub is_less : (o : Ordering) → is_lt o ≡ true → o ≡ Less
is_less Less e = refl
is_less Equal e = absurd (false≢true e)
is_less Greater e = absurd (false≢true e)

pub before_from_test : (f g : Frame) → is_before f g ≡ true → IsBefore f g
before_from_test f g e = is_less (key_cmp (key_of f) (key_of g)) e

pub test_from_before : (f g : Frame) → IsBefore f g → is_before f g ≡ true
test_from_before f g e = ap is_lt e

pub before_trans : (f g h : Frame) → IsBefore f g → IsBefore g h → IsBefore f h
before_trans f g h = key_total.trans (key_of f) (key_of g) (key_of h)

-- the keys differ
abbrev pub Differs : Frame → Frame → Type 0
Differs f g = key_cmp (key_of f) (key_of g) ≡ Equal → ⊥

pub not_back : (f g : Frame) → IsBefore f g → is_before g f ≡ false
not_back f g e = ap is_lt (key_total.antisymm (key_of g) (key_of f) ∙ ap ordering_reverse e)

pub before_differs : (f g : Frame) → IsBefore f g → Differs f g
before_differs f g e = λ t. cc

pub differs_back : (f g : Frame) → Differs f g → Differs g f
differs_back f g d = λ e. d (key_total.antisymm (key_of f) (key_of g) ∙ ap ordering_reverse e)

after_other : (o : Ordering) → is_lt o ≡ false → (o ≡ Equal → ⊥) → ordering_reverse o ≡ Less
after_other Less e d = cc
after_other Equal e d = absurd (d refl)
after_other Greater e d = refl

pub before_from_not : (f g : Frame) → is_before f g ≡ false → Differs f g → IsBefore g f
before_from_not f g e d = key_total.antisymm (key_of g) (key_of f) ∙ after_other (key_cmp (key_of f) (key_of g)) e d

cond_both_test : (b : Bool) → (b ≡ true → b ≡ false) → (b ≡ false → b ≡ false) → b ≡ false
cond_both_test true f g = f refl
cond_both_test false f g = refl

-- a frame after f is not before one that f is not before
pub not_before_after : (f g h : Frame) → IsBefore f g → is_before f h ≡ false → is_before g h ≡ false
not_before_after f g h e n =
    cond_both_test (is_before g h) (λ t. absurd (false≢true (sym n ∙ test_from_before f h (before_trans f g h e (before_from_test g h t))))) (λ t. t)

-- ---- keys that differ

then_equal : (o p : Ordering) → ordering_then o p ≡ Equal → (o ≡ Equal) × (p ≡ Equal)
then_equal Less p e = cc
then_equal Equal p e = (refl, e)
then_equal Greater p e = cc

nat_equal : (m n : ℕ) → nat_cmp m n ≡ Equal → m ≡ n
nat_equal m n e = let P : Ordering → Type 0 = λ o. MatchOrdering o (m < n) (m ≡ n) (n < m) in subst P e (ranked m n (nat_cmp m n) refl)

network_equal : (m n : Network) → network_cmp m n ≡ Equal → m ≡ n
network_equal A A e = refl
network_equal A B e = cc
network_equal B A e = cc
network_equal B B e = refl

pub same_number : (f g : Frame) → key_cmp (key_of f) (key_of g) ≡ Equal → f.number ≡ g.number
same_number f g e =
    nat_equal f.number g.number (then_equal (network_cmp f.network g.network) (nat_cmp f.number g.number) ((then_equal (nat_cmp f.stamp g.stamp) _ e).1)).1

pub same_network : (f g : Frame) → key_cmp (key_of f) (key_of g) ≡ Equal → f.network ≡ g.network
same_network f g e =
    network_equal f.network g.network (then_equal (network_cmp f.network g.network) (nat_cmp f.number g.number) ((then_equal (nat_cmp f.stamp g.stamp) _ e).1)).0

-- ---- a frame that goes to its place

pub insert_yes : (f g : Frame) (l : List Frame) → is_before f g ≡ true → insert_frame f (g ∷ l) ≡ f ∷ g ∷ l
insert_yes f g l e = ap (λ (b : Bool). cond b (f ∷ g ∷ l) (g ∷ insert_frame f l)) e

pub insert_no : (f g : Frame) (l : List Frame) → is_before f g ≡ false → insert_frame f (g ∷ l) ≡ g ∷ insert_frame f l
insert_no f g l e = ap (λ (b : Bool). cond b (f ∷ g ∷ l) (g ∷ insert_frame f l)) e

pub each_insert : (P : Frame → Type 0) (f : Frame) (l : List Frame) → P f → AllByRecursion P l → AllByRecursion P (insert_frame f l)
each_insert P f [] p q = (p, tt)
each_insert P f (g ∷ l) p q =
    cond_both (is_before f g) (f ∷ g ∷ l) (g ∷ insert_frame f l) (AllByRecursion P) (λ _. (p, q)) (λ _. (q.0, each_insert P f l p q.1))

pub rising_insert : (f : Frame) (l : List Frame) → IsRising l → AllByRecursion (Differs f) l → IsRising (insert_frame f l)
rising_insert f [] r d = (tt, tt)
rising_insert f (g ∷ l) r d =
    cond_both (is_before f g) (f ∷ g ∷ l) (g ∷ insert_frame f l) IsRising
    (λ t. (let b = before_from_test f g t in ((b, each_weaker (IsBefore g) (IsBefore f) (λ h e. before_trans f g h b e) l r.0), r)))
    (λ t. (each_insert (IsBefore g) f l (before_from_not f g t d.0) r.0, rising_insert f l r.1 d.1))

pub permutation_insert : (f : Frame) (l : List Frame) → IsPermutation (f ∷ l) (insert_frame f l)
permutation_insert f [] = IsPermutation-refl (f ∷ [])
permutation_insert f (g ∷ l) =
    cond_both (is_before f g) (f ∷ g ∷ l) (g ∷ insert_frame f l) (IsPermutation (f ∷ g ∷ l))
    (λ _. IsPermutation-refl (f ∷ g ∷ l))
    (λ _. IsPermutation-trans (f ∷ g ∷ l) (g ∷ f ∷ l) (g ∷ insert_frame f l) (IsPermutation-middle (f ∷ []) g l)
    (IsPermutation-cons g (f ∷ l) (insert_frame f l) (permutation_insert f l)))

pub insert_first : (f : Frame) (l : List Frame) → AllByRecursion (IsBefore f) l → insert_frame f l ≡ f ∷ l
insert_first f [] h = refl
insert_first f (g ∷ l) h = insert_yes f g l (test_from_before f g h.0)

pub insert_last : (f : Frame) (l : List Frame) → AllByRecursion (λ g. IsBefore g f) l → insert_frame f l ≡ l ++ f ∷ []
insert_last f [] h = refl
insert_last f (g ∷ l) h = insert_no f g l (not_back g f h.0) ∙ ap (λ (xs : List Frame). g ∷ xs) (insert_last f l h.1)

pub by_test : (b : Bool) (P : Type 0) → (b ≡ true → P) → (b ≡ false → P) → P
by_test true P f g = f refl
by_test false P f g = g refl

insert_swap_before : (f g : Frame) (l : List Frame) → IsBefore f g → insert_frame f (insert_frame g l) ≡ insert_frame g (insert_frame f l)
insert_swap_before f g [] e =
    insert_yes f g [] (test_from_before f g e) ∙ sym (insert_no g f [] (not_back f g e))
insert_swap_before f g (h ∷ l) e =
    by_test (is_before g h) (insert_frame f (insert_frame g (h ∷ l)) ≡ insert_frame g (insert_frame f (h ∷ l)))
    (λ t. (let fh = test_from_before f h (before_trans f g h e (before_from_test g h t)) in
    ap (insert_frame f) (insert_yes g h l t) ∙ insert_yes f g (h ∷ l) (test_from_before f g e)
    ∙ sym (ap (insert_frame g) (insert_yes f h l fh) ∙ insert_no g f (h ∷ l) (not_back f g e) ∙ ap (λ (xs : List Frame). f ∷ xs) (insert_yes g h l t))))
    (λ t. by_test (is_before f h) (insert_frame f (insert_frame g (h ∷ l)) ≡ insert_frame g (insert_frame f (h ∷ l)))
    (λ u. ap (insert_frame f) (insert_no g h l t) ∙ insert_yes f h (insert_frame g l) u
    ∙ sym (ap (insert_frame g) (insert_yes f h l u) ∙ insert_no g f (h ∷ l) (not_back f g e) ∙ ap (λ (xs : List Frame). f ∷ xs) (insert_no g h l t)))
    (λ u. ap (insert_frame f) (insert_no g h l t) ∙ insert_no f h (insert_frame g l) u
    ∙ ap (λ (xs : List Frame). h ∷ xs) (insert_swap_before f g l e)
    ∙ sym (ap (insert_frame g) (insert_no f h l u) ∙ insert_no g h (insert_frame f l) t)))

pub insert_swap : (f g : Frame) (l : List Frame) → Differs f g → insert_frame f (insert_frame g l) ≡ insert_frame g (insert_frame f l)
insert_swap f g l d =
    by_test (is_before f g) (insert_frame f (insert_frame g l) ≡ insert_frame g (insert_frame f l))
    (λ t. insert_swap_before f g l (before_from_test f g t))
    (λ t. sym (insert_swap_before g f l (before_from_not f g t d)))

-- ---- two lists in one

pub each_insert_frames : (P : Frame → Type 0) (fs l : List Frame) → AllByRecursion P fs → AllByRecursion P l → AllByRecursion P (insert_frames fs l)
each_insert_frames P [] l p q = q
each_insert_frames P (f ∷ fs) l p q = each_insert P f (insert_frames fs l) p.0 (each_insert_frames P fs l p.1 q)

pub permutation_insert_frames : (fs l : List Frame) → IsPermutation (fs ++ l) (insert_frames fs l)
permutation_insert_frames [] l = IsPermutation-refl l
permutation_insert_frames (f ∷ fs) l =
    IsPermutation-trans (f ∷ (fs ++ l)) (f ∷ insert_frames fs l) (insert_frame f (insert_frames fs l))
    (IsPermutation-cons f (fs ++ l) (insert_frames fs l) (permutation_insert_frames fs l))
    (permutation_insert f (insert_frames fs l))

pub rising_insert_frames : (fs l : List Frame) → IsRising fs → IsRising l → AllByRecursion (λ f. AllByRecursion (Differs f) l) fs → IsRising (insert_frames fs l)
rising_insert_frames [] l r s d = s
rising_insert_frames (f ∷ fs) l r s d =
    rising_insert f (insert_frames fs l) (rising_insert_frames fs l r.1 s d.1)
    (each_insert_frames (Differs f) fs l (each_weaker (IsBefore f) (Differs f) (λ g. before_differs f g) fs r.0) d.0)

-- a frame more in the second list, or in the first
pub insert_into_second : (f : Frame) (fs l : List Frame) → AllByRecursion (Differs f) fs → insert_frames fs (insert_frame f l) ≡ insert_frame f (insert_frames fs l)
insert_into_second f [] l d = refl
insert_into_second f (g ∷ fs) l d =
    ap (insert_frame g) (insert_into_second f fs l d.1) ∙ insert_swap g f (insert_frames fs l) (differs_back f g d.0)

pub insert_into_first : (f : Frame) (fs l : List Frame) → AllByRecursion (Differs f) fs → insert_frames (insert_frame f fs) l ≡ insert_frame f (insert_frames fs l)
insert_into_first f [] l d = refl
insert_into_first f (g ∷ fs) l d =
    by_test (is_before f g) (insert_frames (insert_frame f (g ∷ fs)) l ≡ insert_frame f (insert_frames (g ∷ fs) l))
    (λ t. ap (λ (xs : List Frame). insert_frames xs l) (insert_yes f g fs t))
    (λ t. ap (λ (xs : List Frame). insert_frames xs l) (insert_no f g fs t)
    ∙ ap (insert_frame g) (insert_into_first f fs l d.1) ∙ insert_swap g f (insert_frames fs l) (differs_back f g d.0))

-- the first of both is that of the second list, or that of the first
pub first_of_second : (fs : List Frame) (g : Frame) (l : List Frame) → AllByRecursion (λ f. is_before f g ≡ false) fs → insert_frames fs (g ∷ l) ≡ g ∷ insert_frames fs l
first_of_second [] g l n = refl
first_of_second (f ∷ fs) g l n =
    ap (insert_frame f) (first_of_second fs g l n.1) ∙ insert_no f g (insert_frames fs l) n.0

pub first_of_first : (f : Frame) (fs l : List Frame) → AllByRecursion (IsBefore f) fs → AllByRecursion (IsBefore f) l → insert_frames (f ∷ fs) l ≡ f ∷ insert_frames fs l
first_of_first f fs l h k = insert_first f (insert_frames fs l) (each_insert_frames (IsBefore f) fs l h k)

-- the same, where the first list leads, and where it doesn't
first_alone : (f : Frame) (fs : List Frame) → IsRising (f ∷ fs) → insert_frames (f ∷ fs) [] ≡ f ∷ insert_frames fs []
first_alone f fs r = first_of_first f fs [] r.0 tt

leading : (f : Frame) (fs l : List Frame) → IsRising (f ∷ fs) → IsRising l → leads (f ∷ fs) l ≡ true → insert_frames (f ∷ fs) l ≡ f ∷ insert_frames fs l
leading f fs [] r s t = first_alone f fs r
leading f fs (g ∷ l) r s t =
    let e = before_from_test f g t in
    first_of_first f fs (g ∷ l) r.0 (e, each_weaker (IsBefore g) (IsBefore f) (λ h. before_trans f g h e) l s.0)

other_leading : (fs : List Frame) (g : Frame) (l : List Frame) → IsRising fs → leads fs (g ∷ l) ≡ false → insert_frames fs (g ∷ l) ≡ g ∷ insert_frames fs l
other_leading [] g l r t = refl
other_leading (f ∷ fs) g l r t =
    first_of_second (f ∷ fs) g l
    (t, each_weaker (IsBefore f) (λ h. is_before h g ≡ false) (λ h e. not_before_after f h g e t) fs r.0)

none_leads : (fs : List Frame) → leads fs [] ≡ false → fs ≡ []
none_leads [] t = refl
none_leads (f ∷ fs) t = absurd (false≢true (sym t))

pub leading_first : (fs l : List Frame) → IsRising fs → IsRising l → leads fs l ≡ true → slice_get fs 0 ≡ slice_get (insert_frames fs l) 0
leading_first [] l r s t = absurd (false≢true t)
leading_first (f ∷ fs) l r s t = ap (λ (xs : List Frame). slice_get xs 0) (sym (leading f fs l r s t))

pub leading_rest : (fs l : List Frame) → IsRising fs → IsRising l → leads fs l ≡ true → insert_frames (drop 1 fs) l ≡ drop 1 (insert_frames fs l)
leading_rest [] l r s t = absurd (false≢true t)
leading_rest (f ∷ fs) l r s t = ap (drop 1) (sym (leading f fs l r s t))

pub other_first : (fs l : List Frame) → IsRising fs → leads fs l ≡ false → slice_get l 0 ≡ slice_get (insert_frames fs l) 0
other_first fs [] r t = ap (λ (xs : List Frame). slice_get (insert_frames xs []) 0) (sym (none_leads fs t))
other_first fs (g ∷ l) r t = ap (λ (xs : List Frame). slice_get xs 0) (sym (other_leading fs g l r t))

pub other_rest : (fs l : List Frame) → IsRising fs → leads fs l ≡ false → insert_frames fs (drop 1 l) ≡ drop 1 (insert_frames fs l)
other_rest fs [] r t =
    (let none = none_leads fs t in
    ap (λ (xs : List Frame). insert_frames xs []) none ∙ ap (λ (xs : List Frame). drop 1 (insert_frames xs [])) (sym none))
other_rest fs (g ∷ l) r t = ap (drop 1) (sym (other_leading fs g l r t))
