-- A round of frames, frame by frame.
use Rattle.std.proofs.Common.{take_all, ◌≡◌, ℕ, suc, ◌+◌, ◌<◌, ◌≤◌, List, [], ◌∷◌, ◌++◌, length, take, drop, get_or, Option, Some, refl, sym, subst, ap, ◌∙◌, append_assoc, arith}
use Rattle.std.proofs.Math.Seq.{drop-cons, take-suc}
use Rattle.std.specs.Option.{ForSome}
use Rattle.std.specs.declared.cmp.Ordering.TheVariants.{Less}
use Rattle.afdx_frame.specs.Frame.{Frame, key_cmp, key_of}
use Rattle.afdx_frame.specs.declared.key.Key.{Key}
use Rattle.vl_judge.specs.Lanes.{FollowsOn, last_key}

plus_one : (n : ℕ) → n + 1 ≡ suc n
plus_one n = grind arith

drop_next : {X : Type 0} (xs : List X) (n : ℕ) (d : X) → n < length xs → drop n xs ≡ get_or xs n d ∷ drop (n + 1) xs
drop_next xs n d less = drop-cons xs n d less ∙ ap (λ m. get_or xs n d ∷ drop m xs) (sym (plus_one n))

take_next : {X : Type 0} (xs : List X) (n : ℕ) (d : X) → n < length xs → take (n + 1) xs ≡ take n xs ++ get_or xs n d ∷ []
take_next xs n d less = ap (λ m. take m xs) (plus_one n) ∙ take-suc xs n d less

-- a longer list, with the element at the index
pub longer : {X : Type 0} (before xs : List X) (n : ℕ) (x : X) → n < length xs → x ≡ get_or xs n x →
    (before ++ take n xs) ++ x ∷ [] ≡ before ++ take (n + 1) xs
longer before xs n x less is =
    ap (λ y. (before ++ take n xs) ++ y ∷ []) is ∙ append_assoc before (take n xs) (get_or xs n x ∷ []) ∙ ap (λ more. before ++ more) (sym (take_next xs n x less))

-- the frame at the index follows on, and then the others
pub next_follows : (last : Option Key) (round : List Frame) (n : ℕ) (f : Frame) → n < length round → f ≡ get_or round n f → FollowsOn last (drop n round) →
    ForSome last (λ key. key_cmp key (key_of f) ≡ Less) × FollowsOn (Some (key_of f)) (drop (n + 1) round)
next_follows last round n f less is follows =
    subst (λ g. ForSome last (λ key. key_cmp key (key_of g) ≡ Less) × FollowsOn (Some (key_of g)) (drop (n + 1) round)) (sym is)
    (subst (FollowsOn last) (drop_next round n f less) follows)

pub all_taken : {X : Type 0} (xs : List X) (n : ℕ) → length xs ≤ n → take n xs ≡ xs
all_taken xs n past = take_all n xs past

-- the key of the last of one frame more
pub last_key_next : (last : Option Key) (round : List Frame) (n : ℕ) (f : Frame) → n < length round → f ≡ get_or round n f →
    last_key last (take (n + 1) round) ≡ Some (key_of f)
last_key_next last round n f less is =
    ap (last_key last) (take_next round n f less ∙ ap (λ (g : Frame). take n round ++ g ∷ []) (sym is)) ∙ at_end last (take n round)
  where
    at_end : (l : Option Key) (fs : List Frame) → last_key l (fs ++ f ∷ []) ≡ Some (key_of f)
    at_end l [] = refl
    at_end l (g ∷ gs) = at_end (Some (key_of g)) gs
