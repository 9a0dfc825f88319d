-- A round, frame by frame.
use Rattle.std.proofs.Common.{take_all, ◌≡◌, ℕ, ◌+◌, ◌<◌, ◌≤◌, List, [], ◌∷◌, ◌++◌, length, take, drop, get_or, Option, Some, sym, subst, ap, ◌∙◌, append_assoc}
use Rattle.std.specs.Option.{ForSome}
use Rattle.std.specs.declared.cmp.Ordering.TheVariants.{Less}
use Rattle.afdx_frame.specs.Frame.{Frame, key_cmp, key_of}
use Rattle.afdx_frame.specs.declared.key.Key.{Key}
use Rattle.vl_judge.specs.Lanes.{FollowsOn}
use Rattle.run_fault.proofs.Lists.{drop_next, take_next}

-- a longer list, with the element at the index
pub longer : {X : Type 0} (before xs : List X) (n : ℕ) (x : X) → n < length xs → x ≡ get_or xs n x →
    (before ++ take n xs) ++ x ∷ [] ≡ before ++ take (n + 1) xs
longer before xs n x less is =
    ap (λ y. (before ++ take n xs) ++ y ∷ []) is ∙ append_assoc before (take n xs) (get_or xs n x ∷ []) ∙ ap (λ more. before ++ more) (sym (take_next xs n x less))

pub taken_next : {X : Type 0} (xs : List X) (n : ℕ) (x : X) → n < length xs → x ≡ get_or xs n x → take n xs ++ x ∷ [] ≡ take (n + 1) xs
taken_next xs n x less is = longer [] xs n x less is

-- the frame at the index follows on, and then the others
pub next_follows : (last : Option Key) (round : List Frame) (n : ℕ) (f : Frame) → n < length round → f ≡ get_or round n f → FollowsOn last (drop n round) →
    ForSome last (λ key. key_cmp key (key_of f) ≡ Less) × FollowsOn (Some (key_of f)) (drop (n + 1) round)
next_follows last round n f less is follows =
    subst (λ g. ForSome last (λ key. key_cmp key (key_of g) ≡ Less) × FollowsOn (Some (key_of g)) (drop (n + 1) round)) (sym is)
    (subst (FollowsOn last) (drop_next round n f less) follows)

pub all_taken : {X : Type 0} (xs : List X) (n : ℕ) → length xs ≤ n → take n xs ≡ xs
all_taken xs n past = take_all n xs past
