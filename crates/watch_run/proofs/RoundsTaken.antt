-- Rounds that are taken of the rings and shared.
use Rattle.std.proofs.Common.{◌≡◌, ◌++◌, [], ℕ, ◌+◌, ◌^◌, ◌≤◌, List, Option, Some, None, length, sym, subst, ap, ◌∙◌, append-nil, arith}
use Rattle.std.proofs.lemmas.List.{length-append}
use Rattle.std.proofs.lemmas.List.Sorted.{length_permutation}
use Rattle.std.specs.Option.{option_map_or}
use Rattle.afdx_frame.specs.Frame.{Frame}
use Rattle.tap_queue.specs.Items.{frames_in}
use Rattle.tap_queue.specs.Ring.{taken_items}
use Rattle.vl_judge.specs.Lanes.{FollowsOn, last_key}
use Rattle.tap_merge.specs.Rings.{HasTaken}
use Rattle.tap_merge.specs.declared.rings.Rings.{Rings}
use Rattle.watch_run.proofs.Watching.{round_follows}

-- the round that was cut
pub some_taken : {X : Type 0} (late : ℕ) (cut : List Frame) (rings : Rings) (items : X → List Frame) (o : Option X) (v : X) (round : List Frame) →
    HasTaken late (cut ++ option_map_or items o []) rings → o ≡ Some v → round ≡ items v → HasTaken late (cut ++ round) rings
some_taken {X = X} late cut rings items o v round h some is =
    subst (λ (l : List Frame). HasTaken late (cut ++ l) rings) (sym is) (subst (λ (p : Option X). HasTaken late (cut ++ option_map_or items p []) rings) some h)

pub none_taken : {X : Type 0} (late : ℕ) (cut : List Frame) (rings : Rings) (items : X → List Frame) (o : Option X) →
    HasTaken late (cut ++ option_map_or items o []) rings → o ≡ None → HasTaken late cut rings
none_taken {X = X} late cut rings items o h none =
    subst (λ (l : List Frame). HasTaken late l rings) (append-nil cut) (subst (λ (p : Option X). HasTaken late (cut ++ option_map_or items p []) rings) none h)

-- it follows on what was cut before it
pub taken_follows : (late : ℕ) (cut round : List Frame) (rings : Rings) → HasTaken late (cut ++ round) rings → FollowsOn (last_key None cut) round
taken_follows late cut round rings h =
    round_follows (frames_in (taken_items rings.a)) (frames_in (taken_items rings.b)) cut round rings.merger.pending h.follows.order

-- and the ledger has room for it
pub taken_room : (late : ℕ) (cut round : List Frame) (rings : Rings) (count : ℕ) → HasTaken late (cut ++ round) rings → count ≡ length cut → count + length round ≤ 2 ^ 34
taken_room late cut round rings count h is =
    let fa = frames_in (taken_items rings.a) in
    let fb = frames_in (taken_items rings.b) in
    let rest = rings.merger.pending in
    let all : length ((cut ++ round) ++ rest) ≡ length (fa ++ fb) = length_permutation (fa ++ fb) ((cut ++ round) ++ rest) h.follows.order.frames in
    let parts : length ((cut ++ round) ++ rest) ≡ (length cut + length round) + length rest =
    length-append (cut ++ round) rest ∙ ap (λ n. n + length rest) (length-append cut round) in
    total (length fa) (length fb) (length cut) (length round) (length rest) count (sym parts ∙ all ∙ length-append fa fb) h.few_a h.few_b is
  where
    total : (a b c r rest count : ℕ) → (c + r) + rest ≡ a + b → a ≤ 2 ^ 32 → b ≤ 2 ^ 32 → count ≡ c → count + r ≤ 2 ^ 34
    total a b c r rest count e of_a of_b is = omega (arith, e, of_a, of_b, is)
