-- Each number that a worker holds is one of the open round.
use Rattle.std.proofs.Common.{◌≡◌, ℕ, zero, suc, ◌+◌, ◌<◌, ◌++◌, true, ◌&&◌, nat_lt, List, [], ◌∷◌, Option, Some, None, length, set, replicate, slice_get, refl, sym, subst, arith}
use Rattle.std.proofs.lemmas.Bool.{and_parts, cond_both, false≢true, ltb-true}
use Rattle.std.specs.List.{AllByRecursion, list_all}
use Rattle.std.specs.Option.{IfSome, IsSome, option_map}
use Rattle.afdx_frame.specs.Frame.{Frame}
use Rattle.afdx_frame.specs.declared.key.Network.{Network}
use Rattle.afdx_frame.specs.declared.key.Network.TheVariants.{A, B}
use Rattle.specified.specs.declared.model.event.Event.{Event}
use Rattle.specified.specs.declared.model.event.Event.TheVariants as events
use Rattle.specified.specs.declared.model.round.Worker.{Worker}
use Rattle.specified.specs.declared.model.round.Worker.TheVariants.{Idle, Holding, Through}
use Rattle.ordered_merge.specs.Merge.{MergerState, cut_frames}
use Rattle.specified.specs.Events.Side.{SideState, put_step, end_step}
use Rattle.specified.specs.Events.Round.{RoundState, after_claim, answered, claimed, is_answered, is_through, new_round, posted}
use Rattle.specified.specs.Events.Steps.{CoreState, claim_of, core_step, cut_of, fetch_step, gather_of, post_of, side_of, with_side}
use Rattle.specified.specs.Events.Sound.{HasNumbers, IsOfRound, PostsWhereHeld}

-- ---- lists of workers

pub all_idle : (round : Option RoundState) (n : ℕ) → AllByRecursion (IsOfRound round) (replicate n Idle)
all_idle round zero = tt
all_idle round (suc n) = (tt, all_idle round n)

all_set : (P : Worker → Type 0) (ws : List Worker) (w : ℕ) (x : Worker) → P x → AllByRecursion P ws → AllByRecursion P (set ws w x)
all_set P [] w x is all = tt
all_set P (v ∷ ws) zero x is all = (is, all.1)
all_set P (v ∷ ws) (suc w) x is all = (all.0, all_set P ws w x is all.1)

all_at : (P : Worker → Type 0) (ws : List Worker) (w : ℕ) (x : Worker) → slice_get ws w ≡ Some x → AllByRecursion P ws → P x
all_at P [] w x e all = (let wrong : ⊥ = cc e in absurd wrong)
all_at P (v ∷ ws) zero x e all = (let same : v ≡ x = cc e in subst P same all.0)
all_at P (v ∷ ws) (suc w) x e all = all_at P ws w x e all.1

through : (v : Worker) → is_through v ≡ true → IsOfRound None v
through Idle t = tt
through Through t = tt
through (Holding number) t = absurd (false≢true t)

all_through : (ws : List Worker) → list_all is_through ws ≡ true → AllByRecursion (IsOfRound None) ws
all_through [] t = tt
all_through (v ∷ ws) t = (let both = and_parts (is_through v) (list_all is_through ws) t in (through v both.0, all_through ws both.1))

-- the open round has the same frames
same_frames : (old new : RoundState) (v : Worker) → new.frames ≡ old.frames → IsOfRound (Some old) v → IsOfRound (Some new) v
same_frames old new Idle e is = tt
same_frames old new Through e is = tt
same_frames old new (Holding number) e is = subst (λ (l : List Frame). number < length l) (sym e) is

all_same : (old new : RoundState) (ws : List Worker) → new.frames ≡ old.frames → AllByRecursion (IsOfRound (Some old)) ws → AllByRecursion (IsOfRound (Some new)) ws
all_same old new [] e all = tt
all_same old new (v ∷ ws) e all = (same_frames old new v e all.0, all_same old new ws e all.1)

-- ---- the events

side_numbers : (network : Network) (s : CoreState) (o : Option SideState) → HasNumbers s → IfSome (option_map (with_side s network) o) HasNumbers
side_numbers A s None h = tt
side_numbers A s (Some side) h = h
side_numbers B s None h = tt
side_numbers B s (Some side) h = h

fetch_numbers : (network : Network) (s : CoreState) (o : Option (SideState × MergerState)) → HasNumbers s →
    IfSome (option_map (λ p. record (with_side s network p.0) { merger = p.1 }) o) HasNumbers
fetch_numbers A s None h = tt
fetch_numbers A s (Some p) h = h
fetch_numbers B s None h = tt
fetch_numbers B s (Some p) h = h

cut_numbers : (round : Option RoundState) (frames : List Frame) (s : CoreState) → IfSome (cut_of round frames s) HasNumbers
cut_numbers (Some r) frames s = tt
cut_numbers None [] s = tt
cut_numbers None (f ∷ frames) s = all_idle (Some (new_round (f ∷ frames))) (length s.workers)

claim_frames : (r : RoundState) → (after_claim r).frames ≡ r.frames
claim_frames r = cond_both (nat_lt r.next (length r.frames)) (record r { next = r.next + 1 }) r (λ t. t.frames ≡ r.frames) (λ _. refl) (λ _. refl)

claimed_of : (r : RoundState) → IsOfRound (Some r) (claimed r)
claimed_of r = cond_both (nat_lt r.next (length r.frames)) (Holding r.next) Through (IsOfRound (Some r)) (λ t. ltb-true r.next (length r.frames) t) (λ _. tt)

of_round : (s : CoreState) (r : RoundState) → s.round ≡ Some r → HasNumbers s → AllByRecursion (IsOfRound (Some r)) s.workers
of_round s r e h = subst (λ (o : Option RoundState). AllByRecursion (IsOfRound o) s.workers) e h

claim_numbers : (round : Option RoundState) (worker : Option Worker) (w : ℕ) (s : CoreState) → HasNumbers s → s.round ≡ round → IfSome (claim_of round worker w s) HasNumbers
claim_numbers (Some r) (Some Idle) w s h e =
    all_set (IsOfRound (Some (after_claim r))) s.workers w (claimed r) (same_frames r (after_claim r) (claimed r) (claim_frames r) (claimed_of r))
    (all_same r (after_claim r) s.workers (claim_frames r) (of_round s r e h))
claim_numbers (Some r) (Some (Holding number)) w s h e = tt
claim_numbers (Some r) (Some Through) w s h e = tt
claim_numbers (Some r) None w s h e = tt
claim_numbers None worker w s h e = tt

post_at : (answer : Frame → ℕ) (r : RoundState) (number w : ℕ) (s : CoreState) (o : Option Frame) → HasNumbers s → s.round ≡ Some r →
    IfSome (option_map (λ f. record s { round = Some (posted number (answer f) r); workers = set s.workers w Idle }) o) HasNumbers
post_at answer r number w s None h e = tt
post_at answer r number w s (Some f) h e =
    all_set (IsOfRound (Some (posted number (answer f) r))) s.workers w Idle tt (all_same r (posted number (answer f) r) s.workers refl (of_round s r e h))

post_numbers : (answer : Frame → ℕ) (round : Option RoundState) (worker : Option Worker) (w : ℕ) (s : CoreState) → HasNumbers s → s.round ≡ round →
    IfSome (post_of answer round worker w s) HasNumbers
post_numbers answer (Some r) (Some (Holding number)) w s h e = post_at answer r number w s (slice_get r.frames number) h e
post_numbers answer (Some r) (Some Idle) w s h e = tt
post_numbers answer (Some r) (Some Through) w s h e = tt
post_numbers answer (Some r) None w s h e = tt
post_numbers answer None worker w s h e = tt

gather_numbers : (round : Option RoundState) (s : CoreState) → IfSome (gather_of round s) HasNumbers
gather_numbers None s = tt
gather_numbers (Some r) s =
    cond_both (is_answered r && list_all is_through s.workers) (Some (record s { round = None; output = s.output ++ answered r.frames r.answers })) None
    (λ o. IfSome o HasNumbers) (λ t. all_through s.workers (and_parts (is_answered r) (list_all is_through s.workers) t).1) (λ _. tt)

pub step_numbers : (answer : Frame → ℕ) (e : Event) (s : CoreState) → HasNumbers s → IfSome (core_step answer s e) HasNumbers
step_numbers answer (events.Put network) s h = side_numbers network s (put_step (side_of s network)) h
step_numbers answer (events.End network) s h = side_numbers network s (end_step (side_of s network)) h
step_numbers answer (events.Fetch network) s h = fetch_numbers network s (fetch_step network (side_of s network) s.merger) h
step_numbers answer events.Cut s h = cut_numbers s.round (cut_frames s.merger s.round_capacity) s
step_numbers answer (events.Claim w) s h = claim_numbers s.round (slice_get s.workers w) w s h refl
step_numbers answer (events.Post w) s h = post_numbers answer s.round (slice_get s.workers w) w s h refl
step_numbers answer events.Gather s h = gather_numbers s.round s

-- ---- a number that is held can be posted

posts_in : (answer : Frame → ℕ) (round : Option RoundState) (worker : Option Worker) (w number : ℕ) (s : CoreState) → worker ≡ Some (Holding number) →
    IsOfRound round (Holding number) → IsSome (post_of answer round worker w s)
posts_in answer None worker w number s e is = absurd is
posts_in answer (Some r) None w number s e is = (let wrong : ⊥ = cc e in absurd wrong)
posts_in answer (Some r) (Some Idle) w number s e is = (let wrong : ⊥ = cc e in absurd wrong)
posts_in answer (Some r) (Some Through) w number s e is = (let wrong : ⊥ = cc e in absurd wrong)
posts_in answer (Some r) (Some (Holding n)) w number s e is =
    let same : n ≡ number = cc e in
    posts_at r.frames n (subst (λ k. k < length r.frames) (sym same) is)
  where
    -- there is a frame of each number of the round
    posts_at : (frames : List Frame) (k : ℕ) → k < length frames →
        IsSome (option_map (λ f. record s { round = Some (posted n (answer f) r); workers = set s.workers w Idle }) (slice_get frames k))
    posts_at [] k less = absurd (omega (arith, less))
    posts_at (f ∷ frames) zero less = refl
    posts_at (f ∷ frames) (suc k) less = posts_at frames k (omega (arith, less))

pub posts_where_held : (answer : Frame → ℕ) (e : Event) (s : CoreState) → HasNumbers s → PostsWhereHeld answer s e
posts_where_held answer (events.Post w) s h =
    λ number is. posts_in answer s.round (slice_get s.workers w) w number s is (all_at (IsOfRound s.round) s.workers w (Holding number) is h)
posts_where_held answer (events.Put network) s h = tt
posts_where_held answer (events.End network) s h = tt
posts_where_held answer (events.Fetch network) s h = tt
posts_where_held answer events.Cut s h = tt
posts_where_held answer (events.Claim w) s h = tt
posts_where_held answer events.Gather s h = tt
