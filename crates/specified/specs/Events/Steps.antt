-- The core's state, and what each event does to it (this project's profile).
use Rattle.std.specs.Prelude.{◌≡◌, ℕ, ◌&&◌, List, [], ◌∷◌, ◌++◌, length, replicate, Option, Some, None, if◌then◌else◌, slice_get, slice_set}
use Rattle.std.specs.List.{list_all}
use Rattle.std.specs.Option.{option_map}
use Rattle.afdx_frame.specs.Frame.{Frame}
use Rattle.afdx_frame.specs.declared.key.Network.{Network}
use Rattle.afdx_frame.specs.declared.key.Network.TheVariants.{A, B}
use Rattle.specified.specs.declared.model.event.Event.{Event}
use Rattle.specified.specs.declared.model.event.Event.TheVariants as events
use Rattle.specified.specs.declared.model.event.Answered.{Answered}
use Rattle.specified.specs.declared.model.side.RingItem.{RingItem}
use Rattle.specified.specs.declared.model.side.RingItem.TheVariants as items
use Rattle.specified.specs.declared.model.round.Worker.{Worker}
use Rattle.specified.specs.declared.model.round.Worker.TheVariants.{Idle, Holding, Through}
use Rattle.specified.specs.declared.model.sizes.CoreSizes.{CoreSizes}
use Rattle.ordered_merge.specs.Merge.{MergerState, CanFetch, fetched, ended, cut_frames, after_cut, new_state}
use Rattle.specified.specs.Events.Side.{SideState, new_side, put_step, end_step}
use Rattle.specified.specs.Events.Round.{RoundState, new_round, claimed, after_claim, posted, is_answered, is_through, answered}

pub record CoreState : Type 0 where
  pub a : SideState
  pub b : SideState
  pub merger : MergerState
  -- the most frames of a round
  pub round_capacity : ℕ
  -- the open round, if there is one
  pub round : Option RoundState
  pub workers : List Worker
  pub output : List Answered

abbrev pub new_core : CoreSizes → List Frame → List Frame → List Worker → ℕ → CoreState
new_core sizes a b workers late = record {
  a = new_side sizes.ring a;
  b = new_side sizes.ring b;
  merger = new_state late;
  round_capacity = sizes.round;
  round = None;
  workers = workers;
  output = [];
}

abbrev pub side_of : CoreState → Network → SideState
side_of s A = s.a
side_of s B = s.b

abbrev pub with_side : CoreState → Network → SideState → CoreState
with_side s A side = record s { a = side }
with_side s B side = record s { b = side }

-- ---- each event: the state that it leads to, None where it can't happen

-- the oldest item of a ring goes to the merger
abbrev pub fetch_of : List RingItem → Network → SideState → MergerState → Option (SideState × MergerState)
fetch_of [] network side merger = None
fetch_of (items.Frame f ∷ ring) network side merger = Some (record side { ring = ring }, fetched merger f)
fetch_of (items.End ∷ ring) network side merger = Some (record side { ring = ring }, ended merger network)

abbrev pub fetch_step : Network → SideState → MergerState → Option (SideState × MergerState)
fetch_step network side merger = fetch_of side.ring network side merger

abbrev pub core_fetch_step : Network → CoreState → Option CoreState
core_fetch_step network s =
    option_map (λ p. record (with_side s network p.0) { merger = p.1 }) (fetch_step network (side_of s network) s.merger)

-- the first safe frames are a round, which no worker has begun
abbrev pub cut_of : Option RoundState → List Frame → CoreState → Option CoreState
cut_of None (f ∷ frames) s = Some (record s {
  merger = after_cut s.merger s.round_capacity;
  round = Some (new_round (f ∷ frames));
  workers = replicate (length s.workers) Idle;
})
cut_of None [] s = None
cut_of (Some r) frames s = None

abbrev pub cut_step : CoreState → Option CoreState
cut_step s = cut_of s.round (cut_frames s.merger s.round_capacity) s

-- an idle worker draws the next number of the open round
abbrev pub claim_of : Option RoundState → Option Worker → ℕ → CoreState → Option CoreState
claim_of (Some r) (Some Idle) w s = Some (record s { round = Some (after_claim r); workers = slice_set s.workers w (claimed r) })
claim_of (Some r) (Some (Holding number)) w s = None
claim_of (Some r) (Some Through) w s = None
claim_of (Some r) None w s = None
claim_of None worker w s = None

abbrev pub claim_step : ℕ → CoreState → Option CoreState
claim_step w s = claim_of s.round (slice_get s.workers w) w s

-- a worker posts the answer to the frame of the number that it holds, which is one of the open round
abbrev pub post_of : (Frame → ℕ) → Option RoundState → Option Worker → ℕ → CoreState → Option CoreState
post_of answer (Some r) (Some (Holding number)) w s =
    option_map (λ f. record s { round = Some (posted number (answer f) r); workers = slice_set s.workers w Idle }) (slice_get r.frames number)
post_of answer (Some r) (Some Idle) w s = None
post_of answer (Some r) (Some Through) w s = None
post_of answer (Some r) None w s = None
post_of answer None worker w s = None

abbrev pub post_step : (Frame → ℕ) → ℕ → CoreState → Option CoreState
post_step answer w s = post_of answer s.round (slice_get s.workers w) w s

-- the round, with all answers, goes to the output, once all workers are through
abbrev pub gather_of : Option RoundState → CoreState → Option CoreState
gather_of (Some r) s =
    if is_answered r && list_all is_through s.workers then Some (record s { round = None; output = s.output ++ answered r.frames r.answers }) else None
gather_of None s = None

abbrev pub gather_step : CoreState → Option CoreState
gather_step s = gather_of s.round s

-- The table of events, where `answer` is the Work's answer to a frame.
abbrev pub core_step : (Frame → ℕ) → CoreState → Event → Option CoreState
core_step answer s (events.Put network) = option_map (with_side s network) (put_step (side_of s network))
core_step answer s (events.End network) = option_map (with_side s network) (end_step (side_of s network))
core_step answer s (events.Fetch network) = core_fetch_step network s
core_step answer s events.Cut = cut_step s
core_step answer s (events.Claim w) = claim_step w s
core_step answer s (events.Post w) = post_step answer w s
core_step answer s events.Gather = gather_step s

-- the merger's next frames of each network fit those before
abbrev pub FirstsCanFetch : CoreState → Type 0
FirstsCanFetch s = (network : Network) (f : Frame) (ring : List RingItem) → (side_of s network).ring ≡ items.Frame f ∷ ring → CanFetch s.merger f
