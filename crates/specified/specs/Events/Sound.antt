-- Claims that hold of the core after any list of events.
use Rattle.std.specs.Prelude.{◌≡◌, ◌<◌, ℕ, Bool, true, false, List, [], ◌∷◌, ◌++◌, length, map, Option, Some, None, IfSome, IsSome, slice_get, ⊤}
use Rattle.std.specs.List.{AllByRecursion}
use Rattle.std.specs.List.Sorted.{IsPermutation}
use Rattle.std.specs.Option.{unwrap_or}
use Rattle.afdx_frame.specs.Frame.{Frame}
use Rattle.afdx_frame.specs.declared.key.Network.TheVariants.{A, B}
use Rattle.specified.specs.declared.model.event.Event.{Event}
use Rattle.specified.specs.declared.model.event.Event.TheVariants as events
use Rattle.specified.specs.declared.model.event.Answered.{Answered}
use Rattle.specified.specs.declared.model.round.Worker.{Worker}
use Rattle.specified.specs.declared.model.round.Worker.TheVariants.{Idle, Holding, Through}
use Rattle.specified.specs.declared.model.sizes.CoreSizes.{CoreSizes}
use Rattle.specified.specs.declared.model.side.RingItem.{RingItem}
use Rattle.specified.specs.declared.model.side.RingItem.TheVariants as items
use Rattle.ordered_merge.specs.Order.{IsRising}
use Rattle.ordered_merge.specs.Recording.{IsRecording}
use Rattle.ordered_merge.specs.Merge.{Follows}
use Rattle.specified.specs.Events.Side.{SideState}
use Rattle.specified.specs.Events.Round.{RoundState}
use Rattle.specified.specs.Events.Steps.{CoreState, core_step, new_core}

-- ---- where frames are

abbrev pub ring_frames : List RingItem → List Frame
ring_frames [] = []
ring_frames (items.Frame f ∷ ring) = f ∷ ring_frames ring
ring_frames (items.End ∷ ring) = ring_frames ring

-- of a tap, those that weren't fetched
abbrev pub coming : SideState → List Frame
coming side = ring_frames side.ring ++ side.left

abbrev pub round_frames : Option RoundState → List Frame
round_frames None = []
round_frames (Some r) = r.frames

abbrev pub output_frames : List Answered → List Frame
output_frames output = map (λ x. x.frame) output

-- the frames that were cut
abbrev pub given : CoreState → List Frame
given s = output_frames s.output ++ round_frames s.round

-- in all places
abbrev pub held : CoreState → List Frame
held s = (given s ++ s.merger.pending) ++ (coming s.a ++ coming s.b)

-- ---- all that a user sees

-- The output is a prefix of the order of all frames.
abbrev pub OutputIsPrefix : CoreState → Type 0
OutputIsPrefix s = (l : List Frame) → IsRising l → IsPermutation (held s) l → (rest : List Frame) × (l ≡ output_frames s.output ++ rest)

-- Both end marks were fetched, no frame is pending and no round is open.
pub record IsComplete (s : CoreState) : Type 0 where
  pub a_ended : s.merger.a.ended ≡ true
  pub b_ended : s.merger.b.ended ≡ true
  pub none_pending : s.merger.pending ≡ []
  pub no_round : s.round ≡ None

-- A complete output is all frames, in order.
abbrev pub OutputIsAll : CoreState → Type 0
OutputIsAll s = IsComplete s → IsRising (output_frames s.output) × IsPermutation (held s) (output_frames s.output)

-- each answer of a round is the Work's for its frame
abbrev pub RoundAnswers : (Frame → ℕ) → List Frame → List (Option ℕ) → Type 0
RoundAnswers answer (f ∷ frames) (None ∷ answers) = RoundAnswers answer frames answers
RoundAnswers answer (f ∷ frames) (Some v ∷ answers) = (v ≡ answer f) × RoundAnswers answer frames answers
RoundAnswers answer _ _ = ⊤

-- each answer that is held or output is the Work's for its frame
pub record AnswersAre (answer : Frame → ℕ) (s : CoreState) : Type 0 where
  pub output : AllByRecursion (λ x. x.answer ≡ answer x.frame) s.output
  pub round : IfSome s.round (λ r. RoundAnswers answer r.frames r.answers)

-- ---- why it holds

abbrev pub HasNoMark : List RingItem → Type 0
HasNoMark [] = ⊤
HasNoMark (items.Frame f ∷ ring) = HasNoMark ring
HasNoMark (items.End ∷ ring) = ⊥

abbrev pub EndsInMark : List RingItem → Type 0
EndsInMark [] = ⊥
EndsInMark (items.Frame f ∷ ring) = EndsInMark ring
EndsInMark (items.End ∷ ring) = ring ≡ []

-- By whether a tap's mark was put, and fetched: it is the last item that is put, after all frames.
abbrev pub MarkStands : Bool → Bool → List Frame → List RingItem → Type 0
MarkStands false false left ring = HasNoMark ring
MarkStands true false left ring = (left ≡ []) × EndsInMark ring
MarkStands true true left ring = (left ≡ []) × (ring ≡ [])
MarkStands false true left ring = ⊥

-- The core works on these recordings: it has fetched the first frames of each, and what it has cut follows its merger's run.
pub record IsOf (late : ℕ) (a b : List Frame) (s : CoreState) : Type 0 where
  pub fetched_a : List Frame
  pub fetched_b : List Frame
  pub window : s.merger.late ≡ late
  pub recording_a : IsRecording A late a
  pub recording_b : IsRecording B late b
  pub whole_a : a ≡ fetched_a ++ coming s.a
  pub whole_b : b ≡ fetched_b ++ coming s.b
  pub mark_a : MarkStands s.a.marked s.merger.a.ended s.a.left s.a.ring
  pub mark_b : MarkStands s.b.marked s.merger.b.ended s.b.left s.b.ring
  pub follows : Follows s.merger fetched_a fetched_b (given s)
  pub answers : IfSome s.round (λ r. length r.answers ≡ length r.frames)

-- a number that a worker holds is one of the open round
abbrev pub IsOfRound : Option RoundState → Worker → Type 0
IsOfRound round Idle = ⊤
IsOfRound round Through = ⊤
IsOfRound None (Holding number) = ⊥
IsOfRound (Some r) (Holding number) = number < length r.frames

abbrev pub HasNumbers : CoreState → Type 0
HasNumbers s = AllByRecursion (IsOfRound s.round) s.workers

abbrev pub IsSound : CoreState → Type 0
IsSound s = (late : ℕ) × (a : List Frame) × (b : List Frame) × IsOf late a b s × HasNumbers s

-- An answer can be posted where the worker holds a number.
abbrev pub PostsWhereHeld : (Frame → ℕ) → CoreState → Event → Type 0
PostsWhereHeld answer s (events.Post w) = (number : ℕ) → slice_get s.workers w ≡ Some (Holding number) → IsSome (core_step answer s (events.Post w))
PostsWhereHeld answer s _ = ⊤

-- the events that may find no memory
abbrev pub MayAllocate : Event → Type 0
MayAllocate (events.Fetch network) = ⊤
MayAllocate events.Cut = ⊤
MayAllocate events.Gather = ⊤
MayAllocate _ = ⊥

-- ---- lists of events

-- the state after the events, of which those that can't happen change nothing
abbrev pub core_run : (Frame → ℕ) → CoreState → List Event → CoreState
core_run answer s [] = s
core_run answer s (e ∷ events) = core_run answer (unwrap_or (core_step answer s e) s) events

-- Whatever a core's sizes, after each list of events it holds the frames of both recordings, the output is a prefix of their one order, and
-- all of it once the core is complete; each answer is the Work's.
abbrev pub EveryRunIsInOrder : Type 0
EveryRunIsInOrder = (answer : Frame → ℕ) (sizes : CoreSizes) (late : ℕ) (a b : List Frame) (workers : List Worker) (events : List Event)
    → IsRecording A late a → IsRecording B late b
    → IsPermutation (a ++ b) (held (core_run answer (new_core sizes a b workers late) events))
    × OutputIsPrefix (core_run answer (new_core sizes a b workers late) events)
    × OutputIsAll (core_run answer (new_core sizes a b workers late) events)
    × AnswersAre answer (core_run answer (new_core sizes a b workers late) events)
