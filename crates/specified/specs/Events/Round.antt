-- A round of frames, which workers answer, and the workers (this project's profile).
use Rattle.std.specs.Prelude.{ℕ, ◌+◌, Bool, true, false, nat_lt, List, [], ◌∷◌, length, replicate, Option, Some, None, if◌then◌else◌, slice_set}
use Rattle.std.specs.List.{list_all}
use Rattle.std.specs.Option.{is_some}
use Rattle.afdx_frame.specs.Frame.{Frame}
use Rattle.specified.specs.declared.model.event.Answered.{Answered}
use Rattle.specified.specs.declared.model.round.Worker.{Worker}
use Rattle.specified.specs.declared.model.round.Worker.TheVariants.{Idle, Holding, Through}

pub record RoundState : Type 0 where
  pub frames : List Frame
  -- the number that the next claim draws
  pub next : ℕ
  -- of each frame, once it is posted
  pub answers : List (Option ℕ)

abbrev pub new_round : List Frame → RoundState
new_round frames = record { frames = frames; next = 0; answers = replicate (length frames) None }

-- the worker of a claim, and the round after it: it holds the next number, or is through at the end
abbrev pub claimed : RoundState → Worker
claimed r = if nat_lt r.next (length r.frames) then Holding r.next else Through

abbrev pub after_claim : RoundState → RoundState
after_claim r = if nat_lt r.next (length r.frames) then record r { next = r.next + 1 } else r

abbrev pub posted : ℕ → ℕ → RoundState → RoundState
posted number answer r = record r { answers = slice_set r.answers number (Some answer) }

-- each frame of a round has its answer
abbrev pub is_answered : RoundState → Bool
is_answered r = list_all is_some r.answers

abbrev pub is_through : Worker → Bool
is_through Through = true
is_through Idle = false
is_through (Holding number) = false

-- the frames with their answers
abbrev pub answered : List Frame → List (Option ℕ) → List Answered
answered (f ∷ frames) (Some answer ∷ answers) = record { frame = f; answer = answer } ∷ answered frames answers
answered _ _ = []
