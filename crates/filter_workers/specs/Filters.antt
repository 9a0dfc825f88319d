-- The word of up to eight filters on a frame (this project's profile).
use Rattle.std.specs.Prelude.{ℕ, ◌+◌, ◌*◌, max, List, [], ◌∷◌, ◌==◌, if◌then◌else◌}
use Rattle.afdx_frame.specs.Frame.{Frame}
use Rattle.bpf_isa.specs.declared.packed.Packed.{Packed}
use Rattle.bpf_machine.specs.Run.{answer_of}
use Rattle.filter_workers.specs.declared.decision.Decision.{Decision}

-- the filter's return value for a frame
abbrev pub answer_for : List Packed → Frame → ℕ
answer_for p f = answer_of p f.bytes f.whole

-- the greatest of the filters' return values
abbrev pub answer_by : List (List Packed) → Frame → ℕ
answer_by [] f = 0
answer_by (p ∷ ps) f = max (answer_for p f) (answer_by ps f)

-- 1 where the filter accepts the frame
abbrev pub accepts_bit : ℕ → ℕ
accepts_bit answer = if answer == 0 then 0 else 1

-- bit i is set where filter i accepts the frame
abbrev pub mask_by : List (List Packed) → Frame → ℕ
mask_by [] f = 0
mask_by (p ∷ ps) f = mask_by ps f * 2 + accepts_bit (answer_for p f)

-- both
abbrev pub decision_by : List (List Packed) → Frame → Decision
decision_by ps f = record { mask = mask_by ps f; answer = answer_by ps f }
