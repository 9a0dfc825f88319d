-- The claims that each session keeps.
use Rattle.std.specs.Prelude.{◌≡◌, ℕ, Bool, List, length, Option, Some, MatchOption, slice_get, ⊤}
use Rattle.std.specs.Option.{option_map}
use Rattle.afdx_frame.specs.Frame.{Frame}
use Rattle.bpf_isa.specs.declared.packed.Packed.{Packed}
use Rattle.bpf_loader.specs.Faults.{IsLoaded}
use Rattle.bpf_debugger.specs.declared.walk.Walk.{Walk}
use Rattle.bpf_debugger.specs.Debugging.{SessionState}
use Rattle.bpf_debugger.specs.Walking.{IsOn, position_of}

-- the walk is on the run of the program on the selected frame
pub record IsOnFrame (p : List Packed) (frames : List Frame) (walk : Walk) (n : ℕ) : Type 0 where
  pub frame : Frame
  pub there : slice_get frames n ≡ Some frame
  pub on : IsOn p frame walk

pub record IsSession (p : List Packed) (frames : List Frame) (breakpoints : List Bool) (selected : Option ℕ) (walk : Walk) : Type 0 where
  pub loaded : IsLoaded p
  pub each_insn : length breakpoints ≡ length p
  pub walks : MatchOption selected ⊤ (IsOnFrame p frames walk)

-- the state of a session, as callers see it
abbrev pub session_state : List Packed → List Frame → List Bool → Option ℕ → Walk → SessionState
session_state p frames breakpoints selected walk = record {
  program = p;
  frames = frames;
  place = option_map (λ n. record { frame = n; m = position_of walk }) selected;
  breakpoints = breakpoints;
}
