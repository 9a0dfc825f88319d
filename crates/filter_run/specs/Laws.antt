-- A filter's source means its program.
use Rattle.std.specs.Prelude.{◌≡◌, ℕ, List, map}
use Rattle.bpf_isa.specs.declared.packed.Packed.{Packed}
use Rattle.bpf_asm.specs.Assembly.{Assembles}
use Rattle.bpf_asm.specs.Meaning.{SourceRuns}
use Rattle.bpf_isa.specs.Table.{canonical_form}
use Rattle.bpf_isa.specs.declared.state.State.{State}
use Rattle.bpf_loader.specs.Faults.{IsLoaded}
use Rattle.bpf_machine.specs.Run.{HasOneRun}
use Rattle.bpf_text.specs.Grammar.{Statement}

-- On a frame the statements have just one run, which is that of their program: the same states, and the same return value.
pub record MeansItsProgram (ss : List Statement) (q : List Packed) (frame : List ℕ) (whole : ℕ) : Type 0 where
  pub run : HasOneRun q frame whole
  pub same : SourceRuns ss frame whole run.states run.answer
  pub only : (states : List State) (answer : ℕ) → SourceRuns ss frame whole states answer → (run.states ≡ states) × (run.answer ≡ answer)

-- Where statements are assembled to a program that loads, the source means the loaded program.
abbrev pub SourceMeansItsProgram : Type 0
SourceMeansItsProgram =
    (ss : List Statement) (p q : List Packed) → Assembles ss p → IsLoaded q → q ≡ map canonical_form p →
    (frame : List ℕ) (whole : ℕ) → MeansItsProgram ss q frame whole
