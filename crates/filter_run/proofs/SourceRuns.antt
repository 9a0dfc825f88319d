-- The runs of a filter's source and those of its program are the same.
use Rattle.std.proofs.Common.{◌≡◌, ℕ, List, [], ◌∷◌, map, slice_get, sym, ap, ◌∙◌}
use Rattle.std.specs.Option.{option_and_then}
use Rattle.bpf_asm.specs.Assembly.{Assembles}
use Rattle.bpf_asm.specs.Meaning.{SourceRunsFrom, source_step}
use Rattle.bpf_asm.proofs.Stepping.{steps_alike}
use Rattle.bpf_isa.specs.Machine.{start}
use Rattle.bpf_isa.specs.Table.{canonical_form, step_of}
use Rattle.bpf_isa.specs.declared.packed.Packed.{Packed}
use Rattle.bpf_isa.specs.declared.state.State.{State}
use Rattle.bpf_machine.specs.Run.{HasOneRun, RunsFrom, program_step}
use Rattle.bpf_machine.proofs.OneRun.{has_one_run}
use Rattle.bpf_text.specs.Grammar.{Statement}
use Rattle.filter_run.specs.Laws.{SourceMeansItsProgram}

module _ (ss : List Statement) (p q : List Packed) (assembled : Assembles ss p) (is : q ≡ map canonical_form p) (frame : List ℕ) (whole : ℕ) where
  same_step : (s : State) → source_step ss frame whole s ≡ program_step q frame whole s
  same_step s =
      steps_alike ss p assembled frame whole s
      ∙ ap (λ words. option_and_then (λ w. step_of w s frame whole) (slice_get words s.place)) (sym is)

  to_source : (s : State) (states : List State) (answer : ℕ) → RunsFrom q frame whole s states answer → SourceRunsFrom ss frame whole s states answer
  to_source s [] answer runs = same_step s ∙ runs
  to_source s (t ∷ ts) answer (first, rest) = (same_step s ∙ first, to_source t ts answer rest)

  to_program : (s : State) (states : List State) (answer : ℕ) → SourceRunsFrom ss frame whole s states answer → RunsFrom q frame whole s states answer
  to_program s [] answer runs = sym (same_step s) ∙ runs
  to_program s (t ∷ ts) answer (first, rest) = (sym (same_step s) ∙ first, to_program t ts answer rest)

pub means_its_program : SourceMeansItsProgram
means_its_program ss p q assembled loaded is frame whole =
    let run : HasOneRun q frame whole = has_one_run q loaded frame whole in
    record {
      run = run;
      same = to_source ss p q assembled is frame whole start run.states run.answer run.runs;
      only = λ states answer runs. run.only states answer (to_program ss p q assembled is frame whole start states answer runs);
    }
