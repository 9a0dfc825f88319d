use Rattle.std.proofs.Common.{Some, ◌+◌, ◌∙◌, ◌++◌, ◌∷◌, [], ap, append_assoc, arith, string_bytes, subst}
use Rattle.std.proofs.lemmas.Result.{err_from_is_err_and}
use Rattle.run_inputs.specs.Inputs.{IsFilter, IsFilterFault}
use Rattle.run_inputs.proofs.Loading.{fault_at, filters_next}
use Rattle.run_inputs.proofs.inputs.load_table_filters.Goals as goal

pub returns-in_err-program-clause-fault : goal.returns-in_err-program-clause-fault
returns-in_err-program-clause-fault c =
    let p = err_from_is_err_and c.from_residual.result c.from_residual.ensures.1 in
    rw (p.1, p.2) (fault_at string_bytes c.args.texts.now c.loop-index.invariant.filters.0 c.loop-index.index c.index-texts-index.result _ c.loop-index-test.true c.index-texts-index.is
    c.loop-index.invariant.filters.1 (subst (λ text. IsFilterFault text (Some (c.loop-index.index + 1)) c.in_err-program.field-0.0) c.deref.ensures c.in_err-program.ensures.fault))

pub loop-index-preserved : goal.loop-index-preserved
loop-index-preserved c =
    let before = c.loop-index.invariant.filters in
    record {
      filters = (
        before.0 ++ c.in_ok-program.program ∷ [],
        filters_next string_bytes c.args.texts.now before.0 c.loop-index.index c.index-texts-index.result c.in_ok-program.program c.loop-index-test.true c.index-texts-index.is
            before.1 (subst (λ text. IsFilter text c.in_ok-program.program) c.deref.ensures c.in_ok-program.ensures.filter),
        c.push_reserved.ensures.items ∙ ap (λ items. items ++ c.in_ok-program.program ∷ []) before.2 ∙ append_assoc c.args.programs.now.items before.0 (c.in_ok-program.program ∷ []),
      );
      len = omega (arith, c.push_reserved.ensures.len, c.loop-index.invariant.len);
      capacity = c.push_reserved.ensures.capacity ∙ c.loop-index.invariant.capacity;
    }
