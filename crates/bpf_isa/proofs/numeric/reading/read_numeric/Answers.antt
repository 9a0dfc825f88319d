use Rattle.std.proofs.Common.{◌≡◌, Err, sym, ap, ◌∙◌}
use Rattle.std.proofs.lemmas.Result.{err_from_is_err_and}
use Rattle.bpf_isa.specs.declared.numeric.fault.NumericFault.{NumericFault}
use Rattle.bpf_isa.specs.declared.numeric.fault.NumericFault.TheVariants.{Memory}
use Rattle.bpf_isa.specs.Numeric.{Item, numbers_in, items_in}
use Rattle.bpf_isa.proofs.NumericProgram.{Begins, foreign, no_item, bad_count, words_are, count_no_memory, has_count}
use Rattle.bpf_isa.proofs.numeric.reading.read_numeric.Goals as goal

pub returns-in-Some-clause-exact : goal.returns-in-Some-clause-exact
returns-in-Some-clause-exact c = rw (← c.as_bytes-bytes.ensures.value) (foreign c.as_bytes-bytes.result.now c.in-Some.at c.in-Some.ensures)

pub returns-in_default-next_item-clause-exact : goal.returns-in_default-next_item-clause-exact
returns-in_default-next_item-clause-exact c =
    rw (← c.as_bytes-bytes.ensures.value) (no_item c.as_bytes-bytes.result.now c.in_default.ensures c.in_default-next_item.ensures.items)

pub returns-in_err-count-clause-exact : goal.returns-in_err-count-clause-exact
returns-in_err-count-clause-exact c =
    let text = c.as_bytes-bytes.result.now in
    let found = c.in-Some-next_item in
    let first : Item = ((found.first.first.at, found.first.first.bytes.now), numbers_in found.first.others.at found.first.others.bytes.now) in
    let others = items_in found.rest.at found.rest.bytes.now in
    let begins : Begins text first others = record { known = c.in_default.ensures; items = found.ensures.items } in
    let p = err_from_is_err_and c.from_residual.result c.from_residual.ensures.1 in
    rw (p.1, p.2, ← c.as_bytes-bytes.ensures.value) (bad_count text first others c.in_err-count.field-0.0 begins c.in_err-count.ensures.value)

pub returns-in_err-count-clause-memory : goal.returns-in_err-count-clause-memory
returns-in_err-count-clause-memory c =
    let found = c.in-Some-next_item in
    let fault : NumericFault = c.in_err-count.field-0.0 in
    let p = err_from_is_err_and c.from_residual.result c.from_residual.ensures.1 in
    λ e.
    let none : fault ≡ Memory = cc (p.1, p.2, e) in
    absurd (count_no_memory (found.first.first.at, found.first.first.bytes.now) (numbers_in found.first.others.at found.first.others.bytes.now) (sym c.in_err-count.ensures.value ∙ ap (λ (x : NumericFault). Err x) none))

pub returns-clause-exact : goal.returns-clause-exact
returns-clause-exact c =
    let text = c.as_bytes-bytes.result.now in
    let found = c.in-Some-next_item in
    let first : Item = ((found.first.first.at, found.first.first.bytes.now), numbers_in found.first.others.at found.first.others.bytes.now) in
    let others = items_in found.rest.at found.rest.bytes.now in
    let begins : Begins text first others = record { known = c.in_default.ensures; items = found.ensures.items } in
    rw (← c.as_bytes-bytes.ensures.value, words_are text first others c.in_ok-count.count begins c.in_ok-count.ensures.value) c.read_insns.ensures.exact

pub returns-clause-memory : goal.returns-clause-memory
returns-clause-memory c =
    let text = c.as_bytes-bytes.result.now in
    let found = c.in-Some-next_item in
    let first : Item = ((found.first.first.at, found.first.first.bytes.now), numbers_in found.first.others.at found.first.others.bytes.now) in
    let others = items_in found.rest.at found.rest.bytes.now in
    let begins : Begins text first others = record { known = c.in_default.ensures; items = found.ensures.items } in
    λ e. rw (← c.as_bytes-bytes.ensures.value) (has_count text first others c.in_ok-count.count begins c.in_ok-count.ensures.value (c.read_insns.ensures.memory e))
