use Rattle.std.proofs.Common.{◌≡◌, ℕ, ◌-◌, List, length, take, drop, sym, ap, ◌∙◌, arith}
use Rattle.std.proofs.lemmas.List.{length-drop, take_rest}
use Rattle.pcapng.specs.Options.{options_of, value_of}
use Rattle.pcapng.proofs.OptionFronts.{ends_there, finds_on, found_at, none_found, none_left}
use Rattle.pcapng.proofs.options.find_option.Goals as goal

pub returns-in_default : goal.returns-in_default
returns-in_default c =
    let order = c.args.order in
    let xs = c.args.options.now in
    let rest = take (length xs - c.loop-at.at) (drop c.loop-at.at xs) in
    let size : length rest ≡ length xs - c.loop-at.at = ap length (take_rest xs c.loop-at.at) ∙ length-drop c.loop-at.at xs in
    sym (none_found c.args.code order rest (omega (arith, size, c.loop-at-test.true)) c.in_default.ensures.fits)
    ∙ (ap (λ (l : List ℕ). value_of c.args.code (options_of order l)) (take_rest xs c.loop-at.at) ∙ c.loop-at.invariant.same)

pub returns-then-option-eq-END_OF_OPTIONS : goal.returns-then-option-eq-END_OF_OPTIONS
returns-then-option-eq-END_OF_OPTIONS c =
    let order = c.args.order in
    let xs = c.args.options.now in
    let rest = take (length xs - c.loop-at.at) (drop c.loop-at.at xs) in
    let here = ends_there order rest (omega (arith, c.in-Some.ensures.fits)) (sym c.in-Some.ensures.code ∙ c.if-option-eq-END_OF_OPTIONS.true) in
    sym (ap (value_of c.args.code) here)
    ∙ (ap (λ (l : List ℕ). value_of c.args.code (options_of order l)) (take_rest xs c.loop-at.at) ∙ c.loop-at.invariant.same)

pub returns-then-option-code : goal.returns-then-option-code
returns-then-option-code c =
    let order = c.args.order in
    let xs = c.args.options.now in
    let rest = take (length xs - c.loop-at.at) (drop c.loop-at.at xs) in
    found_at c.args.code order rest c.in-Some.option.value.now c.in-Some.option.code c.in-Some.ensures.code c.if-option-eq-END_OF_OPTIONS.false
    c.in-Some.ensures.fits c.if-option-code.true c.in-Some.ensures.value
    ∙ (ap (λ (l : List ℕ). value_of c.args.code (options_of order l)) (take_rest xs c.loop-at.at) ∙ c.loop-at.invariant.same)

pub returns : goal.returns
returns c =
    let order = c.args.order in
    let xs = c.args.options.now in
    sym (ap (value_of c.args.code) (none_left order (drop c.loop-at.at xs) (omega (arith, length-drop c.loop-at.at xs, c.loop-at-test.false)))) ∙ c.loop-at.invariant.same

pub loop-at-preserved : goal.loop-at-preserved
loop-at-preserved c =
    let order = c.args.order in
    let xs = c.args.options.now in
    let rest = take (length xs - c.loop-at.at) (drop c.loop-at.at xs) in
    let size : length rest ≡ length xs - c.loop-at.at = ap length (take_rest xs c.loop-at.at) ∙ length-drop c.loop-at.at xs in
    record {
      within = omega (arith, size, c.in-Some.ensures.next, c.in-Some.ensures.fits, c.loop-at-test.true);
      same = finds_on c.args.code order xs rest c.loop-at.at c.in-Some.option.next c.in-Some.option.code (take_rest xs c.loop-at.at)
          c.in-Some.ensures.next c.in-Some.ensures.code c.if-option-eq-END_OF_OPTIONS.false c.if-option-code.false c.in-Some.ensures.fits
          ∙ c.loop-at.invariant.same;
    }
