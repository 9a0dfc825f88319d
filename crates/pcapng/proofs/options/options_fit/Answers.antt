use Rattle.std.proofs.Common.{◌≡◌, ℕ, ◌-◌, List, length, take, drop, sym, ap, ◌∙◌, arith}
use Rattle.std.proofs.lemmas.List.{length-drop, take_rest}
use Rattle.pcapng.specs.Options.{fit, options_of}
use Rattle.pcapng.proofs.OptionFronts.{beyond_there, ends_there, fits_on, none_left}
use Rattle.pcapng.proofs.options.options_fit.Goals as goal
use Rattle.pcapng.proofs.options.options_fit.Goals.{else-rest-ge4-via-then-rest-ge4+else-read_u16-eq-END_OF_OPTIONS, else-rest-ge4-via-else-rest-ge4}

pub returns-then-read_u16-eq-END_OF_OPTIONS : goal.returns-then-read_u16-eq-END_OF_OPTIONS
returns-then-read_u16-eq-END_OF_OPTIONS c =
    let order = c.args.order in
    let xs = c.args.options.now in
    let rest = take (length xs - c.loop-at.at) (drop c.loop-at.at xs) in
    ap fit (sym (ends_there order rest c.if-rest-ge4.true (sym c.read_u16.ensures ∙ c.if-read_u16-eq-END_OF_OPTIONS.true)))
    ∙ (ap (λ (l : List ℕ). fit (options_of order l)) (take_rest xs c.loop-at.at) ∙ c.loop-at.invariant.same)

pub returns-in-None : goal.returns-in-None
returns-in-None c =
    let order = c.args.order in
    let xs = c.args.options.now in
    let rest = take (length xs - c.loop-at.at) (drop c.loop-at.at xs) in
    let size : length rest ≡ length xs - c.loop-at.at = ap length (take_rest xs c.loop-at.at) ∙ length-drop c.loop-at.at xs in
    ap fit (sym (beyond_there order rest (omega (arith, size, c.loop-at-test.true))
    (λ long end. elim c.else-rest-ge4.branch [
      | else-rest-ge4-via-then-rest-ge4+else-read_u16-eq-END_OF_OPTIONS w ↦ w.if-read_u16-eq-END_OF_OPTIONS.false (w.read_u16.ensures ∙ end)
      | else-rest-ge4-via-else-rest-ge4 w ↦ omega (arith, long, w.if-rest-ge4.false)
    ]) c.in-None.ensures.fits))
    ∙ (ap (λ (l : List ℕ). fit (options_of order l)) (take_rest xs c.loop-at.at) ∙ c.loop-at.invariant.same)

pub returns : goal.returns
returns c =
    let order = c.args.order in
    let xs = c.args.options.now in
    ap fit (sym (none_left order (drop c.loop-at.at xs) (omega (arith, length-drop c.loop-at.at xs, c.loop-at-test.false)))) ∙ c.loop-at.invariant.same

pub loop-at-preserved : goal.loop-at-preserved
loop-at-preserved c =
    let order = c.args.order in
    let xs = c.args.options.now in
    let rest = take (length xs - c.loop-at.at) (drop c.loop-at.at xs) in
    let size : length rest ≡ length xs - c.loop-at.at = ap length (take_rest xs c.loop-at.at) ∙ length-drop c.loop-at.at xs in
    record {
      within = omega (arith, size, c.in-Some.ensures.next, c.in-Some.ensures.fits, c.loop-at-test.true);
      same = fits_on order xs rest c.loop-at.at c.in-Some.option.next (take_rest xs c.loop-at.at) c.in-Some.ensures.next
          (λ end. elim c.else-rest-ge4.branch [
            | else-rest-ge4-via-then-rest-ge4+else-read_u16-eq-END_OF_OPTIONS w ↦ w.if-read_u16-eq-END_OF_OPTIONS.false (w.read_u16.ensures ∙ end)
            | else-rest-ge4-via-else-rest-ge4 w ↦ omega (arith, w.if-rest-ge4.false, c.in-Some.ensures.fits)
          ]) c.in-Some.ensures.fits ∙ c.loop-at.invariant.same;
    }
