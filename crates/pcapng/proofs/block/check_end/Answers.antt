use Rattle.std.proofs.Common.{◌≡◌, ℕ, ◌-◌, true, false, List, length, slice_range, refl, sym, arith}
use Rattle.std.proofs.lemmas.List.{length-take}
use Rattle.pcapng.specs.Block.{lengths_agree}
use Rattle.pcapng.specs.Options.{fit, options_of}
use Rattle.pcapng.proofs.OptionFronts.{none_fit}
use Rattle.pcapng.proofs.block.check_end.Goals as goal
use Rattle.pcapng.proofs.block.check_end.Goals.{else-from-to-via-then-from-to+else-not-options_fit, else-from-to-via-else-from-to}

pub returns-then-not-lengths_agree : goal.returns-then-not-lengths_agree
returns-then-not-lengths_agree c =
    let all : List ℕ = slice_range c.args.block.now c.args.from (length c.args.block.now - 4) in
    let fits : fit (options_of c.args.order all) ≡ true = elim c.else-from-to.branch [
      | else-from-to-via-then-from-to+else-not-options_fit w ↦ sym w.if-not-options_fit.ensures
      | else-from-to-via-else-from-to w ↦ let a = w.if-from-to.false in none_fit c.args.order all (omega (arith, length-take {A = ℕ}, a))
    ] in
    let differ : lengths_agree c.args.order c.args.block.now ≡ false = sym c.if-not-lengths_agree.ensures in
    rw (fits, differ) refl

pub returns : goal.returns
returns c =
    let all : List ℕ = slice_range c.args.block.now c.args.from (length c.args.block.now - 4) in
    let fits : fit (options_of c.args.order all) ≡ true = elim c.else-from-to.branch [
      | else-from-to-via-then-from-to+else-not-options_fit w ↦ sym w.if-not-options_fit.ensures
      | else-from-to-via-else-from-to w ↦ let a = w.if-from-to.false in none_fit c.args.order all (omega (arith, length-take {A = ℕ}, a))
    ] in
    let agree : lengths_agree c.args.order c.args.block.now ≡ true = sym c.if-not-lengths_agree.ensures in
    rw (fits, agree) refl
