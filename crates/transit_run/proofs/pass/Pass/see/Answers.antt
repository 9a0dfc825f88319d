use Rattle.std.proofs.Common.{refl}
use Rattle.afdx_frame.specs.declared.key.Network.TheVariants as network
use Rattle.transit_run.proofs.Passing.{seen_err, seen_ok}
use Rattle.transit_run.proofs.pass.Pass.see.Goals as goal

pub returns-in-A-clause-ok : goal.returns-in-A-clause-ok
returns-in-A-clause-ok c =
    seen_ok c.goes_in.result c.args.self.now c.settle.new.self c.goes_in.new.self _ _ c.args.frame.now network.A c.in-A.ensures refl refl
    c.in_ok-settle.ensures.ok c.goes_in.ensures.ok

pub returns-in-A-clause-err : goal.returns-in-A-clause-err
returns-in-A-clause-err c =
    seen_err c.goes_in.result c.args.self.now c.settle.new.self c.goes_in.new.self c.in_ok-settle.ensures.ok c.goes_in.ensures.err

pub returns-in-B-clause-ok : goal.returns-in-B-clause-ok
returns-in-B-clause-ok c =
    seen_ok c.comes_out.result c.args.self.now c.settle.new.self c.comes_out.new.self _ _ c.args.frame.now network.B c.in-B.ensures refl
    refl c.in_ok-settle.ensures.ok c.comes_out.ensures.ok

pub returns-in-B-clause-err : goal.returns-in-B-clause-err
returns-in-B-clause-err c =
    seen_err c.comes_out.result c.args.self.now c.settle.new.self c.comes_out.new.self c.in_ok-settle.ensures.ok c.comes_out.ensures.err
