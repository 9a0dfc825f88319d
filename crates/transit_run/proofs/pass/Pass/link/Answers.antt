use Rattle.transit_run.proofs.pass.Pass.link.Goals as goal

pub returns : goal.returns
returns c = λ lines h. h.links c.args.place c.in_ok-counts.counts.now c.in_ok-counts.ensures
