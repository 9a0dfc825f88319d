use Rattle.std.proofs.Common.{sym, subst}
use Rattle.afdx_frame.specs.declared.key.Network.TheVariants.{A, B}
use Rattle.specified.specs.Events.Steps.{FirstsCanFetch}
use Rattle.specified.proofs.model.parts.Parts.fetch.Goals as goal

pub fetch-requires : goal.fetch-requires
fetch-requires c = subst FirstsCanFetch (sym c.self.view_is) c.requires A

pub fetch-requires-in-B : goal.fetch-requires-in-B
fetch-requires-in-B c = subst FirstsCanFetch (sym c.self.view_is) c.requires B
