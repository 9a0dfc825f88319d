use Rattle.std.proofs.Common.{◌≡◌, ◌∙◌, sym, ap}
use Rattle.std.proofs.lemmas.Result.{on_ok_weaker}
use Rattle.afdx_frame.specs.declared.key.Network.TheVariants.{A, B}
use Rattle.ordered_merge.specs.Merge.{MergerState, fetched}
use Rattle.ordered_merge.specs.Buffer.{BufferState, pushed}
use Rattle.ordered_merge.proofs.Rising.{each_insert}
use Rattle.ordered_merge.proofs.Merging.{OfNetwork, fetched_a, fetched_b, kept_on, state_of}
use Rattle.ordered_merge.proofs.merger.Merger.fetch.Goals as goal

pub invariant_of-self : goal.invariant_of-self
invariant_of-self c = (
  kept_on c.push.result (λ s. OfNetwork A s.frames) c.self.inside.a (pushed c.self.inside.a c.args.frame) c.push.new.self c.push.ensures.ok c.push.ensures.unchanged
      (each_insert (λ f. f.network ≡ A) c.args.frame c.self.inside.a.frames (sym c.network.ensures ∙ c.in-A.is) c.self.invariant.0) c.self.invariant.0,
  c.self.invariant.1,
)

pub invariant_of-self-in-B : goal.invariant_of-self-in-B
invariant_of-self-in-B c = (
  c.self.invariant.0,
  kept_on c.push-in-B.result (λ s. OfNetwork B s.frames) c.self.inside.b (pushed c.self.inside.b c.args.frame) c.push-in-B.new.self c.push-in-B.ensures.ok c.push-in-B.ensures.unchanged
      (each_insert (λ f. f.network ≡ B) c.args.frame c.self.inside.b.frames (sym c.network.ensures ∙ c.in-B.is) c.self.invariant.1) c.self.invariant.1,
)

pub returns-in-A-clause-ok : goal.returns-in-A-clause-ok
returns-in-A-clause-ok c =
    on_ok_weaker c.push.result
    (λ e. ap (λ (x : BufferState). state_of c.self.inside.late x c.self.inside.b) e
    ∙ fetched_a c.self.inside.late c.self.inside.a c.self.inside.b c.args.frame (sym c.network.ensures ∙ c.in-A.is) c.self.invariant.1
    ∙ ap (λ (s : MergerState). fetched s c.args.frame) c.self.view_is)
    c.push.ensures.ok

pub returns-in-B-clause-ok : goal.returns-in-B-clause-ok
returns-in-B-clause-ok c =
    on_ok_weaker c.push-in-B.result
    (λ e. ap (λ (y : BufferState). state_of c.self.inside.late c.self.inside.a y) e
    ∙ fetched_b c.self.inside.late c.self.inside.a c.self.inside.b c.args.frame (sym c.network.ensures ∙ c.in-B.is) c.push-in-B.ensures.numbers
    ∙ ap (λ (s : MergerState). fetched s c.args.frame) c.self.view_is)
    c.push-in-B.ensures.ok
