use Rattle.std.proofs.Common.{◌≡◌, ◌∙◌, ap, subst, sym}
use Rattle.afdx_frame.specs.Frame.{Frame}
use Rattle.afdx_frame.specs.declared.key.Network.{Network}
use Rattle.afdx_frame.specs.declared.key.Network.TheVariants.{A, B}
use Rattle.frame_batch.specs.Batch.{batch_frames}
use Rattle.ordered_merge.specs.Merge.{CanFetchAll, MergerState, fetched_all}
use Rattle.ordered_merge.specs.Buffer.{AreNumbered, BufferState}
use Rattle.ordered_merge.proofs.Rising.{each_front}
use Rattle.ordered_merge.proofs.Merging.{OfNetwork, all_of, each_pushed, fetched_all_a, fetched_all_b, numbered_from, numbered_front, state_of}
use Rattle.ordered_merge.proofs.merger.Merger.fetch_all.Goals as goal

pub push_all-requires : goal.push_all-requires
push_all-requires c =
    let s = c.args.self.now in
    let fs = (batch_frames c.args.batch) in
    let can = subst (λ (n : Network). CanFetchAll n s fs) c.in-A.is c.requires in
    subst (λ (t : MergerState). AreNumbered t.a.next fs) (sym c.self.view_is) (numbered_from A s fs can)

pub push_all-requires-in-B : goal.push_all-requires-in-B
push_all-requires-in-B c =
    let s = c.args.self.now in
    let fs = (batch_frames c.args.batch) in
    let can = subst (λ (n : Network). CanFetchAll n s fs) c.in-B.is c.requires in
    subst (λ (t : MergerState). AreNumbered t.b.next fs) (sym c.self.view_is) (numbered_from B s fs can)

pub invariant_of-self : goal.invariant_of-self
invariant_of-self c =
    let s = c.args.self.now in
    let fs = (batch_frames c.args.batch) in
    let can = subst (λ (n : Network). CanFetchAll n s fs) c.in-A.is c.requires in
    let (moved, all, is) = c.push_all.ensures in
    let of_a = each_front (λ (f : Frame). f.network ≡ A) moved _ (subst (OfNetwork A) all (all_of A s fs can)) in (
      subst (λ (x : BufferState). OfNetwork A x.frames) (sym is) (each_pushed (λ (f : Frame). f.network ≡ A) c.self.inside.a moved of_a c.self.invariant.0),
      c.self.invariant.1,
    )

pub invariant_of-self-in-B : goal.invariant_of-self-in-B
invariant_of-self-in-B c =
    let s = c.args.self.now in
    let fs = (batch_frames c.args.batch) in
    let can = subst (λ (n : Network). CanFetchAll n s fs) c.in-B.is c.requires in
    let (moved, all, is) = c.push_all-in-B.ensures in
    let of_b = each_front (λ (f : Frame). f.network ≡ B) moved _ (subst (OfNetwork B) all (all_of B s fs can)) in (
      c.self.invariant.0,
      subst (λ (x : BufferState). OfNetwork B x.frames) (sym is) (each_pushed (λ (f : Frame). f.network ≡ B) c.self.inside.b moved of_b c.self.invariant.1),
    )

pub returns-in-A : goal.returns-in-A
returns-in-A c =
    let s = c.args.self.now in
    let fs = (batch_frames c.args.batch) in
    let can = subst (λ (n : Network). CanFetchAll n s fs) c.in-A.is c.requires in
    let (moved, all, is) = c.push_all.ensures in
    let of_a = each_front (λ (f : Frame). f.network ≡ A) moved _ (subst (OfNetwork A) all (all_of A s fs can)) in (
      moved,
      all,
      ap (λ (x : BufferState). state_of c.self.inside.late x c.self.inside.b) is
          ∙ fetched_all_a c.self.inside.late c.self.inside.a c.self.inside.b moved of_a c.self.invariant.1
          ∙ ap (λ (t : MergerState). fetched_all t moved) c.self.view_is,
    )

pub returns-in-B : goal.returns-in-B
returns-in-B c =
    let s = c.args.self.now in
    let fs = (batch_frames c.args.batch) in
    let can = subst (λ (n : Network). CanFetchAll n s fs) c.in-B.is c.requires in
    let (moved, all, is) = c.push_all-in-B.ensures in
    let next = c.self.inside.b.tap.next in
    let numbered : AreNumbered next fs = subst (λ (t : MergerState). AreNumbered t.b.next fs) (sym c.self.view_is) (numbered_from B s fs can) in
    let of_b = each_front (λ (f : Frame). f.network ≡ B) moved _ (subst (OfNetwork B) all (all_of B s fs can)) in (
      moved,
      all,
      ap (λ (y : BufferState). state_of c.self.inside.late c.self.inside.a y) is
          ∙ fetched_all_b c.self.inside.late c.self.inside.a c.self.inside.b moved of_b (numbered_front next moved _ (subst (AreNumbered next) all numbered)) c.note_numbers.ensures
          ∙ ap (λ (t : MergerState). fetched_all t moved) c.self.view_is,
    )
