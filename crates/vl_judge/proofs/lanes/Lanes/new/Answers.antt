use Rattle.std.proofs.Common.{refl}
use Rattle.vl_judge.proofs.Places.{AllNew-length, AllNew-knows, AllNew-none_later}
use Rattle.vl_judge.proofs.lanes.Lanes.new.Goals as goal

pub make_index-requires : goal.make_index-requires
make_index-requires c =
    rw (c.deref.ensures.value, AllNew-length c.in_ok-lanes.lanes.items c.links.result.now c.in_ok-lanes.ensures, c.links.ensures.value)
    c.links.ensures.table.few_links

pub invariant_of-result : goal.invariant_of-result
invariant_of-result c = (
  rw (← c.deref.ensures.value) c.in_ok-index.ensures,
  λ later h id. AllNew-none_later c.in_ok-lanes.lanes.items c.links.result.now id later c.in_ok-lanes.ensures,
)

pub returns : goal.returns
returns c = record {
  constant = c.constant.ensures;
  last = refl;
  lanes = λ id. rw (← c.links.ensures.value) (AllNew-knows c.in_ok-lanes.lanes.items c.links.result.now id c.in_ok-lanes.ensures);
}
