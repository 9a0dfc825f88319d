-- The links before the index are the draft's.
use Rattle.std.proofs.Common.{◌<◌, ℕ, slice_index_or}
use Rattle.vl_config.specs.Link.{VirtualLink}
use Rattle.table_draft.specs.Drafts.{IsLinkOf}
use Rattle.table_draft.specs.declared.known.Drafted.{Drafted}
use Rattle.table_draft.proofs.checked.are_links_of.Given as goal

abbrev pub invariant-loop-index : goal.invariant-loop-index
invariant-loop-index l =
    (i : ℕ) → i < l.index → (d : Drafted) (k : VirtualLink) → IsLinkOf (slice_index_or l.drafted i d) (slice_index_or l.links i k)
