-- The items that a thread has put, and what it has read of a recording by them.
use Rattle.std.proofs.Common.{◌≡◌, inl, inr, ◌++◌, ◌∷◌, [], ℕ, List, Some, None, true, false, refl, sym, subst, ap, ◌∙◌, append-nil, append_assoc}
use Rattle.std.proofs.lemmas.Bool.{false≢true}
use Rattle.afdx_frame.specs.Frame.{Frame}
use Rattle.afdx_frame.specs.declared.key.Network.{Network}
use Rattle.pcap_io.specs.Device.{CountsFailure}
use Rattle.pcap_io.specs.Position.{Reading}
use Rattle.pcap_io.specs.declared.position.Position.{Position}
use Rattle.pcap_io.specs.declared.item.ReadFault.TheVariants as faults
use Rattle.pcap_io.specs.declared.recording.Ending.{Ending}
use Rattle.pcap_io.specs.declared.recording.Stage.TheVariants.{Going}
use Rattle.tap_queue.specs.Items.{Gives, frames_in, is_last, is_over}
use Rattle.tap_queue.specs.declared.item.TapItem.{TapItem}
use Rattle.tap_queue.specs.declared.item.TapItem.TheVariants as items
use Rattle.tap_merge.specs.Rings.{EndsWith}
use Rattle.run_fault.specs.Fault.{MayFail}
use Rattle.tap_merge.specs.Taps.{HasRead, ReadsPart}
use Rattle.run_fault.specs.Recording.{most_frames}
use Rattle.run_fault.specs.Device.{SourceView}
use Rattle.tap_merge.proofs.TwoTaps.{part_of, part_stopped, read_end, read_frame}

-- all that a reader has read of a source, once it gave these items
pub record IsTapRun (network : Network) (late : ℕ) (before : SourceView) (frames : List Frame) (given : List TapItem) (reading : Reading) : Type 0 where
  pub part : ReadsPart network late before frames reading
  pub may_fail : MayFail before.failures reading.failures
  pub failed : EndsWith (items.Failed faults.Device) given → CountsFailure before.failures reading.failures
  pub ended : (ending : Ending) → EndsWith (items.End ending) given → HasRead network late before frames (Some ending) reading

counted_from : (a b c : ℕ) → b ≡ a → CountsFailure b c → CountsFailure a c
counted_from a b c same counts = subst (λ n. CountsFailure n c) same counts

-- ---- the last item

behind : (item first : TapItem) (more : List TapItem) → is_last first ≡ false → is_last item ≡ true → EndsWith item (first ∷ more) → EndsWith item more
behind item first more goes last ([], all) = (let same : first ≡ item = cc all in absurd (false≢true (sym goes ∙ ap is_last same ∙ last)))
behind item first more goes last (x ∷ before, all) = (before, (let rest : more ≡ before ++ item ∷ [] = cc all in rest))

only : (item last : TapItem) → EndsWith item (last ∷ []) → last ≡ item
only item last ([], all) = cc all
only item last (x ∷ [], all) = (let wrong : ⊥ = cc all in absurd wrong)
only item last (x ∷ y ∷ before, all) = (let wrong : ⊥ = cc all in absurd wrong)

no_end : (item : TapItem) → EndsWith item [] → ⊥
no_end item ([], all) = cc all
no_end item (x ∷ before, all) = cc all

-- ---- item by item

pub tap_run : (network : Network) (late : ℕ) (before : SourceView) (frames : List Frame) (given : List TapItem) (old new : Reading) →
    HasRead network late before frames None old → old.position.stage ≡ Going → old.position.most ≡ most_frames → Gives old given new →
    IsTapRun network late before (frames ++ frames_in given) given new
tap_run network late before frames [] old new read going most same =
    subst (λ (r : Reading). IsTapRun network late before (frames ++ []) [] r) same
    (subst (λ (l : List Frame). IsTapRun network late before l [] old) (sym (append-nil frames)) (record {
      part = part_of network late before frames None old read;
      may_fail = inl read.failures;
      failed = λ ends. absurd (no_end (items.Failed faults.Device) ends);
      ended = λ ending ends. absurd (no_end (items.End ending) ends);
    }))
tap_run network late before frames (items.Frame f ∷ given) old new read going most (mid, adv, last, gives) =
    let read' = read_frame network late before frames old mid f most read (adv.item going) adv.after adv.no_failure adv.told in
    let run = tap_run network late before (frames ++ f ∷ []) given mid new read' (ap (λ (p : Position). p.stage) adv.after ∙ going) (ap (λ (p : Position). p.most) adv.after ∙ most) gives in
    let same : (frames ++ f ∷ []) ++ frames_in given ≡ frames ++ f ∷ frames_in given = append_assoc frames (f ∷ []) (frames_in given) in
    record {
      part = subst (λ (l : List Frame). ReadsPart network late before l new) same run.part;
      may_fail = run.may_fail;
      failed = λ ends. run.failed (behind (items.Failed faults.Device) (items.Frame f) given refl refl ends);
      ended = λ ending ends. subst (λ (l : List Frame). HasRead network late before l (Some ending) new) same (run.ended ending (behind (items.End ending) (items.Frame f) given refl refl ends));
    }
tap_run network late before frames (items.End e ∷ x ∷ given) old new read going most (mid, adv, last, gives) = (let wrong : ⊥ = cc (last refl) in absurd wrong)
tap_run network late before frames (items.End e ∷ []) old new read going most (mid, adv, last, same) =
    let read' = read_end network late before frames old mid e read (record { here = adv.item going; left = adv.left going; gone = adv.taken }) adv.no_failure in
    subst (λ (r : Reading). IsTapRun network late before (frames ++ []) (items.End e ∷ []) r) same
    (subst (λ (l : List Frame). IsTapRun network late before l (items.End e ∷ []) mid) (sym (append-nil frames)) (record {
      part = part_of network late before frames (Some e) mid read';
      may_fail = inl read'.failures;
      failed = λ ends. (let wrong : ⊥ = cc (only (items.Failed faults.Device) (items.End e) ends) in absurd wrong);
      ended = λ ending ends. (let is : e ≡ ending = cc (only (items.End ending) (items.End e) ends) in subst (λ (x : Ending). HasRead network late before frames (Some x) mid) is read');
    }))
tap_run network late before frames (items.Failed fault ∷ x ∷ given) old new read going most (mid, adv, last, gives) = (let wrong : ⊥ = cc (last refl) in absurd wrong)
tap_run network late before frames (items.Failed faults.Device ∷ []) old new read going most (mid, adv, last, same) =
    let counts : CountsFailure before.failures mid.failures = counted_from before.failures old.failures mid.failures read.failures adv.fault in
    subst (λ (r : Reading). IsTapRun network late before (frames ++ []) (items.Failed faults.Device ∷ []) r) same
    (subst (λ (l : List Frame). IsTapRun network late before l (items.Failed faults.Device ∷ []) mid) (sym (append-nil frames)) (record {
      part = part_stopped network late before frames old mid read adv.taken;
      may_fail = inr counts;
      failed = λ ends. counts;
      ended = λ ending ends. (let wrong : ⊥ = cc (only (items.End ending) (items.Failed faults.Device) ends) in absurd wrong);
    }))
tap_run network late before frames (items.Failed faults.Memory ∷ []) old new read going most (mid, adv, last, same) =
    subst (λ (r : Reading). IsTapRun network late before (frames ++ []) (items.Failed faults.Memory ∷ []) r) same
    (subst (λ (l : List Frame). IsTapRun network late before l (items.Failed faults.Memory ∷ []) mid) (sym (append-nil frames)) (record {
      part = part_stopped network late before frames old mid read adv.taken;
      may_fail = inl (adv.fault.0 ∙ read.failures);
      failed = λ ends. (let wrong : ⊥ = cc (only (items.Failed faults.Device) (items.Failed faults.Memory) ends) in absurd wrong);
      ended = λ ending ends. (let wrong : ⊥ = cc (only (items.End ending) (items.Failed faults.Memory) ends) in absurd wrong);
    }))
tap_run network late before frames (items.Failed faults.Failed ∷ []) old new read going most (mid, adv, last, same) =
    (let wrong : ⊥ = cc (sym going ∙ adv.fault.1) in absurd wrong)

-- ---- no item is left over

pub nothing_left : (old new : Reading) (given more : List TapItem) → is_over given ≡ true → Gives old (given ++ more) new → Gives old given new
nothing_left old new [] more over gives = absurd (false≢true over)
nothing_left old new (items.Frame f ∷ given) more over (mid, one, last, gives) = (mid, one, (λ is. absurd (false≢true is)), nothing_left mid new given more over gives)
nothing_left old new (items.End e ∷ []) [] over gives = gives
nothing_left old new (items.End e ∷ []) (x ∷ more) over (mid, one, last, gives) = (let wrong : ⊥ = cc (last refl) in absurd wrong)
nothing_left old new (items.End e ∷ y ∷ given) more over (mid, one, last, gives) = (let wrong : ⊥ = cc (last refl) in absurd wrong)
nothing_left old new (items.Failed fault ∷ []) [] over gives = gives
nothing_left old new (items.Failed fault ∷ []) (x ∷ more) over (mid, one, last, gives) = (let wrong : ⊥ = cc (last refl) in absurd wrong)
nothing_left old new (items.Failed fault ∷ y ∷ given) more over (mid, one, last, gives) = (let wrong : ⊥ = cc (last refl) in absurd wrong)

pub settled_gives : (old new : Reading) (put taken : List TapItem) → taken ≡ put → is_over taken ≡ true → (more : List TapItem) × Gives old (put ++ more) new → Gives old taken new
settled_gives old new put taken same over (more, gives) =
    nothing_left old new taken more over (subst (λ (l : List TapItem). Gives old (l ++ more) new) (sym same) gives)

-- ---- some items are left over

pub left_gives : (old new : Reading) (put taken : List TapItem) → (more : List TapItem) × (put ≡ taken ++ more) → (more : List TapItem) × Gives old (put ++ more) new →
    (more : List TapItem) × Gives old (taken ++ more) new
left_gives old new put taken (more, all) (unput, gives) =
    (more ++ unput, subst (λ (l : List TapItem). Gives old l new) (ap (λ (l : List TapItem). l ++ unput) all ∙ append_assoc taken more unput) gives)

-- nothing follows an ending or a fault
pub none_after : (old new : Reading) (before : List TapItem) (item : TapItem) (more : List TapItem) → is_last item ≡ true →
    Gives old ((before ++ item ∷ []) ++ more) new → more ≡ []
none_after old new [] item more last (mid, one, none, gives) = none last
none_after old new (x ∷ before) item more last (mid, one, none, gives) = none_after mid new before item more last gives

-- a last item stays the last
pub still_ends : (old new : Reading) (item : TapItem) (taken more : List TapItem) → is_last item ≡ true → EndsWith item taken → Gives old (taken ++ more) new →
    more ≡ []
still_ends old new item taken more last (before, all) gives =
    none_after old new before item more last (subst (λ (l : List TapItem). Gives old (l ++ more) new) all gives)
