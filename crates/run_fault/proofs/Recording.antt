-- From the frames that were read up to an ending to the recording's parse.
use Rattle.std.proofs.Common.{◌≡◌, ℕ, ◌^◌, ◌∙◌, ◌≤◌, List, [], ◌∷◌, Option, None, Some, drop, arith, refl, subst, sym}
use Rattle.std.specs.Prelude.{IfSome}
use Rattle.afdx_frame.specs.Frame.{Frame}
use Rattle.afdx_frame.specs.declared.key.Network.{Network}
use Rattle.pcap_io.specs.Position.{IsNext, Opens, Reads, after_frame, start_at}
use Rattle.pcap_io.specs.declared.item.Item.TheVariants as items
use Rattle.pcap_io.specs.declared.layout.Layout.{Layout}
use Rattle.pcap_io.specs.declared.layout.TheConstants.{FILE_HEADER_LEN}
use Rattle.pcap_io.specs.declared.position.Position.{Position}
use Rattle.pcap_io.specs.declared.recording.Ending.{Ending}
use Rattle.pcap_io.specs.Told.{StaysTold}
use Rattle.pcap_io.specs.declared.told.Told.{Told}
use Rattle.pcap_io.proofs.Parse.{reads_to_end}
use Rattle.run_fault.specs.Recording.{IsRecording, most_frames}

-- no more frames are read than may be
pub read_within : (p q : Position) (before after : Option (List ℕ)) (frames : List Frame) → Reads p before frames q after → p.count ≤ p.most → q.count ≤ p.most
read_within p q before after [] (same, left) within = subst (λ (x : Position). x.count ≤ p.most) same within
read_within p q before after (f ∷ fs) (mid, taken, rest) within = read_within (after_frame p f.stamp) q mid after fs rest (omega (arith, taken.bounded))

-- ---- all that a source tells after frames

reads_known : (p q : Position) (xs : List ℕ) (after : Option (List ℕ)) (frames : List Frame) → Reads p (Some xs) frames q after → (ys : List ℕ) × (after ≡ Some ys)
reads_known p q xs after [] (same, left) = (xs, sym left)
reads_known p q xs after (f ∷ fs) (None, taken, rest) = absurd taken.gone
reads_known p q xs after (f ∷ fs) (Some ys, taken, rest) = reads_known (after_frame p f.stamp) q ys after fs rest

-- where a source exposes its bytes, it does so after frames too
pub known_on : (p q : Position) (before after : Option (List ℕ)) (frames : List Frame) → Reads p before frames q after → IfSome before (λ bytes. (ys : List ℕ) × (after ≡ Some ys))
known_on p q None after frames reads = tt
known_on p q (Some bytes) after frames reads = reads_known p q bytes after frames reads

-- and after its file header and frames
pub known_after : (start position : Position) (told : Told) (before opened left : Option (List ℕ)) (layout : Layout) (frames : List Frame) → Opens told before opened layout
    → Reads start opened frames position left → IfSome before (λ bytes. (ys : List ℕ) × (left ≡ Some ys))
known_after start position told None opened left layout frames opens reads = tt
known_after start position told (Some bytes) opened left layout frames opens reads =
    reads_known start position (drop FILE_HEADER_LEN bytes) left frames (subst (λ (o : Option (List ℕ)). Reads start o frames position left) opens.1 reads)

-- the word of a source doesn't change at a further step
pub tells_on : (before left : Option (List ℕ)) (x y z : Told) → IfSome before (λ bytes. (ys : List ℕ) × (left ≡ Some ys)) → StaysTold before x y → StaysTold left y z → StaysTold before x z
tells_on None left x y z known first second = tt
tells_on (Some bytes) left x y z (ys, is) first second = subst (λ (o : Option (List ℕ)). StaysTold o y z) is second ∙ first

-- nor at its file header
pub tells_opened : (start : Position) (x y z : Told) (before opened : Option (List ℕ)) (layout : Layout) → Opens x before opened layout
    → StaysTold before x y → StaysTold opened y z → StaysTold before x z
tells_opened start x y z before opened layout opens first second =
    tells_on before opened x y z (known_after start start x before opened opened layout [] opens (refl, refl)) first second

-- the frames that were read up to the ending are the recording's
pub complete : (network : Network) (late : ℕ) (told kept : Told) (before opened left : Option (List ℕ)) (layout : Layout) (frames : List Frame) (position : Position) (ending : Ending)
    → Opens told before opened layout → Reads (start_at network layout most_frames late) opened frames position left → StaysTold before told kept
    → IsNext position kept left None (items.End ending) → IfSome before (λ bytes. IsRecording network late told bytes frames ending)
complete network late told kept None opened left layout frames position ending opens reads stays ends = tt
complete network late told kept (Some bytes) opened left layout frames position ending opens reads stays ends = record {
  layout = layout;
  header = opens.0;
  holds = reads_to_end (start_at network layout most_frames late) position told (drop FILE_HEADER_LEN bytes) left None frames ending (omega arith)
      (subst (λ (x : Option (List ℕ)). Reads (start_at network layout most_frames late) x frames position left) opens.1 reads)
      (subst (λ (v : Told). IsNext position v left None (items.End ending)) stays ends);
}
