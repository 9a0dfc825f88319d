-- The items of batches, of which the last ones are left.
use Rattle.std.proofs.Common.{◌≡◌, ◌≢◌, ◌+◌, ◌-◌, ◌<◌, ◌≤◌, List, [], ◌∷◌, ◌++◌, length, refl, sym, ap, ◌∙◌, append_assoc, arith, Option, None}
use Rattle.std.proofs.lemmas.List.{append-nil, length-append, take_at}
use Rattle.std.proofs.lemmas.Grind.{flat_map-append}
use Rattle.afdx_frame.specs.Frame.{Frame}
use Rattle.tap_queue.specs.Items.{frame_items}
use Rattle.frame_batch.specs.Batch.{BatchState}
use Rattle.tap_queue.specs.Batches.{IsRest, batch_items, items_in, rest_items, taken_of}
use Rattle.tap_queue.specs.declared.item.Batch.{Batch}
use Rattle.tap_queue.specs.declared.item.TapItem.{TapItem}
use Rattle.tap_queue.specs.declared.item.TapItem.TheVariants.{Frame as frame}

-- all that comes before the rest
pub taken_is : (batches : List Batch) (taken rest : List TapItem) → items_in batches ≡ taken ++ rest → taken_of batches rest ≡ taken
taken_is batches taken rest all =
    let size : length (items_in batches) - length rest ≡ length taken = omega (arith, ap length all, length-append taken rest) in
    rw (size, all) (take_at taken rest (length taken) refl)

pub rest_is : (batches : List Batch) (taken rest : List TapItem) → items_in batches ≡ taken ++ rest → IsRest batches rest
rest_is batches taken rest all = all ∙ ap (λ (l : List TapItem). l ++ rest) (sym (taken_is batches taken rest all))

-- all was taken where nothing is left
pub taken_all : (batches : List Batch) → taken_of batches [] ≡ items_in batches
taken_all batches = taken_is batches (items_in batches) [] (sym (append-nil (items_in batches)))

pub none_left : (batches : List Batch) → IsRest batches []
none_left batches = rest_is batches (items_in batches) [] (sym (append-nil (items_in batches)))

-- a further batch came, where nothing was left
pub one_more : (batches after : List Batch) (old : List TapItem) (batch : Batch) → old ≡ [] → after ≡ batches ++ batch ∷ [] → IsRest batches old
    → items_in after ≡ taken_of batches old ++ batch_items batch
one_more batches after old batch none more kept =
    ap items_in more ∙ flat_map-append batch_items batches (batch ∷ [])
    ∙ ap (λ (l : List TapItem). l ++ items_in (batch ∷ [])) (kept ∙ ap (λ (l : List TapItem). taken_of batches old ++ l) none ∙ append-nil (taken_of batches old))
    ∙ ap (λ (l : List TapItem). taken_of batches old ++ l) (append-nil (batch_items batch))

-- no frame of a batch is taken
pub all_back : (batches : List Batch) (before : List TapItem) (rest : Option BatchState) (fs : List Frame) → rest ≡ None
    → taken_of batches (rest_items rest) ≡ before ++ frame_items fs → items_in batches ≡ before ++ frame_items fs
all_back batches before rest fs none all =
    sym (taken_all batches) ∙ ap (λ (r : Option BatchState). taken_of batches (rest_items r)) (sym none) ∙ all

-- the first frame of a batch is taken, where nothing else is left
pub all_but_first : (batches : List Batch) (before : List TapItem) (rest : Option BatchState) (fs gs : List Frame) (f : Frame) → rest ≡ None → fs ≡ f ∷ gs
    → taken_of batches (rest_items rest) ≡ before ++ frame_items fs → items_in batches ≡ (before ++ frame f ∷ []) ++ frame_items gs
all_but_first batches before rest fs gs f none is all =
    all_back batches before rest fs none all ∙ ap (λ (l : List Frame). before ++ frame_items l) is ∙ sym (append_assoc before (frame f ∷ []) (frame_items gs))

-- each batch has an item
at_least : (batches : List Batch) → length batches ≤ length (items_in batches)
at_least [] = omega arith
at_least (batch ∷ batches) = let rest = at_least batches in omega (arith, batch.some, length-append (batch_items batch) (items_in batches))

-- not all items were taken where some are left
pub some_left : (batches before known sent after : List Batch) (rest : List TapItem) → before ≡ batches → before ++ known ≡ after → after ≡ sent
    → IsRest batches rest → 0 < length rest + length known → taken_of batches rest ≢ items_in sent
some_left batches before known sent after rest same fifo sent_is kept some all =
    let parts = ap (λ (l : List Batch). length (items_in l)) (sym (ap (λ (l : List Batch). l ++ known) same) ∙ (fifo ∙ sent_is)) in
    let two = ap length (flat_map-append batch_items batches known) in
    let ends = ap length kept in
    let equal = ap length all in
    let each = at_least known in
    absurd (omega (arith, parts, two, ends, equal, each, some, length-append (items_in batches) (items_in known), length-append (taken_of batches rest) rest))

-- the items taken are the first of those put
pub first_taken : (batches before known sent after : List Batch) (rest : List TapItem) → before ≡ batches → before ++ known ≡ after → after ≡ sent
    → IsRest batches rest → items_in sent ≡ taken_of batches rest ++ (rest ++ items_in known)
first_taken batches before known sent after rest same fifo sent_is kept =
    ap items_in (sym sent_is ∙ sym fifo ∙ ap (λ (l : List Batch). l ++ known) same)
    ∙ flat_map-append batch_items batches known
    ∙ ap (λ (l : List TapItem). l ++ items_in known) kept
    ∙ append_assoc (taken_of batches rest) rest (items_in known)
