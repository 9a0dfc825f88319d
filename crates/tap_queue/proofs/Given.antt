-- Items that a reader gives one after another.
use Rattle.std.proofs.Common.{rules, ◌≡◌, ◌<◌, ℕ, suc, length, arith, IfOk, Ok, Err, Result, true, false, List, [], ◌∷◌, ◌++◌, refl, sym, ap, ◌∙◌, subst, append_assoc}
use Rattle.std.proofs.lemmas.List.{append-nil, length-map}
use Rattle.afdx_frame.specs.Frame.{Frame}
use Rattle.pcap_io.specs.Position.{Reading}
use Rattle.frame_batch.specs.Batch.{BatchState, batch_frames, record_frame}
use Rattle.pcap_io.specs.Batches.{GivesBatch, GivesFrames, HasAtMost}
use Rattle.pcap_io.specs.declared.item.Batched.{Batched}
use Rattle.pcap_io.specs.declared.item.Batched.TheVariants as read
use Rattle.pcap_io.specs.declared.item.ReadFault.{ReadFault}
use Rattle.tap_queue.specs.Items.{Gives, IsFed, batch_from, frame_items, is_last, is_over, items_of}
use Rattle.tap_queue.specs.Ring.{PutsMore, PutsSome, SamePut, put_items}
use Rattle.tap_queue.specs.declared.item.TapItem.{TapItem}
use Rattle.tap_queue.specs.declared.ring.TapPut.{TapPut}
use Rattle.tap_queue.specs.declared.item.TapItem.TheVariants.{Frame as frame, End, Failed}

-- with one more item, items have come to their end where they had, or where it is the last
pub over_more : (items : List TapItem) (item : TapItem) → is_over items ≡ false → is_over (items ++ item ∷ []) ≡ is_last item
over_more [] (frame f) going = refl
over_more [] (End e) going = refl
over_more [] (Failed fault) going = refl
over_more (frame f ∷ items) item going = over_more items item going
over_more (End e ∷ items) item going = cc
over_more (Failed fault ∷ items) item going = cc

-- more items after those that a reader gave, none of which is the last
pub gives_append : (before mid after : Reading) (items more : List TapItem) → Gives before items mid → is_over items ≡ false
    → Gives mid more after → Gives before (items ++ more) after
gives_append before mid after [] more given going then = subst (λ (r : Reading). Gives r more after) (sym given) then
gives_append before mid after (frame f ∷ items) more given going then =
    (given.0, given.1, (λ last. cc), gives_append given.0 mid after items more given.3 going then)
gives_append before mid after (End e ∷ items) more given going then = cc
gives_append before mid after (Failed fault ∷ items) more given going then = cc

-- items come to their end where those do that follow on items that haven't
pub over_append : (items more : List TapItem) → is_over items ≡ false → is_over (items ++ more) ≡ is_over more
over_append [] more going = refl
over_append (frame f ∷ items) more going = over_append items more going
over_append (End e ∷ items) more going = cc
over_append (Failed fault ∷ items) more going = cc

-- ---- frames as items

pub going_frames : (fs : List Frame) → is_over (frame_items fs) ≡ false
going_frames [] = refl
going_frames (f ∷ fs) = going_frames fs

-- frames that a reader gave together, one after another
gives_frames : (before after : Reading) (fs : List Frame) → GivesFrames before fs after → Gives before (frame_items fs) after
gives_frames before after [] given = given
gives_frames before after (f ∷ fs) (mid, first, given) = (mid, first, (λ last. cc), gives_frames mid after fs given)

pub gives_taken : (before after : Reading) (r : Result Batched ReadFault) → GivesBatch before after r → Gives before (items_of (batch_from r)) after
gives_taken before after (Ok (read.Frames batch)) given = gives_frames before after (batch_frames batch) given
gives_taken before after (Ok (read.End e)) given = (after, given, (λ _. refl), refl)
gives_taken before after (Err fault) given = (after, given, (λ _. refl), refl)

pub length-frame_items : (fs : List Frame) → length (frame_items fs) ≡ length fs
length-frame_items [] = refl
length-frame_items (f ∷ fs) = ap suc (length-frame_items fs)

pub count-frame_items : (b : BatchState) → length (frame_items (batch_frames b)) ≡ length b.left
count-frame_items b = length-frame_items (batch_frames b) ∙ length-map b.left (record_frame b.block)

pub some_taken : (most : ℕ) (r : Result Batched ReadFault) → IfOk r (HasAtMost most) → 0 < length (items_of (batch_from r))
some_taken most (Ok (read.Frames batch)) some = omega (arith, some.0, count-frame_items batch)
some_taken most (Ok (read.End e)) some = omega arith
some_taken most (Err fault) some = omega arith

-- the last items were put
pub fed_to_the_end : (before after : Reading) (items put more : List TapItem) → Gives before (items ++ more) after → is_over items ≡ false
    → put ≡ items ++ more → is_over more ≡ true → IsFed before put after
fed_to_the_end before after items put more given going same over = (
  [],
  subst (λ (all : List TapItem). Gives before all after) (sym (append-nil put ∙ same)) given,
  (λ _. ap is_over same ∙ (over_append items more going ∙ over)),
)

-- there was no taker for the items
pub fed_but_some : (before after : Reading) (items put more : List TapItem) → Gives before (items ++ more) after → put ≡ items → 0 < length more
    → IsFed before put after
fed_but_some before after items put more given same some = (
  more,
  subst (λ (all : List TapItem). Gives before (all ++ more) after) (sym same) given,
  (λ none. absurd (omega (arith, some, ap length none))),
)

-- more items were put after those that a reader gave before
pub puts_on : (first mid after : Reading) (items : List TapItem) (old now new : TapPut) → is_over (put_items old) ≡ false
    → is_over (put_items now) ≡ false → PutsMore first mid old now → SamePut now new → put_items new ≡ put_items now ++ items → Gives mid items after
    → PutsMore first after old new
puts_on first mid after items old now new fresh going before ring put gives =
    let more = before.more in
    let going_more = sym (over_append (put_items old) more fresh) ∙ (sym (ap is_over before.put) ∙ going) in
    record {
      ring = search rules;
      more = more ++ items;
      put = put ∙ (ap (λ (l : List TapItem). l ++ items) before.put ∙ append_assoc (put_items old) more items);
      gives = gives_append first mid after more items before.gives going_more gives;
    }

-- items were put after those that were put before
pub puts_some : (old now new : TapPut) (more items : List TapItem) → put_items now ≡ put_items old ++ more → put_items new ≡ put_items now ++ items
    → 0 < length items → PutsSome old new
puts_some old now new [] [] before put some = absurd (omega (arith, some))
puts_some old now new [] (item ∷ items) before put some =
    (item, items, put ∙ ap (λ (l : List TapItem). l ++ item ∷ items) (before ∙ append-nil (put_items old)))
puts_some old now new (first ∷ more) items before put some =
    (first, more ++ items, put ∙ ap (λ (l : List TapItem). l ++ items) before ∙ append_assoc (put_items old) (first ∷ more) items)
