-- The part of a recording that was read, step by step.
use Rattle.std.proofs.Common.{◌≡◌, ◌≢◌, ◌⊎◌, inl, inr, ℕ, zero, suc, ◌+◌, ◌<◌, ◌≤◌, false, List, [], ◌∷◌, ◌++◌, Option, None, Some, Result, Ok, Err, length, get_or, slice_get, refl, sym, ap, ◌∙◌, subst, arith, append_assoc, length-append}
use Rattle.std.specs.Prelude.{MatchResult}
use Rattle.std.specs.Option.{is_some, ok_or}
use Rattle.std.proofs.lemmas.List.{append-nil}
use Rattle.std.proofs.lemmas.Option.{same_Some, slice_get_past, slice_get_within, slice_get-get_or}
use Rattle.std.specs.BTreeMap.{BTreeMap, is_at}
use Rattle.std.specs.Map.{lookup}
use Rattle.afdx_frame.specs.Frame.{Frame}
use Rattle.pcap_io.specs.Device.{CountsFailure}
use Rattle.pcap_io.specs.Position.{Advances, LacksBytes, LacksMemory, Reading, Reads, TakesAPacket, TakesFrame, after_frame, start_at}
use Rattle.pcap_io.specs.declared.item.Item.{Item}
use Rattle.pcap_io.specs.declared.item.Item.TheVariants as items
use Rattle.pcap_io.specs.declared.item.ReadFault.{ReadFault}
use Rattle.pcap_io.specs.declared.item.ReadFault.TheVariants as reads
use Rattle.pcap_io.specs.declared.position.Position.{Position}
use Rattle.pcap_io.specs.declared.recording.Ending.{Ending}
use Rattle.pcap_io.specs.declared.recording.Stage.TheVariants.{Going, Ended}
use Rattle.pcap_io.specs.Told.{StaysTold}
use Rattle.pcap_io.specs.declared.told.Told.{Told}
use Rattle.run_fault.specs.Recording.{most_frames}
use Rattle.run_fault.proofs.Recording.{known_after, tells_on}
use Rattle.pcap_io.proofs.Parse.{reads_more}
use Rattle.cut_run.specs.Places.{IsAbove, IsBelow, place_of}
use Rattle.cut_run.specs.Passed.{AreKept, Forgets, KeepsLater, Takes, passed_at}
use Rattle.cut_run.specs.Finder.{FailsToAllocate, Finding, Finds, FindsNone, HasRead, HasReadFrames, IsFindFault, IsOnWay, Opening, StandsAt, any_late, fault_of}
use Rattle.cut_run.specs.declared.place.SearchPlace.{SearchPlace}
use Rattle.cut_run.specs.declared.finder.FindFault.TheVariants as faults
use Rattle.cut_run.proofs.FinderOrder.{not_itself, same_place}
use Rattle.cut_run.proofs.Sets.{AreNumbered, at_place, get_last, get_more, kept_after, kept_ahead, kept_more}

pub kept_none : (m : BTreeMap SearchPlace Frame) → m.entries ≡ [] → AreKept [] None m
kept_none m e = record {
  read = λ q f h. (let none : passed_at m q ≡ None = ap (lookup (is_at _)) e in cc);
  all = λ n f h a. cc;
}

pub reads_count : (p q : Position) (before after : Option (List ℕ)) (fs : List Frame) → Reads p before fs q after → q.count ≡ p.count + length fs
reads_count p q before after [] (same, left) = (let e : p.count ≡ q.count = ap (λ (x : Position). x.count) same in omega arith)
reads_count p q before after (f ∷ fs) (mid, taken, rest) = (let e = reads_count (after_frame p f.stamp) q mid after fs rest in omega arith)

pub reads_stage : (p q : Position) (before after : Option (List ℕ)) (fs : List Frame) → Reads p before fs q after → q.stage ≡ p.stage
reads_stage p q before after [] (same, left) = ap (λ (x : Position). x.stage) (sym same)
reads_stage p q before after (f ∷ fs) (mid, taken, rest) = reads_stage (after_frame p f.stamp) q mid after fs rest

pub reads_numbered : (p q : Position) (before after : Option (List ℕ)) (fs : List Frame) → Reads p before fs q after → (n : ℕ) (g : Frame) → slice_get fs n ≡ Some g → g.number ≡ p.count + n
reads_numbered p q before after [] h n g e = cc
reads_numbered p q before after (f ∷ fs) (mid, taken, rest) zero g e =
    let one : g.number ≡ f.number = ap (λ (x : Frame). x.number) (sym (same_Some f g e)) in
    let is : f.number ≡ p.count = ap (λ (x : Frame). x.number) taken.same in
    omega arith
reads_numbered p q before after (f ∷ fs) (mid, taken, rest) (suc n) g e =
    (let is = reads_numbered (after_frame p f.stamp) q mid after fs rest n g e in omega arith)

pub numbered : (o : Opening) (fs : List Frame) (q : Position) (left : Option (List ℕ)) → HasReadFrames o fs q left → AreNumbered fs
numbered o fs q left h n f e =
    (let is = reads_numbered (start_at o.network h.layout most_frames any_late) q h.opened left fs h.reads n f e in omega arith)

-- all that a call of the reader says
pub record Called (old new : Reading) (unread : List ℕ) (r : Result Item ReadFault) : Type 0 where
  pub advances : Advances (λ (i : Item). i) old new r
  pub unfinished : old.position.stage ≡ Going → r ≡ Err reads.Device → LacksBytes old.position old.remaining new.remaining unread
  pub ended : (e : Ending) → old.position.stage ≡ Ended e → (r ≡ Ok (items.End e)) × (new ≡ old)

-- a reader goes on after the frames
pub record GoesOn (o : Opening) (fs : List Frame) (now : Reading) : Type 0 where
  pub read : HasReadFrames o fs now.position now.remaining
  pub tells : StaysTold o.remaining o.told now.told

-- or has found the ending there
on_way : (o : Opening) (fs : List Frame) (position : Position) (told : Told) (left : Option (List ℕ)) (now : Reading) → StaysTold o.remaining o.told told
    → HasReadFrames o fs position left → StandsAt position told left now → GoesOn o fs now ⊎ ((e : Ending) × (now.position.stage ≡ Ended e))
on_way o fs position told left now tells h (inl (at, rest, same)) =
    inl (record {
      read = subst (λ (p : Position). HasReadFrames o fs p now.remaining) (sym at) (subst (λ (b : Option (List ℕ)). HasReadFrames o fs position b) (sym rest) h);
      tells = subst (λ (v : Told). StaysTold o.remaining o.told v) (sym same) tells;
    })
on_way o fs position told left now tells h (inr (e, ends)) = inr (e, ap (λ (p : Position). p.stage) ends.stands)

going : (o : Opening) (fs : List Frame) (q : Position) (left : Option (List ℕ)) → HasReadFrames o fs q left → q.stage ≡ Going
going o fs q left h = reads_stage (start_at o.network h.layout most_frames any_late) q h.opened left fs h.reads

-- one frame more was read
pub record OneMore (o : Opening) (fs : List Frame) (f : Frame) (new : Reading) : Type 0 where
  pub read : HasReadFrames o (fs ++ f ∷ []) new.position new.remaining
  pub tells : StaysTold o.remaining o.told new.told
  pub number : f.number ≡ length fs

one_more_by : (o : Opening) (fs : List Frame) (old new : Reading) (unread : List ℕ) (f : Frame) → Called old new unread (Ok (items.Frame f))
    → GoesOn o fs old ⊎ ((e : Ending) × (old.position.stage ≡ Ended e)) → OneMore o fs f new
one_more_by o fs old new unread f call (inr (e, at)) = (let no = (call.ended e at).0 in absurd (cc))
one_more_by o fs old new unread f call (inl on) =
    let h = on.read in
    let taken : TakesFrame old.position old.remaining new.remaining f = call.advances.item (going o fs old.position old.remaining h) in
    let start = start_at o.network h.layout most_frames any_late in
    let count = reads_count start old.position h.opened old.remaining fs h.reads in
    let is : f.number ≡ old.position.count = ap (λ (x : Frame). x.number) taken.same in
    let most : old.position.most ≡ most_frames = same_most start old.position h.opened old.remaining fs h.reads in
    record {
      read = subst (λ (p : Position). HasReadFrames o (fs ++ f ∷ []) p new.remaining) (sym call.advances.after) (record {
        layout = h.layout;
        opened = h.opened;
        opens = h.opens;
        reads = reads_more start old.position h.opened old.remaining new.remaining fs f h.reads taken;
        bounded = (let b = taken.bounded in omega arith);
      });
      tells = tells_on o.remaining old.remaining o.told old.told new.told (known_after start old.position o.told o.remaining h.opened old.remaining h.layout fs h.opens h.reads)
          on.tells call.advances.told;
      number = omega arith;
    }
  where
    same_most : (p q : Position) (before after : Option (List ℕ)) (fs : List Frame) → Reads p before fs q after → q.most ≡ p.most
    same_most p q before after [] (same, left) = ap (λ (x : Position). x.most) (sym same)
    same_most p q before after (f ∷ fs) (mid, taken, rest) = same_most (after_frame p f.stamp) q mid after fs rest

module _ (o : Opening) (frames : List Frame) (place : SearchPlace) (now : Finding) (way : IsOnWay o frames place now) (ahead : now.next ≤ place.number)
    (new : Reading) (unread : List ℕ) where
  abbrev fs : List Frame
  fs = frames ++ way.more

  stood : GoesOn o fs now.reading ⊎ ((e : Ending) × (now.reading.position.stage ≡ Ended e))
  stood = on_way o fs way.read.position way.read.told way.read.left now.reading way.read.tells way.read.read way.read.stands

  before : length fs ≤ place.number
  before = (let c = way.read.counted in omega arith)

  -- where the next frame was read, and those kept are up to date
  pub read_more : (f : Frame) (passed : BTreeMap SearchPlace Frame) (n : ℕ) → n ≡ f.number → (later : Finding) → Called now.reading new unread (Ok (items.Frame f)) → KeepsLater place f now.passed passed
      → later ≡ record { reading = new; unread = unread; passed = passed; next = n + 1; failed = now.failed }
      → HasRead o (frames ++ (way.more ++ f ∷ [])) (Some place) later
  read_more f passed n is later call keeps same =
      let one = one_more_by o fs now.reading new unread f call stood in
      let number : f.number ≡ length fs = one.number in
      let size : length (fs ++ f ∷ []) ≡ length fs + 1 = length-append fs (f ∷ []) in
      subst (λ (x : Finding). HasRead o (frames ++ (way.more ++ f ∷ [])) (Some place) x) (sym same)
      (subst (λ (l : List Frame). HasRead o l (Some place) (record { reading = new; unread = unread; passed = passed; next = n + 1; failed = now.failed }))
      (append_assoc frames way.more (f ∷ [])) (record {
        position = new.position;
        left = new.remaining;
        told = new.told;
        tells = one.tells;
        read = one.read;
        stands = inl (refl, refl, refl);
        no_failure = call.advances.no_failure ∙ way.read.no_failure;
        kept = kept_more fs place f now.passed passed number way.read.kept keeps (numbered o fs way.read.position way.read.left way.read.read);
        counted = omega arith;
        going = way.read.going;
      }))

  -- the frame of the place was read
  pub finds : (f : Frame) (n : ℕ) → n ≡ f.number → (later : Finding) → Called now.reading new unread (Ok (items.Frame f)) → place_of f ≡ place
      → later ≡ record { reading = new; unread = unread; passed = now.passed; next = n + 1; failed = now.failed } → Finds o frames place f later
  finds f n is later call same stands =
      let one = one_more_by o fs now.reading new unread f call stood in
      let number : f.number ≡ length fs = one.number in
      let at : place.number ≡ f.number = ap (λ (x : SearchPlace). x.number) (sym same) in
      let size : length (fs ++ f ∷ []) ≡ length fs + 1 = length-append fs (f ∷ []) in
      let first : length fs ≡ length frames + length way.more = length-append frames way.more in
      let list : fs ++ f ∷ [] ≡ frames ++ (way.more ++ f ∷ []) = append_assoc frames way.more (f ∷ []) in
      let whole : length (fs ++ f ∷ []) ≡ length (frames ++ (way.more ++ f ∷ [])) = ap length list in
      record {
        more = way.more ++ f ∷ [];
        read = read_more f now.passed n is later call (λ b. absurd (not_itself place (subst (λ (x : SearchPlace). IsBelow place x) same b)), λ q d. refl) stands;
        is_of = same;
        is_at = ap (λ (l : List Frame). slice_get l place.number) (sym list) ∙ ap (slice_get (fs ++ f ∷ [])) (at ∙ number) ∙ get_last fs f;
        no_more = omega arith;
      }

  -- another frame was read
  pub goes_on : (f : Frame) (passed : BTreeMap SearchPlace Frame) (n : ℕ) → n ≡ f.number → (later : Finding) → Called now.reading new unread (Ok (items.Frame f)) → KeepsLater place f now.passed passed
      → (place_of f ≡ place → ⊥) → later ≡ record { reading = new; unread = unread; passed = passed; next = n + 1; failed = now.failed } → IsOnWay o frames place later
  goes_on f passed n is later call keeps apart stands =
      let one = one_more_by o fs now.reading new unread f call stood in
      let number : f.number ≡ length fs = one.number in
      let size : length (fs ++ f ∷ []) ≡ length fs + 1 = length-append fs (f ∷ []) in
      let list : fs ++ f ∷ [] ≡ frames ++ (way.more ++ f ∷ []) = append_assoc frames way.more (f ∷ []) in
      let whole : length (fs ++ f ∷ []) ≡ length (frames ++ (way.more ++ f ∷ [])) = ap length list in
      record {
        more = way.more ++ f ∷ [];
        read = read_more f passed n is later call keeps stands;
        few = omega arith;
        other = λ g e. differs_there g number
            (get_more fs f place.number g (ap (λ (l : List Frame). slice_get l place.number) list ∙ e));
      }
    where
      differs_there : (g : Frame) → f.number ≡ length fs → (slice_get fs place.number ≡ Some g) ⊎ ((place.number ≡ length fs) × (g ≡ f)) → g.stamp ≢ place.stamp.0
      differs_there g number (inl h) = (let within = slice_get_within fs place.number g h in absurd (omega arith))
      differs_there g number (inr (at, same)) = λ s. apart (same_place (place_of f) place (ap (λ (x : Frame). x.stamp) (sym same) ∙ s) (number ∙ sym at))

  ends_by : (e : Ending) (later : Finding) → Called now.reading new unread (Ok (items.End e)) → later ≡ record now { reading = new; unread = unread }
      → GoesOn o fs now.reading ⊎ ((d : Ending) × (now.reading.position.stage ≡ Ended d)) → FindsNone o frames place later
  ends_by e later call same (inr (d, at)) =
      let still : new ≡ now.reading = (call.ended d at).1 in
      let first : length fs ≡ length frames + length way.more = length-append frames way.more in
      subst (λ (x : Finding). FindsNone o frames place x) (sym same) (record {
        more = way.more;
        read = record {
          position = way.read.position;
          left = way.read.left;
          told = way.read.told;
          tells = way.read.tells;
          read = way.read.read;
          stands = subst (λ (x : Reading). StandsAt way.read.position way.read.told way.read.left x) (sym still) way.read.stands;
          no_failure = ap (λ (x : Reading). x.failures) still ∙ way.read.no_failure;
          kept = way.read.kept;
          counted = way.read.counted;
          going = way.read.going;
        };
        lacks = inr (before, (d, ap (λ (x : Reading). x.position.stage) still ∙ at));
        no_more = omega arith;
      })
  ends_by e later call same (inl on) =
      let h = on.read in
      let going_here = going o fs now.reading.position now.reading.remaining h in
      let first : length fs ≡ length frames + length way.more = length-append frames way.more in
      subst (λ (x : Finding). FindsNone o frames place x) (sym same) (record {
        more = way.more;
        read = record {
          position = now.reading.position;
          left = now.reading.remaining;
          told = now.reading.told;
          tells = on.tells;
          read = h;
          stands = inr (
            e,
            record {
              stands = call.advances.after;
              here = call.advances.item going_here;
              leaves = call.advances.left going_here;
              gone = call.advances.taken;
            },
          );
          no_failure = call.advances.no_failure ∙ way.read.no_failure;
          kept = way.read.kept;
          counted = way.read.counted;
          going = way.read.going;
        };
        lacks = inr (before, (e, ap (λ (p : Position). p.stage) call.advances.after));
        no_more = omega arith;
      })

  -- the recording has ended
  pub ends : (e : Ending) (later : Finding) → Called now.reading new unread (Ok (items.End e)) → later ≡ record now { reading = new; unread = unread } → FindsNone o frames place later
  ends e later call same = ends_by e later call same stood

  fault_by : (fault : ReadFault) (later : Finding) → Called now.reading new unread (Err fault) → later.reading ≡ new → later.unread ≡ unread
      → GoesOn o fs now.reading ⊎ ((d : Ending) × (now.reading.position.stage ≡ Ended d)) → IsFindFault o frames place later (fault_of fault)
  fault_by fault later call same unread_same (inr (d, at)) = (let no = (call.ended d at).0 in absurd (cc))
  fault_by reads.Failed later call same unread_same (inl on) =
      (let no = call.advances.fault.1 in let here = going o fs now.reading.position now.reading.remaining on.read in absurd (cc))
  fault_by reads.Device later call same unread_same (inl on) =
      let h = on.read in
      let here = going o fs now.reading.position now.reading.remaining h in
      record {
        more = way.more;
        position = now.reading.position;
        left = now.reading.remaining;
        read = h;
        before = before;
        lacks = subst (λ (x : Reading). LacksBytes now.reading.position now.reading.remaining x.remaining later.unread) (sym same)
            (subst (λ (u : List ℕ). LacksBytes now.reading.position now.reading.remaining new.remaining u) (sym unread_same) (call.unfinished here refl));
        gone = subst (λ (x : Reading). TakesAPacket now.reading.remaining x.remaining) (sym same) call.advances.taken;
        failure = subst (λ (x : Reading). CountsFailure o.failures x.failures) (sym same)
            (subst (λ (n : ℕ). CountsFailure n new.failures) way.read.no_failure call.advances.fault);
      }
  fault_by reads.Memory later call same unread_same (inl on) = record {
    more = way.more;
    position = now.reading.position;
    left = now.reading.remaining;
    read = on.read;
    lacks = inl (before, subst (λ (x : Reading). LacksMemory now.reading.position now.reading.remaining x.remaining) (sym same) call.advances.fault.1);
    gone = subst (λ (x : Reading). TakesAPacket now.reading.remaining x.remaining) (sym same) call.advances.taken;
    no_failure = ap (λ (x : Reading). x.failures) same ∙ call.advances.fault.0 ∙ way.read.no_failure;
  }

  -- the reader failed
  pub reader_fails : (fault : ReadFault) (later : Finding) → Called now.reading new unread (Err fault) → later.reading ≡ new → later.unread ≡ unread
      → IsFindFault o frames place later (fault_of fault)
  reader_fails fault later call same unread_same = fault_by fault later call same unread_same stood

  -- there was no memory to keep a frame
  pub keeping_fails : (f : Frame) (later : Finding) → Called now.reading new unread (Ok (items.Frame f)) → IsBelow place (place_of f) → later.reading ≡ new
      → FailsToAllocate o frames place later
  keeping_fails f later call above same =
      let one = one_more_by o fs now.reading new unread f call stood in
      let list : fs ++ f ∷ [] ≡ frames ++ (way.more ++ f ∷ []) = append_assoc frames way.more (f ∷ []) in
      record {
        more = way.more ++ f ∷ [];
        position = new.position;
        left = new.remaining;
        read = subst (λ (l : List Frame). HasReadFrames o l new.position new.remaining) list one.read;
        lacks = inr (f, way.more, refl, before, above, ap (λ (x : Reading). x.remaining) same);
        gone = subst (λ (x : Reading). TakesAPacket new.remaining x.remaining) (sym same) (takes_none new.remaining);
        no_failure = ap (λ (x : Reading). x.failures) same ∙ call.advances.no_failure ∙ way.read.no_failure;
      }
    where
      takes_none : (b : Option (List ℕ)) → TakesAPacket b b
      takes_none None = ([], omega arith, tt)
      takes_none (Some b) = ([], omega arith, refl)

-- all up to the index was read
pub all_read : (o : Opening) (frames : List Frame) (place : SearchPlace) (now : Finding) → IsOnWay o frames place now → place.number < now.next → FindsNone o frames place now
all_read o frames place now way past =
    let size = way.read.counted in
    let few = way.few in
    let within : place.number < length (frames ++ way.more) = omega arith in
    record {
      more = way.more;
      read = way.read;
      lacks = inl (there (frames ++ way.more) way.other within);
      no_more = omega arith;
    }
  where
    there : (l : List Frame) → ((f : Frame) → slice_get l place.number ≡ Some f → f.stamp ≢ place.stamp.0) → place.number < length l
        → (f : Frame) × (slice_get l place.number ≡ Some f) × (f.stamp ≢ place.stamp.0)
    there [] other within = absurd (omega arith)
    there (g ∷ l) other within =
        (let is = slice_get-get_or (g ∷ l) place.number g within in (get_or (g ∷ l) place.number g, is, other (get_or (g ∷ l) place.number g) is))

-- no frame was read yet
pub sets_out : (o : Opening) (frames : List Frame) (place : SearchPlace) (now : Finding) → HasRead o frames (Some place) now → length frames ≤ place.number → IsOnWay o frames place now
sets_out o frames place now h ahead =
    let same : frames ≡ frames ++ [] = sym (append-nil frames) in
    let size : length frames ≡ length (frames ++ []) = ap length same in
    let past : slice_get (frames ++ []) place.number ≡ None = ap (λ (l : List Frame). slice_get l place.number) (sym same) ∙ slice_get_past frames place.number ahead in
    record {
      more = [];
      read = subst (λ (l : List Frame). HasRead o l (Some place) now) same h;
      few = omega arith;
      other = λ f e. absurd (cc);
    }

pub none_means : {X : Type 0} (o : Option X) → is_some o ≡ false → o ≡ None
none_means None e = refl
none_means (Some x) e = cc

-- the same finder that keeps other frames, after a call for this place
kept_now : (o : Opening) (frames : List Frame) (floor : Option SearchPlace) (place : SearchPlace) (old : Finding) (passed : BTreeMap SearchPlace Frame) → HasRead o frames floor old
    → AreKept frames (Some place) passed → HasRead o frames (Some place) (record old { passed = passed })
kept_now o frames floor place old passed h kept = record {
  position = h.position;
  left = h.left;
  told = h.told;
  tells = h.tells;
  read = h.read;
  stands = h.stands;
  no_failure = h.no_failure;
  kept = kept;
  counted = h.counted;
  going = h.going;
}

-- the index wasn't read yet
pub reads_ahead : (o : Opening) (frames : List Frame) (floor : Option SearchPlace) (place : SearchPlace) (old : Finding) (mid : BTreeMap SearchPlace Frame) → HasRead o frames floor old
    → IsAbove floor place → Forgets place old.passed mid → old.next ≤ place.number → HasRead o frames (Some place) (record old { passed = mid })
reads_ahead o frames floor place old mid h above forgets ahead =
    (let c = h.counted in kept_now o frames floor place old mid h (kept_ahead frames floor place old.passed mid above h.kept forgets (omega arith)))

module _ (o : Opening) (frames : List Frame) (floor : Option SearchPlace) (place : SearchPlace) (old : Finding) (mid new : BTreeMap SearchPlace Frame) (h : HasRead o frames floor old)
    (above : IsAbove floor place) (forgets : Forgets place old.passed mid) (takes : Takes place mid new) (past : place.number < old.next) where
  same : frames ≡ frames ++ []
  same = sym (append-nil frames)

  now_kept : HasRead o (frames ++ []) (Some place) (record old { passed = new })
  now_kept =
      subst (λ (l : List Frame). HasRead o l (Some place) (record old { passed = new })) same
      (kept_now o frames floor place old new h (kept_after frames floor place old.passed mid above h.kept forgets new takes))

  found_there : (f : Frame) → Some f ≡ passed_at mid place → Finds o frames place f (record old { passed = new })
  found_there f e =
      let is = h.kept.read place f (sym (e ∙ at_place frames floor place old.passed mid above h.kept forgets)) in
      let size : length frames ≡ length (frames ++ []) = ap length same in
      let count = h.counted in
      record {
        more = [];
        read = now_kept;
        is_of = is.0;
        is_at = subst (λ (l : List Frame). slice_get l place.number ≡ Some f) same is.1;
        no_more = omega arith;
      }

  none_there : None ≡ passed_at mid place → FindsNone o frames place (record old { passed = new })
  none_there e =
      let size : length frames ≡ length (frames ++ []) = ap length same in
      let count = h.counted in
      record {
        more = [];
        read = now_kept;
        lacks = inl (there frames same (omega arith) (λ f is s. apart f is s));
        no_more = omega arith;
      }
    where
      apart : (f : Frame) → slice_get frames place.number ≡ Some f → f.stamp ≢ place.stamp.0
      apart f is s =
          let number : f.number ≡ place.number = numbered o frames h.position h.left h.read place.number f is in
          let at : place_of f ≡ place = same_place (place_of f) place s number in
          let kept : passed_at old.passed (place_of f) ≡ Some f = h.kept.all place.number f is (subst (λ (x : SearchPlace). IsAbove floor x) (sym at) above) in
          let none : passed_at old.passed place ≡ None = sym (e ∙ at_place frames floor place old.passed mid above h.kept forgets) in
          let some : passed_at old.passed place ≡ Some f = subst (λ (x : SearchPlace). passed_at old.passed x ≡ Some f) at kept in
          absurd (cc)

      there : (l : List Frame) → l ≡ frames ++ [] → place.number < length l → ((f : Frame) → slice_get l place.number ≡ Some f → f.stamp ≢ place.stamp.0)
          → (f : Frame) × (slice_get (frames ++ []) place.number ≡ Some f) × (f.stamp ≢ place.stamp.0)
      there [] e within other = absurd (omega arith)
      there (g ∷ l) e within other =
          (let is = slice_get-get_or (g ∷ l) place.number g within in (
            get_or (g ∷ l) place.number g,
            subst (λ (x : List Frame). slice_get x place.number ≡ Some (get_or (g ∷ l) place.number g)) e is,
            other (get_or (g ∷ l) place.number g) is,
          ))

  -- the index was read before
  pub found_passed : (r : Option Frame) → r ≡ passed_at mid place
      → MatchResult (ok_or r faults.Absent) (λ f. Finds o frames place f (record old { passed = new })) (IsFindFault o frames place (record old { passed = new }))
  found_passed None e = none_there e
  found_passed (Some f) e = found_there f e
